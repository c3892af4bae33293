-- What the tables say of a page: its table, its entry and its key.
use Rattle.std.proofs.Common.{◌≡◌, ℕ, ◌+◌, ◌-◌, ◌/◌, ◌%◌, ◌<◌, ◌≤◌, List, Option, Some, None, true, length, slice_index_or, sym, ap, ◌∙◌, subst, arith}
use Rattle.std.proofs.lemmas.Bool.{cases_lt}
use Rattle.std.proofs.lemmas.List.{get_or_past}
use Rattle.std.specs.Option.{option_map}
use Rattle.l4_spaces.specs.Tables.{Tables, key_of, table_pages}
use Rattle.l4_spaces.specs.Rows.{Rows, row, entry, is_made}
use Rattle.l4_spaces.proofs.Listing.{past_made}
use Rattle.l4_nodes.specs.declared.Place.{Place}
use Rattle.l4_nodes.specs.Slots.{Slots}
use Rattle.l4_links.specs.declared.Entry.{Entry}
use Rattle.l4_links.specs.Entries.{Entries, entry_at, IsAt}
use Rattle.l4_links.specs.Inside.Keeping.{IsIndexed, entries_of}
use Rattle.l4_links.proofs.Naming.{is_at}

-- the entry of a key that is of a page
pub entry_of_page : (s : Entries) (k : ℕ) (p : Place) → IsAt s p k → (e : Entry) × (entry_at s k ≡ Some e) × (e.place ≡ p)
entry_of_page s k p is = grind arith

-- a page that has an entry is named by the tables
pub entry_named : (slots : Slots) (t : Tables) → IsIndexed slots t → (space : ℕ) (k : ℕ) (e : Entry) → entry_at (entries_of slots) k ≡ Some e → e.place.space ≡ space → key_of t space e.place.page ≡ Some k
entry_named slots t i space k e at in_space =
    let is : IsAt (entries_of slots) e.place k = ap (option_map {T = Entry} (λ x. x.place)) at in
    sym (ap (λ (z : ℕ). key_of t z e.place.page) in_space) ∙ (i.names e.place k).1 ((is_at slots e.place k).1 is)

-- a page with a key has its table
pub shown_made : (rows : Rows) (page key : ℕ) → entry rows page ≡ Some key → is_made rows (page / table_pages) ≡ true
shown_made rows page key shows = grind (arith, cases_lt, get_or_past)

-- a table that exists is one of the list
pub made_within : (rows : Rows) (high : ℕ) → is_made rows high ≡ true → high < length rows
made_within rows high made = grind (arith, cases_lt, past_made)

-- a run, in these two tables
module _ (source target : ℕ) (sources targets : Rows) (page place f t n : ℕ) (from : source ≤ page) (place_is : place ≡ page - source + target) (f_is : f ≡ page % table_pages) (t_is : t ≡ (page - source + target) % table_pages)
    (line target_line : List (Option ℕ)) (line_is : row sources (page / table_pages) ≡ line) (target_is : row targets (place / table_pages) ≡ target_line) (f_in : f + n ≤ table_pages) (t_in : t + n ≤ table_pages) where
  pub source_entry : (step : ℕ) → step < n → entry sources (page + step) ≡ slice_index_or line (f + step) None
  source_entry step lt = grind arith

  pub target_entry : (step : ℕ) → step < n → entry targets (page + step - source + target) ≡ slice_index_or target_line (t + step) None
  target_entry step lt = grind arith

  -- so what holds of the entries of a step holds of those of its page, and the other way round
  pub at_page : (P : Option ℕ → Option ℕ → Type 0) (step : ℕ) → step < n → P (slice_index_or line (f + step) None) (slice_index_or target_line (t + step) None) → P (entry sources (page + step)) (entry targets (page + step - source + target))
  at_page P step lt h = subst (λ (q : Option ℕ × Option ℕ). P q.0 q.1) (λ i. (sym (source_entry step lt) i, sym (target_entry step lt) i)) h

  pub at_line : (P : Option ℕ → Option ℕ → Type 0) (step : ℕ) → step < n → P (entry sources (page + step)) (entry targets (page + step - source + target)) → P (slice_index_or line (f + step) None) (slice_index_or target_line (t + step) None)
  at_line P step lt h = subst (λ (q : Option ℕ × Option ℕ). P q.0 q.1) (λ i. (source_entry step lt i, target_entry step lt i)) h
