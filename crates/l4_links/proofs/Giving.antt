-- A page that is granted, while two tables are read and written.
use Rattle.std.proofs.Common.{◌≡◌, ℕ, ◌+◌, ◌*◌, ◌<◌, List, Option, Some, None, IsTrue, slice_index_or, slice_set, refl, sym, ap, ◌∙◌, subst, inl, inr, arith}
use Rattle.std.proofs.lemmas.Bool.{cases_eq}
use Rattle.std.specs.Option.{option_map, option_and_then}
use Rattle.std.specs.FinMap as map
use Rattle.std.specs.FinSet as set
use Rattle.l4_fpage.specs.Rights.{RightsSet}
use Rattle.l4_spaces.specs.Tables.{Tables, key_of, table_pages, IsPage}
use Rattle.l4_spaces.specs.Rows.{IsRowOf, InTable}
use Rattle.l4_spaces.proofs.Aside.{put_other, put_away, clear_other, clear_away}
use Rattle.l4_spaces.proofs.RowAside.{put_row, clear_row, still_row}
use Rattle.l4_nodes.specs.declared.Place.{Place}
use Rattle.l4_nodes.specs.declared.nodes.Slot.{Slot}
use Rattle.l4_nodes.specs.Slots.{Slots, slot_at, node_at, SetsPlace}
use Rattle.l4_links.specs.declared.Entry.{Entry}
use Rattle.l4_links.specs.Entries.{entry_at, IsAt, Brings}
use Rattle.l4_links.specs.Inside.Nodes.{IsOf}
use Rattle.l4_links.specs.Inside.Keeping.{entry_of, entries_of}
use Rattle.l4_links.specs.Inside.Growing.{GivesAt, AreRows, AreSameAround}
use Rattle.l4_links.proofs.Bringing.{brings_one}
use Rattle.l4_links.proofs.Kept.{live_nodes}
use Rattle.l4_links.proofs.Naming.{unnamed, indexed_renamed}
use Rattle.l4_links.proofs.Seen.{at_seen}
use Rattle.l4_links.proofs.Stacking.{stack_nodes}
use Rattle.l4_links.proofs.Writes.{map_from}

pub is_in : (s high low space page : ℕ) → low < table_pages → ◌≡◌ {A = ℕ × ℕ} (space, page) (s, high * table_pages + low) → (space ≡ s) × InTable high page
is_in s high low space page lt e = grind arith

-- another place is no change to a node
pub place_nodes : (key : ℕ) (place : Place) (old new : Slots) → SetsPlace key place old new → (k : ℕ) → node_at new k ≡ node_at old k
place_nodes key place old new sets k = grind arith
  where
    same : (o : Option Slot) → option_and_then (λ (s : Slot). s.node) (option_map {T = Slot} (λ s. record s { place = place }) o) ≡ option_and_then (λ (s : Slot). s.node) o
    same None = refl
    same (Some s) = refl

module _ (from high to other : ℕ) (source row source_new row_new : List (Option ℕ)) (old new : Slots) (first head : Option ℕ) (stamp : ℕ) (all : Tables) (r : AreRows from high to other source row old first head stamp all)
    (key f t : ℕ) (place : Place) (rights : RightsSet) (w : GivesAt key place rights f t old new source source_new row row_new) (is : slice_index_or source f None ≡ Some key) (f_lt : f < table_pages) (t_lt : t < table_pages)
    (to_is : place.space ≡ to) (page_is : place.page ≡ other * table_pages + t) (fits : IsPage place.page) where
  pub found : IsOf old (record { space = from; page = high * table_pages + f }) key
  found = (r.indexed.names (record { space = from; page = high * table_pages + f }) key).0 (r.source_row.keys_are f f_lt ∙ is)

  pub free_there : (k : ℕ) → ¬ (IsOf old place k)
  free_there = unnamed old all r.indexed place (ap (λ (z : ℕ). key_of all z place.page) to_is ∙ ap (key_of all to) page_is ∙ r.target_row.keys_are t t_lt ∙ w.free)

  abbrev cleared : Tables
  cleared = record all { pages = map.remove all.pages (from, high * table_pages + f) }

  abbrev given : Tables
  given = record all { pages = map.insert (map.remove all.pages (from, high * table_pages + f)) (to, other * table_pages + t) key }

  abbrev pub rows_given : (later : Tables) × AreRows from high to other source_new row_new new first head stamp later × AreSameAround from high to other all later
  rows_given = (
    given,
    record {
      live = live_nodes old new (place_nodes key place old new w.sets) first stamp r.live;
      stack = stack_nodes old new head (place_nodes key place old new w.sets) r.stack;
      source_row = subst (λ (z : List (Option ℕ)). IsRowOf given from high z) (sym w.left)
          (still_row cleared given from high (slice_set source f None) (λ page. put_away cleared to from (other * table_pages + t) r.apart key page) (clear_row all from high source r.source_row f f_lt));
      target_row = subst (λ (z : List (Option ℕ)). IsRowOf given to other z) (sym w.named)
          (put_row cleared to other row (still_row all cleared to other row (λ page. clear_away all from to (high * table_pages + f) (λ e. r.apart (sym e)) page) r.target_row) t t_lt key);
      indexed = indexed_renamed old new all given (record { space = from; page = high * table_pages + f }) place key found free_there w.sets (subst (λ (z : ℕ). IsTrue (set.contains all.spaces z)) (sym to_is) r.there) fits
          (λ i. map.insert (map.remove all.pages (from, high * table_pages + f)) (sym to_is i, sym page_is i) key) refl r.indexed;
      there = r.there;
      apart = r.apart;
    },
    record {
      away = λ space page off out.
          put_other cleared.pages (to, other * table_pages + t) (space, page) key (λ e. out (is_in to other t space page t_lt e))
          ∙ clear_other all.pages (from, high * table_pages + f) (space, page) (λ e. off (is_in from high f space page f_lt e));
      spaces = refl;
    },
  )

-- the entry is at the place now
pub brings_given : (key : ℕ) (place : Place) (old new : Slots) → SetsPlace key place old new → (was : Entry) → entry_at (entries_of old) key ≡ Some was → ((k : ℕ) → ¬ (IsAt (entries_of old) place k))
    → Brings (λ own e. (own ≡ Some key) × (e ≡ record was { place = place })) (entries_of old) (entries_of new)
brings_given key place old new sets was at free =
    let s = map_from entry_of (slot_at old key) was (sym (at_seen old key) ∙ at) in
    brings_one key (Some key) (inr refl) (record was { place = place }) (entries_of old) (entries_of new)
    (at_seen new key ∙ ap (option_map entry_of) sets.here ∙ ap (λ (o : Option Slot). option_map entry_of (option_map {T = Slot} (λ z. record z { place = place }) o)) s.1 ∙ ap (λ (e : Entry). Some (record e { place = place })) s.2)
    (λ k ne. at_seen new k ∙ ap (option_map entry_of) (sets.others k ne) ∙ sym (at_seen old k))
    (λ x _. inl refl) (λ k is. absurd (free k is)) cases_eq
