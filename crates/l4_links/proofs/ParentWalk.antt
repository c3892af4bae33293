-- A walk over the tables of a space for pages that others descend from.
use Rattle.std.proofs.Common.{◌≡◌, ℕ, ◌+◌, ◌-◌, ◌<◌, ◌≤◌, List, Option, Some, None, MatchOption, is_some, ◌⊎◌, refl, sym, ap, ◌∙◌, inl, inr, arith}
use Rattle.std.specs.Option.{option_map}
use Rattle.std.proofs.lemmas.Bool.{cases_lt}
use Rattle.l4_spaces.specs.Tables.{Tables, key_of, table_pages, IsTableIn}
use Rattle.l4_links.specs.Leads.{Leads}
use Rattle.l4_links.specs.Inside.Trees.{Limb, parent_at}
use Rattle.l4_links.specs.Inside.Orders.{position}
use Rattle.l4_nodes.specs.Slots.{Slots, node_at}
use Rattle.l4_links.specs.Inside.Nodes.{limbs, IsForest}
use Rattle.l4_links.specs.Inside.Keeping.{entries_of, IsIndexed}
use Rattle.l4_links.specs.Inside.Parents.{IsParent, NoParents, IsFirstParent, NoParentPage, IsParentPage}
use Rattle.l4_links.specs.Entries.{NoParentIn, IsNextParentIn}
use Rattle.l4_links.proofs.Naming.{find_is}
use Rattle.l4_links.proofs.Runs.{descendants}
use Rattle.l4_links.proofs.Seen.{leads_of, descends_of}
use Rattle.l4_links.proofs.Writes.{limb_of}

-- nothing descends from where there is no node
pub no_node : (slots : Slots) (ks : List ℕ) (key : ℕ) → IsForest slots ks → node_at slots key ≡ None → (low : ℕ) → ¬ (Leads (parent_at (limbs slots)) low key)
no_node slots ks key f none low l =
    let run = (descendants (limbs slots) (position ks) f.tree key low).0 l in
    let z : ◌≡◌ {A = Option Limb} None (Some run.top) = sym (ap (option_map limb_of) none) ∙ run.at_top in cc

-- a page that has no such key is passed over
module _ (slots : Slots) (t : Tables) (space page end : ℕ) (none : (key : ℕ) → key_of t space page ≡ Some key → ¬ (IsParent slots key)) where
  pub none_from : (last : ℕ) → NoParentPage slots t space (page + 1) last → NoParentPage slots t space page last
  none_from last later other key le lt is = grind arith

  pub found_from : (next key : ℕ) → IsParentPage slots t space (page + 1) end next key → IsParentPage slots t space page end next key
  found_from next key found = grind arith

-- no page before this one has a key that something descends from, and none from the end on is spoken of
abbrev pub NoneYet : Slots → Tables → ℕ → ℕ → ℕ → ℕ → Type 0
NoneYet slots t space page end next = (other key : ℕ) → page ≤ other → other < next → other < end → key_of t space other ≡ Some key → ¬ (IsParent slots key)

module _ (slots : Slots) (t : Tables) (space page next end : ℕ) (from : page ≤ next) (so_far : NoneYet slots t space page end next) where
  module _ (start : ℕ) (keys : List (Option ℕ)) (table : IsTableIn t space next end start keys) where
    -- up to a place of the table
    up_to : (last : ℕ) → last ≤ table_pages → NoParents slots keys (next - start) last → NoneYet slots t space page end (start + last)
    up_to last fits none other key le lt in_end is parent = elim (cases_lt other next) [
      | inl before ↦ so_far other key le before in_end is parent
      | inr more ↦ elim (cases_lt other start) [
        | inl before ↦ table.least other more before (ap is_some is)
        | inr past ↦
            let e : start + (other - start) ≡ other = omega (arith, past) in
            let within : other - start < last = omega (arith, past, lt) in
            none (other - start) key (omega (arith, more, past)) within (sym (table.shows (other - start) (omega (arith, within, fits))) ∙ ap (key_of t space) e ∙ is, parent)
      ]
    ]

    -- the whole table has none
    pub table_done : (last : ℕ) → (last ≡ table_pages) ⊎ (start + last ≡ end) → last ≤ table_pages → NoParents slots keys (next - start) last → NoneYet slots t space page end (start + table_pages)
    table_done last lasts fits none other key le lt in_end is = elim lasts [
      | inl whole ↦ up_to last fits none other key le (omega (arith, whole, lt)) in_end is
      | inr ends ↦ up_to last fits none other key le (omega (arith, ends, in_end)) in_end is
    ]

    -- a place of the table has one
    pub table_has : (last low key : ℕ) → last ≤ table_pages → start + last ≤ end → IsFirstParent slots keys (next - start) last low key → IsParentPage slots t space page end (start + low) key
    table_has last low key fits ends found =
        let within = found.within in
        let begins = found.start in record {
          named = table.shows low (omega (arith, within, fits)) ∙ found.here.0;
          parent = found.here.1;
          from = omega (arith, from, begins);
          before = omega (arith, within, ends);
          least = λ other other_key le lt is. up_to low (omega (arith, within, fits)) found.none other other_key le lt (omega (arith, lt, within, ends)) is;
        }

no_parent : (slots : Slots) (t : Tables) (space page end : ℕ) → IsIndexed slots t → NoParentPage slots t space page end → NoParentIn (entries_of slots) space page end
no_parent slots t space page end i h other key low le lt at d =
    h other key le lt ((find_is slots t (record { space = space; page = other }) (key_of t space other) i refl key).1 at) (low, leads_of slots d)

-- what a contract sees of it
pub view_parent : (slots : Slots) (t : Tables) (space page end : ℕ) (r : Option (ℕ × ℕ)) → IsIndexed slots t → MatchOption r (NoParentPage slots t space page end) (λ found. IsParentPage slots t space page end found.0 found.1)
    → MatchOption r (NoParentIn (entries_of slots) space page end) (λ found. IsNextParentIn (entries_of slots) space page end found.0 found.1)
view_parent slots t space page end None i h = no_parent slots t space page end i h
view_parent slots t space page end (Some found) i h = record {
  at = (find_is slots t (record { space = space; page = found.0 }) (Some found.1) i (sym h.named) found.1).0 refl;
  parent = (h.parent.0, descends_of slots h.parent.1);
  from = h.from;
  before = h.before;
  least = no_parent slots t space page found.0 i h.least;
}
