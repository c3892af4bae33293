-- Pages that others descend from, as the tables and the nodes have them.
use Rattle.std.specs.Prelude.{◌≡◌, ℕ, ◌+◌, ◌*◌, ◌<◌, ◌≤◌, List, Option, None, Some, slice_index_or}
use Rattle.l4_spaces.specs.Tables.{Tables, key_of, row_block}
use Rattle.l4_links.specs.Leads.{Leads}
use Rattle.l4_links.specs.Inside.Trees.{parent_at}
use Rattle.l4_nodes.specs.Slots.{Slots}
use Rattle.l4_links.specs.Inside.Nodes.{limbs}

-- something descends from the key
abbrev pub IsParent : Slots → ℕ → Type 0
IsParent slots key = (low : ℕ) × Leads (parent_at (limbs slots)) low key

-- the key of this place of a table, if it has one that something descends from
abbrev pub IsParentKey : Slots → List (Option ℕ) → ℕ → ℕ → Type 0
IsParentKey slots keys low key = (slice_index_or keys low None ≡ Some key) × IsParent slots key

-- no place of the table from this one on and below the end has such a key
abbrev pub NoParents : Slots → List (Option ℕ) → ℕ → ℕ → Type 0
NoParents slots keys from end = (low key : ℕ) → from ≤ low → low < end → ¬ (IsParentKey slots keys low key)

-- of the places of this block none from this one on and below the end has such a key
abbrev pub NoParentsInBlock : Slots → List (Option ℕ) → ℕ → ℕ → ℕ → Type 0
NoParentsInBlock slots keys from end block =
    (low key : ℕ) → from ≤ low → low < end → block * row_block ≤ low → low < block * row_block + row_block → ¬ (IsParentKey slots keys low key)

-- the first place of the table from this one on that has such a key, which is below the end, and its key
pub record IsFirstParent (slots : Slots) (keys : List (Option ℕ)) (from end low key : ℕ) : Type 0 where
  pub here : IsParentKey slots keys low key
  pub start : from ≤ low
  pub within : low < end
  pub none : NoParents slots keys from low

-- no page of the space from this one on and below the end has such a key
abbrev pub NoParentPage : Slots → Tables → ℕ → ℕ → ℕ → Type 0
NoParentPage slots t space page end = (other key : ℕ) → page ≤ other → other < end → key_of t space other ≡ Some key → ¬ (IsParent slots key)

-- the first page of the space from this one on that has such a key, which is below the end, and its key
pub record IsParentPage (slots : Slots) (t : Tables) (space page end next key : ℕ) : Type 0 where
  pub named : key_of t space next ≡ Some key
  pub parent : IsParent slots key
  pub from : page ≤ next
  pub before : next < end
  pub least : NoParentPage slots t space page next
