-- What a contract sees of the spaces with their tables, and what these keep.
use Rattle.std.specs.Prelude.{◌≡◌, ◌≢◌, ℕ, ◌≤◌, ◌*◌, zero, suc, Bool, false, ⊤, nat_eq, cond, List, [], ◌∷◌, ◌++◌, map, length, slice_index_or, Option, None, Some, Vec}
use Rattle.std.specs.declared.alloc.Global.{Global}
use Rattle.std.specs.List.{list_any}
use Rattle.std.specs.FinMap as map
use Rattle.std.specs.FinSet as set
use Rattle.l4_spaces.specs.declared.Spaces.TheInside.{Inside}
use Rattle.l4_spaces.specs.Tables.{Tables, table_pages, space_tables}
use Rattle.l4_spaces.specs.Rows.{Rows, entry, is_made, AreWhole}

abbrev pub Space : Type 0
Space = ℕ × Vec (List (Option ℕ)) Global

abbrev pub Live : Type 0
Live = List (ℕ × Vec (List (Option ℕ)) Global)

abbrev pub numbers : Live → List ℕ
numbers ss = map (λ s. s.0) ss

abbrev pub has : Live → ℕ → Bool
has ss k = list_any (λ y. nat_eq y k) (numbers ss)

-- the tables of the space
abbrev pub tables_of : Live → ℕ → Rows
tables_of [] k = []
tables_of (s ∷ ss) k = cond (nat_eq s.0 k) s.1.items (tables_of ss k)

-- the space stands at i
abbrev pub StandsAt : ℕ → Live → ℕ → Type 0
StandsAt k [] i = ⊥
StandsAt k (s ∷ ss) zero = s.0 ≡ k
StandsAt k (s ∷ ss) (suc i) = (s.0 ≢ k) × StandsAt k ss i

-- the space stands at i, where its number and its tables are
pub record IsAt (k : ℕ) (ss : Live) (i : ℕ) : Type 0 where
  pub stands : StandsAt k ss i
  pub number : (s : Space) → (slice_index_or ss i s).0 ≡ k
  pub tables : (s : Space) → (slice_index_or ss i s).1.items ≡ tables_of ss k

abbrev pub key_at : Live → ℕ × ℕ → Option ℕ
key_at ss p = entry (tables_of ss p.0) p.1

abbrev pub is_there : Live → ℕ × ℕ → Bool
is_there ss p = is_made (tables_of ss p.0) p.1

-- the places of a space whose numbers lie below n
abbrev pub places_below : ℕ → ℕ → List (ℕ × ℕ)
places_below k zero = []
places_below k (suc n) = (k, n) ∷ places_below k n

-- in each space as many places for each table
abbrev pub places : ℕ → Live → List (ℕ × ℕ)
places each [] = []
places each (s ∷ ss) = places_below s.0 (length s.1.items * each) ++ places each ss

-- of these places, those that show a key, with the key
abbrev pub gather : (ℕ × ℕ → Option ℕ) → List (ℕ × ℕ) → List ((ℕ × ℕ) × ℕ)
gather f [] = []
gather f (p ∷ ps) = elim (f p) [ None ↦ gather f ps | Some key ↦ (p, key) ∷ gather f ps ]

abbrev pub shown : Live → Tables
shown ss = record {
  pages = map.from_entries (gather (key_at ss) (places table_pages ss));
  spaces = set.from_list (numbers ss);
  tables = set.retain (set.from_list (places 1 ss)) (is_there ss);
}

abbrev pub seen : Inside → Tables
seen a = shown a.spaces.items

-- no space stands twice
abbrev pub IsOnce : Live → Type 0
IsOnce [] = ⊤
IsOnce (s ∷ ss) = (has ss s.0 ≡ false) × IsOnce ss

-- no space stands twice, and a space's tables are absent or whole, and reach no further than they should
pub record IsLaid (ss : Live) : Type 0 where
  pub once : IsOnce ss
  pub whole : (space : ℕ) → AreWhole (tables_of ss space)
  pub full : (space : ℕ) → length (tables_of ss space) ≤ space_tables

abbrev pub IsKept : Inside → Type 0
IsKept a = IsLaid a.spaces.items
