-- The page tables of all spaces as one value: the node of each present page, the spaces that exist, and their tables (this profile's own).
use Rattle.std.specs.Prelude.{◌≡◌, ◌≢◌, ℕ, ◌<◌, ◌≤◌, ◌==◌, ◌+◌, ◌*◌, ◌/◌, List, Option, None, cond, length, slice_index_or, All, IsTrue, is_some, refl}
use Rattle.std.specs.Ordering.{nat_cmp, ordering_then}
use Rattle.std.specs.declared.cmp.Ordering.{Ordering}
use Rattle.std.specs.Coded.{Coded, code_by, coded×, coded_ℕ}
use Rattle.std.specs.FinMap as map
use Rattle.std.specs.FinSet as set

-- The number of pages of a table, and the number of tables of a space, which is enough for pages of 1,024 bytes. In a space with pages of
-- 4,096 bytes, the first 512 tables have the pages.
abbrev pub table_pages : ℕ
table_pages = 2048

abbrev pub space_tables : ℕ
space_tables = 2048

abbrev pub space_pages : ℕ
space_pages = space_tables * table_pages

-- a page of a space, or a table of a space, by space and then by number
abbrev pub place_cmp : ℕ × ℕ → ℕ × ℕ → Ordering
place_cmp a b = ordering_then (nat_cmp a.0 b.0) (nat_cmp a.1 b.1)

-- the keys of the nodes of present pages, and the spaces and the tables that exist
pub record Tables : Type 0 where
  pub pages : map.FinMap place_cmp ℕ
  pub spaces : set.FinSet nat_cmp
  pub tables : set.FinSet place_cmp

abbrev pub tables_code : Coded Tables
tables_code =
    code_by (map.FinMap place_cmp ℕ × (set.FinSet nat_cmp × set.FinSet place_cmp))
    (coded× (map.code (coded× coded_ℕ coded_ℕ) coded_ℕ) (coded× (set.code coded_ℕ) (set.code (coded× coded_ℕ coded_ℕ))))
    (λ s. (s.pages, (s.spaces, s.tables))) (λ p. record { pages = p.0; spaces = p.1.0; tables = p.1.1 }) (λ _. refl)

-- the key of a page's node, if the page is present
abbrev pub key_of : Tables → ℕ → ℕ → Option ℕ
key_of s space page = map.get s.pages (space, page)

abbrev pub IsPresent : Tables → ℕ → ℕ → Type 0
IsPresent s space page = IsTrue (is_some (key_of s space page))

abbrev pub IsSpace : Tables → ℕ → Type 0
IsSpace s space = IsTrue (set.contains s.spaces space)

-- the number is that of a page of a space
abbrev pub IsPage : ℕ → Type 0
IsPage page = page < space_pages

-- These pages of the space can be set without an allocation: the table of each exists.
unfoldable pub HasRoom : Tables → ℕ → List ℕ → Type 0
HasRoom s space pages = All (λ page. IsTrue (set.contains s.tables (space, page / table_pages))) pages

-- there is at least as much room as before
abbrev pub KeepsRoom : Tables → Tables → Type 0
KeepsRoom old new = (space : ℕ) (pages : List ℕ) → HasRoom old space pages → HasRoom new space pages

-- there is at least as much room for the other spaces as before
abbrev pub KeepsOthersRoom : ℕ → Tables → Tables → Type 0
KeepsOthersRoom space old new = (other : ℕ) (pages : List ℕ) → other ≢ space → HasRoom old other pages → HasRoom new other pages

-- the space has no pages any more, and the other spaces have theirs
abbrev pub Empties : ℕ → Tables → Tables → Type 0
Empties space old new = (other page : ℕ) → key_of new other page ≡ cond (other == space) None (key_of old other page)

-- no page of the space from this one on is present
abbrev pub NonePresentFrom : Tables → ℕ → ℕ → Type 0
NonePresentFrom s space page = (other : ℕ) → page ≤ other → ¬ (IsPresent s space other)

-- the least present page of the space that is not below this one
pub record IsNextPresent (s : Tables) (space page next : ℕ) : Type 0 where
  pub present : IsPresent s space next
  pub from : page ≤ next
  pub least : (other : ℕ) → page ≤ other → IsPresent s space other → next ≤ other

-- no page of the space from this one on and below the end is present
abbrev pub NonePresentIn : Tables → ℕ → ℕ → ℕ → Type 0
NonePresentIn s space page end = (other : ℕ) → page ≤ other → other < end → ¬ (IsPresent s space other)

-- the least present page of the space that is not below this one, and it is below the end
pub record IsNextIn (s : Tables) (space page end next : ℕ) : Type 0 where
  pub present : IsPresent s space next
  pub from : page ≤ next
  pub before : next < end
  pub least : (other : ℕ) → page ≤ other → IsPresent s space other → next ≤ other

-- The keys of the table that begins with the page `start`. It is the first existing table with pages from `page` on, and it begins below
-- the end.
pub record IsTableIn (s : Tables) (space page end start : ℕ) (keys : List (Option ℕ)) : Type 0 where
  pub shows : (low : ℕ) → low < table_pages → key_of s space (start + low) ≡ slice_index_or keys low None
  pub whole : length keys ≡ table_pages
  pub fits : start + table_pages ≤ space_pages
  pub from : page < start + table_pages
  pub before : start < end
  pub least : NonePresentIn s space page start

-- the number of consecutive places of a table that are a block
abbrev pub row_block : ℕ
row_block = 64

-- no place of the table from this one on and below the end has a key
abbrev pub NoKeys : List (Option ℕ) → ℕ → ℕ → Type 0
NoKeys keys from end = (low : ℕ) → from ≤ low → low < end → slice_index_or keys low None ≡ None
