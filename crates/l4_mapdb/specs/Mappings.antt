-- The mappings of all spaces as one value: the mapping of each present place, and the spaces that exist (L4 X.2 manual: recursive mapping
-- by map and grant items; the one value is this profile's own).
use Rattle.std.specs.Prelude.{◌≡◌, ℕ, ◌<◌, Option, Some, None, IsTrue, is_some, option_and_then, ◌⊎◌, refl}
use Rattle.std.specs.Ordering.{nat_cmp, ordering_then}
use Rattle.std.specs.Option.{option_map_or}
use Rattle.std.specs.declared.cmp.Ordering.{Ordering}
use Rattle.std.specs.Coded.{Coded, code_by, coded×, coded_ℕ, coded_option}
use Rattle.std.specs.FinMap as map
use Rattle.std.specs.FinSet as set
use Rattle.l4_fpage.specs.Rights.{RightsSet, no_rights, rights_code, Within}
use Rattle.l4_fpage.specs.Pages.{most_pages}
use Rattle.l4_mapdb.specs.declared.Place.{Place}
use Rattle.l4_mapdb.specs.declared.Mapping.{Mapping}

-- by space, and then by page
abbrev pub place_cmp : Place → Place → Ordering
place_cmp a b = ordering_then (nat_cmp a.space b.space) (nat_cmp a.page b.page)

abbrev pub place_code : Coded Place
place_code = code_by (ℕ × ℕ) (coded× coded_ℕ coded_ℕ) (λ p. (p.space, p.page)) (λ p. record { space = p.0; page = p.1 }) (λ _. refl)

abbrev pub mapping_code : Coded Mapping
mapping_code =
    code_by (ℕ × (RightsSet × Option Place)) (coded× coded_ℕ (coded× rights_code (coded_option place_code)))
    (λ m. (m.frame, (m.rights, m.parent))) (λ p. record { frame = p.0; rights = p.1.0; parent = p.1.1 }) (λ _. refl)

-- the mapping of each present place, and the spaces that exist
pub record Mappings : Type 0 where
  pub places : map.FinMap place_cmp Mapping
  pub spaces : set.FinSet nat_cmp

abbrev pub mappings_code : Coded Mappings
mappings_code =
    code_by (map.FinMap place_cmp Mapping × set.FinSet nat_cmp) (coded× (map.code place_code mapping_code) (set.code coded_ℕ))
    (λ s. (s.places, s.spaces)) (λ p. record { places = p.0; spaces = p.1 }) (λ _. refl)

-- the mapping of a place, if it is present
abbrev pub shown : Mappings → Place → Option Mapping
shown s place = map.get s.places place

abbrev pub IsPresent : Mappings → Place → Type 0
IsPresent s place = IsTrue (is_some (shown s place))

-- the parent of a place
abbrev pub parent_of : Mappings → Place → Option Place
parent_of s place = option_and_then (λ m. m.parent) (shown s place)

-- the rights of a place; none if it is absent
abbrev pub rights_at : Mappings → Place → RightsSet
rights_at s place = option_map_or (λ m. m.rights) (shown s place) no_rights

-- a chain of one or more steps to the parent leads from the first place to the second
pub data Chain (parent : Place → Option Place) : Place → Place → Type 0 where
  child : {low high : Place} → parent low ≡ Some high → Chain parent low high
  further : {low middle high : Place} → parent low ≡ Some middle → Chain parent middle high → Chain parent low high

-- the first place descends from the second
abbrev pub Descends : Mappings → Place → Place → Type 0
Descends s low high = Chain (parent_of s) low high

-- the place is the second one, or descends from it
abbrev pub IsOrDescends : Mappings → Place → Place → Type 0
IsOrDescends s low high = (low ≡ high) ⊎ Descends s low high

-- the place with this frame that has no parent
pub record IsRoot (s : Mappings) (frame : ℕ) (place : Place) : Type 0 where
  pub mapping : Mapping
  pub at : shown s place ≡ Some mapping
  pub frame_is : mapping.frame ≡ frame
  pub top : mapping.parent ≡ None

-- the parent of a present place is present, has the same frame, and has all rights of the place
pub record ParentHolds (s : Mappings) (m : Mapping) (parent : Place) : Type 0 where
  pub above : Mapping
  pub at : shown s parent ≡ Some above
  pub same_frame : above.frame ≡ m.frame
  pub within : Within m.rights above.rights

-- the mappings are trees: one for each frame that is mapped
pub record IsForest (s : Mappings) : Type 0 where
  pub in_space : (place : Place) (m : Mapping) → shown s place ≡ Some m → IsTrue (set.contains s.spaces place.space)
  pub page_fits : (place : Place) (m : Mapping) → shown s place ≡ Some m → place.page < most_pages
  pub some_right : (place : Place) (m : Mapping) → shown s place ≡ Some m → ¬ (m.rights ≡ no_rights)
  pub parents : (place : Place) (m : Mapping) (parent : Place) → shown s place ≡ Some m → m.parent ≡ Some parent → ParentHolds s m parent
  pub rooted : (place : Place) (m : Mapping) → shown s place ≡ Some m → (root : Place) × IsOrDescends s place root × IsRoot s m.frame root
  pub one_root : (frame : ℕ) (a b : Place) → IsRoot s frame a → IsRoot s frame b → a ≡ b
