-- What caps of granted pages do, and what is left where marks are removed, key by key (this profile's own).
use Rattle.std.specs.Prelude.{◌≡◌, ◌↔◌, ◌⊎◌, ℕ, Option, Some, IsTrue, false, option_and_then}
use Rattle.std.specs.Option.{option_map}
use Rattle.l4_fpage.specs.Rights.{RightsSet, Right, has, no_rights}
use Rattle.l4_nodes.specs.declared.Place.{Place as LinkPlace}
use Rattle.l4_links.specs.declared.Standing.{Standing}
use Rattle.l4_links.specs.declared.Entry.{Entry}
use Rattle.l4_links.specs.Entries.{Entries, entry_at, standing_at, IsAt, Descends}
use Rattle.l4_mapdb.specs.Inside.Messages.{plain}

-- the entry, its rights forgotten
abbrev pub bare : Option Entry → Option Entry
bare entry = option_map {T = Entry} (λ e. record e { stands = option_map (λ (t : Standing). record t { rights = no_rights }) e.stands }) entry

-- an entry without its marks, nothing where it was a blank
abbrev pub tidied : Option Entry → Option Entry
tidied o = option_and_then (λ (e : Entry). option_map (λ (t : Standing). record e { wanted = false; stands = Some (plain t) }) e.stands) o

-- what stands under the key was granted there by an item of these rights
abbrev pub IsGrantedAt : Entries → ℕ → RightsSet → Type 0
IsGrantedAt s key rights = option_and_then (λ (t : Standing). t.granted) (standing_at s key) ≡ Some rights

-- the first key is the second or descends from it
abbrev pub IsOrBelow : Entries → ℕ → ℕ → Type 0
IsOrBelow s low high = (low ≡ high) ⊎ Descends s low high

-- what stands has just those of its rights that the items have which granted it to one of these keys, or what it descends from
abbrev pub LeavesRights : (ℕ → Type 0) → Entries → Entries → Type 0
LeavesRights Done old new = (key : ℕ) (t u : Standing) → standing_at old key ≡ Some t → standing_at new key ≡ Some u →
    (right : Right) → IsTrue (has u.rights right) ↔ (IsTrue (has t.rights right) × ((top : ℕ) (cap : RightsSet) → Done top → IsGrantedAt old top cap → IsOrBelow old key top → IsTrue (has cap right)))

-- so it is, and all else is as it was
pub record Capped (Done : ℕ → Type 0) (old new : Entries) : Type 0 where
  pub same : (key : ℕ) → bare (entry_at new key) ≡ bare (entry_at old key)
  pub rights : LeavesRights Done old new

-- the key is of one of these pages
abbrev pub AtOneOf : (LinkPlace → Type 0) → Entries → ℕ → Type 0
AtOneOf Touched s key = (place : LinkPlace) × Touched place × IsAt s place key

-- These pages have lost their marks, and their keys where nothing stands, after what was granted to them lost the rights that its item does not have,
-- with what descends from it. All else is as it was.
pub record Tidies (Touched : LinkPlace → Type 0) (old new : Entries) : Type 0 where
  pub each : (key : ℕ) → (bare (entry_at new key) ≡ bare (entry_at old key)) ⊎ (AtOneOf Touched old key × (bare (entry_at new key) ≡ tidied (bare (entry_at old key))))
  pub here : (key : ℕ) → AtOneOf Touched old key → bare (entry_at new key) ≡ tidied (bare (entry_at old key))
  pub rights : LeavesRights (AtOneOf Touched old) old new
