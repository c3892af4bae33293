-- The table of digests, and what a search visits besides the states that were searched before (this profile's own).
use Rattle.std.specs.Prelude.{◌≡◌, ℕ, zero, suc, ◌+◌, ◌*◌, ◌%◌, ◌^◌, ◌<◌, ◌==◌, Bool, if◌then◌else◌, List, [], ◌∷◌, length, get_or, map, bit_xor, Contains}
use Rattle.std.specs.Int.{w64, rotate_left}
use Rattle.l4_merges.specs.declared.graph.Seen.{Seen}
use Rattle.l4_merges.specs.declared.table.Table.{Table}
use Rattle.l4_merges.specs.Graphs.{AreToldApart}
use Rattle.l4_merges.specs.Orders.{IsRun, Visits}

-- DIGESTS

-- the digest with one more word
unfoldable pub mixed : ℕ → ℕ → ℕ
mixed digest word = rotate_left w64 ((bit_xor digest word * 11400714819323198485) % 2 ^ 64) 29

-- the digest of words that follow others with this digest
abbrev pub digest_on : ℕ → List ℕ → ℕ
digest_on digest [] = digest
digest_on digest (word ∷ words) = digest_on (mixed digest word) words

unfoldable pub digest_of : List ℕ → ℕ
digest_of words = digest_on 0 words

-- THE TABLE

-- the slot of the digest at a place
abbrev pub slot_at : ℕ → List ℕ → ℕ → ℕ
slot_at count digests place = get_or digests place 0 % count

-- the last place below this one with this slot, plus 1, or 0 if there is none
abbrev pub last_in : (ℕ → ℕ) → ℕ → ℕ → ℕ
last_in slots slot zero = 0
last_in slots slot (suc place) = if slots place == slot then suc place else last_in slots slot place

-- the places below this one are in the table
pub record AreLinked (slots digests earlier : List ℕ) (below : ℕ) : Type 0 where
  pub last : (slot : ℕ) → slot < length slots → get_or slots slot 0 ≡ last_in (slot_at (length slots) digests) slot below
  pub before : (place : ℕ) → place < below → get_or earlier place 0 ≡ last_in (slot_at (length slots) digests) (slot_at (length slots) digests place) place

-- and this one can follow
pub record CanLink (slots digests earlier : List ℕ) (place : ℕ) : Type 0 where
  pub some : 0 < length slots
  pub within : place < length digests
  pub long : length earlier ≡ length digests
  pub linked : AreLinked slots digests earlier place

-- all places are in the table
pub record IsTable (t : Table) : Type 0 where
  pub some : 0 < length t.digests.items → 0 < length t.slots.items
  pub long : length t.earlier.items ≡ length t.digests.items
  pub linked : AreLinked t.slots.items t.digests.items t.earlier.items (length t.digests.items)

-- STATES THAT WERE SEARCHED

-- the table has the digest of each key
pub record IsIndex (t : Table) (seen : List Seen) : Type 0 where
  pub table : IsTable t
  pub digests : t.digests.items ≡ map (λ one. digest_of one.key.items) seen

-- and no key is there twice
pub record IsIndexed (t : Table) (seen : List Seen) : Type 0 where
  pub index : IsIndex t seen
  pub apart : AreToldApart seen

-- no state that was searched has this key
abbrev pub IsNotKnown : List Seen → List ℕ → Type 0
IsNotKnown seen key = (one : Seen) → Contains seen one → one.key.items ≡ key → ⊥

-- States were visited, none of which was searched before: as many as the number of states that may be visited fell from one to the other.
pub record VisitsNew {S : Type 0} (enabled : S → ℕ → Bool) (Turns : S → ℕ → S → Type 0) (HasKey : S → List ℕ → Type 0) (s : S) (seen : List Seen) (old left : ℕ) : Type 0 where
  pub count : ℕ
  pub fell : count + left ≡ old
  pub visits : Visits enabled Turns HasKey s count
  pub new : (key : List ℕ) → Contains visits.keys key → IsNotKnown seen key
