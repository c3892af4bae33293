-- The rights that pages of a space are named with, and what goes with them. (this profile's own)
use Rattle.std.specs.Prelude.{◌≡◌, ℕ, ◌⊎◌, Bool, IsTrue}
use Rattle.l4_fpage.specs.Pages.{InBlock}
use Rattle.l4_fpage.specs.Rights.{RightsSet, Right, has}
use Rattle.l4_mapdb.specs.declared.Place.{Place}
use Rattle.l4_mapdb.specs.Mappings.{Mappings, Descends}
use Rattle.l4_mapdb.specs.Losing.{LosesRights}

-- the place descends from the page of the space, or is it where that is meant too
abbrev pub IsUnder : Mappings → ℕ → Bool → ℕ → Place → Type 0
IsUnder old space own page place =
    (IsTrue own × (place ≡ record { space = space; page = page })) ⊎ Descends old place (record { space = space; page = page })

-- the place is under a page that is named with the right
abbrev pub GoesWith : (ℕ → Right → Type 0) → ℕ → Bool → Mappings → Place → Right → Type 0
GoesWith Named space own old place right = (page : ℕ) × Named page right × IsUnder old space own page place

-- the rights that pages are named with go from all that is under them
abbrev pub Takes : (ℕ → Right → Type 0) → ℕ → Bool → Mappings → Mappings → Type 0
Takes Named space own old new = LosesRights (GoesWith Named space own old) old new

-- the right is one of these, and the page one of the block's
abbrev pub BlockNames : ℕ → ℕ → RightsSet → ℕ → Right → Type 0
BlockNames first log rights page right = InBlock first log page × IsTrue (has rights right)
