-- The words that an Unmap reads, and the rights that it removes (L4 X.2 manual, Unmap; that no status bits are returned is this profile's
-- own).
use Rattle.std.specs.Prelude.{◌≡◌, ℕ, ◌+◌, ◌/◌, ◌%◌, ◌^◌, ◌<◌, ◌≤◌, ◌==◌, ◌⊎◌, Bool, List, length, slice_index, Contains, IsTrue}
use Rattle.std.specs.List.{HoldsAt}
use Rattle.l4_fpage.specs.Rights.{Right, has}
use Rattle.l4_fpage.specs.Fpages.{rights_of, HoldsPage, ReadsAs, IsMalformed}
use Rattle.l4_fpage.specs.declared.fpages.Fpage.{Fpage}
use Rattle.l4_mapdb.specs.declared.Place.{Place}
use Rattle.l4_mapdb.specs.Mappings.{Mappings, Descends}
use Rattle.l4_mapdb.specs.Losing.{LosesRights}
use Rattle.l4_unmap.specs.declared.UnmapFault.{UnmapFault}
use Rattle.l4_unmap.specs.declared.UnmapFault.TheVariants.{BadFpage, TooFew}
use Rattle.l4_fpage.specs.declared.sizes.PageSize.{PageSize}

-- the number of registers with fpages: one more than bits 5 to 0 of the control word
abbrev pub fpage_count : ℕ → ℕ
fpage_count control = control % 2 ^ 6 + 1

-- bit f, bit 6: the caller's own places are included
abbrev pub with_own : ℕ → Bool
with_own control = control / 2 ^ 6 % 2 == 1

-- the fpages in the registers from MR0 on, as many as the control word counts
pub record UnmapReads (control : ℕ) (words : List ℕ) (fpages : List Fpage) : Type 0 where
  pub there : fpage_count control ≤ length words
  pub count : length fpages ≡ fpage_count control
  pub each : (k : ℕ) → k < length fpages → HoldsAt (ReadsAs (slice_index words k)) fpages k

-- the reason why the registers are refused: there are too few, or register i is the first one that has no fpage
abbrev pub UnmapFails : ℕ → List ℕ → UnmapFault → Type 0
UnmapFails control words TooFew = length words < fpage_count control
UnmapFails control words (BadFpage i) =
    (fpage_count control ≤ length words) × (i < fpage_count control) × IsMalformed (slice_index words i) × ((k : ℕ) → k < i → ¬ (IsMalformed (slice_index words k)))

-- For pages of this size: an fpage names the right, and it names a page of the caller from which the place descends or, with f, the place
-- itself.
abbrev pub LosesTo : PageSize → Mappings → ℕ → Bool → List Fpage → Place → Right → Type 0
LosesTo size old caller own fpages place right =
    (fpage : Fpage) × Contains fpages fpage × IsTrue (has (rights_of fpage) right)
    × ((page : ℕ) × HoldsPage size fpage page
    × ((IsTrue own × (place ≡ record { space = caller; page = page })) ⊎ Descends old place (record { space = caller; page = page })))

-- the effect of an Unmap of these fpages by a thread in the caller's space; it depends only on the mappings before the call
abbrev pub Unmaps : PageSize → ℕ → Bool → List Fpage → Mappings → Mappings → Type 0
Unmaps size caller own fpages old new = LosesRights (LosesTo size old caller own fpages) old new
