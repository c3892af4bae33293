-- The search of a text that C passed (this profile's own).
use Rattle.std.specs.Prelude.{◌≡◌, ◌⊎◌, ℕ, List, Option, None, Some, codes}
use Rattle.l4_fpage.specs.declared.sizes.PageSize.{PageSize}
use Rattle.l4_outcomes.specs.Faults.{search_result, refused_by}
use Rattle.l4_outcomes.specs.Searching.{IsSearched, IsUnsearched}
use Rattle.l4_outcomes.specs.declared.faults.SearchResult.{SearchResult}
use Rattle.l4_outcomes.specs.declared.searched.Searched.{Searched}

-- An empty handle then holds the search of the text, unless no search was made. A handle that is not empty is refused (B2) and unchanged.
abbrev pub Searches : ℕ → PageSize → ℕ → List ℕ → Option Searched → SearchResult → Option Searched → Type 0
Searches frames size most text (Some old) r new = (r ≡ refused_by (codes "B2")) × (new ≡ Some old)
Searches frames size most text None r new =
    ((s : Searched) × IsSearched frames size most text s × (r ≡ search_result 0 0 0) × (new ≡ Some s))
    ⊎ (IsUnsearched frames size text r × (new ≡ None))
