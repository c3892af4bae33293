-- The texts of pages, of their rights and of their parents (this profile's own).
use Rattle.std.specs.Prelude.{ℕ, Bool, List, [], ◌∷◌, ◌++◌, Option, Some, None, if◌then◌else◌, codes, decimal}
use Rattle.l4_fpage.specs.Rights.{RightsSet}
use Rattle.l4_mapdb.specs.declared.Mapping.{Mapping}
use Rattle.l4_mapdb.specs.declared.Place.{Place}
use Rattle.l4_answers.specs.Replies.{space, newline}

-- a letter, or a dash in its place
abbrev pub letter : Bool → ℕ → ℕ
letter holds byte = if holds then byte else 45

abbrev pub rights_text : RightsSet → List ℕ
rights_text rights = letter rights.r 114 ∷ letter rights.w 119 ∷ letter rights.x 120 ∷ []

abbrev pub page_words : ℕ → Mapping → List ℕ
page_words page mapping = codes "page " ++ decimal page ++ codes " frame " ++ decimal mapping.frame ++ space ++ rights_text mapping.rights

abbrev pub page_text : ℕ → Mapping → List ℕ
page_text page mapping = page_words page mapping ++ newline

abbrev pub shown_text : ℕ → List ℕ
shown_text count = codes "shown " ++ decimal count ++ newline

-- a place by its space and its page, if there is one
abbrev pub place_or_none : Option Place → List ℕ
place_or_none None = codes "none"
place_or_none (Some place) = decimal place.space ++ space ++ decimal place.page

-- the parent of a page with this mapping; a root has none, and a page without a mapping is absent
abbrev pub parent_text : Option Mapping → List ℕ
parent_text None = codes "absent" ++ newline
parent_text (Some mapping) = codes "parent " ++ place_or_none mapping.parent ++ newline
