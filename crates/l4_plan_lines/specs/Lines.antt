-- The text of the lines of plans and of pages, without their newlines (this profile's own).
use Rattle.std.specs.Prelude.{ℕ, List, [], ◌∷◌, ◌++◌, codes}
use Rattle.std.specs.Fmt.{decimal}
use Rattle.l4_text.specs.Texts.{word_text}

-- the lines of a tag, of a page, and of an item's two words and its page
abbrev pub tag_line : ℕ → List ℕ
tag_line tag = codes "tag " ++ word_text tag

abbrev pub page_line : ℕ → List ℕ
page_line page = codes "page " ++ decimal page

abbrev pub item_line : ℕ → ℕ → ℕ → List ℕ
item_line first second page = codes "item " ++ (word_text first ++ (codes " " ++ (word_text second ++ (codes " " ++ page_line page))))

-- the first line before the pages that prove every plan to be too long
abbrev pub long_line : List ℕ
long_line = codes "too-long"

-- a line with its newline
abbrev pub ended : List ℕ → List ℕ
ended line = line ++ 10 ∷ []
