-- The texts of the items of a message (this profile's own).
use Rattle.std.specs.Prelude.{ℕ, ◌*◌, ◌/◌, ◌%◌, ◌==◌, List, [], ◌∷◌, ◌++◌, if◌then◌else◌, codes, decimal}
use Rattle.l4_fpage.specs.declared.sizes.PageSize.{PageSize}
use Rattle.l4_msg.specs.Sizes.{base_unit}
use Rattle.l4_msg.specs.Words.{kind_of}
use Rattle.l4_msg.specs.declared.items.Item.{Item}
use Rattle.l4_msg.specs.declared.items.Item.TheVariants.{Map, Grant}
use Rattle.l4_decode.specs.Spelling.{hex_text}
use Rattle.l4_decode.specs.Fpages.{place_text, granted_text, fpage_text}

-- THE TEXT OF AN ITEM. Its lowest bit says that another item follows; the kernel ignores it.
unfoldable pub read_item_text : PageSize → ℕ → Item → List ℕ
read_item_text size more (Map base fpage) =
    codes "map" ++ codes ", send base " ++ hex_text base ++ codes ", C " ++ decimal more ++ codes ", " ++ (place_text size fpage ++ granted_text fpage)
read_item_text size more (Grant base fpage) =
    codes "grant" ++ codes ", send base " ++ hex_text base ++ codes ", C " ++ decimal more ++ codes ", " ++ (place_text size fpage ++ granted_text fpage)

-- THE SAME FOR ITS TWO WORDS. An item that moves pages: its kind, its send base, its lowest bit, and its fpage.
unfoldable pub carrying_text : List ℕ → PageSize → ℕ → ℕ → List ℕ
carrying_text kind size first second =
    kind ++ codes ", send base " ++ hex_text (first / base_unit * base_unit) ++ codes ", C " ++ decimal (first % 2) ++ codes ", " ++ fpage_text size second

-- the text of an item, by its kind
unfoldable pub item_text : PageSize → ℕ → ℕ → List ℕ
item_text size first second =
    if kind_of first == 4 then carrying_text (codes "map") size first second
    else (if kind_of first == 5 then carrying_text (codes "grant") size first second
    else (if kind_of first == 6 then codes "CtrlXfer item, not supported"
    else (if kind_of first == 7 then codes "unknown item: its kind is 7"
    else codes "string item, not supported")))

-- the number of an item, from 0, and its words
unfoldable pub item_head : ℕ → ℕ → ℕ → List ℕ
item_head number first second = codes "item " ++ decimal number ++ codes " " ++ hex_text first ++ codes " " ++ hex_text second ++ codes ": "

unfoldable pub item_line : PageSize → ℕ → ℕ → ℕ → List ℕ
item_line size number first second = item_head number first second ++ (item_text size first second ++ 10 ∷ [])
