-- The text of the plan of a region (this profile's own).
use Rattle.std.specs.Prelude.{◌≡◌, ℕ, zero, suc, ◌*◌, ◌<◌, ◌⊎◌, Bool, true, false, List, [], ◌∷◌, ◌++◌, length, codes}
use Rattle.std.specs.List.{flat_map}
use Rattle.l4_msg.specs.Regions.{IsEmpty, InSpace, IsOutOfSpace, HasNoRights, messages_of, part_of_list}
use Rattle.l4_msg.specs.Words.{items_words}
use Rattle.l4_msg.specs.declared.items.Item.{Item}
use Rattle.l4_msg.specs.declared.regions.Region.{Region}
use Rattle.l4_plan.specs.Plan.{Listing}
use Rattle.l4_plan.specs.Shortest.{IsShortest, IsTooLong}
use Rattle.l4_plan_lines.specs.Lines.{ended, tag_line, item_line, page_line, long_line}
use Rattle.l4_fpage.specs.declared.sizes.PageSize.{PageSize}

-- lines with two words and a page each
abbrev pub item_texts : List ℕ → List ℕ → List ℕ
item_texts (first ∷ second ∷ words) (page ∷ pages) = ended (item_line first second page) ++ item_texts words pages
item_texts words pages = []

-- the lines of a message's words, the tag first, with a page for each item
abbrev pub message_text : List ℕ → List ℕ → List ℕ
message_text [] pages = []
message_text (tag ∷ words) pages = ended (tag_line tag) ++ item_texts words pages

-- the words of the message that sends some items: label 0, no untyped words, and the typed words counted in the tag
-- (L4 X.2 manual, IPC: message tag)
abbrev pub sending_words : List Item → List ℕ
sending_words items = (length (items_words items) * 64) ∷ items_words items

-- the lines of the message with this number, from 0: its words, with the first pages of its items
abbrev pub part_text : Listing → ℕ → List ℕ
part_text p number = message_text (sending_words (part_of_list p.items number)) (part_of_list p.pages number)

-- the lines of the first n messages
abbrev pub parts_text : Listing → ℕ → List ℕ
parts_text p zero = []
parts_text p (suc n) = parts_text p n ++ part_text p n

abbrev pub plan_text : Listing → List ℕ
plan_text p = parts_text p (messages_of (length p.items))

abbrev pub too_long_text : List ℕ → List ℕ
too_long_text pages = ended long_line ++ flat_map (λ page. ended (page_line page)) pages

-- the text of a region's plan, or of the reason why there is none; the truth value says which
abbrev pub IsPlanText : PageSize → Region → Bool → List ℕ → Type 0
IsPlanText size r true text = (p : Listing) × IsShortest size r p × (text ≡ plan_text p)
IsPlanText size r false text =
    (IsEmpty r × (text ≡ ended (codes "refused N1")))
    ⊎ ((0 < r.count) × IsOutOfSpace size r × (text ≡ ended (codes "refused N2")))
    ⊎ ((0 < r.count) × InSpace size r × HasNoRights r × (text ≡ ended (codes "refused N3")))
    ⊎ ((pages : List ℕ) × IsTooLong size r pages × (text ≡ too_long_text pages))
