-- The claims of lines about a region: that items are its plan, or that every plan is too long (this profile's own).
use Rattle.std.specs.Prelude.{◌≡◌, ℕ, zero, suc, ◌^◌, ◌<◌, ◌≤◌, List, [], ◌∷◌, ◌++◌, length, Option, Some, None}
use Rattle.std.specs.List.{AllZip}
use Rattle.l4_msg.specs.Moves.{IsMap}
use Rattle.l4_msg.specs.Sizes.{max_items}
use Rattle.l4_msg.specs.Words.{ItemReads}
use Rattle.l4_msg.specs.declared.items.Item.{Item}
use Rattle.l4_plan_lines.specs.Lines.{tag_line, page_line, item_line, long_line}
use Rattle.l4_plan_lines.specs.declared.claims.Claim.{Claim}
use Rattle.l4_plan_lines.specs.declared.claims.Head.{Head}
use Rattle.l4_plan_lines.specs.declared.claims.Head.TheVariants.{Plan, TooLong}

abbrev pub IsTagLine : List ℕ → ℕ → Type 0
IsTagLine line tag = (tag < 2 ^ 32) × (line ≡ tag_line tag)

abbrev pub IsPageLine : List ℕ → ℕ → Type 0
IsPageLine line page = (page < 2 ^ 32) × (line ≡ page_line page)

-- the line spells two words and a page; the words are read as this map item
pub record IsItemLine (line : List ℕ) (item : Item) (page : ℕ) : Type 0 where
  pub first : ℕ
  pub second : ℕ
  pub first_word : first < 2 ^ 32
  pub second_word : second < 2 ^ 32
  pub page_word : page < 2 ^ 32
  pub spelled : line ≡ item_line first second page
  pub map : IsMap item
  pub reads : ItemReads first second item

-- Messages of a plan, line by line. `left` is the number of items that may still come before the next tag line. A tag line has a tag, and
-- up to 31 items follow it. Every other line has an item and its page.
abbrev pub AreGroups : List (List ℕ) → ℕ → List ℕ → List Item → List ℕ → Type 0
AreGroups [] left [] [] [] = Unit {0}
AreGroups (line ∷ lines) zero (tag ∷ tags) items pages = IsTagLine line tag × AreGroups lines max_items tags items pages
AreGroups (line ∷ lines) (suc left) tags (item ∷ items) (page ∷ pages) = IsItemLine line item page × AreGroups lines left tags items pages
AreGroups lines left tags items pages = ⊥

-- the greatest number of items or pages of a claim
abbrev pub claim_lines : ℕ
claim_lines = 2048

-- The first line determines which of the two is claimed. The lines of a plan are its messages; each line after `too-long` adds a page.
abbrev pub IsClaim : List (List ℕ) → Option Head → List ℕ → List Item → List ℕ → Type 0
IsClaim [] None tags items pages = (tags ≡ []) × (items ≡ []) × (pages ≡ [])
IsClaim [] (Some head) tags items pages = ⊥
IsClaim (line ∷ lines) None tags items pages = ⊥
IsClaim (line ∷ lines) (Some Plan) tags items pages = AreGroups (line ∷ lines) 0 tags items pages × (length pages ≤ claim_lines)
IsClaim (line ∷ lines) (Some TooLong) tags items pages = (line ≡ long_line) × (tags ≡ []) × (items ≡ []) × AllZip IsPageLine lines pages × (length pages ≤ claim_lines)

abbrev pub IsClaimOf : List (List ℕ) → Claim → Type 0
IsClaimOf lines claim = IsClaim lines claim.head claim.tags.items claim.items.items claim.pages.items

-- the lines are a claim, or the beginning of one
abbrev pub IsBeginning : List (List ℕ) → Type 0
IsBeginning lines = (head : Option Head) × (tags : List ℕ) × (items : List Item) × (pages : List ℕ) × IsClaim lines head tags items pages

-- the last line is a tag line, so its message has no items
pub record EndsInTag (lines : List (List ℕ)) : Type 0 where
  pub before : List (List ℕ)
  pub line : List ℕ
  pub tag : ℕ
  pub split : lines ≡ before ++ line ∷ []
  pub is_tag : IsTagLine line tag

-- a tag line directly after a tag line
abbrev pub IsSecondTag : List (List ℕ) → List ℕ → Type 0
IsSecondTag before line = EndsInTag before × ((tag : ℕ) × IsTagLine line tag)
