-- The answer to an input about a region, and its text (this profile's own).
use Rattle.std.specs.Prelude.{◌≡◌, ℕ, ◌+◌, ◌*◌, ◌<◌, ◌⊎◌, Bool, true, false, List, ◌++◌, length, get_or, Option, Some, codes}
use Rattle.std.specs.Io.KnownBytes.{Consumes, IsAtEnd}
use Rattle.l4_plan_lines.specs.Lines.{ended}
use Rattle.std.specs.Fmt.{decimal}
use Rattle.l4_msg.specs.Regions.{part_of_list}
use Rattle.l4_msg.specs.Sizes.{max_items}
use Rattle.l4_msg.specs.declared.items.Item.{Item}
use Rattle.l4_msg.specs.declared.regions.Region.{Region}
use Rattle.l4_plan_check.specs.declared.faults.Fault.{Fault}
use Rattle.l4_plan_check.specs.declared.faults.Fault.TheVariants.{Region as InRegion, Item as InItem, Gap, Count, Page, Pair}
use Rattle.l4_plan_check.specs.Faults.{Holds, IsFirstFault, LongHolds, IsFirstLongFault}
use Rattle.l4_plan_lines.specs.Inputs.{IsRefused, IsWhole}
use Rattle.l4_plan_lines.specs.declared.answers.Answer.{Answer}
use Rattle.l4_plan_lines.specs.declared.answers.Answer.TheVariants.{Refused, Faulty, ProvedPlan, ProvedTooLong}
use Rattle.l4_plan_lines.specs.declared.claims.Claim.{Claim}
use Rattle.l4_plan_lines.specs.declared.claims.Head.TheVariants.{Plan, TooLong}
use Rattle.l4_plan_lines.specs.declared.found.WrongLine.{WrongLine}
use Rattle.l4_plan_lines.specs.declared.found.LineFault.{LineFault}
use Rattle.l4_plan_lines.specs.declared.found.LineFault.TheVariants.{BadTokens, LineTooLong, CutLine}
use Rattle.l4_fpage.specs.declared.sizes.PageSize.{PageSize}

-- The message with this number, from 0, has the right tag: label 0, no untyped words, and two words for each item (L4 X.2 manual, IPC:
-- message tag).
abbrev pub IsRightTag : List ℕ → List Item → ℕ → Type 0
IsRightTag tags items k = get_or tags k 0 ≡ 128 * length (part_of_list items k)

abbrev pub AreRightTags : List ℕ → List Item → Type 0
AreRightTags tags items = (k : ℕ) → k < length tags → IsRightTag tags items k

pub record IsFirstWrongTag (tags : List ℕ) (items : List Item) (k : ℕ) : Type 0 where
  pub inside : k < length tags
  pub other : IsRightTag tags items k → ⊥
  pub before : (j : ℕ) → j < k → IsRightTag tags items j

-- the input claims that these items are a plan, in messages with the right tags
pub record ClaimsPlan (input : List ℕ) (claim : Claim) : Type 0 where
  pub whole : IsWhole input claim
  pub head : claim.head ≡ Some Plan
  pub fits : AreRightTags claim.tags.items claim.items.items

-- the input claims that every plan is too long
pub record ClaimsTooLong (input : List ℕ) (claim : Claim) : Type 0 where
  pub whole : IsWhole input claim
  pub head : claim.head ≡ Some TooLong

-- No other line is wrong, but a tag is not the right one for its items. This is the line of the first such tag.
pub record HasWrongTag (input : List ℕ) (wrong : WrongLine) : Type 0 where
  pub claim : Claim
  pub whole : IsWhole input claim
  pub head : claim.head ≡ Some Plan
  pub place : ℕ
  pub first : IsFirstWrongTag claim.tags.items claim.items.items place
  pub number : wrong.number ≡ (max_items + 1) * place + 1
  pub fault : wrong.fault ≡ BadTokens

-- the answer to an input, of which there is one
abbrev pub IsAnswer : PageSize → Region → List ℕ → Answer → Type 0
IsAnswer size r input (Refused wrong) = IsRefused input wrong ⊎ HasWrongTag input wrong
IsAnswer size r input (Faulty fault) =
    ((claim : Claim) × ClaimsPlan input claim × IsFirstFault size r claim.items.items claim.pages.items fault)
    ⊎ ((claim : Claim) × ClaimsTooLong input claim × IsFirstLongFault size r claim.pages.items fault)
IsAnswer size r input (ProvedPlan items) =
    (claim : Claim) × ClaimsPlan input claim × (items ≡ length claim.items.items)
    × ((fault : Fault) → Holds size r claim.items.items claim.pages.items fault → ⊥)
IsAnswer size r input ProvedTooLong =
    (claim : Claim) × ClaimsTooLong input claim × ((fault : Fault) → LongHolds size r claim.pages.items fault → ⊥)

-- ---- the text of an answer, without its newline

abbrev pub wrong_code : LineFault → List ℕ
wrong_code BadTokens = codes " refused S2"
wrong_code LineTooLong = codes " refused S3"
wrong_code CutLine = codes " refused S4"

abbrev pub wrong_line : WrongLine → List ℕ
wrong_line wrong = codes "line " ++ (decimal wrong.number ++ wrong_code wrong.fault)

abbrev pub fault_line : Fault → List ℕ
fault_line (InItem i) = codes "fault C1 " ++ decimal i
fault_line (Gap page) = codes "fault C2 " ++ decimal page
fault_line (Page i) = codes "fault C3 " ++ decimal i
fault_line (Pair i) = codes "fault C4 " ++ decimal i
fault_line Count = codes "fault C5"
fault_line InRegion = codes "fault C6"

abbrev pub answer_line : Answer → List ℕ
answer_line (Refused wrong) = wrong_line wrong
answer_line (Faulty fault) = fault_line fault
answer_line (ProvedPlan items) = codes "proved " ++ decimal items
answer_line ProvedTooLong = codes "proved too-long"

-- whether the claim is proved
abbrev pub is_proved : Answer → Bool
is_proved (Refused wrong) = false
is_proved (Faulty fault) = false
is_proved (ProvedPlan items) = true
is_proved ProvedTooLong = true

-- the reader delivered an input to its end; this is the answer to it, and the text of the answer
pub record Answered (size : PageSize) (r : Region) (before after : Option (List ℕ)) (answer : Answer) (text : List ℕ) : Type 0 where
  pub input : List ℕ
  pub read : Consumes before after input
  pub end : IsAtEnd after
  pub answered : IsAnswer size r input answer
  pub spelled : text ≡ ended (answer_line answer)
