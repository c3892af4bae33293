-- The results of checks of plans, as C gets them (this profile's own).
use Rattle.std.specs.Prelude.{◌≡◌, ◌⊎◌, ℕ, ◌+◌, ◌*◌, ◌%◌, ◌<◌, ◌≤◌, List, length, codes}
use Rattle.l4_fpage.specs.declared.sizes.PageSize.{PageSize}
use Rattle.l4_msg.specs.Regions.{IsRival, IsCertificate, NeedsAtLeast, NeedsMoreThan, max_plan_items}
use Rattle.l4_msg.specs.Words.{ItemsRead, FirstFails}
use Rattle.l4_msg.specs.declared.items.ItemFault.TheVariants.{Bad, Unsupported as LeftOut}
use Rattle.l4_msg.specs.declared.items.Item.{Item}
use Rattle.l4_msg.specs.declared.regions.Region.{Region}
use Rattle.l4_msg.specs.declared.messages.MsgFault.{MsgFault}
use Rattle.l4_msg.specs.declared.messages.MsgFault.TheVariants.{Short, TooManyWords, Flags, OddTyped, BadItem, Unsupported, BadWindow}
use Rattle.l4_plan_check.specs.Faults.{Holds, IsFirstFault, LongHolds, IsFirstLongFault}
use Rattle.l4_plan_check.specs.declared.faults.Fault.{Fault as AFault}
use Rattle.l4_plan_check.specs.declared.faults.Fault.TheVariants.{Region as InRegion, Item as InItem, Gap, Count, Page, Pair}
use Rattle.l4_answers.specs.Refusals.{message_refusal}
use Rattle.l4_refusals.specs.Texts.{spelled}
use Rattle.l4_c_values.specs.Told.{carried, told_place}
use Rattle.l4_c_queries.specs.Traced.{verdict_of}
use Rattle.l4_c_queries.specs.declared.tracing.Verdict.{Verdict}

abbrev pub fault_verdict : AFault → Verdict
fault_verdict InRegion = verdict_of (spelled (codes "C6")) 0
fault_verdict (InItem i) = verdict_of (spelled (codes "C1")) (told_place i)
fault_verdict (Gap page) = verdict_of (spelled (codes "C2")) page
fault_verdict Count = verdict_of (spelled (codes "C5")) 0
fault_verdict (Page i) = verdict_of (spelled (codes "C3")) (told_place i)
fault_verdict (Pair i) = verdict_of (spelled (codes "C4")) (told_place i)

-- the items and the pages have no fault: they are a shortest plan
pub record IsProved (size : PageSize) (r : Region) (items : List Item) (pages : List ℕ) : Type 0 where
  pub none : (fault : AFault) → Holds size r items pages fault → ⊥
  pub exact : IsRival size r items
  pub certificate : IsCertificate r pages
  pub one_each : length pages ≡ length items
  pub few : length items ≤ max_plan_items
  pub shortest : NeedsAtLeast size r (length items)

-- the largest number of words that the items of a plan have
abbrev pub max_plan_words : ℕ
max_plan_words = 2 * max_plan_items

-- the reason why words are not the items of a plan; each fault applies only if none of the earlier ones does
abbrev pub ItemsFail : List ℕ → MsgFault → Type 0
ItemsFail words TooManyWords = max_plan_words < length words
ItemsFail words OddTyped = (length words ≤ max_plan_words) × (length words % 2 ≡ 1)
ItemsFail words (Unsupported i) = (length words ≤ max_plan_words) × (length words % 2 ≡ 0) × FirstFails words i LeftOut
ItemsFail words (BadItem i) = (length words ≤ max_plan_words) × (length words % 2 ≡ 0) × FirstFails words i Bad
ItemsFail words Short = ⊥
ItemsFail words Flags = ⊥
ItemsFail words BadWindow = ⊥

-- The result is the fault of the words, if they are not items. Otherwise it is the first fault of the items and the pages, or success if
-- they have none.
abbrev pub TellsCheck : PageSize → Region → List ℕ → List ℕ → Verdict → Type 0
TellsCheck size r words pages v =
    ((fault : MsgFault) × ItemsFail words fault × (v ≡ verdict_of (spelled (message_refusal fault).name) (carried (message_refusal fault).number)))
    ⊎ ((items : List Item) × ItemsRead words items
    × (((fault : AFault) × IsFirstFault size r items pages fault × (v ≡ fault_verdict fault))
    ⊎ (IsProved size r items pages × (v ≡ verdict_of 0 0))))

-- the claim has no fault: these are 1,985 pages that prove every list to be too long
pub record IsProvedTooLong (size : PageSize) (r : Region) (pages : List ℕ) : Type 0 where
  pub none : (fault : AFault) → LongHolds size r pages fault → ⊥
  pub certificate : IsCertificate r pages
  pub many : length pages ≡ max_plan_items + 1
  pub too_long : NeedsMoreThan size r max_plan_items

-- the result is the first fault of that claim, or success if it has none
abbrev pub TellsLongCheck : PageSize → Region → List ℕ → Verdict → Type 0
TellsLongCheck size r pages v =
    ((fault : AFault) × IsFirstLongFault size r pages fault × (v ≡ fault_verdict fault))
    ⊎ (IsProvedTooLong size r pages × (v ≡ verdict_of 0 0))
