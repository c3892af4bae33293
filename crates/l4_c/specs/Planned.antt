-- Plans as C gets them (this profile's own).
use Rattle.std.specs.Prelude.{◌≡◌, ◌⊎◌, ℕ, ◌<◌, ◌≤◌, List, [], length, codes}
use Rattle.l4_fpage.specs.declared.sizes.PageSize.{PageSize}
use Rattle.l4_msg.specs.Messages.{message_words}
use Rattle.l4_msg.specs.Regions.{IsEmpty, IsOutOfSpace, InSpace, HasNoRights, messages_of, part_of_list}
use Rattle.l4_msg.specs.declared.regions.Region.{Region}
use Rattle.l4_msg.specs.declared.messages.Message.{Message}
use Rattle.l4_plan.specs.Plan.{Listing, Sends}
use Rattle.l4_plan.specs.Shortest.{IsShortest, IsTooLong}
use Rattle.l4_refusals.specs.Texts.{spelled}
use Rattle.l4_c_values.specs.Told.{filled}
use Rattle.l4_c_queries.specs.Placed.{placed}
use Rattle.l4_c.specs.declared.planning.PartResult.{PartResult}
use Rattle.l4_c.specs.declared.planning.PlanResult.{PlanResult}

-- the number of items and of messages; or the code of the reason why there is no plan, and zeros
abbrev pub plan_result : ℕ → ℕ → ℕ → PlanResult
plan_result code items messages = record { refusal = code; items = items; messages = messages }

-- the size of the shortest plan of a region for pages of this size, or the reason why there is none
abbrev pub TellsPlan : PageSize → Region → PlanResult → Type 0
TellsPlan size r p =
    ((list : Listing) × IsShortest size r list × (p ≡ plan_result 0 (length list.items) (messages_of (length list.items))))
    ⊎ (IsEmpty r × (p ≡ plan_result (spelled (codes "N1")) 0 0))
    ⊎ ((0 < r.count) × IsOutOfSpace size r × (p ≡ plan_result (spelled (codes "N2")) 0 0))
    ⊎ ((0 < r.count) × InSpace size r × HasNoRights r × (p ≡ plan_result (spelled (codes "N3")) 0 0))
    ⊎ ((pages : List ℕ) × IsTooLong size r pages × (p ≡ plan_result (spelled (codes "N4")) 0 0))

-- the number of messages, and the words and the pages of one of them; or the code of the reason why there is none
abbrev pub part_result : ℕ → ℕ → List ℕ → List ℕ → PartResult
part_result code messages words pages = record {
  refusal = code;
  messages = messages;
  word_count = length words;
  page_count = length pages;
  words = filled 64 words;
  pages = filled 31 pages;
}

-- the message with this number of the plan, with the first page of each of its items; or N6, if the plan has no such message
abbrev pub PartIsTold : Listing → ℕ → PartResult → Type 0
PartIsTold plan number p =
    ((m : Message) × Sends (part_of_list plan.items number) m × (number < messages_of (length plan.items))
    × (p ≡ part_result 0 (messages_of (length plan.items)) (message_words m) (part_of_list plan.pages number)))
    ⊎ ((messages_of (length plan.items) ≤ number) × (p ≡ part_result (spelled (codes "N6")) (messages_of (length plan.items)) [] []))

-- a message of the shortest plan of a region for pages of this size, or the reason why there is none
abbrev pub TellsPart : PageSize → Region → ℕ → PartResult → Type 0
TellsPart size r number p =
    ((list : Listing) × IsShortest size r list × PartIsTold list number p)
    ⊎ (IsEmpty r × (p ≡ part_result (spelled (codes "N1")) 0 [] []))
    ⊎ ((0 < r.count) × IsOutOfSpace size r × (p ≡ part_result (spelled (codes "N2")) 0 [] []))
    ⊎ ((0 < r.count) × InSpace size r × HasNoRights r × (p ≡ part_result (spelled (codes "N3")) 0 [] []))
    ⊎ ((pages : List ℕ) × IsTooLong size r pages × (p ≡ part_result (spelled (codes "N4")) 0 [] []))

-- the pages of the shortest plan of the region for pages of this size, or those that prove every list to be too long, or none
abbrev pub TellsPages : PageSize → Region → List ℕ → List ℕ → ℕ → Type 0
TellsPages size r old new count =
    ((list : Listing) × IsShortest size r list × (count ≡ length list.pages) × (new ≡ placed list.pages old))
    ⊎ ((pages : List ℕ) × IsTooLong size r pages × (count ≡ length pages) × (new ≡ placed pages old))
    ⊎ ((IsEmpty r ⊎ IsOutOfSpace size r ⊎ HasNoRights r) × (count ≡ 0) × (new ≡ old))
