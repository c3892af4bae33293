-- What the words of a message mean as a whole (this profile's own).
use Rattle.std.specs.Prelude.{◌≡◌, ℕ, ◌/◌, List, ◌++◌, length, codes, decimal}
use Rattle.l4_fpage.specs.Pages.{page_bytes}
use Rattle.l4_fpage.specs.declared.sizes.PageSize.{PageSize}
use Rattle.l4_msg.specs.Messages.{MessageReads, MessageFails}
use Rattle.l4_msg.specs.Protocols.{FaultReads, RequestReads}
use Rattle.l4_msg.specs.declared.messages.Message.{Message}
use Rattle.l4_msg.specs.declared.protocols.PageFault.{PageFault}
use Rattle.l4_msg.specs.declared.protocols.FrameRequest.{FrameRequest}
use Rattle.l4_answers.specs.Pages.{rights_text}
use Rattle.l4_decode.specs.Fpages.{place_text}
use Rattle.l4_decode.specs.Refusals.{refusal_text}
use Rattle.l4_decode.specs.Spelling.{hex_text}
use Rattle.l4_decode.specs.declared.meanings.Meaning.{Meaning}
use Rattle.l4_decode.specs.declared.meanings.Meaning.TheVariants.{Refused, Fault, Request, Plain}

-- a message of neither protocol, with this number of untyped words and of items
pub record IsPlain (m : Message) (untyped items : ℕ) : Type 0 where
  pub no_fault : (fault : PageFault) → ¬ FaultReads m fault
  pub no_request : (request : FrameRequest) → ¬ RequestReads m request
  pub untyped_are : untyped ≡ length m.untyped.items
  pub items_are : items ≡ length m.items.items

-- THE MEANING OF WORDS: the reason why they are refused, or what the message is
abbrev pub Means : List ℕ → Meaning → Type 0
Means words (Refused fault) = MessageFails words fault
Means words (Fault fault) = (m : Message) × MessageReads words m × FaultReads m fault
Means words (Request request) = (m : Message) × MessageReads words m × RequestReads m request
Means words (Plain untyped items) = (m : Message) × MessageReads words m × IsPlain m untyped items

unfoldable pub fault_text : PageSize → PageFault → List ℕ
fault_text size fault =
    codes "page fault: address " ++ hex_text fault.address ++ codes " (page " ++ decimal (fault.address / page_bytes size) ++ codes "), ip "
    ++ hex_text fault.ip ++ codes ", access " ++ rights_text fault.access

unfoldable pub request_text : PageSize → FrameRequest → List ℕ
request_text size request =
    codes "request to sigma0: " ++ place_text size request.fpage ++ codes ", attributes " ++ hex_text request.attributes

unfoldable pub whole_text : PageSize → Meaning → List ℕ
whole_text size (Refused fault) = refusal_text fault
whole_text size (Fault fault) = fault_text size fault
whole_text size (Request request) = request_text size request
whole_text size (Plain untyped items) = codes "message: untyped " ++ decimal untyped ++ codes ", items " ++ decimal items
