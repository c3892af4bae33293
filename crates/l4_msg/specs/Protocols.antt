-- The messages of two protocols: the page fault, and the request for frames that sigma0 answers (L4 X.2 manual, page fault
-- protocol and sigma0 protocol; the labels are this profile's own).
use Rattle.std.specs.Prelude.{◌≡◌, ℕ, ◌+◌, ◌*◌, [], ◌∷◌, Some}
use Rattle.l4_fpage.specs.Rights.{RightsSet, bits_of}
use Rattle.l4_fpage.specs.Fpages.{bytes_of, rights_of}
use Rattle.l4_fpage.specs.declared.fpages.Fpage.{Fpage}
use Rattle.l4_fpage.specs.declared.fpages.Fpage.TheVariants.{Nil}
use Rattle.l4_fpage.specs.Pages.{page_bytes, page_log}
use Rattle.l4_fpage.specs.declared.sizes.PageSize.{PageSize}
use Rattle.l4_msg.specs.Words.{WindowReads}
use Rattle.l4_msg.specs.declared.items.Item.{Item}
use Rattle.l4_msg.specs.declared.items.Item.TheVariants.{Map}
use Rattle.l4_msg.specs.declared.messages.Message.{Message}
use Rattle.l4_msg.specs.declared.protocols.PageFault.{PageFault}
use Rattle.l4_msg.specs.declared.protocols.FrameRequest.{FrameRequest}

-- the label of a fault without access: -2 in twelve bits, then four zero bits; the access stands in the low three of these
abbrev pub fault_label : ℕ
fault_label = 0xffe0

-- the label of a request: -6 in twelve bits, then four zero bits
abbrev pub request_label : ℕ
request_label = 0xffa0

-- the message that tells a fault: its access in the label, the fault address and the instruction pointer, no item
abbrev pub fault_message : PageFault → Message
fault_message fault = record {
  label = fault_label + bits_of fault.access;
  untyped = record { items = fault.address ∷ fault.ip ∷ [] };
  items = record { items = [] };
}

-- the message is this fault
pub record FaultReads (m : Message) (fault : PageFault) : Type 0 where
  pub label : m.label ≡ fault_label + bits_of fault.access
  pub untyped : m.untyped.items ≡ fault.address ∷ fault.ip ∷ []
  pub items : m.items.items ≡ []

-- The message is this request: the words are the fpage, whose low four bits mean nothing, and the attributes; there is no item.
pub record RequestReads (m : Message) (request : FrameRequest) : Type 0 where
  pub word : ℕ
  pub label : m.label ≡ request_label
  pub untyped : m.untyped.items ≡ word ∷ request.attributes ∷ []
  pub items : m.items.items ≡ []
  pub reads : WindowReads word request.fpage

-- an answer: label 0, one item
abbrev pub one_item : Item → Message
one_item item = record { label = 0; untyped = record { items = [] }; items = record { items = item ∷ [] } }

-- the answer that gives nothing: a nil map item
abbrev pub nothing : Message
nothing = one_item (Map 0 Nil)

-- the answer is one map item: 2 ^ log pages of this size from `source` on, with these rights, for the bytes from the page `target` on
pub record GivesPages (size : PageSize) (source target log : ℕ) (rights : RightsSet) (answer : Message) : Type 0 where
  pub fpage : Fpage
  pub bytes : bytes_of fpage ≡ Some (record { base = source * page_bytes size; log = log + page_log size })
  pub rights_are : rights_of fpage ≡ rights
  pub is : answer ≡ one_item (Map (target * page_bytes size) fpage)
