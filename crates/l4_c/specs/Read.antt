-- Page faults and requests for frames, as C reads them (this profile's own).
use Rattle.std.specs.Prelude.{◌≡◌, ◌⊎◌, ℕ, List}
use Rattle.l4_msg.specs.Messages.{MessageReads, MessageFails}
use Rattle.l4_msg.specs.declared.messages.Message.{Message}
use Rattle.l4_msg.specs.declared.messages.MsgFault.{MsgFault}
use Rattle.l4_answers.specs.Refusals.{message_refusal}
use Rattle.l4_refusals.specs.Texts.{spelled}
use Rattle.l4_c_values.specs.Told.{carried}
use Rattle.l4_c_values.specs.Protocols.{no_fault_result, TellsFaultOf, no_request_result, TellsRequestOf}
use Rattle.l4_c_values.specs.declared.protocols.FaultResult.{FaultResult}
use Rattle.l4_c_values.specs.declared.protocols.RequestResult.{RequestResult}

-- the result is that of the message which the words are, or the reason why they are not a message
abbrev pub TellsFault : List ℕ → FaultResult → Type 0
TellsFault words r =
    ((unread : MsgFault) × MessageFails words unread × (r ≡ no_fault_result (spelled (message_refusal unread).name) (carried (message_refusal unread).number)))
    ⊎ ((m : Message) × MessageReads words m × TellsFaultOf m r)

-- the result is that of the message which the words are, or the reason why they are not a message
abbrev pub TellsRequest : List ℕ → RequestResult → Type 0
TellsRequest words r =
    ((unread : MsgFault) × MessageFails words unread × (r ≡ no_request_result (spelled (message_refusal unread).name) (carried (message_refusal unread).number)))
    ⊎ ((m : Message) × MessageReads words m × TellsRequestOf m r)
