-- Messages as C gets them (this profile's own).
use Rattle.std.specs.Prelude.{◌≡◌, ℕ, List, [], length}
use Rattle.l4_msg.specs.Messages.{MessageFails, message_words}
use Rattle.l4_msg.specs.declared.messages.Message.{Message}
use Rattle.l4_msg.specs.declared.messages.MsgFault.{MsgFault}
use Rattle.l4_answers.specs.Refusals.{message_refusal}
use Rattle.l4_refusals.specs.Texts.{spelled}
use Rattle.l4_c_values.specs.Told.{carried, filled}
use Rattle.l4_c_values.specs.declared.messages.MessageResult.{MessageResult}

-- no message; the code and its number say why
abbrev pub no_message_result : ℕ → ℕ → MessageResult
no_message_result code number = record { refusal = code; detail = number; word_count = 0; words = filled 64 [] }

-- the words of a message
abbrev pub message_result : Message → MessageResult
message_result m = record { refusal = 0; detail = 0; word_count = length (message_words m); words = filled 64 (message_words m) }

-- the reason why the words are not a message
abbrev pub TellsUnread : List ℕ → MessageResult → Type 0
TellsUnread words r =
    (fault : MsgFault) × MessageFails words fault × (r ≡ no_message_result (spelled (message_refusal fault).name) (carried (message_refusal fault).number))
