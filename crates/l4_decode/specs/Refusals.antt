-- The text of a message's refusal: its code, the number that some codes carry, and what they mean (this profile's own).
use Rattle.std.specs.Prelude.{ℕ, List, ◌++◌, codes}
use Rattle.l4_msg.specs.declared.messages.MsgFault.{MsgFault}
use Rattle.l4_answers.specs.Refusals.{message_refusal, number_text}
use Rattle.l4_refusals.specs.Texts.{spelled, texts, text_in}

-- what the code of a refusal means
abbrev pub reason_text : MsgFault → List ℕ
reason_text fault = (text_in texts (spelled (message_refusal fault).name)).1

unfoldable pub refusal_text : MsgFault → List ℕ
refusal_text fault =
    codes "refused " ++ (message_refusal fault).name ++ number_text (message_refusal fault).number ++ codes ": " ++ reason_text fault
