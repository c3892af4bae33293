-- The codes of refusals, and the text of a refused line (this profile's own).
use Rattle.std.specs.Prelude.{ℕ, List, [], ◌++◌, Option, Some, None, codes, decimal, refl}
use Rattle.std.specs.Coded.{Coded, code_by, coded×, coded_ℕ, coded_list, coded_option}
use Rattle.l4_ipc.specs.declared.steps.Refused.{Refused}
use Rattle.l4_ipc.specs.declared.steps.Refused.TheVariants.{NotEnabled, UnknownThread, Busy, BadTimeout, Lower as Below, BadFrames}
use Rattle.l4_ipc.specs.declared.steps.Lower.TheVariants.{Message, Unmap, Thread, NoMemory as LacksMemory}
use Rattle.l4_unmap.specs.declared.UnmapFault.{UnmapFault}
use Rattle.l4_unmap.specs.declared.UnmapFault.TheVariants.{BadFpage, TooFew}
use Rattle.l4_msg.specs.declared.messages.MsgFault.{MsgFault}
use Rattle.l4_msg.specs.declared.messages.MsgFault.TheVariants.{TooManyWords, OddTyped, BadItem, Unsupported, Flags, BadWindow, Short}
use Rattle.l4_threads.specs.declared.ThreadFault.{ThreadFault}
use Rattle.l4_threads.specs.declared.ThreadFault.TheVariants.{NoPrivilege, BadId, Taken, Unknown, Full, Kept}
use Rattle.l4_answers.specs.Replies.{space, newline}

-- a code, and the number that some codes carry
pub record Refusal : Type 0 where
  pub name : List ℕ
  pub number : Option ℕ

-- a refusal is stored as its name and its number
abbrev pub refusal_code : Coded Refusal
refusal_code = code_by (List ℕ × Option ℕ) (coded× (coded_list coded_ℕ) (coded_option coded_ℕ)) (λ a. (a.name, a.number)) (λ p. record { name = p.0; number = p.1 }) (λ _. refl)

abbrev pub plainly : List ℕ → Refusal
plainly name = record { name = name; number = None }

abbrev pub at_place : List ℕ → ℕ → Refusal
at_place name place = record { name = name; number = Some place }

abbrev pub message_refusal : MsgFault → Refusal
message_refusal TooManyWords = plainly (codes "M1")
message_refusal OddTyped = plainly (codes "M2")
message_refusal (BadItem item) = at_place (codes "M3") item
message_refusal (Unsupported item) = at_place (codes "M4") item
message_refusal Flags = plainly (codes "M5")
message_refusal BadWindow = plainly (codes "M6")
message_refusal Short = plainly (codes "M7")

abbrev pub thread_refusal : ThreadFault → Refusal
thread_refusal NoPrivilege = plainly (codes "H1")
thread_refusal BadId = plainly (codes "H2")
thread_refusal Taken = plainly (codes "H3")
thread_refusal Unknown = plainly (codes "H4")
thread_refusal Full = plainly (codes "H5")
thread_refusal Kept = plainly (codes "H6")

abbrev pub unmap_refusal : UnmapFault → Refusal
unmap_refusal (BadFpage word) = at_place (codes "U1") word
unmap_refusal TooFew = plainly (codes "U2")

-- the code of a refusal of the kernel; for `Lower`, that of the lower layer
abbrev pub kernel_refusal : Refused → Refusal
kernel_refusal NotEnabled = plainly (codes "K1")
kernel_refusal UnknownThread = plainly (codes "K2")
kernel_refusal Busy = plainly (codes "K3")
kernel_refusal BadTimeout = plainly (codes "K4")
kernel_refusal (Below (Message fault)) = message_refusal fault
kernel_refusal (Below (Unmap fault)) = unmap_refusal fault
kernel_refusal (Below (Thread fault)) = thread_refusal fault
kernel_refusal (Below LacksMemory) = plainly (codes "NoMemory")
kernel_refusal BadFrames = plainly (codes "K6")

abbrev pub number_text : Option ℕ → List ℕ
number_text None = []
number_text (Some number) = space ++ decimal number

abbrev pub refused_text : ℕ → Refusal → List ℕ
refused_text line refusal =
    codes "line " ++ decimal line ++ codes " refused " ++ refusal.name ++ number_text refusal.number ++ newline
