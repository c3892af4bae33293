-- The lines that ask for steps, as lists of steps spell them (this profile's own).
use Rattle.std.specs.Prelude.{ℕ, List, [], ◌∷◌, ◌++◌, codes, decimal}
use Rattle.std.specs.List.{flat_map}
use Rattle.l4_fpage.specs.Rights.{bits_of}
use Rattle.l4_ipc.specs.declared.calls.IpcCall.{IpcCall}
use Rattle.l4_ipc.specs.declared.calls.FaultCall.{FaultCall}
use Rattle.l4_ipc.specs.declared.calls.UnmapCall.{UnmapCall}
use Rattle.l4_ipc.specs.declared.calls.Control.{Control}
use Rattle.l4_ipc.specs.declared.calls.Control.TheVariants.{Create, SetPager, Delete}
use Rattle.l4_ipc.specs.declared.calls.Call.{Call}
use Rattle.l4_ipc.specs.declared.calls.Call.TheVariants.{Ipc, Fault, Unmap, Control as Controls}
use Rattle.l4_ipc.specs.declared.steps.Step.{Step}
use Rattle.l4_ipc.specs.declared.steps.Step.TheVariants.{Start, Transfer, Expire, Cancel}
use Rattle.l4_text.specs.Texts.{word_text}
use Rattle.l4_answers.specs.Replies.{space, newline, expire_text, cancel_text}

-- a word after a space, in hexadecimal
abbrev pub hex_text : ℕ → List ℕ
hex_text word = codes " 0x" ++ word_text word

abbrev pub hex_texts : List ℕ → List ℕ
hex_texts words = flat_map hex_text words

abbrev pub ipc_words : IpcCall → List ℕ
ipc_words call = codes " ipc" ++ hex_texts (call.to.0 ∷ call.from.0 ∷ call.timeouts ∷ call.acceptor ∷ []) ++ hex_texts call.words.items

-- the access is the sum of r (4), w (2) and x (1)
abbrev pub fault_words : FaultCall → List ℕ
fault_words call = codes " fault" ++ hex_texts (call.address ∷ call.ip ∷ []) ++ space ++ decimal (bits_of call.access)

abbrev pub unmap_words : UnmapCall → List ℕ
unmap_words call = codes " unmap" ++ hex_texts (call.control ∷ []) ++ hex_texts call.words.items

abbrev pub control_words : Control → List ℕ
control_words (Create new) = codes " create" ++ hex_texts (new.id.0 ∷ new.space.0 ∷ new.pager.0 ∷ [])
control_words (SetPager set) = codes " setpager" ++ hex_texts (set.id.0 ∷ set.pager.0 ∷ [])
control_words (Delete id) = codes " delete" ++ hex_texts (id.0 ∷ [])

abbrev pub call_words : Call → List ℕ
call_words (Ipc call) = ipc_words call
call_words (Fault call) = fault_words call
call_words (Unmap call) = unmap_words call
call_words (Controls control) = control_words control

abbrev pub pair_line : ℕ → ℕ → List ℕ
pair_line sender receiver = codes "transfer " ++ decimal sender ++ space ++ decimal receiver ++ newline

-- the line of a step
abbrev pub step_line : Step → List ℕ
step_line (Start number call) = codes "start " ++ decimal number ++ call_words call ++ newline
step_line (Transfer sender receiver) = pair_line sender receiver
step_line (Expire number) = expire_text number
step_line (Cancel number cause) = cancel_text number cause
