-- The line of a step, read again (this profile's own).
use Rattle.std.specs.Prelude.{ℕ, ◌≡◌, ◌^◌, ◌<◌, ◌≤◌, List, [], ◌∷◌, length, Some, Ok}
use Rattle.l4_msg.specs.Sizes.{max_words}
use Rattle.l4_ipc.specs.declared.calls.Call.{Call}
use Rattle.l4_ipc.specs.declared.calls.Call.TheVariants.{Ipc, Fault, Unmap, Control as Controls}
use Rattle.l4_ipc.specs.declared.calls.Control.{Control}
use Rattle.l4_ipc.specs.declared.calls.Control.TheVariants.{Create, SetPager, Delete}
use Rattle.l4_ipc.specs.declared.steps.Step.{Step}
use Rattle.l4_ipc.specs.declared.steps.Step.TheVariants.{Start, Transfer, Expire, Cancel}
use Rattle.l4_step_lines.specs.declared.requests.Request.TheVariants.{Do}
use Rattle.l4_step_lines.specs.Steps.{step_line}
use Rattle.l4_text.specs.Grammar.{TextLine, lines_of}
use Rattle.l4_step_lines.specs.Lists.{asked_of}

-- each number is a word of 32 bits
abbrev pub AreWords : List ℕ → Type 0
AreWords [] = Unit {0}
AreWords (n ∷ ns) = (n < 2 ^ 32) × AreWords ns

-- the ranges that the fields of calls and steps have as they are stored
abbrev pub IsControl : Control → Type 0
IsControl (Create new) = AreWords (new.id.0 ∷ new.space.0 ∷ new.pager.0 ∷ [])
IsControl (SetPager set) = AreWords (set.id.0 ∷ set.pager.0 ∷ [])
IsControl (Delete id) = AreWords (id.0 ∷ [])

abbrev pub IsCall : Call → Type 0
IsCall (Ipc call) = AreWords (call.to.0 ∷ call.from.0 ∷ call.timeouts ∷ call.acceptor ∷ call.words.items) × (length call.words.items ≤ max_words)
IsCall (Fault call) = AreWords (call.address ∷ call.ip ∷ [])
IsCall (Unmap call) = AreWords (call.control ∷ call.words.items) × (length call.words.items ≤ max_words)
IsCall (Controls control) = IsControl control

abbrev pub IsStep : Step → Type 0
IsStep (Start number call) = (number < 2 ^ 32) × IsCall call
IsStep (Transfer sender receiver) = AreWords (sender ∷ receiver ∷ [])
IsStep (Expire number) = AreWords (number ∷ [])
IsStep (Cancel number cause) = AreWords (number ∷ [])

-- the line of a step asks for this step, wherever it stands in a list
abbrev pub ReadsBack : Type 0
ReadsBack = (step : Step) (number : ℕ) → IsStep step → (line : TextLine) × (lines_of (step_line step) ≡ line ∷ []) × (asked_of number line ≡ Ok (Some (Do step)))
