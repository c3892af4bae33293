-- Calls that were started, as they are told.
use Rattle.std.proofs.Common.{◌≡◌, ℕ, List, Some, Ok, Err, refl, sym, ap, ◌∙◌, inl, inr, subst, arith}
use Rattle.l4_ipc.specs.Machine.{Machine}
use Rattle.l4_ipc.specs.Steps.{Steps}
use Rattle.l4_ipc.specs.declared.steps.Refused.{Refused}
use Rattle.l4_ipc.specs.declared.steps.Refused.TheVariants.{NotEnabled, UnknownThread, Busy, BadTimeout, Lower, BadFrames}
use Rattle.l4_ipc.specs.declared.steps.Lower.TheVariants.{Message, Unmap, Thread, NoMemory}
use Rattle.l4_ipc.specs.declared.steps.Step.TheVariants.{Start}
use Rattle.l4_unmap.specs.declared.UnmapFault.TheVariants.{BadFpage, TooFew}
use Rattle.l4_msg.specs.declared.messages.MsgFault.TheVariants.{TooManyWords, OddTyped, BadItem, Unsupported, Flags, BadWindow, Short}
use Rattle.l4_threads.specs.declared.ThreadFault.TheVariants.{NoPrivilege, BadId, Taken, Unknown, Full, Kept}
use Rattle.l4_answers.specs.Refusals.{kernel_refusal}
use Rattle.l4_refusals.specs.Texts.{spelled}
use Rattle.l4_c.specs.Exports.{Starts, Follows, Goes}
use Rattle.l4_c_values.specs.declared.calls.CallGiven.{CallGiven}
use Rattle.l4_c_values.specs.declared.results.NextResult.{NextResult}
use Rattle.l4_c_values.specs.declared.results.StepResult.{StepResult}

-- a refusal of the kernel isn't told as 0
told_refusal : (e : Refused) → spelled (kernel_refusal e).name ≡ 0 → ⊥
told_refusal NotEnabled h = absurd (omega (arith, h))
told_refusal UnknownThread h = absurd (omega (arith, h))
told_refusal Busy h = absurd (omega (arith, h))
told_refusal BadTimeout h = absurd (omega (arith, h))
told_refusal (Lower (Message TooManyWords)) h = absurd (omega (arith, h))
told_refusal (Lower (Message OddTyped)) h = absurd (omega (arith, h))
told_refusal (Lower (Message (BadItem item))) h = absurd (omega (arith, h))
told_refusal (Lower (Message (Unsupported item))) h = absurd (omega (arith, h))
told_refusal (Lower (Message Flags)) h = absurd (omega (arith, h))
told_refusal (Lower (Message BadWindow)) h = absurd (omega (arith, h))
told_refusal (Lower (Message Short)) h = absurd (omega (arith, h))
told_refusal (Lower (Unmap (BadFpage word))) h = absurd (omega (arith, h))
told_refusal (Lower (Unmap TooFew)) h = absurd (omega (arith, h))
told_refusal (Lower (Thread NoPrivilege)) h = absurd (omega (arith, h))
told_refusal (Lower (Thread BadId)) h = absurd (omega (arith, h))
told_refusal (Lower (Thread Taken)) h = absurd (omega (arith, h))
told_refusal (Lower (Thread Unknown)) h = absurd (omega (arith, h))
told_refusal (Lower (Thread Full)) h = absurd (omega (arith, h))
told_refusal (Lower (Thread Kept)) h = absurd (omega (arith, h))
told_refusal (Lower NoMemory) h = absurd (omega (arith, h))
told_refusal BadFrames h = absurd (omega (arith, h))

some_is : (m n : Machine) → Some m ≡ Some n → m ≡ n
some_is m n e = cc

-- a call that is told as started goes on
pub goes_on : (old started new : Machine) (thread : ℕ) (g : CallGiven) (words : List ℕ) (places written : List NextResult) (start : StepResult) (count : ℕ)
    → Starts (Some old) thread g words start (Some started) → start.refusal ≡ 0 → Follows started places count written new
    → Goes old thread g words places (record { start = start; step_count = count }) written new
goes_on old started new thread g words places written start count (inl kind) zeroed follows = let e : 16947 ≡ 0 = sym (ap (λ (r : StepResult). r.refusal) kind.1) ∙ zeroed in absurd (omega (arith, e))
goes_on old started new thread g words places written start count (inr (call, is, (Ok answer, after, steps, told, held))) zeroed follows =
    inr (call, is, inr (answer, after, steps, told, subst (λ (m : Machine). Follows m places count written new) (some_is started after held) follows))
goes_on old started new thread g words places written start count (inr (call, is, (Err e, after, steps, told, held))) zeroed follows =
    absurd (told_refusal e (sym (ap (λ (r : StepResult). r.refusal) told) ∙ zeroed))

-- a call that is told as refused does nothing
pub goes_nowhere : (old new : Machine) (thread : ℕ) (g : CallGiven) (words : List ℕ) (places : List NextResult) (start : StepResult)
    → Starts (Some old) thread g words start (Some new) → (start.refusal ≡ 0 → ⊥) → Goes old thread g words places (record { start = start; step_count = 0 }) places new
goes_nowhere old new thread g words places start (inl kind) refused = inl (kind.0, ap (λ (r : StepResult). record { start = r; step_count = 0 }) kind.1, refl, some_is new old kind.2)
goes_nowhere old new thread g words places start (inr (call, is, (Ok answer, after, steps, told, held))) refused = absurd (refused (ap (λ (r : StepResult). r.refusal) told))
goes_nowhere old new thread g words places start (inr (call, is, (Err e, after, steps, told, held))) refused =
    inr (call, is, inl (e, subst (λ (m : Machine). Steps old (Start thread call) (Err e) m) (sym (some_is new after held)) steps, ap (λ (r : StepResult). record { start = r; step_count = 0 }) told, refl))
