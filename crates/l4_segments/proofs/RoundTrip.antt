-- Entries are read as they were written.
use Rattle.std.proofs.Common.{◌≡◌, ◌≤◌, ℕ, length, Some, refl, arith}
use Rattle.std.proofs.lemmas.List.{length-append}
use Rattle.l4_ipc.specs.declared.calls.Call.{Call}
use Rattle.l4_ipc.specs.declared.calls.Call.TheVariants.{Ipc, Fault, Unmap, Control as Controls}
use Rattle.l4_ipc.specs.declared.calls.Control.TheVariants.{Create, SetPager, Delete}
use Rattle.l4_ipc.specs.declared.steps.Answer.{Answer}
use Rattle.l4_ipc.specs.declared.steps.Step.{Step}
use Rattle.l4_ipc.specs.declared.steps.Step.TheVariants.{Start, Transfer, Expire, Cancel}
use Rattle.l4_journal.specs.Codes.{call_fields, answer_code, AnswerFits, CallFits}
use Rattle.l4_journal.proofs.RoundTrip.{call_again, answer_again}
use Rattle.l4_record.specs.declared.entries.Entry.{Entry}
use Rattle.l4_segments.specs.Entries.{entry_code, step_code, entry_at, step_of, EntryFits, StepFits}
use Rattle.l4_ipc.specs.declared.steps.CancelCause.TheVariants.{Timeout, Canceled}

entry_of : (seat : ℕ) (answer : Answer) (step : Step) → AnswerFits answer → StepFits step → entry_at (entry_code (record { seat = seat; step = step; answer = answer })) ≡ Some (record { seat = seat; step = step; answer = answer })
unfolding entry_at step_of
entry_of seat answer (Start n call) few fits = rw (answer_again answer (step_code (Start n call)) few, call_again call fits) refl
entry_of seat answer (Transfer s r) few fits = rw (answer_again answer (step_code (Transfer s r)) few) refl
entry_of seat answer (Expire n) few fits = rw (answer_again answer (step_code (Expire n)) few) refl
entry_of seat answer (Cancel n Timeout) few fits = rw (answer_again answer (step_code (Cancel n Timeout)) few) refl
entry_of seat answer (Cancel n Canceled) few fits = rw (answer_again answer (step_code (Cancel n Canceled)) few) refl

pub entry_again : (entry : Entry) → EntryFits entry → entry_at (entry_code entry) ≡ Some entry
entry_again entry fits = entry_of entry.seat entry.answer entry.step fits.0 fits.1

-- AN ENTRY HAS FEW WORDS

few_fields : (call : Call) → CallFits call → length (call_fields call) ≤ 68
few_fields (Ipc c) fits = omega (arith, fits)
few_fields (Fault f) fits = omega arith
few_fields (Unmap u) fits = omega (arith, fits)
few_fields (Controls (Create c)) fits = omega arith
few_fields (Controls (SetPager s)) fits = omega arith
few_fields (Controls (Delete id)) fits = omega arith

few_steps : (step : Step) → StepFits step → length (step_code step) ≤ 71
few_steps (Start n call) fits = let few = few_fields call fits in omega (arith, few)
few_steps (Transfer s r) fits = omega arith
few_steps (Expire n) fits = omega arith
few_steps (Cancel n cause) fits = omega arith

pub few_words : (entry : Entry) → EntryFits entry → length (entry_code entry) ≤ 144
few_words entry fits =
    let few = few_steps entry.step fits.1 in
    let ended = fits.0 in
    omega (arith, few, ended, length-append (answer_code entry.answer) (step_code entry.step))
