-- What answers that lack nothing say.
use Rattle.std.proofs.Common.{◌≡◌, ◌≢◌, ℕ, true, false, List, [], ◌∷◌, ◌++◌, Result, Ok, Err, sym, ◌∙◌, subst, inl, inr}
use Rattle.std.specs.List.{flat_map}
use Rattle.std.proofs.lemmas.Bool.{false≢true}
use Rattle.l4_ipc.specs.declared.calls.Call.{Call}
use Rattle.l4_ipc.specs.declared.steps.Answer.{Answer}
use Rattle.l4_ipc.specs.declared.steps.CancelCause.{CancelCause}
use Rattle.l4_ipc.specs.declared.steps.Outcome.{Outcome}
use Rattle.l4_ipc.specs.declared.steps.Outcome.TheVariants.{Started, NoMemory, Expired, Canceled}
use Rattle.l4_ipc.specs.declared.steps.Refused.{Refused}
use Rattle.l4_ipc.specs.declared.steps.Step.{Step}
use Rattle.l4_ipc.specs.declared.steps.Step.TheVariants.{Start, Transfer, Expire, Cancel}
use Rattle.l4_ipc.specs.Following.{Done, AreNext}
use Rattle.l4_ipc.specs.Machine.{Machine}
use Rattle.l4_ipc.specs.Steps.{Steps}
use Rattle.l4_answers.specs.Refusals.{kernel_refusal}
use Rattle.l4_answers.specs.Reports.{Report, Transferred}
use Rattle.l4_record.specs.Replays.{RanOut}
use Rattle.l4_record.specs.Seated.{is_among, Refuses as RefusesCall, RefusesCancel}
use Rattle.l4_record.specs.declared.refusals.RecordRefusal.{RecordRefusal}
use Rattle.l4_record.specs.declared.refusals.RecordRefusal.TheVariants.{HistoryFull, NoMemory as WantOfMemory, Kernel as ByKernel}
use Rattle.l4_record.proofs.OneAnswer.{one_answer}
use Rattle.l4_shell.specs.Refusals.{call_refusal}
use Rattle.l4_shell.specs.Sessions.{own_report, ended_reports, done_reports}
use Rattle.l4_determined.specs.Memory.{NoneRanOut}
use Rattle.l4_shell.specs.Lacking.{lacks, lacks_by_code, LacksNothing}

-- LISTS

pub nothing_parts : (a b : List Report) → LacksNothing (a ++ b) → LacksNothing a × LacksNothing b
nothing_parts [] b h = (tt, h)
nothing_parts (r ∷ a) b h = let rest = nothing_parts a b h.1 in ((h.0, rest.0), rest.1)

pub nothing_both : (a b : List Report) → LacksNothing a → LacksNothing b → LacksNothing (a ++ b)
nothing_both [] b p q = q
nothing_both (r ∷ a) b p q = (p.0, nothing_both a b p.1 q)

-- STEPS

memory_lacks : (sender receiver : ℕ) (outcome : Outcome) → lacks (Transferred sender receiver outcome) ≡ false → outcome ≢ NoMemory
memory_lacks sender receiver outcome h is = false≢true (sym (subst (λ (o : Outcome). lacks (Transferred sender receiver o) ≡ false) is h))

quiet : (old new : Machine) (step : Step) (answer : Answer) → Steps old step (Ok answer) new → LacksNothing (own_report step answer.outcome) → answer.outcome ≢ NoMemory
quiet old new (Start n call) answer x h is = let k : Started ≡ NoMemory = sym x.3 ∙ is in cc
quiet old new (Transfer s r) answer x h is = memory_lacks s r answer.outcome h.0 is
quiet old new (Expire n) answer x h is = let k : Expired ≡ NoMemory = sym x.1 ∙ is in cc
quiet old new (Cancel n cause) answer x h is = let k : Canceled ≡ NoMemory = sym x.1 ∙ is in cc

pub quiet_step : (old : Machine) (done : Done) → Steps old done.step (Ok done.answer) done.after → LacksNothing (done_reports done) → ¬ (RanOut (Ok done.answer))
quiet_step old done x h = quiet old done.after done.step done.answer x (nothing_parts (own_report done.step done.answer.outcome) (ended_reports done.after done.answer.ended.items) h).0

pub quiet_steps : (old new : Machine) (steps : List Done) → AreNext old steps new → LacksNothing (flat_map done_reports steps) → NoneRanOut steps
quiet_steps old new [] x h = tt
quiet_steps old new (done ∷ steps) x h =
    let parts = nothing_parts (done_reports done) (flat_map done_reports steps) h in
    (quiet_step old done x.1 parts.0, quiet_steps done.after new steps x.2 parts.1)

-- REFUSALS

-- a call that is refused, but not for want of memory or room, is not entered in the same state
pub not_entered : (m new : Machine) (entries : ℕ) (numbers : List ℕ) (n : ℕ) (call : Call) (refusal : RecordRefusal) (answer : Answer)
    → RefusesCall m entries numbers n call refusal → lacks_by_code (call_refusal refusal).name ≡ false → is_among n numbers ≡ true
    → Steps m (Start n call) (Ok answer) new → ¬ (RanOut (Ok answer)) → ⊥
not_entered m new entries numbers n call HistoryFull answer refused h seat taken quiet = false≢true (sym h)
not_entered m new entries numbers n call WantOfMemory answer refused h seat taken quiet = false≢true (sym h)
not_entered m new entries numbers n call (ByKernel e) answer (inl absent) h seat taken quiet = false≢true (sym absent.0 ∙ seat)
not_entered m new entries numbers n call (ByKernel e) answer (inr other) h seat taken quiet =
    let same : ◌≡◌ {A = Result Answer Refused} (Err e) (Ok answer) = one_answer m (Start n call) answer (Err e) new m taken other.1 quiet
    (λ is. false≢true (sym (subst (λ (r : Refused). lacks_by_code (kernel_refusal r).name ≡ false) is h))) in
    cc

-- a wait whose Cancel is refused, but not for want of memory or room, is not canceled in the same state
pub not_canceled : (m new : Machine) (entries n : ℕ) (cause : CancelCause) (refusal : RecordRefusal) (answer : Answer)
    → RefusesCancel m entries n cause refusal → lacks_by_code (call_refusal refusal).name ≡ false → Steps m (Cancel n cause) (Ok answer) new → ⊥
not_canceled m new entries n cause HistoryFull answer refused h taken = false≢true (sym h)
not_canceled m new entries n cause WantOfMemory answer refused h taken = false≢true (sym h)
not_canceled m new entries n cause (ByKernel e) answer refused h taken = refused.1.0 taken.0
