-- Entries are read as they were written.
use Rattle.std.proofs.Common.{◌≡◌, ℕ, Bool, true, false, List, [], ◌∷◌, length, ◌≤◌, Some, refl, sym, ap, subst, ◌∙◌}
use Rattle.l4_fpage.specs.Rights.{bits_of}
use Rattle.l4_ipc.specs.declared.calls.Call.{Call}
use Rattle.l4_ipc.specs.declared.calls.Call.TheVariants.{Ipc, Fault}
use Rattle.l4_ipc.specs.declared.calls.FaultCall.{FaultCall}
use Rattle.l4_ipc.specs.declared.calls.IpcCall.{IpcCall}
use Rattle.l4_ipc.specs.declared.steps.Answer.{Answer}
use Rattle.l4_ipc.specs.declared.steps.NextStep.{NextStep}
use Rattle.l4_ipc.specs.declared.steps.NextStep.TheVariants.{Transfer as Transferred, Expire as Expires}
use Rattle.l4_ipc.specs.declared.steps.Outcome.{Outcome}
use Rattle.l4_ipc.specs.NextSteps.{own_answer}
use Rattle.l4_journal.specs.Codes.{call_tag, call_fields, outcome_code, AnswerFits, CallFits}
use Rattle.l4_journal.proofs.RoundTrip.{call_again, answer_again, outcome_again}
use Rattle.l4_record.specs.Following.{next_entry, start_entry, cancel_entry}
use Rattle.l4_record.specs.Inside.Words.{answered_code, ends_word, next_code, entry_of, entry_at, cause_word}
use Rattle.l4_ipc.specs.declared.steps.CancelCause.{CancelCause}
use Rattle.l4_ipc.specs.declared.steps.CancelCause.TheVariants.{Timeout, Canceled}

pub answered_again : (seat : ℕ) (call : Call) (answer : Answer) → CallFits call → AnswerFits answer → entry_at (answered_code seat call answer) ≡ Some (start_entry seat call answer)
unfolding entry_at entry_of
answered_again seat call answer fits few = rw (answer_again answer (call_tag call ∷ call_fields call) few, call_again call fits) refl

-- an Ipc whose message's words are these
pub ipc_again : (seat : ℕ) (call : IpcCall) (words : List ℕ) → words ≡ call.words.items → length words ≤ 64
    → entry_at (0 ∷ seat ∷ call.to.0 ∷ call.«from».0 ∷ call.timeouts ∷ call.acceptor ∷ words) ≡ Some (start_entry seat (Ipc call) (own_answer false 0))
unfolding entry_at entry_of
ipc_again seat call words same few =
    let fits : CallFits (Ipc call) = subst (λ (l : List ℕ). length l ≤ 64) same few in
    ap (λ (l : List ℕ). entry_at (0 ∷ seat ∷ call.to.0 ∷ call.«from».0 ∷ call.timeouts ∷ call.acceptor ∷ l)) same ∙ rw (call_again (Ipc call) fits) refl

pub fault_again : (seat : ℕ) (call : FaultCall) (word : ℕ) → word ≡ bits_of call.access → entry_at (1 ∷ seat ∷ call.address ∷ call.ip ∷ word ∷ []) ≡ Some (start_entry seat (Fault call) (own_answer false 0))
unfolding entry_at entry_of
fault_again seat call word is = ap (λ n. entry_at (1 ∷ seat ∷ call.address ∷ call.ip ∷ n ∷ [])) is ∙ rw (call_again (Fault call) tt) refl

next_again : (seat : ℕ) (next : NextStep) → entry_at (next_code seat next) ≡ Some (next_entry seat next)
unfolding entry_at entry_of
next_again seat (Transferred s r outcome true) = rw (outcome_again outcome) refl
next_again seat (Transferred s r outcome false) = rw (outcome_again outcome) refl
next_again seat (Expires n) = refl

pub transfer_again : (seat : ℕ) (next : NextStep) (sender receiver code word : ℕ) (outcome : Outcome) (ends : Bool) → next ≡ Transferred sender receiver outcome ends
    → code ≡ outcome_code outcome → word ≡ ends_word ends → entry_at (6 ∷ seat ∷ sender ∷ receiver ∷ code ∷ word ∷ []) ≡ Some (next_entry seat next)
transfer_again seat next sender receiver code word outcome ends is code_is word_is =
    ap (λ n. entry_at (6 ∷ seat ∷ sender ∷ receiver ∷ n ∷ word ∷ [])) code_is
    ∙ ap (λ n. entry_at (6 ∷ seat ∷ sender ∷ receiver ∷ outcome_code outcome ∷ n ∷ [])) word_is
    ∙ next_again seat (Transferred sender receiver outcome ends)
    ∙ ap (λ (n : NextStep). Some (next_entry seat n)) (sym is)

pub expire_again : (seat : ℕ) (next : NextStep) (waiter : ℕ) → next ≡ Expires waiter → entry_at (7 ∷ seat ∷ waiter ∷ []) ≡ Some (next_entry seat next)
expire_again seat next waiter is = next_again seat (Expires waiter) ∙ ap (λ (n : NextStep). Some (next_entry seat n)) (sym is)

pub cancel_again : (n word : ℕ) (cause : CancelCause) → word ≡ cause_word cause → entry_at (9 ∷ 0 ∷ n ∷ word ∷ []) ≡ Some (cancel_entry n cause)
unfolding entry_at entry_of
cancel_again n word Timeout is = ap (λ k. entry_at (9 ∷ 0 ∷ n ∷ k ∷ [])) is
cancel_again n word Canceled is = ap (λ k. entry_at (9 ∷ 0 ∷ n ∷ k ∷ [])) is
