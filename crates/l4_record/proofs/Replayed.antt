-- Entries that are executed one after another.
use Rattle.std.proofs.Common.{◌≡◌, ◌≢◌, ℕ, ◌+◌, ◌<◌, ◌≤◌, ◌&&◌, ◌==◌, inl, inr, false, Result, Ok, Err, List, [], ◌∷◌, ◌++◌, length, take, drop, slice_get, Some, refl, sym, ap, ◌∙◌, subst, arith}
use Rattle.std.proofs.lemmas.List.{take_all, take_more, drop_more, take-append-drop, length-take-le}
use Rattle.std.proofs.lemmas.Option.{slice_get_within, get_or_from_slice_get}
use Rattle.std.proofs.lemmas.Bool.{false≢true}
use lib.Pointwise.{pointwise}
use denote.Enum.Bare.{sameb}
use Rattle.l4_mapdb.specs.Mappings.{IsForest}
use Rattle.l4_ipc.specs.contracts.steps.Outcome.{the_type}
use Rattle.l4_ipc.specs.declared.steps.Answer.{Answer}
use Rattle.l4_ipc.specs.declared.steps.Refused.{Refused}
use Rattle.l4_ipc.specs.Machine.{Machine}
use Rattle.l4_ipc.specs.Runs.{Run}
use Rattle.l4_ipc.proofs.Tracing.{run_of}
use Rattle.l4_record.specs.declared.entries.Entry.{Entry}
use Rattle.l4_record.specs.History.{steps_of, answers_of, HasEvents}
use Rattle.l4_record.proofs.Laws.{no_events, events_more}
use Rattle.l4_record.specs.declared.faults.ReplayFault.{ReplayFault}
use Rattle.l4_record.specs.declared.faults.ReplayFault.TheVariants.{BadFrames, NoMemory, OtherAnswer}
use Rattle.l4_record.specs.Replays.{FailsAt, StopsIn}
use Rattle.l4_record.specs.Inside.Walking.{Does}
use Rattle.l4_record.proofs.Same.{answer_same}

pub take_zero : (history : List Entry) → take 0 history ≡ []
take_zero [] = refl
take_zero (entry ∷ entries) = refl

-- the entry with a number is between those before it and those after it
split_at : (history : List Entry) (number : ℕ) (entry : Entry) → slice_get history number ≡ Some entry → history ≡ take number history ++ entry ∷ drop (number + 1) history
split_at history number entry at =
    sym (take-append-drop number history)
    ∙ ap (λ (es : List Entry). take number history ++ es)
    (drop_more history number entry (slice_get_within history number entry at) ∙ ap (λ (e : Entry). e ∷ drop (number + 1) history) (get_or_from_slice_get history number entry entry at))

-- the entries up to the one with a number, including it
pub with_next : (history : List Entry) (number : ℕ) (entry : Entry) → slice_get history number ≡ Some entry → take (number + 1) history ≡ take number history ++ entry ∷ []
with_next history number entry at =
    take_more history number entry (slice_get_within history number entry at)
    ∙ ap (λ (e : Entry). take number history ++ e ∷ []) (get_or_from_slice_get history number entry entry at)

-- this number of entries has been executed
pub record Done (boot : Machine) (history : List Entry) (number : ℕ) (now : Machine) : Type 0 where
  pub within : number ≤ length history
  pub events : HasEvents boot (take number history) now

pub done_first : (boot : Machine) (history : List Entry) → IsForest boot.mappings → Done boot history 0 boot
done_first boot history forest = record { within = omega arith; events = subst (λ (es : List Entry). HasEvents boot es boot) (sym (take_zero history)) (no_events boot forest) }

pub done_next : (boot : Machine) (history : List Entry) (number : ℕ) (now after : Machine) (entry : Entry) → slice_get history number ≡ Some entry → Does now entry after
    → Done boot history number now → IsForest after.mappings → Done boot history (number + 1) after
done_next boot history number now after entry at does d forest = record {
  within = let lt : number < length history = slice_get_within history number entry at in omega (arith, lt);
  events = subst (λ (es : List Entry). HasEvents boot es after) (sym (with_next history number entry at))
      (events_more boot (take number history) now entry after d.events does forest);
}

pub done_all : (boot : Machine) (history : List Entry) (number : ℕ) (now : Machine) → number ≡ length history → Done boot history number now → Run boot (steps_of history) (answers_of history) now
done_all boot history number now all d =
    let events : HasEvents boot history now = subst (λ (es : List Entry). HasEvents boot es now) (take_all number history (omega (arith, all))) d.events in
    run_of boot (steps_of history) (answers_of history) events.events now events.trace

-- an entry fails after these
pub done_fails : (boot : Machine) (history : List Entry) (number : ℕ) (now after : Machine) (entry : Entry) → slice_get history number ≡ Some entry → Done boot history number now
    → (fault : ReplayFault) → FailsAt number now entry after fault → StopsIn boot history after fault
done_fails boot history number now after entry at d fault h = record {
  earlier = take number history;
  entry = entry;
  later = drop (number + 1) history;
  history_is = split_at history number entry at;
  before = now;
  run = run_of boot (steps_of (take number history)) (answers_of (take number history)) d.events.events now d.events.trace;
  fails = subst (λ (n : ℕ). FailsAt n now entry after fault) (sym (length-take-le number history d.within)) h;
}

-- an answer that is not equal to the entry's is another answer, and so is each refusal
pub other_answer : (a b : Answer) → (sameb the_type a.outcome b.outcome && pointwise ◌==◌ a.ended.items b.ended.items) ≡ false → ◌≢◌ {A = Result Answer Refused} (Ok a) (Ok b)
other_answer a b unequal e =
    let both : ◌≡◌ {A = Result Answer Refused} (Ok a) (Ok b) = e in
    let one : a ≡ b = cc in
    false≢true (sym unequal ∙ answer_same a b one)

pub other_refusal : (e : Refused) (b : Answer) → ◌≢◌ {A = Result Answer Refused} (Err e) (Ok b)
other_refusal e b same = let k : ◌≡◌ {A = Result Answer Refused} (Err e) (Ok b) = same in cc

-- a replay that has begun does not stop because of the number of frames
pub stops_by_step : (boot : Machine) (history : List Entry) (after : Machine) → ¬ (StopsIn boot history after BadFrames)
stops_by_step boot history after s =
    elim s.fails.why [
      | inl h ↦ let k : BadFrames ≡ NoMemory = h.1 in cc
      | inr h ↦ let k : BadFrames ≡ OtherAnswer (length s.earlier) = h.1 in cc
    ]
