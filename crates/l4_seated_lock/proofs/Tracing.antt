-- What is said of a history by the frames and the size that were read, said of the lock's own.
use Rattle.std.proofs.Common.{◌≡◌, ℕ, suc, inl, inr, List, [], ◌∷◌, ◌++◌, length, slice_get, Option, Some, Result, Ok, Err, MatchResult, refl, sym, ap, ◌∙◌, subst}
use Rattle.l4_fpage.specs.declared.sizes.PageSize.{PageSize}
use Rattle.l4_ipc.specs.Machine.{Machine}
use Rattle.l4_ipc.specs.Runs.{Run}
use Rattle.l4_ipc.specs.Steps.{Steps}
use Rattle.l4_ipc.proofs.OneState.{one_step}
use Rattle.l4_ipc.proofs.SizeStays.{size_stays}
use Rattle.l4_record.specs.declared.entries.Entry.{Entry}
use Rattle.l4_record.specs.History.{Follows, steps_of, answers_of}
use Rattle.l4_record.specs.Laws.{IsWholeRun}
use Rattle.l4_lock.specs.Locked.{Lock}
use Rattle.l4_record.specs.declared.faults.ReplayFault.{ReplayFault}
use Rattle.l4_record.specs.declared.faults.ReplayFault.TheVariants.{NoMemory, OtherAnswer}
use Rattle.l4_record.specs.Replays.{RanOut, StopsIn, IsNotReplayed, IsNotRepeated}
use Rattle.l4_record.proofs.OneAnswer.{one_answer, ran_out_or_not}
use Rattle.l4_provenance.proofs.Back.{one_boot}

pub of_lock : (P : ℕ → PageSize → List Entry → Type 0) (a l : Lock) (view : a ≡ l) (frames : ℕ) (read_frames : frames ≡ a.frames) (kernel : Machine) (read_kernel : kernel ≡ l.kernel)
    (size : PageSize) (read_size : size ≡ kernel.size) (history : List Entry) (read_history : history ≡ l.history) → P frames size history → P l.frames l.kernel.size l.history
of_lock P a l view frames read_frames kernel read_kernel size read_size history read_history h =
    subst (λ (f : ℕ). P f l.kernel.size l.history) (read_frames ∙ ap (λ (k : Lock). k.frames) view)
    (subst (λ (s : PageSize). P frames s l.history) (read_size ∙ ap (λ (m : Machine). m.size) read_kernel)
    (subst (λ (es : List Entry). P frames size es) read_history h))

-- WHERE A HISTORY IS NOT REPLAYED

-- the recorded step of the entry behind those that lead to the machine
recorded_step : (earlier : List Entry) (old now end : Machine) (last : Option ℕ) (entry : Entry) (later : List Entry) → Follows old last (earlier ++ entry ∷ later) end
    → Run old (steps_of earlier) (answers_of earlier) now → (next : Machine) × Steps now entry.step (Ok entry.answer) next
recorded_step [] old now end last entry later follows run = (follows.1.0, subst (λ (m : Machine). Steps m entry.step (Ok entry.answer) follows.1.0) (sym run) follows.1.1)
recorded_step (e ∷ earlier) old now end last entry later follows run =
    let same : run.0 ≡ follows.1.0 = one_step old e.step (Ok e.answer) run.0 follows.1.0 run.1 follows.1.1 in
    recorded_step earlier follows.1.0 now end (Some e.seat) entry later follows.1.2 (subst (λ (m : Machine). Run m (steps_of earlier) (answers_of earlier) now) same run.2)

one_size : (entries : List Entry) (old end : Machine) (last : Option ℕ) → Follows old last entries end → end.size ≡ old.size
one_size [] old end last follows = ap (λ (m : Machine). m.size) follows
one_size (e ∷ entries) old end last follows = one_size entries follows.1.0 end (Some e.seat) follows.1.2 ∙ size_stays old e.step (Ok e.answer) follows.1.0 follows.1.1

entry_at : (earlier : List Entry) (entry : Entry) (later : List Entry) → slice_get (earlier ++ entry ∷ later) (length earlier) ≡ Some entry
entry_at [] entry later = refl
entry_at (e ∷ earlier) entry later = entry_at earlier entry later

-- an entry of a recorded history whose step gets another answer now, in which memory does not run out, says that it ran out
entry_ran_out : (history : List Entry) (boot end after : Machine) (last : Option ℕ) (number : ℕ) → Follows boot last history end → StopsIn boot history after (OtherAnswer number)
    → (entry : Entry) × (slice_get history number ≡ Some entry) × RanOut (Ok entry.answer)
entry_ran_out history boot end after last number follows s =
    let recorded = recorded_step s.earlier boot s.before end last s.entry s.later (subst (λ (es : List Entry). Follows boot last es end) s.history_is follows) s.run in
    elim s.fails.why [
      | inl h ↦ absurd (let k : OtherAnswer number ≡ NoMemory = h.1 in cc)
      | inr h ↦
          let fault : OtherAnswer number ≡ OtherAnswer (length s.earlier) = h.1 in
          let place : number ≡ length s.earlier = cc in (
            s.entry,
            ap (λ (es : List Entry). slice_get es number) s.history_is ∙ ap (λ (n : ℕ). slice_get (s.earlier ++ s.entry ∷ s.later) n) place ∙ entry_at s.earlier s.entry s.later,
            elim (ran_out_or_not s.entry.answer) [
              | inl ran ↦ ran
              | inr not ↦ absurd (s.fails.other (one_answer s.before s.entry.step s.entry.answer s.fails.answer recorded.0 after recorded.1 s.fails.step not h.0))
            ],
          )
    ]

not_repeated_by : (l : Lock) → IsWholeRun l.frames l.history l.kernel → (fault : ReplayFault) → IsNotReplayed l.frames l.kernel.size l.history fault → IsNotRepeated l.frames l.kernel.size l.history fault
not_repeated_by l whole fault is = record {
  is = is;
  ran_out = λ number same.
      (let other : IsNotReplayed l.frames l.kernel.size l.history (OtherAnswer number) = subst (IsNotReplayed l.frames l.kernel.size l.history) same is in
      let follows = whole.replays.follows in
      let size : other.0.size ≡ whole.replays.boot.size = other.1.1 ∙ one_size l.history whole.replays.boot l.kernel _ follows in
      let boot : other.0 ≡ whole.replays.boot = one_boot l.frames other.0 whole.replays.boot other.1.0 whole.replays.boots size in
      entry_ran_out l.history whole.replays.boot l.kernel other.2.0 _ number follows (subst (λ (m : Machine). StopsIn m l.history other.2.0 (OtherAnswer number)) boot other.2.1));
}

pub not_repeated : {X : Type 0} (l : Lock) (r : Result X ReplayFault) (P : X → Type 0) → IsWholeRun l.frames l.history l.kernel → MatchResult r P (IsNotReplayed l.frames l.kernel.size l.history)
    → MatchResult r P (IsNotRepeated l.frames l.kernel.size l.history)
not_repeated l (Ok x) P whole h = h
not_repeated l (Err fault) P whole h = not_repeated_by l whole fault h
