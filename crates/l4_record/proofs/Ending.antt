-- A wait that was canceled, in the history and in the recorder's value.
use Rattle.std.proofs.Common.{◌≡◌, ℕ, ◌+◌, ◌≤◌, true, List, [], None, ◌∷◌, ◌++◌, length, Result, Ok, Err, IfOk, IfErr, refl, sym, ap, ◌∙◌, subst, arith}
use Rattle.std.proofs.lemmas.List.{length-append, append_assoc}
use Rattle.atomic_table.specs.Seated.{TableId}
use Rattle.l4_mapdb.specs.Mappings.{IsForest}
use Rattle.l4_threads.specs.Threads.{IsConsistent}
use Rattle.l4_ipc.specs.declared.steps.CancelCause.{CancelCause}
use Rattle.l4_ipc.specs.declared.steps.Step.TheVariants.{Cancel}
use Rattle.l4_ipc.specs.Machine.{Machine}
use Rattle.l4_ipc.specs.NextSteps.{cancel_answer}
use Rattle.l4_ipc.specs.Steps.{Steps}
use Rattle.l4_record.specs.declared.entries.Entry.{Entry}
use Rattle.l4_record.specs.declared.refusals.RecordRefusal.{RecordRefusal}
use Rattle.l4_record.specs.declared.refusals.RecordRefusal.TheVariants.{HistoryFull, NoMemory, Kernel as ByKernel}
use Rattle.l4_record.specs.Sizes.{last_start}
use Rattle.l4_record.specs.Following.{cancel_entry}
use Rattle.l4_record.specs.History.{Follows, IsLegal}
use Rattle.l4_record.specs.Recording.{Recording, recording, IsKept, Cancels as Recorded, RefusesCancel as RecordRefuses}
use Rattle.l4_record.specs.Seated.{Seated, seated, RefusesCancel}
use Rattle.l4_record.specs.Segments.{kept_count}
use Rattle.l4_record.specs.Entering.{Cancels}
use Rattle.l4_record.specs.Inside.Entering.{EndsWait}
use Rattle.l4_record.proofs.Going.{follows_more, legal_more, one_longer}
use Rattle.l4_record.proofs.Idle.{ends_idle}
use Rattle.l4_record.proofs.Parting.{kept_is, past_is}

pub wait_ended : (n : ℕ) (cause : CancelCause) (old new : Machine) (before after : List Entry) → IsConsistent old.threads
    → Steps old (Cancel n cause) (Ok (cancel_answer n)) new → IsForest new.mappings → after ≡ before ++ cancel_entry n cause ∷ [] → EndsWait n cause old new before after
wait_ended n cause old new before after consistent steps forest is =
    let e : Entry = cancel_entry n cause in
    record {
      steps = steps;
      history = is;
      idle = ends_idle old new n cause (cancel_answer n) consistent steps;
      legal = λ frames past l.
          subst (λ (h : List Entry). IsLegal frames h new) (sym (one_longer past before after e is)) (legal_more frames (past ++ before) old e new l refl steps forest);
      since = λ base f. subst (λ (l : List Entry). Follows base None l new) (sym is) (follows_more base None before old e new f refl steps);
    }

-- THE RECORDER'S VALUE

module _ (frames : ℕ) (old new : Machine) (past before room after : List Entry) (kept_from : ℕ) (board board' : TableId) (shown shown' : ℕ) (n : ℕ) (cause : CancelCause) (same : room ≡ before) (end : EndsWait n cause old new room after) (few : length before ≤ last_start) (handed : length past ≡ kept_from) where
  b : EndsWait n cause old new before after
  b = subst (λ (h : List Entry). EndsWait n cause old new h after) same end

  longer : length after ≡ length before + 1
  longer =
      let l = ap length b.history in
      omega (arith, l, length-append before (cancel_entry n cause ∷ []))

  pub ended_kept : IsKept (recording frames old (past ++ before) kept_from board shown) → shown' ≡ kept_from + length after
      → IsKept (recording frames new (past ++ after) kept_from board' shown')
  ended_kept kept is =
      let l = longer in
      record {
        legal = b.legal frames past kept.legal;
        idle = b.idle kept.idle;
        few = omega (arith, l, few, handed, length-append past after);
        shown = omega (arith, is, handed, length-append past after);
        within = omega (arith, handed, length-append past after);
        handed_out = kept.handed_out;
        base = record {
          base = kept.base.base;
          earlier = subst (λ (h : List Entry). IsLegal frames h kept.base.base) (past_is past before kept_from handed ∙ sym (past_is past after kept_from handed)) kept.base.earlier;
          idle = kept.base.idle;
          since = subst (λ (h : List Entry). Follows kept.base.base None h new) (sym (kept_is past after kept_from handed))
              (b.since kept.base.base (subst (λ (h : List Entry). Follows kept.base.base None h old) (kept_is past before kept_from handed) kept.base.since));
        };
      }

  pub cancels : IsKept (recording frames old (past ++ before) kept_from board shown) → board' ≡ board → (r : Recording) → recording frames old (past ++ before) kept_from board shown ≡ r
      → Recorded r (recording frames new (past ++ after) kept_from board' shown') n cause
  cancels kept is r view =
      subst (λ (x : Recording). Recorded x (recording frames new (past ++ after) kept_from board' shown') n cause) view
      (record {
        room = omega (arith, few, handed, length-append past before);
        steps = b.steps;
        idle = b.idle kept.idle;
        history = ap (λ (h : List Entry). past ++ h) b.history ∙ sym (append_assoc past before (cancel_entry n cause ∷ []));
        same = (refl, is);
        kept_from = refl;
      })

-- A KERNEL WITH ITS SEATS

pub ok_cancels : {T : Type 0} (r : Result T RecordRefusal) (s : Seated) (old new : Recording) (numbers : List ℕ) (seen n : ℕ) (cause : CancelCause)
    → seated old.kernel old.history numbers seen old.kept_from ≡ s → IfOk r (λ _. Recorded old new n cause)
    → IfOk r (λ _. Cancels s (seated new.kernel new.history numbers seen new.kept_from) n cause)
ok_cancels (Ok x) s old new numbers seen n cause is e =
    subst (λ (v : Seated). Cancels v (seated new.kernel new.history numbers seen new.kept_from) n cause) is
    (record { room = e.room; steps = e.steps; idle = e.idle; history = e.history; same = (refl, refl, e.kept_from) })
ok_cancels (Err x) s old new numbers seen n cause is e = e

same_refusal : (r : Recording) (n : ℕ) (cause : CancelCause) (e : RecordRefusal) → RecordRefuses r n cause e → RefusesCancel r.kernel (kept_count r.kept_from r.history) n cause e
same_refusal r n cause HistoryFull h = h
same_refusal r n cause NoMemory h = h
same_refusal r n cause (ByKernel e) h = h

pub err_cancels : {T : Type 0} (r : Result T RecordRefusal) (s : Seated) (old new : Recording) (numbers : List ℕ) (seen n : ℕ) (cause : CancelCause)
    → seated old.kernel old.history numbers seen old.kept_from ≡ s → IfErr r (λ e. RecordRefuses old n cause e × (new ≡ old))
    → IfErr r (λ e. RefusesCancel s.machine (kept_count s.kept_from s.history) n cause e × (seated new.kernel new.history numbers seen new.kept_from ≡ s))
err_cancels (Ok x) s old new numbers seen n cause is e = e
err_cancels (Err x) s old new numbers seen n cause is e = (
  subst (λ (v : Seated). RefusesCancel v.machine (kept_count v.kept_from v.history) n cause x) is (same_refusal old n cause x e.0),
  ap (λ (k : Recording). seated k.kernel k.history numbers seen k.kept_from) e.1 ∙ is,
)
