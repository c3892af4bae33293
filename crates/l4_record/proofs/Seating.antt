-- A call that the recorder entered, as a kernel with its seats tells it.
use Rattle.std.proofs.Common.{◌≡◌, ℕ, true, List, Result, Ok, Err, IfOk, refl, subst}
use Rattle.l4_ipc.specs.declared.calls.Call.{Call}
use Rattle.l4_record.specs.declared.appended.Appended.{Appended}
use Rattle.l4_record.specs.declared.refusals.RecordRefusal.{RecordRefusal}
use Rattle.l4_record.specs.Recording.{Recording, Enters as Recorded}
use Rattle.l4_record.specs.Seated.{Seated, seated, is_among}
use Rattle.l4_record.specs.Entering.{Enters}

pub ok_enters : {T : Type 0} (r : Result T RecordRefusal) (s : Seated) (old new : Recording) (numbers : List ℕ) (seen n : ℕ) (call : Call) (appended : Appended) → is_among n numbers ≡ true
    → seated old.kernel old.history numbers seen old.kept_from ≡ s → IfOk r (λ _. Recorded old new n call appended)
    → IfOk r (λ _. Enters s (seated new.kernel new.history numbers seen new.kept_from) n call appended)
ok_enters (Ok x) s old new numbers seen n call appended has is e =
    subst (λ (v : Seated). Enters v (seated new.kernel new.history numbers seen new.kept_from) n call appended) is
    (record {
      can = (has, e.room);
      started = e.started;
      starts = e.starts;
      lasts = e.lasts;
      next = e.next;
      few = e.few;
      idle = e.idle;
      history = e.history;
      same = (refl, refl, e.kept_from);
    })
ok_enters (Err x) s old new numbers seen n call appended has is e = e
