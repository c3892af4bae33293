-- A wait that was canceled: the call that ended is noted in its book.
use Rattle.std.proofs.Common.{◌≡◌, ℕ, List, [], ◌∷◌, ◌++◌, Result, Ok, Err, length, map, refl, sym, ap, ◌∙◌, subst}
use Rattle.std.specs.Prelude.{IfErr, IsErrAnd}
use Rattle.std.specs.Option.{option_map}
use Rattle.l4_ipc.specs.declared.steps.CancelCause.{CancelCause}
use Rattle.l4_record.specs.declared.entries.Entry.{Entry}
use Rattle.l4_record.specs.declared.refusals.RecordRefusal.{RecordRefusal}
use Rattle.l4_record.specs.declared.refusals.RecordRefusal.TheVariants.{HistoryFull as IsFull, NoMemory as LacksMemory, Kernel as FromKernel}
use Rattle.l4_record.specs.Following.{cancel_entry}
use Rattle.l4_record.specs.History.{Replays}
use Rattle.l4_record.specs.Recording.{Recording, IsKept as IsRecorded, Cancels as RecordedCancel, RefusesCancel as RecordRefuses}
use Rattle.l4_record.proofs.Going.{replays_more}
use Rattle.l4_lock.specs.declared.refusals.LockRefusal.{LockRefusal}
use Rattle.l4_lock.specs.Books.{Book, plain, book_at}
use Rattle.l4_lock.specs.Locked.{Lock, lock, refusal_of, recording_of, IsKept, Cancels, RefusesCancel}
use Rattle.l4_lock.specs.Inside.Entering.{CancelsNoted, IsRefusalOf}
use Rattle.l4_lock.specs.Inside.Noting.{noted}
use Rattle.l4_lock.specs.Shared.{DeclinesCancel}
use Rattle.l4_lock.proofs.Right.{plain_noted}
use Rattle.l4_lock.proofs.Started.{AreBooks, books_of, with_books, quiet_books, plain_at}
use Rattle.l4_lock.proofs.Taking.{lock_of, kept_of}

pub canceled : (old new : Recording) (n : ℕ) (cause : CancelCause) (place : ℕ) (books later : List Book) → RecordedCancel old new n cause → IsRecorded new → place ≡ length old.history
    → later ≡ map (noted new.kernel (n ∷ []) place) books → CancelsNoted n cause old new books later
canceled old new n cause place books later r kept from notes =
    let e : Entry = cancel_entry n cause in
    let es : List Entry = old.history in
    let is : later ≡ map (noted new.kernel (n ∷ []) (length es)) books = notes ∙ ap (λ k. map (noted new.kernel (n ∷ []) k) books) from in
    record {
      recorded = r;
      kept = kept;
      right = λ right.
          let replays : Replays old.frames (es ++ e ∷ []) new.kernel = replays_more old.frames es old.kernel e new.kernel right.replays refl r.steps in
          let all : AreBooks old.frames (es ++ e ∷ []) new.kernel (map (noted new.kernel (n ∷ []) (length es)) books) =
          quiet_books old.frames es old.kernel e new.kernel books (books_of old.frames es old.kernel books right) replays (λ k h. h) r.steps in
          with_books new.frames new.history new.kernel later kept.legal
          (subst (λ (f : ℕ). AreBooks f new.history new.kernel later) (sym r.same.0)
          (subst (λ (h : List Entry). AreBooks old.frames h new.kernel later) (sym r.history)
          (subst (λ (bs : List Book). AreBooks old.frames (es ++ e ∷ []) new.kernel bs) (sym is) all)));
      later_is = is;
    }

pub canceled_kept : (old new : Recording) (books later : List Book) (n : ℕ) (cause : CancelCause) → IsKept (lock_of old books) → CancelsNoted n cause old new books later → IsKept (lock_of new later)
canceled_kept old new books later n cause k b = kept_of new later b.kept (b.right k.right)

pub cancels : (old new : Recording) (books later : List Book) (n : ℕ) (cause : CancelCause) (l : Lock) → lock_of old books ≡ l → CancelsNoted n cause old new books later → Cancels l (lock_of new later) n cause
cancels old new books later n cause l view b =
    subst (λ (x : Lock). Cancels x (lock_of new later) n cause) view
    (record {
      recorded = b.recorded;
      books = λ m.
          plain_at later m
          ∙ ap (λ (xs : List Book). book_at xs m) (ap (map plain) b.later_is ∙ plain_noted new.kernel (n ∷ []) (length old.history) books)
          ∙ sym (plain_at books m);
    })

-- the lock's refusal is the recorder's
pub cancel_refused : (l : Lock) (n : ℕ) (cause : CancelCause) (e : LockRefusal) → IsRefusalOf (recording_of l) n cause e → RefusesCancel l n cause e
cancel_refused l n cause e why = subst (RefusesCancel l n cause) (sym why.1) (same why.0 why.2) where
  same : (r : RecordRefusal) → RecordRefuses (recording_of l) n cause r → RefusesCancel l n cause (refusal_of r)
  same IsFull h = h
  same LacksMemory h = h
  same (FromKernel x) h = h

-- a refusal that is passed on: nothing has changed
pub refused_on : {T : Type 0} (old new : Recording) (books later : List Book) (l : Lock) (n : ℕ) (cause : CancelCause) (r : Result T LockRefusal) (e : LockRefusal) → lock_of old books ≡ l → IsErrAnd r (λ y. y ≡ e) → (new ≡ old) × (later ≡ books)
    → IsRefusalOf old n cause e → IfErr r (λ x. RefusesCancel l n cause x × (lock_of new later ≡ l))
refused_on old new books later l n cause (Ok x) e view h same why = absurd h
refused_on old new books later l n cause (Err y) e view h same why = (
  subst (λ (x : Lock). RefusesCancel x n cause y) view (cancel_refused (lock_of old books) n cause y (subst (IsRefusalOf old n cause) (sym h) why)),
  (λ i. lock_of (same.0 i) (same.1 i)) ∙ view,
)

pub declined_on : {T : Type 0} (l : Lock) (n : ℕ) (cause : CancelCause) (r : Result T LockRefusal) (e : LockRefusal) → IsErrAnd r (λ y. y ≡ e) → IsKept l → RefusesCancel l n cause e → IfErr r (DeclinesCancel n cause)
declined_on l n cause (Ok x) e h kept why = absurd h
declined_on l n cause (Err y) e h kept why = (l, kept, subst (RefusesCancel l n cause) (sym h) why)
