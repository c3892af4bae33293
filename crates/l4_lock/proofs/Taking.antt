-- A reply is taken from the lock, and a call is entered: what the lock keeps.
use Rattle.std.proofs.Common.{◌≡◌, ◌≢◌, ℕ, ◌+◌, ◌<◌, ◌≤◌, ◌⊎◌, inl, inr, Bool, false, List, [], ◌∷◌, ◌++◌, length, Option, Some, None, Err, IfSome, IfNone, MatchOption, IsTrue, slice_get, slice_set, Contains, refl, sym, ap, ◌∙◌, subst, arith}
use Rattle.std.specs.Option.{option_map, option_map_or, option_and_then}
use Rattle.std.proofs.lemmas.Bool.{false≢true}
use Rattle.std.proofs.lemmas.Bool.Decides.{leb_tells}
use Rattle.std.proofs.lemmas.Option.{slice_get_within}
use Rattle.std.proofs.lemmas.List.Elements.{All-nil}
use Rattle.atomic_table.specs.Seated.{TableId}
use Rattle.l4_threads.specs.declared.Reply.{Reply}
use Rattle.l4_ipc.specs.declared.calls.Call.{Call}
use Rattle.l4_ipc.specs.declared.steps.Refused.{Refused}
use Rattle.l4_ipc.specs.declared.steps.Step.TheVariants.{Start}
use Rattle.l4_ipc.specs.Machine.{Machine}
use Rattle.l4_ipc.specs.Steps.{Steps}
use Rattle.l4_record.specs.declared.entries.Entry.{Entry}
use Rattle.l4_lock.specs.declared.entries.Receipt.{Receipt}
use Rattle.l4_lock.specs.declared.entries.Awaited.{Awaited}
use Rattle.l4_lock.specs.declared.entries.Ended.{Ended}
use Rattle.l4_lock.specs.declared.entries.Pending.{Pending}
use Rattle.l4_lock.specs.declared.refusals.LockRefusal.{LockRefusal}
use Rattle.l4_lock.specs.declared.refusals.LockRefusal.TheVariants.{NoMemory, Kernel as ByKernel}
use Rattle.l4_lock.specs.Receipts.{Proves}
use Rattle.l4_record.specs.Recording.{Recording, IsKept as IsRecorded}
use Rattle.l4_record.specs.Segments.{kept_count}
use Rattle.l4_lock.specs.Books.{SeatState, seat_state, Book, book_at, pending_at, reply_waits, has_ended, plain, receipts_at, numbers, IsOnce, receipt_of, HasNotEnded, IsPending, IsRight, AreRight, starts_of}
use Rattle.l4_lock.specs.Locked.{Lock, lock, IsKept, Enters, EndsAtOnce, IsLeft, Takes, Refuses, recording_of}
use Rattle.l4_lock.specs.Inside.Accounts.{Awaits, SettlesAt, IsUnsettled}
use Rattle.l4_lock.specs.Inside.Entering.{Begins, IsAdmitted, WaitsMore}
use Rattle.l4_lock.proofs.Right.{pend}
use Rattle.l4_lock.proofs.Started.{same_book, own_at, set_own, set_other, plain_at, get_there, read_all, right_settled, settled_right, set_same, at_number}

pub finished : (frames : ℕ) (es : List Entry) (kept_from : ℕ) (m : Machine) (books later : List Book) (board : TableId) (published place : ℕ) (before after : SeatState) (r : Option Reply)
    → IsKept (lock frames m es kept_from books board published)
    → IfSome r (λ reply. SettlesAt books later place before after reply) → IfNone r (IsUnsettled books later place before after)
    → IsKept (lock frames m es kept_from later board published)
finished frames es kept_from m books later board published place before after None k some none =
    record {
      right = subst (λ (l : List Book). AreRight frames es m l) (sym none.same) k.right;
      idle = k.idle;
      few = k.few;
      shown = k.shown;
      within = k.within;
      handed_out = k.handed_out;
      base = k.base;
    }
finished frames es kept_from m books later board published place before after (Some reply) k s none =
    record {
      right = subst (λ (l : List Book). AreRight frames es m l) (sym s.changed)
          (settled_right frames es m books place s.former s.settled s.settles.pending s.settles.ended k.right s.at s.settles.pending_is s.settles.ended_is s.settles.book_is).1;
      idle = k.idle;
      few = k.few;
      shown = k.shown;
      within = k.within;
      handed_out = k.handed_out;
      base = k.base;
    }

pub taken : (frames : ℕ) (es : List Entry) (kept_from : ℕ) (m : Machine) (books later : List Book) (board : TableId) (published place : ℕ) (before after : SeatState) (r : Option Reply)
    → IsKept (lock frames m es kept_from books board published) → book_at books before.number ≡ slice_get books place
    → IfSome r (λ reply. SettlesAt books later place before after reply)
    → IfSome r (λ reply. Takes (lock frames m es kept_from books board published) (lock frames m es kept_from later board published) before after reply)
taken frames es kept_from m books later board published place before after None k at some = some
taken frames es kept_from m books later board published place before after (Some reply) k at s =
    let x : Book = s.former in
    let y : Book = s.settled in
    let numbered : x.number ≡ before.number = at_number books before.number x (at ∙ s.at) in
    let same : y.number ≡ x.number = ap (λ (b : Book). b.number) s.settles.book_is in
    record {
      book = x;
      at = at ∙ s.at;
      later = y;
      settles = s.settles;
      proves = subst (λ (n : ℕ). Proves frames es n (receipt_of s.settles.pending s.settles.ended)) numbered
          (settled_right frames es m books place x y s.settles.pending s.settles.ended k.right s.at s.settles.pending_is s.settles.ended_is s.settles.book_is).0;
      settled = ap (λ (l : List Book). book_at l before.number) s.changed ∙ subst (λ (j : ℕ). book_at (slice_set books place y) j ≡ Some y) numbered (set_own books place x y s.at same k.right.apart);
      others = λ j ne. ap (λ (l : List Book). book_at l j) s.changed ∙ set_other books place x y j s.at same (λ e. ne (e ∙ numbered));
      same = (refl, refl, refl, refl);
      kept_from = refl;
    }

-- what was taken, and of which call
pub both : (P : Reply → Type 0) (Q : Type 0) (r : Option Reply) → IfSome r P → Q → IfSome r (λ reply. P reply × Q)
both P Q None p q = p
both P Q (Some reply) p q = (p, q)

pub awaited : (books : List Book) (n place : ℕ) (own : Awaited) → place < length books → book_at books n ≡ slice_get books place → ((b : Book) → slice_get books place ≡ Some b → Awaits b.pending own)
    → Awaits (pending_at books n) own
awaited books n place own lt at awaits =
    let there = get_there books place lt in
    subst (λ (o : Option Pending). Awaits o own) (sym (ap (option_and_then (λ (b : Book). b.pending)) (at ∙ there.1))) (awaits there.0 there.1)

pub not_taken : (frames : ℕ) (es : List Entry) (kept_from : ℕ) (m : Machine) (books later : List Book) (board : TableId) (published place : ℕ) (before after : SeatState) (r : Option Reply)
    → place < length books → book_at books before.number ≡ slice_get books place → IfNone r (IsUnsettled books later place before after)
    → IfNone r ((lock frames m es kept_from later board published ≡ lock frames m es kept_from books board published) × (after ≡ before) × ((before.waiting ≡ 0) ⊎ (reply_waits books before.number ≡ false)))
not_taken frames es kept_from m books later board published place before after (Some reply) lt at none = none
not_taken frames es kept_from m books later board published place before after None lt at none =
    let there = get_there books place lt in (
      ap (λ (l : List Book). lock frames m es kept_from l board published) none.same,
      none.seat,
      inr (ap (λ (o : Option Book). option_map_or has_ended (option_and_then (λ (b : Book). b.pending) o) false) (at ∙ there.1) ∙ none.none there.0 there.1),
    )

-- the lock with other books
abbrev pub settled_in : Lock → List Book → Lock
settled_in l later = record l { books = later }

-- ENTER

-- a lock whose recorder and books are these
abbrev pub lock_of : Recording → List Book → Lock
lock_of r books = lock r.frames r.kernel r.history r.kept_from books r.board r.published

pub kept_of : (r : Recording) (books : List Book) → IsRecorded r → AreRight r.frames r.history r.kernel books → IsKept (lock_of r books)
kept_of r books k right = record { right = right; idle = k.idle; few = k.few; shown = k.shown; within = k.within; handed_out = k.handed_out; base = k.base }

pub begun_kept : (old new : Recording) (books later : List Book) (n place : ℕ) (call : Call) → IsKept (lock_of old books) → Begins n call old new books later place → IsKept (lock_of new later)
begun_kept old new books later n place call k b = kept_of new later b.kept (b.right k.right)

pub begins_kept : (r : Recording) (books : List Book) → IsRecorded r → r.history ≡ [] → books ≡ [] → IsKept (lock_of r books)
begins_kept r books k none no_books =
    kept_of r books k
    (subst (λ (bs : List Book). AreRight r.frames r.history r.kernel bs) (sym no_books)
    (record {
      replays = k.legal.replays;
      events = k.legal.events;
      each = All-nil (IsRight r.frames r.history r.kernel);
      apart = tt;
      others = λ n other. ap (starts_of n) none;
    }))

pub has_room : (len : ℕ) (full : Bool) → full ≡ false → (999871 < len → IsTrue full) → len ≤ 999871
has_room len full is only =
    elim (leb_tells len 999871) [
      | inl less ↦ less.1
      | inr more ↦ absurd (false≢true (sym is ∙ only more.1))
    ]

-- one book may settle its call; those of other numbers are as they were, but for what is known of the ends of their calls
others_kept : (old new : Recording) (books later : List Book) (n place : ℕ) (call : Call) (y : Book) → Begins n call old new books later place → y.number ≡ n
    → (j : ℕ) → j ≢ n → option_map plain (book_at (slice_set later place y) j) ≡ option_map plain (book_at books j)
others_kept old new books later n place call y b same j ne =
    let opened : Book = record b.former { pending = Some (record { call = call; start = length old.history; ended = None }) } in
    ap (option_map plain) (set_other later place b.book y j b.at (same ∙ sym b.number) (λ e. ne (e ∙ b.number)))
    ∙ plain_at later j ∙ ap (λ (l : List Book). book_at l j) b.same ∙ sym (plain_at (slice_set books place opened) j)
    ∙ ap (option_map plain) (set_other books place b.former opened j b.former_at refl (λ e. ne (e ∙ b.former_number)))

pub placed : (old mid : Lock) (n : ℕ) (call : Call) (place : ℕ) → IsAdmitted old mid n call place → place < length mid.books
placed old mid n call place a = slice_get_within mid.books place a.begins.book a.begins.at

enters : (old mid : Lock) (later : List Book) (n : ℕ) (call : Call) (place : ℕ) (y : Book) → (a : IsAdmitted old mid n call place) → later ≡ slice_set mid.books place y → y.number ≡ n
    → book_at later n ≡ Some y → y.kept_from ≡ a.begins.former.kept_from → Enters old (settled_in mid later) n call
enters old mid later n call place y a changed numbered settled kept =
    let b = a.begins in
    let own : book_at old.books n ≡ Some b.former =
    subst (λ (j : ℕ). book_at old.books j ≡ Some b.former) b.former_number (own_at old.books place b.former b.former_at a.apart) in
    record {
      kept_from = ap (option_map (λ (z : Book). z.kept_from)) settled ∙ ap Some kept ∙ sym (ap (option_map (λ (z : Book). z.kept_from)) own);
      appended = b.appended;
      recorded = b.recorded;
      others = λ j ne. ap (λ (l : List Book). option_map plain (book_at l j)) changed
          ∙ others_kept (recording_of old) (recording_of mid) old.books mid.books n place call y b numbered j ne;
    }

-- what was kept of the number
former_kept : (old new : Recording) (books later : List Book) (n place : ℕ) (call : Call) → (b : Begins n call old new books later place) → IsOnce (numbers books)
    → receipts_at books n ≡ Some b.former.receipts
former_kept old new books later n place call b once =
    subst (λ (j : ℕ). receipts_at books j ≡ Some b.former.receipts) b.former_number (ap (option_map (λ (z : Book). z.receipts)) (own_at books place b.former b.former_at once))

same_call : (p q : Pending) → ◌≡◌ {A = Option Pending} (Some p) (Some q) → p ≡ q
same_call p q e = cc

-- the call has ended, and its receipt is the seat's
pub entered_done : (old mid : Lock) (later : List Book) (before between after : SeatState) (call : Call) (place : ℕ) (reply : Reply) → IsKept mid → IsAdmitted old mid before.number call place → WaitsMore before between
    → SettlesAt mid.books later place between after reply
    → Enters old (settled_in mid later) before.number call × EndsAtOnce old (settled_in mid later) before after call reply
entered_done old mid later before between after call place reply k a more t =
    let b = a.begins in
    let x : Book = t.former in
    let y : Book = t.settled in
    let s = t.settles in
    let here : x ≡ b.book = same_book x b.book (sym t.at ∙ b.at) in
    let its : s.pending ≡ b.pending = same_call s.pending b.pending (sym s.pending_is ∙ ap (λ (z : Book). z.pending) here ∙ b.pending_is) in
    let numbered : x.number ≡ before.number = ap (λ (z : Book). z.number) here ∙ b.number in
    let settled : book_at later before.number ≡ Some y =
    ap (λ (l : List Book). book_at l before.number) t.changed
    ∙ subst (λ (j : ℕ). book_at (slice_set mid.books place y) j ≡ Some y) numbered (set_own mid.books place x y t.at (ap (λ (z : Book). z.number) s.book_is) k.right.apart) in
    let had : receipts_at old.books before.number ≡ Some b.former.receipts =
    former_kept (recording_of old) (recording_of mid) old.books mid.books before.number place call b a.apart in (
      enters old mid later before.number call place y a t.changed (ap (λ (z : Book). z.number) s.book_is ∙ numbered) settled
          (ap (λ (z : Book). z.kept_from) s.book_is ∙ ap (λ (z : Book). z.kept_from) here ∙ b.kept_from),
      record {
        kept = ap (option_map (λ (z : Book). z.receipts)) settled ∙ ap (λ (rs : List Receipt). Some rs) (ap (λ (z : Book). z.receipts) s.book_is ∙ ap (λ (z : Book). z.receipts ++ receipt_of s.pending s.ended ∷ []) here ∙ ap (λ (rs : List Receipt). rs ++ receipt_of s.pending s.ended ∷ []) b.receipts)
            ∙ sym (ap (option_map (λ (rs : List Receipt). rs ++ receipt_of s.pending s.ended ∷ [])) had);
        taken = ap (option_and_then (λ (z : Book). z.pending)) settled ∙ ap (λ (z : Book). z.pending) s.book_is;
        receipt = receipt_of s.pending s.ended;
        enters = ap (λ (p : Pending). p.call) its ∙ b.pending_call;
        start = ap (λ (p : Pending). p.start) its ∙ b.pending_start;
        answers = sym s.answers;
        gains = record {
          number = s.number ∙ ap (λ (p : SeatState). p.number) more;
          waiting = (let w = s.waiting in let v = ap (λ (p : SeatState). p.waiting) more in omega (arith, w, v));
          receipts = s.receipts ∙ ap (λ (p : SeatState). p.receipts ++ receipt_of s.pending s.ended ∷ []) more;
          kept_from = s.kept_from ∙ ap (λ (p : SeatState). p.kept_from) more;
          proves = subst (λ (j : ℕ). Proves mid.frames mid.history j (receipt_of s.pending s.ended)) numbered
              (right_settled mid.frames mid.history mid.kernel x s.pending s.ended (read_all (IsRight mid.frames mid.history mid.kernel) mid.books place x t.at k.right.each) s.pending_is s.ended_is).0;
        };
      },
    )

not_yet : (frames : ℕ) (es : List Entry) (m : Machine) (k : ℕ) (call : Call) (start : ℕ) (o : Option Ended) → IsPending frames es m k (pend call start o) → has_ended (pend call start o) ≡ false → HasNotEnded es m k start
not_yet frames es m k call start None p e = p.ended
not_yet frames es m k call start (Some f) p e = absurd (false≢true (sym e))

-- the call has not ended
pub entered_left : (old mid : Lock) (later : List Book) (before between after : SeatState) (call : Call) (place : ℕ) → IsKept mid → IsAdmitted old mid before.number call place → WaitsMore before between
    → IsUnsettled mid.books later place between after
    → Enters old (settled_in mid later) before.number call × IsLeft old (settled_in mid later) before after
entered_left old mid later before between after call place k a more none =
    let b = a.begins in
    let its : IsRight mid.frames mid.history mid.kernel b.book = read_all (IsRight mid.frames mid.history mid.kernel) mid.books place b.book b.at k.right.each in
    let pending : IsPending mid.frames mid.history mid.kernel b.book.number b.pending =
    subst (λ (o : Option Pending). MatchOption o (Unit {0}) (IsPending mid.frames mid.history mid.kernel b.book.number)) b.pending_is its.pending in
    let waits : has_ended b.pending ≡ false = sym (ap (λ (o : Option Pending). option_map_or has_ended o false) b.pending_is) ∙ none.none b.book b.at in
    let not_ended = not_yet mid.frames mid.history mid.kernel b.book.number b.pending.call b.pending.start b.pending.ended pending waits in
    let settled : book_at later before.number ≡ Some b.book =
    ap (λ (l : List Book). book_at l before.number) none.same ∙ subst (λ (j : ℕ). book_at mid.books j ≡ Some b.book) b.number (own_at mid.books place b.book b.at k.right.apart) in
    let had : receipts_at old.books before.number ≡ Some b.former.receipts =
    former_kept (recording_of old) (recording_of mid) old.books mid.books before.number place call b a.apart in (
      enters old mid later before.number call place b.book a (none.same ∙ sym (set_same mid.books place b.book b.at)) b.number settled b.kept_from,
      record {
        kept = ap (option_map (λ (z : Book). z.receipts)) settled ∙ ap (λ (rs : List Receipt). Some rs) b.receipts ∙ sym had;
        seat = none.seat ∙ more;
        not_ended = λ j entry after' at among.
            not_ended.not_ended j entry (let s = b.pending_start in omega (arith, after', s)) at (subst (λ (n : ℕ). Contains entry.answer.ended.items n) (sym b.number) among);
      },
    )

pub seat_back : (before between after : SeatState) → between ≡ record before { waiting = before.waiting + 1 } → between ≡ record after { waiting = after.waiting + 1 } → after ≡ before
seat_back before between after more less =
    let e : record after { waiting = after.waiting + 1 } ≡ record before { waiting = before.waiting + 1 } = sym less ∙ more in
    let w : after.waiting ≡ before.waiting = (let v = ap (λ (p : SeatState). p.waiting) e in omega (arith, v)) in
    λ i. record (seat_state (ap (λ (p : SeatState). p.number) e i) (w i) (ap (λ (p : SeatState). p.receipts) e i)) { kept_from = ap (λ (p : SeatState). p.kept_from) e i }

pub refuses : (frames : ℕ) (es : List Entry) (kept_from : ℕ) (m : Machine) (books : List Book) (board : TableId) (published n : ℕ) (call : Call) (e : LockRefusal) → reply_waits books n ≡ false → kept_count kept_from es ≤ 999871 → book_at books n ≢ None
    → ((e ≡ NoMemory) ⊎ ((r : Refused) × (e ≡ ByKernel r) × Steps m (Start n call) (Err r) m)) → Refuses (lock frames m es kept_from books board published) n call e
refuses frames es kept_from m books board published n call e waits few there why =
    let l : Lock = lock frames m es kept_from books board published in
    let none : ¬ (IsTrue (reply_waits books n)) = λ h. false≢true (sym waits ∙ h) in
    elim why [
      | inl is ↦ subst (Refuses l n call) (sym is) (none, few)
      | inr k ↦ subst (Refuses l n call) (sym k.1) (none, few, inr (there, k.2))
    ]

pub some_there : (o : Option Book) (b : Book) → o ≡ Some b → o ≢ None
some_there o b is none = let k : ◌≡◌ {A = Option Book} None (Some b) = sym none ∙ is in cc
