-- What a call appended is noted: what was right of the books is right of the longer history.
use Rattle.std.proofs.Common.{◌≡◌, ℕ, zero, suc, ◌+◌, ◌<◌, ◌≤◌, Bool, true, false, if◌then◌else◌, List, [], ◌∷◌, ◌++◌, length, map, drop, slice_get, slice_set, Option, Some, None, Ok, Contains, refl, sym, ap, ◌∙◌, subst, arith, get_or}
use Rattle.std.specs.Option.{option_map, option_map_or}
use Rattle.std.proofs.lemmas.List.{length-append, drop_more}
use Rattle.std.proofs.lemmas.Option.{slice_get-map}
use Rattle.l4_threads.specs.declared.Reply.{Reply}
use Rattle.l4_threads.specs.declared.Reply.TheVariants.{Gone}
use Rattle.l4_ipc.specs.declared.calls.Call.{Call}
use Rattle.l4_ipc.specs.declared.steps.NextStep.{NextStep}
use Rattle.l4_ipc.specs.declared.steps.Step.{Step}
use Rattle.l4_ipc.specs.declared.steps.Step.TheVariants.{Start, Transfer, Expire}
use Rattle.l4_ipc.specs.Machine.{Machine}
use Rattle.l4_ipc.specs.NextSteps.{step_of, answer_of}
use Rattle.l4_ipc.specs.Reading.{reply_of}
use Rattle.l4_ipc.specs.Steps.{Steps, IsNext}
use Rattle.l4_record.specs.declared.appended.Appended.{Appended}
use Rattle.l4_record.specs.declared.entries.Entry.{Entry}
use Rattle.l4_record.specs.Following.{start_entry, next_entry, ComeNext}
use Rattle.l4_record.specs.History.{IsSeated, Replays}
use Rattle.l4_record.specs.Inside.Entering.{last_seat}
use Rattle.l4_record.specs.Recording.{Recording, IsKept as IsRecorded, Enters as Recorded}
use Rattle.l4_record.proofs.Going.{replays_more, seated_next, last_is}
use Rattle.l4_lock.specs.declared.entries.Pending.{Pending}
use Rattle.l4_lock.specs.Books.{Book, plain, is_among, numbers, IsOnce, AreRight}
use Rattle.l4_lock.specs.Inside.Entering.{Begins}
use Rattle.l4_lock.specs.Inside.Noting.{reply_in, noted_call, noted, noted_steps}
use Rattle.l4_lock.proofs.Right.{pend, among_contains, plain_noted}
use Rattle.l4_lock.proofs.Noting.{once_noted}
use Rattle.l4_lock.proofs.Started.{AreBooks, books_of, with_books, started_books, next_books, set_get, same_plain, same_pending}

-- NOTES AT THE END

-- what is noted at the end is what was noted right after the step, where the replies last
module _ (now after : Machine) (ended : List ℕ) (place : ℕ) (lasts : (k : ℕ) → Contains ended k → reply_of now.threads k ≡ reply_of after.threads k) where
  same_if : (n : ℕ) (p : Pending) (b : Bool) → is_among n ended ≡ b
      → option_map_or (λ e. p) p.ended (if b then record p { ended = Some (record { entry = place; reply = reply_in now n }) } else p)
      ≡ option_map_or (λ e. p) p.ended (if b then record p { ended = Some (record { entry = place; reply = reply_in after n }) } else p)
  same_if n p true is =
      let same : reply_in now n ≡ reply_in after n = ap (λ (o : Option Reply). option_map_or (λ reply. reply) o Gone) (lasts n (among_contains n ended is)) in
      ap (λ (r : Reply). option_map_or (λ e. p) p.ended (record p { ended = Some (record { entry = place; reply = r }) })) same
  same_if n p false is = refl

  in_option : (n : ℕ) (o : Option Pending) → option_map (noted_call now ended place n) o ≡ option_map (noted_call after ended place n) o
  in_option n None = refl
  in_option n (Some p) = ap (λ (q : Pending). Some q) (same_if n p (is_among n ended) refl)

  pub same_notes : (books : List Book) → map (noted now ended place) books ≡ map (noted after ended place) books
  same_notes [] = refl
  same_notes (b ∷ bs) = λ i. record b { pending = in_option b.number b.pending i } ∷ same_notes bs i

-- STEP AFTER STEP

append_none : (l : List Entry) → l ≡ l ++ []
append_none [] = refl
append_none (x ∷ l) = ap (λ (r : List Entry). x ∷ r) (append_none l)

append_two : (a b : List Entry) (e : Entry) → (a ++ e ∷ []) ++ b ≡ a ++ e ∷ b
append_two [] b e = refl
append_two (x ∷ a) b e = ap (λ (l : List Entry). x ∷ l) (append_two a b e)

longer_by : (es : List Entry) (e : Entry) → length (es ++ e ∷ []) ≡ length es + 1
longer_by es e = omega (arith, length-append es (e ∷ []))

pub follow_books : (frames n : ℕ) (es : List Entry) (m : Machine) (steps : List NextStep) (now : Machine) (books : List Book) → AreBooks frames es m books → Replays frames es m → last_seat None es ≡ Some n
    → ComeNext m steps now → AreBooks frames (es ++ map (next_entry n) steps) now (noted_steps now (length es) steps books)
follow_books frames n es m [] now books b r last come =
    subst (λ (l : List Entry). AreBooks frames l now books) (append_none es) (subst (λ (x : Machine). AreBooks frames es x books) (sym come) b)
follow_books frames n es m (s ∷ steps) now books b r last come =
    let e : Entry = next_entry n s in
    let after : Machine = come.1.0 in
    let notes : List Book = map (noted after (answer_of s).ended.items (length es)) books in
    let replays : Replays frames (es ++ e ∷ []) after = replays_more frames es m e after r (seated_next m (last_seat None es) n (step_of s) last come.0) come.1.1 in
    let here : AreBooks frames (es ++ e ∷ []) after notes = next_books frames es m e after books b replays come.0 come.1.1 in
    let rest : AreBooks frames ((es ++ e ∷ []) ++ map (next_entry n) steps) now (noted_steps now (length (es ++ e ∷ [])) steps notes) =
    follow_books frames n (es ++ e ∷ []) after steps now notes here replays (last_is None es e) come.1.3 in
    let same : map (noted now (answer_of s).ended.items (length es)) books ≡ notes = same_notes now after (answer_of s).ended.items (length es) come.1.2 books in
    subst (λ (l : List Entry). AreBooks frames l now (noted_steps now (length es + 1) steps (map (noted now (answer_of s).ended.items (length es)) books))) (append_two es (map (next_entry n) steps) e)
    (subst (λ (bs : List Book). AreBooks frames ((es ++ e ∷ []) ++ map (next_entry n) steps) now (noted_steps now (length es + 1) steps bs)) (sym same)
    (subst (λ (k : ℕ). AreBooks frames ((es ++ e ∷ []) ++ map (next_entry n) steps) now (noted_steps now k steps notes)) (longer_by es e) rest))

plain_steps : (m : Machine) (place : ℕ) (steps : List NextStep) (books : List Book) → map plain (noted_steps m place steps books) ≡ map plain books
plain_steps m place [] books = refl
plain_steps m place (s ∷ steps) books =
    plain_steps m (place + 1) steps (map (noted m (answer_of s).ended.items place) books) ∙ plain_noted m (answer_of s).ended.items place books

-- A WHOLE CALL

pub begun : (old new : Recording) (n place start : ℕ) (call : Call) (appended : Appended) (books opened noted' later : List Book) (b : Book) → Recorded old new n call appended → IsRecorded new
    → b.number ≡ n → slice_get books place ≡ Some b → b.pending ≡ None → start ≡ length old.history
    → opened ≡ slice_set books place (record b { pending = Some (pend call (length old.history) None) })
    → noted' ≡ map (noted new.kernel appended.start.ended.items start) opened → later ≡ noted_steps new.kernel (start + 1) appended.next.items noted'
    → Begins n call old new books later place
begun old new n place start call appended books opened noted' later b r kept number at none from opens notes more =
    let c : Book = record b { pending = Some (pend call (length old.history) None) } in
    let e : Entry = start_entry n call appended.start in
    let es : List Entry = old.history in
    let ended : List ℕ = appended.start.ended.items in
    let first : noted' ≡ map (noted r.started ended (length es)) (slice_set books place c) =
    notes ∙ (λ i. map (noted new.kernel ended (from i)) (opens i)) ∙ same_notes new.kernel r.started ended (length es) r.lasts (slice_set books place c) in
    let plainly : map plain later ≡ map plain (slice_set books place c) =
    ap (map plain) more ∙ plain_steps new.kernel (start + 1) appended.next.items noted' ∙ ap (map plain) first ∙ plain_noted r.started ended (length es) (slice_set books place c) in
    let there : option_map plain (slice_get later place) ≡ Some (plain c) =
    sym (slice_get-map plain later place) ∙ ap (λ (l : List Book). slice_get l place) plainly ∙ slice_get-map plain (slice_set books place c) place ∙ ap (option_map plain) (set_get books place b c at) in
    let it = same_plain (slice_get later place) c there in
    let pending = same_pending it.0.pending call (length es) (ap (λ (x : Book). x.pending) it.2) in
    record {
      appended = appended;
      recorded = r;
      kept = kept;
      right = λ right.
          let replayed : Replays old.frames (es ++ e ∷ []) r.started = replays_more old.frames es old.kernel e r.started right.replays refl r.starts in
          let begins : AreBooks old.frames (es ++ e ∷ []) r.started noted' =
          subst (λ (bs : List Book). AreBooks old.frames (es ++ e ∷ []) r.started bs) (sym first)
          (subst (λ (k : ℕ). Steps old.kernel (Start k call) (Ok appended.start) r.started → AreBooks old.frames (es ++ start_entry k call appended.start ∷ []) r.started (map (noted r.started ended (length es)) (slice_set books place c))) number
          (λ step. started_books old.frames es old.kernel r.started books place b call appended.start (books_of old.frames es old.kernel books right) right.replays at none step) r.starts) in
          let all : AreBooks old.frames ((es ++ e ∷ []) ++ map (next_entry n) appended.next.items) new.kernel (noted_steps new.kernel (length (es ++ e ∷ [])) appended.next.items noted') =
          follow_books old.frames n (es ++ e ∷ []) r.started appended.next.items new.kernel noted' begins replayed (last_is None es e) r.next in
          let history : (es ++ e ∷ []) ++ map (next_entry n) appended.next.items ≡ new.history = append_two es (map (next_entry n) appended.next.items) e ∙ sym r.history in
          let placed : length (es ++ e ∷ []) ≡ start + 1 = (let l = longer_by es e in omega (arith, l, from)) in
          with_books new.frames new.history new.kernel later kept.legal
          (subst (λ (f : ℕ). AreBooks f new.history new.kernel later) (sym r.same.0)
          (subst (λ (h : List Entry). AreBooks old.frames h new.kernel later) history
          (subst (λ (bs : List Book). AreBooks old.frames ((es ++ e ∷ []) ++ map (next_entry n) appended.next.items) new.kernel bs) (sym more)
          (subst (λ (k : ℕ). AreBooks old.frames ((es ++ e ∷ []) ++ map (next_entry n) appended.next.items) new.kernel (noted_steps new.kernel k appended.next.items noted')) placed all))));
      former = b;
      former_at = at;
      former_number = number;
      same = plainly;
      book = it.0;
      receipts = ap (λ (x : Book). x.receipts) it.2;
      kept_from = ap (λ (x : Book). x.kept_from) it.2;
      at = it.1;
      number = ap (λ (x : Book). x.number) it.2 ∙ number;
      pending = pending.0;
      pending_is = pending.1;
      pending_call = pending.2;
      pending_start = pending.3;
    }

-- THE LOOP OVER STEPS

pub note_more : (m : Machine) (place : ℕ) (steps : List NextStep) (i : ℕ) (d : NextStep) (first xs ys : List Book) → i < length steps
    → ys ≡ map (noted m (answer_of (get_or steps i d)).ended.items (place + i)) xs
    → noted_steps m (place + i) (drop i steps) xs ≡ noted_steps m place steps first → noted_steps m (place + (i + 1)) (drop (i + 1) steps) ys ≡ noted_steps m place steps first
note_more m place steps i d first xs ys lt is so_far =
    let s : NextStep = get_or steps i d in
    let rest : List NextStep = drop (i + 1) steps in
    let split : drop i steps ≡ s ∷ rest = drop_more steps i d lt in
    let next : place + (i + 1) ≡ place + i + 1 = omega arith in
    ap (λ (k : ℕ). noted_steps m k rest ys) next ∙ ap (noted_steps m (place + i + 1) rest) is ∙ ap (λ (l : List NextStep). noted_steps m (place + i) l xs) (sym split) ∙ so_far

drop_all : (xs : List NextStep) (k : ℕ) → length xs ≤ k → drop k xs ≡ []
drop_all [] zero le = refl
drop_all [] (suc k) le = refl
drop_all (x ∷ xs) zero le = absurd (omega (arith, le))
drop_all (x ∷ xs) (suc k) le = drop_all xs k (omega (arith, le))

pub note_end : (m : Machine) (place : ℕ) (steps : List NextStep) (i : ℕ) (first xs : List Book) → length steps ≤ i → noted_steps m (place + i) (drop i steps) xs ≡ noted_steps m place steps first
    → xs ≡ noted_steps m place steps first
note_end m place steps i first xs beyond is = sym (ap (λ (l : List NextStep). noted_steps m (place + i) l xs) (drop_all steps i beyond)) ∙ is

pub note_first : (m : Machine) (place : ℕ) (steps : List NextStep) (books : List Book) → noted_steps m (place + 0) (drop 0 steps) books ≡ noted_steps m place steps books
note_first m place steps books = let none : place + 0 ≡ place = omega arith in ap (λ (k : ℕ). noted_steps m k steps books) none
