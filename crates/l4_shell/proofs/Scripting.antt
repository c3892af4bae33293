-- The lines of a script, answered one by one.
use Rattle.std.proofs.Common.{◌≡◌, ℕ, ◌+◌, ◌-◌, ◌<◌, ◌≤◌, ◌⊎◌, Bool, true, false, cond, nat_lt, List, [], ◌∷◌, ◌++◌, length, length-append, take, filter, Option, Some, None, Result, Ok, Err, inl, inr, sym, ap, subst, ◌∙◌, refl, arith}
use Rattle.std.specs.List.{All}
use Rattle.std.proofs.lemmas.List.{append-nil, take_all}
use Rattle.std.proofs.lemmas.List.Elements.{All-head, All-tail, All-push}
use Rattle.std.proofs.lemmas.Bool.Decides.{nat_tests}
use mathlib.Core.List.{append_assoc}
use denote.Enum.Bare.{sameb}
use Rattle.std.proofs.lemmas.Bool.{false≢true}
use Rattle.l4_fpage.specs.declared.sizes.PageSize.{PageSize}
use Rattle.l4_ipc.specs.Machine.{IsBoot}
use Rattle.l4_record.specs.declared.entries.Entry.{Entry}
use Rattle.l4_servers.specs.Servers.{Servers, no_servers}
use Rattle.l4_names.specs.Names.{Names}
use Rattle.l4_text.specs.Grammar.{TextLine, lines_of}
use Rattle.l4_text.specs.Lines.{kept_of, TakesLine, TakesRest, GivesLine}
use Rattle.l4_commands.specs.declared.requests.Request.{Request}
use Rattle.l4_commands.specs.Requests.{Unread, asked_at, asked_of}
use Rattle.l4_answers.specs.Reports.{Report, AddsAll, Keeps, AllOut}
use Rattle.l4_shell.specs.Sessions.{session, State, state, first_state, kept_in, segment_entries, between_lines, AnswersLine, AnswersLines}
use Rattle.l4_record.specs.declared.segments.Segment.{Segment}
use Rattle.l4_record.specs.Seated.{Seated}
use Rattle.l4_record.specs.Segments.{kept}
use Rattle.l4_shell.specs.Scripts.{WasOpen, AnswersFirst, AddsOut, KeepsFirst, KeepsHistory, Runs}
use Rattle.l4_shell.specs.Histories.{Records}
use Rattle.l4_shell.specs.Inside.Scripts.{HasFirstSeats, TellsBeginning, TellsAll, TellsWhole, TellsSome, TellsScript, KeepsScript, EndsSegments}
use Rattle.l4_shell.proofs.HandingOut.{KeepsEnd, same_after, first_kept, end_is, end_history, keeps_end}
use Rattle.l4_text.specs.declared.lines.Ending.{Ending}
use Rattle.l4_text.specs.declared.lines.Ending.TheVariants.{Whole, Long, Cut}
use Rattle.l4_text.specs.contracts.lines.Ending.{the_type}
use Rattle.l4_text.specs.declared.faults.RunFault.{RunFault}
use Rattle.l4_text.specs.declared.faults.RunFault.TheVariants.{Read, Write, Memory}
use Rattle.l4_text.proofs.Grammar.{cut_line, none_whole}
use Rattle.l4_answers.proofs.Taking.{Taken, taken_none, taken_more, taken_parts, taken_with, rest_is, something_kept, nothing_kept}
use Rattle.l4_answers.proofs.Adding.{adds_none, adds_more, adds_kept}
use Rattle.l4_shell.proofs.OneAnswer.{one_answer}

-- LINES

-- whole lines, and others of which none is
pub whole_front : (lines more : List TextLine) → All (λ line. line.whole ≡ true) lines → filter (λ line. line.whole) more ≡ [] → lines ≡ filter (λ line. line.whole) (lines ++ more)
whole_front [] more h none = sym none
whole_front (line ∷ lines) more h none =
    ap (λ ls. line ∷ ls) (whole_front lines more (All-tail (λ (l : TextLine). l.whole ≡ true) line lines h) none)
    ∙ sym (ap (λ v. cond v (line ∷ filter (λ (l : TextLine). l.whole) (lines ++ more)) (filter (λ (l : TextLine). l.whole) (lines ++ more))) (All-head (λ (l : TextLine). l.whole ≡ true) line lines h))

-- ANSWERS

-- the answer to one line more
answers_more : (hands_out : Bool) (old between new : State) (number : ℕ) (lines : List TextLine) (told : List Report) (line : TextLine) (last : List Report) → AnswersLines hands_out old number lines told between
    → AnswersLine between (number + length lines) (asked_of between.session.machine.size between.names line) last new
    → AnswersLines hands_out old number (lines ++ line ∷ []) (told ++ last) (between_lines hands_out new)
answers_more hands_out old between new number [] told line last are is = (
  last,
  [],
  new,
  subst (λ (m : State). AnswersLine m number (asked_of m.session.machine.size m.names line) last new) are.1 (subst (λ (n : ℕ). AnswersLine between n (asked_of between.session.machine.size between.names line) last new) (omega arith) is),
  (refl, refl),
  ap (λ t. t ++ last) are.0 ∙ sym (append-nil last),
)
answers_more hands_out old between new number (first ∷ lines) told line last are is =
    let n : number + length (first ∷ lines) ≡ (number + 1) + length lines = omega arith in (
      are.0,
      are.1 ++ last,
      are.2,
      are.3,
      answers_more hands_out (between_lines hands_out are.2) between new (number + 1) lines are.1 line last are.4
          (subst (λ (k : ℕ). AnswersLine between k (asked_of between.session.machine.size between.names line) last new) n is),
      ap (λ t. t ++ last) are.5 ∙ append_assoc are.0 are.1 last,
    )

-- what is kept of a line says what the line asks for
pub asked_whole : (size : PageSize) (names : Names) (bytes : List ℕ) (kept : List ℕ × Bool) → kept ≡ kept_of bytes → kept.1 ≡ false → asked_at size names Whole kept.0 ≡ asked_of size names (record { bytes = bytes; whole = true })
asked_whole size names bytes kept is short =
    let f : nat_lt 4096 (length bytes) ≡ false = sym (ap (λ k. k.1) is) ∙ short in
    let le : length bytes ≤ 4096 = grind (arith, nat_tests) in
    ap (asked_at size names Whole) (ap (λ k. k.0) is ∙ take_all 4096 bytes le) ∙ sym (ap (λ v. asked_at size names (cond v Long Whole) bytes) f)

pub asked_long : (size : PageSize) (names : Names) (bytes : List ℕ) (kept : List ℕ × Bool) → kept ≡ kept_of bytes → kept.1 ≡ true → asked_at size names Long kept.0 ≡ asked_of size names (record { bytes = bytes; whole = true })
asked_long size names bytes kept is long =
    let t : nat_lt 4096 (length bytes) ≡ true = sym (ap (λ k. k.1) is) ∙ long in
    sym (ap (λ v. asked_at size names (cond v Long Whole) bytes) t)

-- THE LOOP

-- the lines that were answered so far, before the one of this number
pub record Answered {T : Type 0} (has_told : T → T → List Report → Type 0) (closed : T → Bool) (hands_out : Bool) (m : State) (old new : Option (List ℕ)) (now : List ℕ × ℕ) (number : ℕ) (last : State) (before after : T) : Type 0 where
  pub lines : List TextLine
  pub taken : Taken old new now number lines
  pub whole : All (λ line. line.whole ≡ true) lines
  pub told : List Report
  pub answers : AnswersLines hands_out m 1 lines told last
  pub was_open : (told ≡ []) ⊎ WasOpen has_told closed before (length lines) told
  pub adds : AddsAll has_told before after told

pub answered_none : {T : Type 0} (has_told : T → T → List Report → Type 0) (closed : T → Bool) (hands_out : Bool) (m : State) (a : Option (List ℕ)) (now : List ℕ × ℕ) (s : T) → now ≡ ([], 0) → Answered has_told closed hands_out m a a now 1 m s s
answered_none has_told closed hands_out m a now s is = record {
  lines = [];
  taken = taken_none a now is;
  whole = λ k d lt. absurd (omega arith);
  told = [];
  answers = (refl, refl);
  was_open = inl refl;
  adds = adds_none has_told s;
}

-- the line of this number was answered while the sink was open
opened_before : {T : Type 0} (has_told : T → T → List Report → Type 0) (closed : T → Bool) (old next last : State) (lines : List TextLine) (line : TextLine) (number : ℕ) (asked : Result (Option Request) Unread) (before s : T) (earlier told : List Report)
    → number ≡ 1 + length lines → AnswersLine last number asked told next → AddsAll has_told before s earlier → closed s ≡ false
    → WasOpen has_told closed before (length (lines ++ line ∷ [])) (earlier ++ told)
opened_before has_told closed old next last lines line number asked before s earlier told number_is is adds opened =
    let n : number ≡ length (lines ++ line ∷ []) = omega (arith, number_is, length-append lines (line ∷ [])) in
    subst (λ (k : ℕ). WasOpen has_told closed before k (earlier ++ told)) n
    (record { earlier = earlier; last = told; parts = refl; one = one_answer last number asked told next is; between = s; adds = adds; opened = opened })

-- one whole line more
answered_more : {T : Type 0} (has_told : T → T → List Report → Type 0) (closed : T → Bool) (hands_out : Bool) (m last next later : State) (old mid new : Option (List ℕ)) (now after : List ℕ × ℕ) (kept : List ℕ × Bool) (number : ℕ)
    (before s t : T) (ending : Ending) → later ≡ between_lines hands_out next → closed s ≡ false → Answered has_told closed hands_out m old mid now number last before s → (l : TakesLine mid new now after kept)
    → asked_at last.session.machine.size last.names ending kept.0 ≡ asked_of last.session.machine.size last.names (record { bytes = l.bytes; whole = true })
    → (told : List Report) × AnswersLine last number (asked_at last.session.machine.size last.names ending kept.0) told next × AddsAll has_told s t told
    → Answered has_told closed hands_out m old new after (number + 1) later before t
answered_more has_told closed hands_out m last next later old mid new now after kept number before s t ending between opened a l asks is =
    let line : TextLine = record { bytes = l.bytes; whole = true } in
    record {
      lines = a.lines ++ line ∷ [];
      taken = taken_more old mid new now after kept number a.lines a.taken l;
      whole = All-push (λ (l : TextLine). l.whole ≡ true) a.lines line a.whole refl;
      told = a.told ++ is.0;
      answers = subst (λ (x : State). AnswersLines hands_out m 1 (a.lines ++ line ∷ []) (a.told ++ is.0) x) (sym between)
          (answers_more hands_out m last next 1 a.lines a.told line is.0 a.answers
          (subst (λ (n : ℕ). AnswersLine last n (asked_of last.session.machine.size last.names line) is.0 next) a.taken.number_is (subst (λ (q : Result _ _). AnswersLine last number q is.0 next) asks is.1)));
      was_open = inr (opened_before has_told closed m next last a.lines line number (asked_at last.session.machine.size last.names ending kept.0) before s a.told is.0 a.taken.number_is is.1 a.adds opened);
      adds = adds_more has_told before s t _ _ a.adds is.2;
    }

-- what was held back went out
pub answered_sent : {T : Type 0} (has_told : T → T → List Report → Type 0) (closed : T → Bool) (hands_out : Bool) (m last : State) (old new : Option (List ℕ)) (now : List ℕ × ℕ) (number : ℕ) (before s t : T)
    → Answered has_told closed hands_out m old new now number last before s → Keeps has_told s t → Answered has_told closed hands_out m old new now number last before t
answered_sent has_told closed hands_out m last old new now number before s t a sent = record {
  lines = a.lines;
  taken = a.taken;
  whole = a.whole;
  told = a.told;
  answers = a.answers;
  was_open = a.was_open;
  adds = adds_kept has_told before s t a.told a.adds sent;
}

-- the lines so far, as lines of what was read
beginning_of : {T : Type 0} (has_told : T → T → List Report → Type 0) (closed : T → Bool) (hands_out : Bool) (m last : State) (old new : Option (List ℕ)) (now : List ℕ × ℕ) (number : ℕ) (before after : T)
    → Answered has_told closed hands_out m old new now number last before after → TellsBeginning hands_out m last old new has_told closed before after
beginning_of has_told closed hands_out m last old new now number before after a = record {
  read = a.taken.read;
  «from» = a.taken.from;
  lines = a.lines;
  later = lines_of now.0;
  parts = taken_parts old new now number a.lines a.taken;
  sure = inl a.whole;
  told = a.told;
  answers = a.answers;
  was_open = a.was_open;
  adds = a.adds;
}

-- the sink has closed
pub answered_closed : {T : Type 0} (has_told : T → T → List Report → Type 0) (closed : T → Bool) (hands_out : Bool) (m last : State) (old new : Option (List ℕ)) (now : List ℕ × ℕ) (number : ℕ) (before after : T)
    → Answered has_told closed hands_out m old new now number last before after → closed after ≡ true → TellsAll hands_out m last old new has_told closed before after (number - 1)
unfolding beginning_of
answered_closed has_told closed hands_out m last old new now number before after a over = record {
  some = beginning_of has_told closed hands_out m last old new now number before after a;
  number = omega (arith, a.taken.number_is);
  end = inr over;
}

-- the lines so far, where more was read, whose lines these are
some_with : {T : Type 0} (has_told : T → T → List Report → Type 0) (closed : T → Bool) (hands_out : Bool) (m last : State) (old mid new : Option (List ℕ)) (now after : List ℕ × ℕ) (kept : List ℕ × Bool) (number : ℕ) (before s : T)
    → Answered has_told closed hands_out m old mid now number last before s → (l : TakesRest mid new now after kept) → TellsBeginning hands_out m last old new has_told closed before s
some_with has_told closed hands_out m last old mid new now after kept number before s a l =
    let w = taken_with old mid new now number a.lines l.takes.read l.bytes a.taken l.takes.from (rest_is mid new now after kept l) in
    record {
      read = a.taken.read ++ l.takes.read;
      «from» = w.0;
      lines = a.lines;
      later = lines_of l.bytes;
      parts = w.1;
      sure = inl a.whole;
      told = a.told;
      answers = a.answers;
      was_open = a.was_open;
      adds = a.adds;
    }

-- reading failed
pub answered_read : {T : Type 0} (has_told : T → T → List Report → Type 0) (closed : T → Bool) (hands_out : Bool) (m last : State) (old mid new : Option (List ℕ)) (now after : List ℕ × ℕ) (kept : List ℕ × Bool) (number : ℕ) (before s : T)
    (e : RunFault) → Answered has_told closed hands_out m old mid now number last before s → GivesLine mid new now after kept (Err e) → TellsWhole hands_out m last old new has_told closed before s
unfolding some_with
answered_read has_told closed hands_out m last old mid new now after kept number before s e a gives =
    let l = gives.0 in
    let some = some_with has_told closed hands_out m last old mid new now after kept number before s a l in
    record {
      some = some;
      whole = whole_front a.lines (lines_of l.bytes) a.whole (none_whole l.bytes l.plain) ∙ sym (ap (λ lines. filter (λ (line : TextLine). line.whole) lines) some.parts);
    }

-- at the end no line is left
pub answered_end : {T : Type 0} (has_told : T → T → List Report → Type 0) (closed : T → Bool) (hands_out : Bool) (m last : State) (old mid new : Option (List ℕ)) (now after : List ℕ × ℕ) (kept : List ℕ × Bool) (number : ℕ) (before s : T)
    (r : Option Ending) → Answered has_told closed hands_out m old mid now number last before s → GivesLine mid new now after kept (Ok r) → r ≡ None
    → TellsAll hands_out m last old new has_told closed before s (number - 1)
unfolding some_with
answered_end has_told closed hands_out m last old mid new now after kept number before s r a gives is =
    let g = subst (λ (o : Option Ending). GivesLine mid new now after kept (Ok o)) is gives in
    let l = g.0 in
    let none : l.bytes ≡ [] = nothing_kept l.bytes (sym (ap (λ k. k.0) l.kept_is) ∙ g.2) in
    let some = some_with has_told closed hands_out m last old mid new now after kept number before s a l in
    let all : lines_of some.read ≡ a.lines = some.parts ∙ ap (λ x. a.lines ++ lines_of x) none ∙ append-nil a.lines in
    record {
      some = some;
      number = omega (arith, a.taken.number_is);
      end = inl (g.1, sym all);
    }

-- after a line: all lines so far, or with a cut line all that there are
abbrev pub AfterLine : Ending → {T : Type 0} → (T → T → List Report → Type 0) → (T → Bool) → Bool → State → Option (List ℕ) → Option (List ℕ) → List ℕ × ℕ → ℕ → State → T → T → Type 0
AfterLine Whole has_told closed hands_out m old new now number last before after = Answered has_told closed hands_out m old new now (number + 1) last before after
AfterLine Long has_told closed hands_out m old new now number last before after = Answered has_told closed hands_out m old new now (number + 1) last before after
AfterLine Cut has_told closed hands_out m old new now number last before after = TellsAll hands_out m last old new has_told closed before after number

pub after_line : {T : Type 0} (has_told : T → T → List Report → Type 0) (closed : T → Bool) (hands_out : Bool) (ending : Ending) (m last next later : State) (old mid new : Option (List ℕ)) (now after : List ℕ × ℕ) (kept : List ℕ × Bool) (number : ℕ)
    (before s t : T) (r : Option Ending) → later ≡ between_lines hands_out next → closed s ≡ false → Answered has_told closed hands_out m old mid now number last before s → GivesLine mid new now after kept (Ok r) → r ≡ Some ending
    → (told : List Report) × AnswersLine last number (asked_at last.session.machine.size last.names ending kept.0) told next × AddsAll has_told s t told
    → AfterLine ending has_told closed hands_out m old new after number later before t
after_line has_told closed hands_out Whole m last next later old mid new now after kept number before s t r between opened a gives is told =
    let g = subst (λ (o : Option Ending). GivesLine mid new now after kept (Ok o)) is gives in
    answered_more has_told closed hands_out m last next later old mid new now after kept number before s t Whole between opened a g.0 (asked_whole last.session.machine.size last.names g.0.bytes kept g.0.kept_is g.1) told
after_line has_told closed hands_out Long m last next later old mid new now after kept number before s t r between opened a gives is told =
    let g = subst (λ (o : Option Ending). GivesLine mid new now after kept (Ok o)) is gives in
    answered_more has_told closed hands_out m last next later old mid new now after kept number before s t Long between opened a g.0 (asked_long last.session.machine.size last.names g.0.bytes kept g.0.kept_is g.1) told
after_line has_told closed hands_out Cut m last next later old mid new now after kept number before s t r between opened a gives is told =
    let g = subst (λ (o : Option Ending). GivesLine mid new now after kept (Ok o)) is gives in
    let l = g.0 in
    let some : 0 < length (take 4096 l.bytes) = omega (arith, g.2, ap (λ k. length k.0) l.kept_is) in
    let line : TextLine = record { bytes = l.bytes; whole = false } in
    let w = taken_with old mid new now number a.lines l.takes.read l.bytes a.taken l.takes.from (rest_is mid new now after kept l) in
    let all : lines_of (a.taken.read ++ l.takes.read) ≡ a.lines ++ line ∷ [] = w.1 ∙ ap (λ x. a.lines ++ x) (cut_line l.bytes l.plain (something_kept l.bytes some)) in
    record {
      some = record {
        read = a.taken.read ++ l.takes.read;
        «from» = w.0;
        lines = a.lines ++ line ∷ [];
        later = [];
        parts = all ∙ sym (append-nil (a.lines ++ line ∷ []));
        sure = inr g.1;
        told = a.told ++ told.0;
        answers = subst (λ (x : State). AnswersLines hands_out m 1 (a.lines ++ line ∷ []) (a.told ++ told.0) x) (sym between)
            (answers_more hands_out m last next 1 a.lines a.told line told.0 a.answers (subst (λ (n : ℕ). AnswersLine last n (asked_of last.session.machine.size last.names line) told.0 next) a.taken.number_is told.1));
        was_open = inr (opened_before has_told closed m next last a.lines line number (asked_at last.session.machine.size last.names Cut kept.0) before s a.told told.0 a.taken.number_is told.1 a.adds opened);
        adds = adds_more has_told before s t _ _ a.adds told.2;
      };
      number = omega (arith, a.taken.number_is, length-append a.lines (line ∷ []));
      end = inl (g.1, sym all);
    }

-- the lines so far, if the segment after the last one was lost
some_after : {T : Type 0} (has_told : T → T → List Report → Type 0) (closed : T → Bool) (hands_out : Bool) (ending : Ending) (m later : State) (old new : Option (List ℕ)) (after : List ℕ × ℕ) (number : ℕ) (before t : T)
    → AfterLine ending has_told closed hands_out m old new after number later before t → TellsBeginning hands_out m later old new has_told closed before t
some_after has_told closed hands_out Whole m later old new after number before t a = beginning_of has_told closed hands_out m later old new after (number + 1) before t a
some_after has_told closed hands_out Long m later old new after number before t a = beginning_of has_told closed hands_out m later old new after (number + 1) before t a
some_after has_told closed hands_out Cut m later old new after number before t a = a.some

pub answered_lost : {T : Type 0} (has_told : T → T → List Report → Type 0) (closed : T → Bool) (hands_out : Bool) (ending : Ending) (m next last : State) (old new : Option (List ℕ)) (after : List ℕ × ℕ) (number : ℕ) (before t : T)
    → AfterLine ending has_told closed hands_out m old new after number (between_lines hands_out next) before t → hands_out ≡ true → last.session.history ≡ next.session.history
    → TellsSome hands_out m last old new has_told closed before t
unfolding some_after
answered_lost has_told closed hands_out ending m next last old new after number before t a on same = record {
  hands = on;
  end = between_lines hands_out next;
  some = some_after has_told closed hands_out ending m (between_lines hands_out next) old new after number before t a;
  history = same_after hands_out (nat_lt (kept_in next.session) segment_entries) next ∙ sym same;
}

-- the line was cut
pub answered_cut : {T : Type 0} (has_told : T → T → List Report → Type 0) (closed : T → Bool) (hands_out : Bool) (ending : Ending) (m next : State) (old new : Option (List ℕ)) (after : List ℕ × ℕ) (number : ℕ) (before t : T)
    → AfterLine ending has_told closed hands_out m old new after number next before t → true ≡ sameb the_type ending Cut → TellsAll hands_out m next old new has_told closed before t number
answered_cut has_told closed hands_out Whole m next old new after number before t a cut = absurd (false≢true (sym cut))
answered_cut has_told closed hands_out Long m next old new after number before t a cut = absurd (false≢true (sym cut))
answered_cut has_told closed hands_out Cut m next old new after number before t a cut = a

-- any other line goes on
pub answered_on : {T : Type 0} (has_told : T → T → List Report → Type 0) (closed : T → Bool) (hands_out : Bool) (ending : Ending) (m next : State) (old new : Option (List ℕ)) (after : List ℕ × ℕ) (number : ℕ) (before t : T)
    → AfterLine ending has_told closed hands_out m old new after number next before t → false ≡ sameb the_type ending Cut → Answered has_told closed hands_out m old new after (number + 1) next before t
answered_on has_told closed hands_out Whole m next old new after number before t a cut = a
answered_on has_told closed hands_out Long m next old new after number before t a cut = a
answered_on has_told closed hands_out Cut m next old new after number before t a cut = absurd (false≢true cut)

-- THE RUN

-- the state at the start
pub first_is : (frames : ℕ) (size : PageSize) (kernel : Seated) (sv : Servers) (names : Names) → HasFirstSeats frames size kernel → sv ≡ no_servers size frames → names ≡ [] → state kernel sv names ≡ first_state frames kernel.machine
first_is frames size kernel sv names has none no_names =
    let same : sv ≡ no_servers kernel.machine.size frames = none ∙ ap (λ (z : PageSize). no_servers z frames) (sym has.4) in
    λ i. record { session = record { machine = kernel.machine; servers = same i; history = has.1 i; numbers = has.2 i; seen = has.3 i; kept_from = has.5 i }; names = no_names i }

-- the lines that were answered, of a script
first_answers : {T : Type 0} (has_told : T → T → List Report → Type 0) (closed : T → Bool) (hands_out : Bool) (frames : ℕ) (size : PageSize) (m : Seated) (sv : Servers) (ns : Names) (last : State) (old new : Option (List ℕ)) (before after : T) → IsBoot frames m.machine → m.machine.size ≡ size
    → state m sv ns ≡ first_state frames m.machine → (t : TellsBeginning hands_out (state m sv ns) last old new has_told closed before after) → AnswersFirst hands_out frames size old new has_told closed before
first_answers has_told closed hands_out frames size m sv ns last old new before after boots sized none t = record {
  read = t.read;
  «from» = t.from;
  lines = t.lines;
  later = t.later;
  parts = t.parts;
  sure = t.sure;
  told = t.told;
  is_answered = record { boot = m.machine; boots = boots; sized = sized; last = last; answers = subst (λ (x : State). AnswersLines hands_out x 1 t.lines t.told last) none t.answers };
  was_open = t.was_open;
}

-- whatever was reported is out
adds_out : {T : Type 0} (has_told is_out : T → T → List Report → Type 0) (before after sent : T) (told : List Report) → AddsAll has_told before after told → AllOut has_told is_out after sent
    → AddsOut has_told is_out before sent told
adds_out has_told is_out before after sent told adds out first earlier h = out first (earlier ++ told) (adds first earlier h)

-- the lines that were answered, however the script ended
record Begun {T : Type 0} (hands_out : Bool) (m last : State) (old new : Option (List ℕ)) (has_told : T → T → List Report → Type 0) (closed : T → Bool) (before after : T) : Type 0 where
  pub end : State
  pub some : TellsBeginning hands_out m end old new has_told closed before after
  pub history : end.session.history ≡ last.session.history

begun : {T : Type 0} (has_told : T → T → List Report → Type 0) (closed : T → Bool) (hands_out : Bool) (m last : State) (old new : Option (List ℕ)) (before after : T) (result : Result ℕ RunFault) → TellsScript hands_out m last old new has_told closed before after result
    → Begun hands_out m last old new has_told closed before after
begun has_told closed hands_out m last old new before after (Ok count) t = record { end = last; some = t.some; history = refl }
begun has_told closed hands_out m last old new before after (Err Read) t = record { end = last; some = t.some; history = refl }
begun has_told closed hands_out m last old new before after (Err Write) t = record { end = t.end; some = t.some; history = t.history }
begun has_told closed hands_out m last old new before after (Err Memory) t = absurd t

-- what was told and kept of lines, where a write failed
lost_on : {T K : Type 0} (has_told is_out : T → T → List Report → Type 0) (closed : T → Bool) (hands_out : Bool) (has_kept : K → K → List Segment → Type 0) (frames : ℕ) (size : PageSize) (m : Seated) (sv : Servers) (ns : Names) (last : State) (old new : Option (List ℕ)) (before after sent : T) (had has : K) (history : List Entry) → IsBoot frames m.machine → m.machine.size ≡ size
    → state m sv ns ≡ first_state frames m.machine → (b : Begun hands_out (state m sv ns) last old new has_told closed before after)
    → AddsAll has_told before sent b.some.told ⊎ AddsOut has_told is_out before sent b.some.told → history ≡ last.session.history → KeepsFirst has_kept had has history
    → Runs hands_out frames size old new has_told is_out closed before sent has_kept had has (Err Write)
unfolding first_answers
lost_on has_told is_out closed hands_out has_kept frames size m sv ns last old new before after sent had has history boots sized none b out same keeps = (
  first_answers has_told closed hands_out frames size m sv ns b.end old new before after boots sized none b.some,
  out,
  subst (λ (l : List Entry). KeepsFirst has_kept had has l) (same ∙ sym b.history) keeps,
)

-- all that was told went out
told_on : {T K : Type 0} (has_told is_out : T → T → List Report → Type 0) (closed : T → Bool) (hands_out : Bool) (has_kept : K → K → List Segment → Type 0) (frames : ℕ) (size : PageSize) (m : Seated) (sv : Servers) (ns : Names) (last : State) (old new : Option (List ℕ)) (before after sent : T) (had has : K) (history : List Entry) (result : Result ℕ RunFault) → IsBoot frames m.machine → m.machine.size ≡ size
    → state m sv ns ≡ first_state frames m.machine → TellsScript hands_out (state m sv ns) last old new has_told closed before after result
    → AllOut has_told is_out after sent → closed sent ≡ closed after → history ≡ last.session.history → KeepsEnd hands_out has_kept had has history result
    → Runs hands_out frames size old new has_told is_out closed before sent has_kept had has result
unfolding first_answers begun
told_on has_told is_out closed hands_out has_kept frames size m sv ns last old new before after sent had has history (Ok count) boots sized none t out same still keeps = (
  first_answers has_told closed hands_out frames size m sv ns last old new before after boots sized none t.some,
  t.number,
  adds_out has_told is_out before after sent t.some.told t.some.adds out,
  elim t.end [ inl ended ↦ inl ended | inr over ↦ inr (same ∙ over) ],
  subst (λ (l : List Entry). KeepsHistory hands_out has_kept had has l) still keeps,
)
told_on has_told is_out closed hands_out has_kept frames size m sv ns last old new before after sent had has history (Err Read) boots sized none t out same still keeps = (
  first_answers has_told closed hands_out frames size m sv ns last old new before after boots sized none t.some,
  t.whole,
  adds_out has_told is_out before after sent t.some.told t.some.adds out,
  subst (λ (l : List Entry). KeepsHistory hands_out has_kept had has l) still keeps,
)
told_on has_told is_out closed hands_out has_kept frames size m sv ns last old new before after sent had has history (Err Write) boots sized none t out same still keeps =
    let b = begun has_told closed hands_out (state m sv ns) last old new before after (Err Write) t in
    lost_on has_told is_out closed hands_out has_kept frames size m sv ns last old new before after sent had has history boots sized none b
    (inr (adds_out has_told is_out before after sent b.some.told b.some.adds out)) still keeps
told_on has_told is_out closed hands_out has_kept frames size m sv ns last old new before after sent had has history (Err Memory) boots sized none t out same still keeps = absurd t

pub runs_on : {T K : Type 0} (has_told is_out : T → T → List Report → Type 0) (closed : T → Bool) (hands_out : Bool) (has_kept : K → K → List Segment → Type 0) (frames : ℕ) (size : PageSize) (m k k' : Seated) (sv sv' : Servers) (ns ns' : Names) (old new : Option (List ℕ)) (before after sent : T) (had between has : K) (takes : Bool) (answered result : Result ℕ RunFault) → IsBoot frames m.machine → m.machine.size ≡ size
    → state m sv ns ≡ first_state frames m.machine → TellsScript hands_out (state m sv ns) (state k sv' ns') old new has_told closed before after answered
    → AllOut has_told is_out after sent → closed sent ≡ closed after
    → KeepsScript hands_out has_kept had between (session k sv') answered → takes ≡ hands_out → EndsSegments takes has_kept between has k k' answered result
    → Runs hands_out frames size old new has_told is_out closed before sent has_kept had has result
runs_on has_told is_out closed hands_out has_kept frames size m k k' sv sv' ns ns' old new before after sent had between has takes answered result boots sized none t out same keeps is ends' =
    let ends = subst (λ (b : Bool). EndsSegments b has_kept between has k k' answered result) is ends' in
    let last : State = state k sv' ns' in
    let still : k'.history ≡ k.history = end_history hands_out has_kept between has k k' answered result ends in
    let kept = keeps_end hands_out has_kept had between has k k' sv' answered result ends keeps in
    elim (end_is hands_out has_kept between has k k' answered result ends) [
      | inl same_end ↦
          told_on has_told is_out closed hands_out has_kept frames size m sv ns last old new before after sent had has k'.history result boots sized none
          (subst (λ (r : Result ℕ RunFault). TellsScript hands_out (state m sv ns) last old new has_told closed before after r) (sym same_end) t) out same still kept
      | inr lost ↦
          let b = begun has_told closed hands_out (state m sv ns) last old new before after answered t in
          subst (λ (r : Result ℕ RunFault). Runs hands_out frames size old new has_told is_out closed before sent has_kept had has r) (sym lost)
          (lost_on has_told is_out closed hands_out has_kept frames size m sv ns last old new before after sent had has k'.history boots sized none b
          (inr (adds_out has_told is_out before after sent b.some.told b.some.adds out)) still (first_kept hands_out has_kept had has k'.history result kept))
    ]

-- a write of answers failed
pub runs_not : {T K : Type 0} (has_told is_out : T → T → List Report → Type 0) (closed : T → Bool) (hands_out : Bool) (has_kept : K → K → List Segment → Type 0) (frames : ℕ) (size : PageSize) (m k k' : Seated) (sv sv' : Servers) (ns ns' : Names) (old new : Option (List ℕ)) (before after sent : T) (had between has : K) (takes : Bool) (answered result : Result ℕ RunFault) → IsBoot frames m.machine → m.machine.size ≡ size
    → state m sv ns ≡ first_state frames m.machine → TellsScript hands_out (state m sv ns) (state k sv' ns') old new has_told closed before after answered
    → Keeps has_told after sent
    → KeepsScript hands_out has_kept had between (session k sv') answered → takes ≡ hands_out → EndsSegments takes has_kept between has k k' answered result
    → Runs hands_out frames size old new has_told is_out closed before sent has_kept had has (Err Write)
runs_not has_told is_out closed hands_out has_kept frames size m k k' sv sv' ns ns' old new before after sent had between has takes answered result boots sized none t kept keeps is ends' =
    let ends = subst (λ (b : Bool). EndsSegments b has_kept between has k k' answered result) is ends' in
    let last : State = state k sv' ns' in
    let b = begun has_told closed hands_out (state m sv ns) last old new before after answered t in
    lost_on has_told is_out closed hands_out has_kept frames size m sv ns last old new before after sent had has k'.history boots sized none b
    (inl (adds_kept has_told before after sent b.some.told b.some.adds kept))
    (end_history hands_out has_kept between has k k' answered result ends)
    (first_kept hands_out has_kept had has k'.history result (keeps_end hands_out has_kept had between has k k' sv' answered result ends keeps))

-- the history is wanted, and none of it was handed out
all_kept : (k : Seated) (sv : Servers) (history : List Entry) → k.kept_from ≡ 0 → history ≡ kept k.kept_from k.history → history ≡ k.history
all_kept k sv history none is = is ∙ ap (λ (n : ℕ). kept n k.history) none

pub records_on : {T K : Type 0} (has_told : T → T → List Report → Type 0) (closed : T → Bool) (has_kept : K → K → List Segment → Type 0) (frames : ℕ) (size : PageSize) (m k : Seated) (sv sv' : Servers) (ns ns' : Names) (old new : Option (List ℕ)) (before after : T) (had has : K) (result : Result ℕ RunFault) (history : List Entry) → IsBoot frames m.machine → m.machine.size ≡ size
    → state m sv ns ≡ first_state frames m.machine → TellsScript false (state m sv ns) (state k sv' ns') old new has_told closed before after result
    → KeepsScript false has_kept had has (session k sv') result → history ≡ kept k.kept_from k.history
    → Records frames size old new has_told closed before after history result
unfolding first_answers
records_on has_told closed has_kept frames size m k sv sv' ns ns' old new before after had has (Ok count) history boots sized none t keeps is = (
  record {
    first = first_answers has_told closed false frames size m sv ns (state k sv' ns') old new before after boots sized none t.some;
    adds = t.some.adds;
    is_history = all_kept k sv' history (keeps.none refl) is;
  },
  t.number,
  t.end,
)
records_on has_told closed has_kept frames size m k sv sv' ns ns' old new before after had has (Err Read) history boots sized none t keeps is = (
  record {
    first = first_answers has_told closed false frames size m sv ns (state k sv' ns') old new before after boots sized none t.some;
    adds = t.some.adds;
    is_history = all_kept k sv' history (keeps.none refl) is;
  },
  t.whole,
)
records_on has_told closed has_kept frames size m k sv sv' ns ns' old new before after had has (Err Write) history boots sized none t keeps is = absurd (false≢true t.hands)
records_on has_told closed has_kept frames size m k sv sv' ns ns' old new before after had has (Err Memory) history boots sized none t keeps is = absurd t

-- the bytes of the line are those that were kept
pub same_bytes : {T : Type 0} (has_told : T → T → List Report → Type 0) (last next : State) (number : ℕ) (ending : Ending) (bytes kept : List ℕ) (s t : T) → bytes ≡ kept
    → (told : List Report) × AnswersLine last number (asked_at last.session.machine.size last.names ending bytes) told next × AddsAll has_told s t told
    → (told : List Report) × AnswersLine last number (asked_at last.session.machine.size last.names ending kept) told next × AddsAll has_told s t told
same_bytes has_told last next number ending bytes kept s t is h = (h.0, subst (λ (b : List ℕ). AnswersLine last number (asked_at last.session.machine.size last.names ending b) h.0 next) is h.1, h.2)
