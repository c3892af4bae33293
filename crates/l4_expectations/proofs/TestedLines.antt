-- The lines of a test, one after another.
use Rattle.std.proofs.Common.{◌≡◌, ℕ, ◌+◌, ◌-◌, ◌==◌, ◌<◌, ◌≤◌, inr, Bool, true, false, not, List, [], ◌∷◌, ◌++◌, length, take, Option, Some, None, Result, Ok, Err, refl, sym, ap, subst, ◌∙◌, arith}
use Rattle.std.specs.List.{All}
use Rattle.std.specs.Io.KnownBytes.{Consumes, IsAtEnd}
use Rattle.std.proofs.lemmas.Bool.{false≢true}
use Rattle.std.proofs.lemmas.Bool.Decides.{nat_tests}
use Rattle.std.proofs.lemmas.List.{append-nil}
use Rattle.std.proofs.lemmas.List.Elements.{All-push}
use Rattle.l4_fpage.specs.declared.sizes.PageSize.{PageSize}
use Rattle.l4_shell.specs.ByLines.{state_of, IsFirst as IsFirstRun}
use Rattle.l4_text.specs.Grammar.{TextLine, lines_of, is_silent, ending_of}
use Rattle.l4_commands.specs.Requests.{asked_at, asked_of}
use Rattle.l4_shell.specs.Sessions.{State, AnswersLine}
use Rattle.l4_shell.specs.declared.by_lines.ScriptRun.{ScriptRun}
use Rattle.l4_text.proofs.Grammar.{cut_line, none_whole}
use Rattle.l4_text.specs.Lines.{GivesLine}
use Rattle.l4_text.specs.declared.faults.RunFault.{RunFault}
use Rattle.l4_text.specs.declared.faults.RunFault.TheVariants.{Read, Write, Memory}
use Rattle.l4_text.specs.declared.lines.Ending.{Ending}
use Rattle.l4_text.specs.declared.lines.Ending.TheVariants.{Whole, Long as TooLong, Cut as IsCut}
use Rattle.l4_expectations.specs.declared.due.Due.{Due}
use Rattle.l4_expectations.specs.declared.outcomes.Failure.{Failure}
use Rattle.l4_expectations.specs.declared.outcomes.Failure.TheVariants.{Differs, Refused, NoExpectations, Malformed, Stopped}
use Rattle.l4_expectations.specs.declared.outcomes.Passed.{Passed}
use Rattle.l4_expectations.specs.declared.testing.Tested.{Tested}
use Rattle.l4_expectations.specs.Expectations.{is_marked, expected_in, compared_by, expected_by, expected_below, AreAsExpected}
use Rattle.l4_expectations.specs.Tests.{Compares, AgreesSoFar, IsClosed, is_test, EndsInput, FailsAt, FailsNext, AllAgree, AgreesFirst, Tests}
use Rattle.l4_expectations.specs.Inside.Lines.{Fails, Compared, Goes, GoesBy, TestsLine, EndsWhole, EndFails, TestsEnd, IsFirst, AgreesSome, AllAsExpected, TestsLines}
use Rattle.l4_expectations.proofs.Agreeing.{lines_closed, none_above, answered_more, silent_more, expected_one, at_most_one, counted_one, counted_none, asked_unmarked}
use Rattle.l4_answers.proofs.Taking.{Taken, taken_none, taken_more, taken_with, rest_is, line_of_more, ending_whole, ending_long, something_kept, nothing_kept}

abbrev IsWhole : TextLine → Type 0
IsWhole line = ending_of line ≡ Whole

-- THE LOOP

-- the lines before the one of this number agree as far as they go
pub record SoFar (lenient : Bool) (first : State) (old new : Option (List ℕ)) (now : List ℕ × ℕ) (number : ℕ) (last : State) (tested : Tested) : Type 0 where
  pub lines : List TextLine
  pub taken : Taken old new now number lines
  pub whole : All (λ line. ending_of line ≡ Whole) lines
  pub agrees : AgreesSoFar lenient first lines tested.due last
  pub counted : tested.expectations ≡ length (expected_by lines)
  pub few : tested.expectations < number
  pub lenient_is : tested.lenient ≡ lenient

pub so_far_none : (first : State) (a : Option (List ℕ)) (now : List ℕ × ℕ) (tested : Tested) → IsFirst tested → now ≡ ([], 0) → SoFar tested.lenient first a a now 1 first tested
so_far_none first a now tested starts is = record {
  lines = [];
  taken = taken_none a now is;
  whole = λ k d lt. absurd (omega arith);
  agrees = subst (λ (d : Option Due). AgreesSoFar tested.lenient first [] d first) (sym starts.due)
      (record { silent = λ k d lt. absurd (omega arith); all_readable = λ k d lt. absurd (omega arith); none_expected = refl; same = refl });
  counted = starts.expectations;
  few = omega (arith, starts.expectations);
  lenient_is = refl;
}

-- ONE LINE MORE

-- what one more line makes of those that agree
record OneMore (lenient : Bool) (first : State) (lines : List TextLine) (line : TextLine) (old new : Tested) (next : State) : Type 0 where
  pub agrees : AgreesSoFar lenient first (lines ++ line ∷ []) new.due next
  pub counted : new.expectations ≡ length (expected_by (lines ++ line ∷ []))
  pub few : new.expectations ≤ old.expectations + 1
  pub same_lenient : new.lenient ≡ old.lenient

goes_more : (lenient : Bool) (first : State) (lines : List TextLine) (line : TextLine) (number : ℕ) (old new : Tested) (last next : State) → All IsWhole lines → AgreesSoFar lenient first lines old.due last → old.expectations ≡ length (expected_by lines)
    → old.lenient ≡ lenient → IsWhole line → number ≡ 1 + length lines → is_silent line.bytes ≡ false → Goes last old number line.bytes next new → OneMore lenient first lines line old new next
goes_more lenient first lines line number old new last next whole agrees counted lenient_is whole_line number_is asks g =
    let answers : AnswersLine last number (asked_of last.session.machine.size last.names line) g.answered.0 next = subst (λ (e : Ending). AnswersLine last number (asked_at last.session.machine.size last.names e line.bytes) g.answered.0 next) (sym whole_line) g.answered.1 in
    record {
      agrees = subst (λ (d : Option Due). AgreesSoFar lenient first (lines ++ line ∷ []) d next) (sym g.due_is)
          (answered_more lenient first lines old.due last next line number g.text whole agrees (subst (λ (x : Bool). IsClosed x old.due) lenient_is g.closed) whole_line asks number_is (g.answered.0, answers, g.answered.2));
      counted = g.same ∙ counted ∙ counted_none lines line (asked_unmarked line asks);
      few = omega (arith, g.same);
      same_lenient = g.lenient;
    }

same_more : (lenient : Bool) (first : State) (lines : List TextLine) (line : TextLine) (old new : Tested) (last next : State) → AgreesSoFar lenient first lines old.due last → old.expectations ≡ length (expected_by lines)
    → IsWhole line → is_silent line.bytes ≡ true → is_marked line.bytes ≡ false → new ≡ old → next ≡ last → OneMore lenient first lines line old new next
same_more lenient first lines line old new last next agrees counted whole_line silent unmarked same still =
    subst (λ (t : Tested). OneMore lenient first lines line old t next) (sym same) (subst (λ (m : State). OneMore lenient first lines line old old m) (sym still) (record {
      agrees = silent_more lenient first lines old.due last line agrees whole_line silent unmarked;
      counted = counted ∙ counted_none lines line unmarked;
      few = omega arith;
      same_lenient = refl;
    }))

compared_more : (lenient : Bool) (first : State) (lines : List TextLine) (line : TextLine) (answer : List ℕ) (old new : Tested) (last next : State) → AgreesSoFar lenient first lines old.due last → old.expectations ≡ length (expected_by lines)
    → IsWhole line → is_silent line.bytes ≡ true → is_marked line.bytes ≡ true → expected_in line.bytes ≡ Some answer → Compared old answer new → next ≡ last → OneMore lenient first lines line old new next
compared_more lenient first lines line answer old new last next agrees counted whole_line silent marked is c still =
    let before : Compares lenient first lines c.before last = subst (λ (d : Option Due). AgreesSoFar lenient first lines d last) c.was agrees in
    subst (λ (m : State). OneMore lenient first lines line old new m) (sym still) (record {
      agrees = subst (λ (d : Option Due). AgreesSoFar lenient first (lines ++ line ∷ []) d last) (sym c.is)
          (expected_one lenient first lines c.before c.after last line answer before whole_line silent marked is c.not_ended c.takes);
      counted = c.counted ∙ ap (λ n. n + length (compared_by (Some answer))) counted ∙ counted_one lines line answer is;
      few = omega (arith, c.counted, at_most_one answer);
      same_lenient = c.lenient;
    })

line_more : (silent marked : Bool) (expected : Option (List ℕ)) (lenient : Bool) (first : State) (lines : List TextLine) (line : TextLine) (number : ℕ) (old new : Tested) (last next : State) → All IsWhole lines → AgreesSoFar lenient first lines old.due last
    → old.expectations ≡ length (expected_by lines) → old.lenient ≡ lenient → IsWhole line → number ≡ 1 + length lines → is_silent line.bytes ≡ silent → is_marked line.bytes ≡ marked → expected_in line.bytes ≡ expected
    → GoesBy last old number line.bytes silent marked expected next new → OneMore lenient first lines line old new next
line_more false marked expected lenient first lines line number old new last next whole agrees counted lenient_is whole_line number_is s m e g =
    goes_more lenient first lines line number old new last next whole agrees counted lenient_is whole_line number_is s g
line_more true false expected lenient first lines line number old new last next whole agrees counted lenient_is whole_line number_is s m e g =
    same_more lenient first lines line old new last next agrees counted whole_line s m g.0 g.1
line_more true true (Some answer) lenient first lines line number old new last next whole agrees counted lenient_is whole_line number_is s m e g =
    compared_more lenient first lines line answer old new last next agrees counted whole_line s m e g.0 g.1
line_more true true None lenient first lines line number old new last next whole agrees counted lenient_is whole_line number_is s m e g = absurd g

pub so_far_on : (lenient : Bool) (first : State) (old mid new : Option (List ℕ)) (now after : List ℕ × ℕ) (kept : List ℕ × Bool) (number : ℕ) (last next : State) (tested then' : Tested) (r : Option Ending) (ending : Ending) (bytes : List ℕ)
    → SoFar lenient first old mid now number last tested → GivesLine mid new now after kept (Ok r) → r ≡ Some ending → ending ≡ Whole → bytes ≡ kept.0 → TestsLine last tested number bytes next then' (Ok tt)
    → SoFar lenient first old new after (number + 1) next then'
so_far_on lenient first old mid new now after kept number last next tested then' r ending bytes a gives is whole same told =
    let g = subst (λ (o : Option Ending). GivesLine mid new now after kept (Ok o)) (is ∙ ap Some whole) gives in
    let l = g.0 in
    let line : TextLine = record { bytes = l.bytes; whole = true } in
    let e = ending_whole l.bytes kept l.kept_is g.1 in
    let goes : TestsLine last tested number l.bytes next then' (Ok tt) = subst (λ (b : List ℕ). TestsLine last tested number b next then' (Ok tt)) (same ∙ e.1) told in
    let more = line_more (is_silent l.bytes) (is_marked l.bytes) (expected_in l.bytes) lenient first a.lines line number tested then' last next a.whole a.agrees a.counted a.lenient_is e.0 a.taken.number_is refl refl refl goes in
    record {
      lines = a.lines ++ line ∷ [];
      taken = taken_more old mid new now after kept number a.lines a.taken l;
      whole = All-push IsWhole a.lines line a.whole e.0;
      agrees = more.agrees;
      counted = more.counted;
      few = omega (arith, a.few, more.few);
      lenient_is = more.same_lenient ∙ a.lenient_is;
    }

-- HOW THE LOOP ENDS

-- the lines so far, where more was read, whose lines these are
some_with : (lenient : Bool) (first : State) (old mid new : Option (List ℕ)) (now : List ℕ × ℕ) (number : ℕ) (last : State) (tested : Tested) (read taken : List ℕ) (later : List TextLine)
    → SoFar lenient first old mid now number last tested → Consumes mid new read → now.0 ++ read ≡ taken → lines_of taken ≡ later → AgreesSome lenient first old new
some_with lenient first old mid new now number last tested read taken later a more same is =
    let w = taken_with old mid new now number a.lines read taken a.taken more same in
    record {
      read = a.taken.read ++ read;
      «from» = w.0;
      lines = a.lines;
      later = later;
      parts = w.1 ∙ ap (λ ls. a.lines ++ ls) is;
      whole = a.whole;
      last = last;
      due = tested.due;
      agrees = a.agrees;
    }

-- a read failed
pub stops_read : (lenient : Bool) (first : State) (old mid new : Option (List ℕ)) (now after : List ℕ × ℕ) (kept : List ℕ × Bool) (number : ℕ) (last : State) (tested : Tested) (e : RunFault)
    → SoFar lenient first old mid now number last tested → GivesLine mid new now after kept (Err e) → TestsLines lenient first old new (Err (Stopped Read))
unfolding some_with
stops_read lenient first old mid new now after kept number last tested e a gives =
    let l = gives.0 in
    (some_with lenient first old mid new now number last tested l.takes.read l.bytes (lines_of l.bytes) a l.takes.from (rest_is mid new now after kept l) refl, none_whole l.bytes l.plain)

-- what fails here is what the test returns
stops_at : (failure : Failure) (lenient : Bool) (first : State) (old new : Option (List ℕ)) (why : Failure → Type 0) → (a : AgreesSome lenient first old new) → EndsInput a.later new
    → ((f : Failure) → why f → FailsNext lenient a.due (1 + length a.lines) a.later f) → (why NoExpectations → ⊥) → Fails why failure → TestsLines lenient first old new (Err failure)
stops_at (Differs difference) lenient first old new why a end fails none h = record { some = a; fails = fails (Differs difference) h; ended = end }
stops_at (Refused refusal) lenient first old new why a end fails none h = record { some = a; fails = fails (Refused refusal) h; ended = end }
stops_at NoExpectations lenient first old new why a end fails none h = absurd (none h)
stops_at (Malformed n fault) lenient first old new why a end fails none h = record { some = a; fails = fails (Malformed n fault) h; ended = end }
stops_at (Stopped fault) lenient first old new why a end fails none h = subst (λ (f : RunFault). TestsLines lenient first old new (Err (Stopped f))) (sym h) a

-- all lines of the input are as expected
all_with : (lenient : Bool) (first : State) (old mid new : Option (List ℕ)) (now after : List ℕ × ℕ) (kept : List ℕ × Bool) (number : ℕ) (last : State) (tested : Tested)
    → SoFar lenient first old mid now number last tested → GivesLine mid new now after kept (Ok None) → IsClosed tested.lenient tested.due
    → (all : AllAsExpected lenient first old new) × (length (lines_of all.read) ≡ number - 1) × (length (expected_by (lines_of all.read)) ≡ tested.expectations)
all_with lenient first old mid new now after kept number last tested a g closed =
    let l = g.0 in
    let none : l.bytes ≡ [] = nothing_kept l.bytes (sym (ap (λ k. k.0) l.kept_is) ∙ g.2) in
    let w = taken_with old mid new now number a.lines l.takes.read l.bytes a.taken l.takes.from (rest_is mid new now after kept l) in
    let count : length a.lines ≡ number - 1 = let n = a.taken.number_is in omega (arith, n) in
    let all : lines_of (a.taken.read ++ l.takes.read) ≡ a.lines = w.1 ∙ ap (λ b. a.lines ++ lines_of b) none ∙ append-nil a.lines in
    let is_closed : IsClosed lenient tested.due = subst (λ (x : Bool). IsClosed x tested.due) a.lenient_is closed in (
      record {
        read = a.taken.read ++ l.takes.read;
        «from» = w.0;
        ended = g.1;
        whole = subst (λ (ls : List TextLine). All IsWhole ls) (sym all) a.whole;
        last = last;
        expected = subst (λ (ls : List TextLine). AreAsExpected lenient first 1 ls last) (sym all) (lines_closed lenient first a.lines tested.due last a.whole a.agrees is_closed);
        top = ap expected_below all ∙ none_above lenient first a.lines tested.due last a.agrees;
      },
      ap length all ∙ count,
      ap (λ ls. length (expected_by ls)) all ∙ sym a.counted,
    )

-- a script that is no test compares no answer, and the test is not lenient
not_false : (a : Bool) → not a ≡ false → a ≡ true
not_false true h = refl
not_false false h = absurd (false≢true (sym h))

no_test_is : (lenient : Bool) (count : ℕ) → is_test lenient count ≡ false → (lenient ≡ false) × (count ≡ 0)
no_test_is true count h = absurd (false≢true (sym h))
no_test_is false count h =
    let zero' : (count == 0) ≡ true = not_false (count == 0) h in
    let none : count ≡ 0 = grind (arith, nat_tests) in (refl, none)

-- the script ended
ends_with : (failure : Failure) (lenient : Bool) (first : State) (old mid new : Option (List ℕ)) (now after : List ℕ × ℕ) (kept : List ℕ × Bool) (number : ℕ) (last : State) (tested : Tested)
    → SoFar lenient first old mid now number last tested → GivesLine mid new now after kept (Ok None) → Fails (EndFails tested) failure → TestsLines lenient first old new (Err failure)
unfolding some_with
ends_with NoExpectations lenient first old mid new now after kept number last tested a g told =
    let all = all_with lenient first old mid new now after kept number last tested a g told.0 in
    let no_test = no_test_is tested.lenient tested.expectations told.1 in
    record { all = all.0; strict = sym a.lenient_is ∙ no_test.0; none = all.2 ∙ no_test.1 }
ends_with (Differs difference) lenient first old mid new now after kept number last tested a g told =
    let l = g.0 in
    let none : l.bytes ≡ [] = nothing_kept l.bytes (sym (ap (λ k. k.0) l.kept_is) ∙ g.2) in
    record { some = some_with lenient first old mid new now number last tested l.takes.read l.bytes [] a l.takes.from (rest_is mid new now after kept l) (ap lines_of none); fails = told; ended = g.1 }
ends_with (Refused refusal) lenient first old mid new now after kept number last tested a g told =
    let l = g.0 in
    let none : l.bytes ≡ [] = nothing_kept l.bytes (sym (ap (λ k. k.0) l.kept_is) ∙ g.2) in
    record {
      some = some_with lenient first old mid new now number last tested l.takes.read l.bytes [] a l.takes.from (rest_is mid new now after kept l) (ap lines_of none);
      fails = subst (λ (x : Bool). FailsNext x tested.due 0 [] (Refused refusal)) a.lenient_is told;
      ended = g.1;
    }
ends_with (Malformed m fault) lenient first old mid new now after kept number last tested a g told = absurd told
ends_with (Stopped fault) lenient first old mid new now after kept number last tested a g told =
    let l = g.0 in
    let none : l.bytes ≡ [] = nothing_kept l.bytes (sym (ap (λ k. k.0) l.kept_is) ∙ g.2) in
    subst (λ (f : RunFault). TestsLines lenient first old new (Err (Stopped f))) (sym told)
    (some_with lenient first old mid new now number last tested l.takes.read l.bytes [] a l.takes.from (rest_is mid new now after kept l) (ap lines_of none))

pub ends_all : (result : Result Passed Failure) (lenient : Bool) (first : State) (old mid new : Option (List ℕ)) (now after : List ℕ × ℕ) (kept : List ℕ × Bool) (number : ℕ) (last : State) (tested : Tested) (r : Option Ending)
    → SoFar lenient first old mid now number last tested → GivesLine mid new now after kept (Ok r) → r ≡ None → TestsEnd tested (number - 1) result → TestsLines lenient first old new result
ends_all (Ok passed) lenient first old mid new now after kept number last tested r a gives is told =
    let g = subst (λ (o : Option Ending). GivesLine mid new now after kept (Ok o)) is gives in
    let all = all_with lenient first old mid new now after kept number last tested a g told.0 in
    record {
      all = all.0;
      lines = told.1 ∙ sym all.1;
      expectations = told.2 ∙ sym all.2;
      some = ap (λ (n : ℕ). is_test lenient n) told.2 ∙ ap (λ (x : Bool). is_test x tested.expectations) (sym a.lenient_is) ∙ told.3;
    }
ends_all (Err failure) lenient first old mid new now after kept number last tested r a gives is told =
    ends_with failure lenient first old mid new now after kept number last tested a (subst (λ (o : Option Ending). GivesLine mid new now after kept (Ok o)) is gives) told

-- a whole line is not cut
whole_not_cut : (ending : Ending) (new : Option (List ℕ)) → ending ≡ Whole → ending ≡ IsCut → IsAtEnd new
whole_not_cut ending new whole cut = let wrong : Whole ≡ IsCut = sym whole ∙ cut in absurd (let no' : ⊥ = cc in no')

long_not_cut : (ending : Ending) (new : Option (List ℕ)) → ending ≡ TooLong → ending ≡ IsCut → IsAtEnd new
long_not_cut ending new long cut = let wrong : TooLong ≡ IsCut = sym long ∙ cut in absurd (let no' : ⊥ = cc in no')

-- the ending of a line ended it
ends_why : (failure : Failure) (lenient : Bool) (first : State) (old new : Option (List ℕ)) (a : AgreesSome lenient first old new) (number : ℕ) (ending : Ending) (bytes : List ℕ) → FailsAt lenient a.due number ending bytes failure
    → EndsInput a.later new → ((f : Failure) → FailsAt lenient a.due number ending bytes f → FailsNext lenient a.due (1 + length a.lines) a.later f) → TestsLines lenient first old new (Err failure)
ends_why (Differs difference) lenient first old new a number ending bytes h end fails = record { some = a; fails = fails (Differs difference) h; ended = end }
ends_why (Refused refusal) lenient first old new a number ending bytes h end fails = record { some = a; fails = fails (Refused refusal) h; ended = end }
ends_why NoExpectations lenient first old new a number ending bytes h end fails = absurd h
ends_why (Malformed n fault) lenient first old new a number ending bytes h end fails = record { some = a; fails = fails (Malformed n fault) h; ended = end }
ends_why (Stopped fault) lenient first old new a number ending bytes h end fails = absurd h

pub ends_by : (ending : Ending) (lenient : Bool) (first : State) (old mid new : Option (List ℕ)) (now after : List ℕ × ℕ) (kept : List ℕ × Bool) (number : ℕ) (last : State) (tested : Tested) (r : Option Ending) (failure : Failure)
    → SoFar lenient first old mid now number last tested → GivesLine mid new now after kept (Ok r) → r ≡ Some ending → ((bytes : List ℕ) → EndsWhole number ending bytes (Err failure)) → TestsLines lenient first old new (Err failure)
unfolding some_with
ends_by Whole lenient first old mid new now after kept number last tested r failure a gives is by =
    let g = subst (λ (o : Option Ending). GivesLine mid new now after kept (Ok o)) is gives in
    let l = g.0 in
    let line : TextLine = record { bytes = l.bytes; whole = true } in
    let e = ending_whole l.bytes kept l.kept_is g.1 in
    let n = a.taken.number_is in
    let s = some_with lenient first old mid new now number last tested l.takes.read ((l.bytes ++ 10 ∷ []) ++ after.0) (line ∷ lines_of after.0) a l.takes.from l.takes.same (line_of_more mid new now after kept l) in
    ends_why failure lenient first old new s number Whole l.bytes (by l.bytes lenient tested.due) (whole_not_cut (ending_of line) new e.0)
    (λ f h. subst (λ (k : ℕ). FailsAt lenient tested.due k (ending_of line) l.bytes f) n (subst (λ (x : Ending). FailsAt lenient tested.due number x l.bytes f) (sym e.0) h))
ends_by TooLong lenient first old mid new now after kept number last tested r failure a gives is by =
    let g = subst (λ (o : Option Ending). GivesLine mid new now after kept (Ok o)) is gives in
    let l = g.0 in
    let line : TextLine = record { bytes = l.bytes; whole = true } in
    let e = ending_long l.bytes kept l.kept_is g.1 in
    let n = a.taken.number_is in
    let s = some_with lenient first old mid new now number last tested l.takes.read ((l.bytes ++ 10 ∷ []) ++ after.0) (line ∷ lines_of after.0) a l.takes.from l.takes.same (line_of_more mid new now after kept l) in
    ends_why failure lenient first old new s number TooLong l.bytes (by l.bytes lenient tested.due) (long_not_cut (ending_of line) new e)
    (λ f h. subst (λ (k : ℕ). FailsAt lenient tested.due k (ending_of line) l.bytes f) n (subst (λ (x : Ending). FailsAt lenient tested.due number x l.bytes f) (sym e) h))
ends_by IsCut lenient first old mid new now after kept number last tested r failure a gives is by =
    let g = subst (λ (o : Option Ending). GivesLine mid new now after kept (Ok o)) is gives in
    let l = g.0 in
    let some : 0 < length (take 4096 l.bytes) = omega (arith, g.2, ap (λ k. length k.0) l.kept_is) in
    let line : TextLine = record { bytes = l.bytes; whole = false } in
    let n = a.taken.number_is in
    let s = some_with lenient first old mid new now number last tested l.takes.read l.bytes (line ∷ []) a l.takes.from (rest_is mid new now after kept l) (cut_line l.bytes l.plain (something_kept l.bytes some)) in
    ends_why failure lenient first old new s number IsCut l.bytes (by l.bytes lenient tested.due) (λ cut. g.1)
    (λ f h. subst (λ (k : ℕ). FailsAt lenient tested.due k IsCut l.bytes f) n h)

-- a line failed
pub ends_at : (lenient : Bool) (first : State) (old mid new : Option (List ℕ)) (now after : List ℕ × ℕ) (kept : List ℕ × Bool) (number : ℕ) (last next : State) (tested then' : Tested) (r : Option Ending) (ending : Ending) (bytes : List ℕ) (failure : Failure)
    → SoFar lenient first old mid now number last tested → GivesLine mid new now after kept (Ok r) → r ≡ Some ending → ending ≡ Whole → bytes ≡ kept.0 → TestsLine last tested number bytes next then' (Err failure)
    → TestsLines lenient first old new (Err failure)
unfolding some_with
ends_at lenient first old mid new now after kept number last next tested then' r ending bytes failure a gives is whole same told =
    let g = subst (λ (o : Option Ending). GivesLine mid new now after kept (Ok o)) (is ∙ ap Some whole) gives in
    let l = g.0 in
    let line : TextLine = record { bytes = l.bytes; whole = true } in
    let e = ending_whole l.bytes kept l.kept_is g.1 in
    stops_at failure lenient first old new (FailsAt tested.lenient tested.due number Whole bytes)
    (some_with lenient first old mid new now number last tested l.takes.read ((l.bytes ++ 10 ∷ []) ++ after.0) (line ∷ lines_of after.0) a l.takes.from l.takes.same (line_of_more mid new now after kept l))
    (whole_not_cut (ending_of line) new e.0)
    (λ f h. subst (λ (k : ℕ). FailsAt lenient tested.due k (ending_of line) l.bytes f) a.taken.number_is
    (subst (λ (x : Ending). FailsAt lenient tested.due number x l.bytes f) (sym e.0)
    (subst (λ (b : List ℕ). FailsAt lenient tested.due number Whole b f) (same ∙ e.1) (subst (λ (x : Bool). FailsAt x tested.due number Whole bytes f) a.lenient_is h))))
    (λ none. none) told

-- THE TEST

first_of : (lenient : Bool) (frames : ℕ) (size : PageSize) (run : ScriptRun) (old new : Option (List ℕ)) → (b : IsFirstRun frames size run) → AgreesSome lenient (state_of run) old new → AgreesFirst lenient frames size old new
first_of lenient frames size run old new b a = record {
  read = a.read;
  «from» = a.from;
  lines = a.lines;
  later = a.later;
  parts = a.parts;
  whole = a.whole;
  boot = b.0;
  boots = b.1;
  sized = b.2;
  last = a.last;
  due = a.due;
  agrees = subst (λ (m : State). AgreesSoFar lenient m a.lines a.due a.last) b.3 a.agrees;
}

all_of : (lenient : Bool) (frames : ℕ) (size : PageSize) (run : ScriptRun) (old new : Option (List ℕ)) → (b : IsFirstRun frames size run) → AllAsExpected lenient (state_of run) old new → AllAgree lenient frames size old new
all_of lenient frames size run old new b t = record {
  read = t.read;
  «from» = t.from;
  ended = t.ended;
  whole = t.whole;
  boot = b.0;
  boots = b.1;
  sized = b.2;
  last = t.last;
  expected = subst (λ (m : State). AreAsExpected lenient m 1 (lines_of t.read) t.last) b.3 t.expected;
  top = t.top;
}

pub tests_all : (result : Result Passed Failure) (lenient : Bool) (frames : ℕ) (size : PageSize) (run : ScriptRun) (old new : Option (List ℕ)) → IsFirstRun frames size run → TestsLines lenient (state_of run) old new result
    → Tests lenient frames size old new result
unfolding first_of all_of
tests_all (Ok passed) lenient frames size run old new b t = record { all = all_of lenient frames size run old new b t.all; lines = t.lines; expectations = t.expectations; some = t.some }
tests_all (Err NoExpectations) lenient frames size run old new b t = record { all = all_of lenient frames size run old new b t.all; strict = t.strict; none = t.none }
tests_all (Err (Stopped Read)) lenient frames size run old new b t = (first_of lenient frames size run old new b t.0, t.1)
tests_all (Err (Stopped Write)) lenient frames size run old new b t = absurd t
tests_all (Err (Stopped Memory)) lenient frames size run old new b t = inr (first_of lenient frames size run old new b t)
tests_all (Err (Differs difference)) lenient frames size run old new b t = (first_of lenient frames size run old new b t.some, t.fails, t.ended)
tests_all (Err (Refused refusal)) lenient frames size run old new b t = (first_of lenient frames size run old new b t.some, t.fails, t.ended)
tests_all (Err (Malformed n fault)) lenient frames size run old new b t = (first_of lenient frames size run old new b t.some, t.fails, t.ended)
