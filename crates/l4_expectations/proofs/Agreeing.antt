-- Lines that agree with what is expected of them, and one line more.
use Rattle.std.proofs.Common.{◌≡◌, ℕ, ◌+◌, ◌≤◌, ◌==◌, ◌⊎◌, inl, inr, Bool, true, false, cond, ◌||◌, ◌&&◌, List, [], ◌∷◌, ◌++◌, length, length-append, drop, Option, Some, None, Result, Ok, refl, sym, ap, subst, ◌∙◌, arith}
use Rattle.std.specs.Prelude.{is_some}
use Rattle.std.specs.List.{All}
use Rattle.std.proofs.lemmas.Bool.{false≢true}
use Rattle.std.proofs.lemmas.Bool.Decides.{nat_tests}
use Rattle.std.proofs.lemmas.Grind.{flat_map-append}
use Rattle.std.proofs.lemmas.List.{append-nil}
use Rattle.std.proofs.lemmas.List.Elements.{All-head, All-tail, All-push}
use Rattle.std.proofs.lemmas.Slice.Eq.{bytes_eq-Decides}
use mathlib.Core.List.{append_assoc}
use Rattle.l4_answers.specs.Reports.{Report}
use Rattle.l4_text.specs.Grammar.{TextLine, is_silent, ending_of}
use Rattle.l4_fpage.specs.declared.sizes.PageSize.{PageSize}
use Rattle.l4_names.specs.Names.{Names}
use Rattle.l4_commands.specs.Commands.{command_of}
use Rattle.l4_commands.specs.Requests.{asked_at, asked_of, some_request}
use Rattle.l4_shell.specs.Sessions.{State, AnswersLine}
use Rattle.l4_sinks.specs.Texts.{AreAnswerTexts}
use Rattle.l4_text.proofs.LineSteps.{empty_list}
use Rattle.l4_text.specs.Tokens.{tokens_of}
use Rattle.l4_text.specs.declared.lines.Ending.TheVariants.{Whole}
use Rattle.l4_expectations.specs.declared.due.Due.{Due}
use Rattle.l4_expectations.specs.declared.due.Stage.{Stage}
use Rattle.l4_expectations.specs.declared.due.Stage.TheVariants.{Untouched, Begun, Rest}
use Rattle.l4_expectations.specs.Expectations.{is_marked, answer_in, expected_in, rest, is_rest, one, compared_by, expected_by, expected_below, lines_text, NeedNone, Agrees, IsAsExpected, AreAsExpected}
use Rattle.l4_expectations.specs.Tests.{HasCompared, Compares, AgreesSoFar, is_ended, allows_more, IsClosedBy, IsClosed}
use Rattle.l4_expectations.specs.Inside.Lines.{Takes}
use Rattle.l4_answers.specs.Lines.{later_lines, is_next}
use Rattle.l4_answers.proofs.FirstLine.{next_in_front}

abbrev Silent : TextLine → Type 0
Silent line = is_silent line.bytes ≡ true

abbrev IsWhole : TextLine → Type 0
IsWhole line = ending_of line ≡ Whole

abbrev Readable : TextLine → Type 0
Readable line = is_marked line.bytes ≡ is_some (expected_in line.bytes)

-- WHAT IS EXPECTED BELOW A LINE

-- silent lines go on with what is expected behind them
below_more : (below more : List TextLine) → All Silent below → expected_below (below ++ more) ≡ expected_below below ++ expected_below more
below_more [] more h = refl
below_more (line ∷ below) more h =
    let front = one (expected_in line.bytes) in
    let is : is_silent line.bytes ≡ true = All-head Silent line below h in
    ap (λ b. cond b (front ++ expected_below (below ++ more)) []) is
    ∙ ap (λ x. front ++ x) (below_more below more (All-tail Silent line below h))
    ∙ sym (append_assoc front (expected_below below) (expected_below more))
    ∙ sym (ap (λ b. cond b (front ++ expected_below below) [] ++ expected_below more) is)

-- a line with answers ends it
below_ends : (below : List TextLine) (line : TextLine) (more : List TextLine) → is_silent line.bytes ≡ false → expected_below (below ++ line ∷ more) ≡ expected_below below
below_ends [] line more h = ap (λ b. cond b (one (expected_in line.bytes) ++ expected_below more) []) h
below_ends (first ∷ below) line more h = ap (λ x. cond (is_silent first.bytes) (one (expected_in first.bytes) ++ x) []) (below_ends below line more h)

-- one silent line more
below_one : (below : List TextLine) (line : TextLine) → All Silent below → Silent line → expected_below (below ++ line ∷ []) ≡ expected_below below ++ one (expected_in line.bytes)
below_one below line h is =
    below_more below (line ∷ []) h
    ∙ ap (λ x. expected_below below ++ x) (ap (λ b. cond b (one (expected_in line.bytes) ++ []) []) is ∙ append-nil (one (expected_in line.bytes)))

-- LINES AS EXPECTED

below_same : (lenient : Bool) (old new : State) (number : ℕ) (line : TextLine) (below more : List TextLine) → expected_below below ≡ expected_below more → IsAsExpected lenient old number line below new → IsAsExpected lenient old number line more new
below_same lenient old new number line below more same a = record {
  told = a.told;
  text = a.text;
  answers = a.answers;
  is_text = a.is_text;
  agrees = λ asks. subst (λ (e : List (List ℕ)). Agrees lenient e a.text) same (a.agrees asks);
  readable = a.readable;
}

-- a line with answers, and those below it, behind other lines
expected_more : (lenient : Bool) (first between last : State) (number : ℕ) (before : List TextLine) (line : TextLine) (below : List TextLine) → is_silent line.bytes ≡ false
    → AreAsExpected lenient first number before between → AreAsExpected lenient between (number + length before) (line ∷ below) last → AreAsExpected lenient first number (before ++ line ∷ below) last
expected_more lenient first between last number [] line below asks are more =
    subst (λ (m : State). AreAsExpected lenient m number (line ∷ below) last) are (subst (λ (n : ℕ). AreAsExpected lenient between n (line ∷ below) last) (omega arith) more)
expected_more lenient first between last number (head ∷ before) line below asks are more =
    let n : number + length (head ∷ before) ≡ (number + 1) + length before = omega arith in (
      are.0,
      below_same lenient first are.0 number head before (before ++ line ∷ below) (sym (below_ends before line below asks)) are.1,
      expected_more lenient are.0 between last (number + 1) before line below asks are.2 (subst (λ (k : ℕ). AreAsExpected lenient between k (line ∷ below) last) n more),
    )

-- a silent line has no answer
asked_none : (size : PageSize) (names : Names) (bytes : List ℕ) → is_silent bytes ≡ true → asked_at size names Whole bytes ≡ Ok None
asked_none size names bytes is = ap (λ b. cond b (Ok None) (some_request bytes (command_of size names (tokens_of bytes)))) is

silent_answers : (m : State) (number : ℕ) (line : TextLine) → IsWhole line → Silent line → AnswersLine m number (asked_of m.session.machine.size m.names line) [] m
silent_answers m number line whole is =
    let asked : asked_of m.session.machine.size m.names line ≡ Ok None = ap (λ e. asked_at m.session.machine.size m.names e line.bytes) whole ∙ asked_none m.session.machine.size m.names line.bytes is in
    subst (λ (q : Result _ _). AnswersLine m number q [] m) (sym asked) (refl, refl)

silent_lines : (lenient : Bool) (m : State) (number : ℕ) (lines : List TextLine) → All IsWhole lines → All Silent lines → All Readable lines → AreAsExpected lenient m number lines m
silent_lines lenient m number [] whole silent readable = refl
silent_lines lenient m number (line ∷ lines) whole silent readable = (
  m,
  record {
    told = [];
    text = [];
    answers = silent_answers m number line (All-head IsWhole line lines whole) (All-head Silent line lines silent);
    is_text = refl;
    agrees = λ asks. absurd (false≢true (sym asks ∙ All-head Silent line lines silent));
    readable = All-head Readable line lines readable;
  },
  silent_lines lenient m (number + 1) lines (All-tail IsWhole line lines whole) (All-tail Silent line lines silent) (All-tail Readable line lines readable),
)

-- NOTHING IS LEFT

none_left : (left : List ℕ) → (length left == 0) ≡ true → left ≡ []
none_left left h = let empty : length left ≡ 0 = grind (arith, nat_tests) in empty_list left empty

all_agree : (lenient : Bool) (stage : Stage) (expected : List (List ℕ)) (text left : List ℕ) → HasCompared stage expected text left → IsClosedBy lenient (allows_more stage) left → Agrees lenient expected text
all_agree lenient Untouched expected text left h closed = inl (h.0, subst (NeedNone lenient) h.1 closed)
all_agree lenient Begun expected text left h closed = inr (inl (h.1 ∙ ap (λ x. lines_text expected ++ x) (none_left left closed) ∙ append-nil (lines_text expected)))
all_agree lenient Rest expected text left h closed = inr (inr (h.0, left, h.1, h.2, closed))

-- the lines so far are as expected, where no answer is left of the last one
due_closed : (lenient : Bool) (first : State) (lines : List TextLine) (due : Due) (last : State) → Compares lenient first lines due last → IsClosedBy lenient (allows_more due.stage) due.left
    → AreAsExpected lenient first 1 lines last
due_closed lenient first lines due last c closed =
    let block : AreAsExpected lenient c.between (1 + length c.before) (c.line ∷ c.below) last = (
      last,
      record {
        told = c.told;
        text = c.text;
        answers = subst (λ (n : ℕ). AnswersLine c.between n (asked_of c.between.session.machine.size c.between.names c.line) c.told last) c.number c.answers;
        is_text = c.is_text;
        agrees = λ asks. all_agree lenient due.stage (expected_below c.below) c.text due.left c.compared closed;
        readable = c.readable;
      },
      silent_lines lenient last (1 + length c.before + 1) c.below c.whole c.silent c.all_readable,
    ) in
    subst (λ (ls : List TextLine). AreAsExpected lenient first 1 ls last) (sym c.parts) (expected_more lenient first c.between last 1 c.before c.line c.below c.asks c.expected block)

pub lines_closed : (lenient : Bool) (first : State) (lines : List TextLine) (due : Option Due) (last : State) → All IsWhole lines → AgreesSoFar lenient first lines due last → IsClosed lenient due
    → AreAsExpected lenient first 1 lines last
lines_closed lenient first lines None last whole a closed =
    subst (λ (m : State). AreAsExpected lenient first 1 lines m) (sym a.same) (silent_lines lenient first 1 lines whole a.silent a.all_readable)
lines_closed lenient first lines (Some due) last whole a closed = due_closed lenient first lines due last a closed

-- what is expected above the first line with answers: nothing
pub none_above : (lenient : Bool) (first : State) (lines : List TextLine) (due : Option Due) (last : State) → AgreesSoFar lenient first lines due last → expected_below lines ≡ []
none_above lenient first lines None last a = a.none_expected
none_above lenient first lines (Some due) last a = ap expected_below a.parts ∙ below_ends a.before a.line a.below a.asks ∙ a.above

-- ONE LINE MORE

-- a line that begins with `#=` is silent, so a line with answers does not
or_left : (a b : Bool) → (a || b) ≡ false → a ≡ false
or_left true b h = h
or_left false b h = refl

not_marked : (bytes : List ℕ) → is_silent bytes ≡ false → is_marked bytes ≡ false
not_marked [] h = refl
not_marked (a ∷ []) h = refl
not_marked (a ∷ b ∷ bytes) h = ap (λ v. v && b == 61) (or_left (a == 35) _ h)

unmarked_none : (bytes : List ℕ) → is_marked bytes ≡ false → expected_in bytes ≡ None
unmarked_none bytes h = ap (λ b. cond b (answer_in (drop 2 bytes)) None) h

unmarked_readable : (line : TextLine) → is_marked line.bytes ≡ false → Readable line
unmarked_readable line h = h ∙ sym (ap is_some (unmarked_none line.bytes h))

some_readable : (line : TextLine) (answer : List ℕ) → is_marked line.bytes ≡ true → expected_in line.bytes ≡ Some answer → Readable line
some_readable line answer h is = h ∙ sym (ap is_some is)

-- a line with answers
pub answered_more : (lenient : Bool) (first : State) (lines : List TextLine) (due : Option Due) (last next : State) (line : TextLine) (number : ℕ) (text : List ℕ) → All IsWhole lines → AgreesSoFar lenient first lines due last
    → IsClosed lenient due → IsWhole line → is_silent line.bytes ≡ false → number ≡ 1 + length lines
    → (told : List Report) × AnswersLine last number (asked_of last.session.machine.size last.names line) told next × AreAnswerTexts None told text
    → Compares lenient first (lines ++ line ∷ []) (record { number = number; left = text; stage = Untouched }) next
answered_more lenient first lines due last next line number text whole a closed whole_line asks number_is is = record {
  before = lines;
  between = last;
  line = line;
  below = [];
  parts = refl;
  expected = lines_closed lenient first lines due last whole a closed;
  above = none_above lenient first lines due last a;
  number = number_is;
  told = is.0;
  text = text;
  answers = is.1;
  is_text = is.2;
  asks = asks;
  readable = unmarked_readable line (not_marked line.bytes asks);
  silent = λ k d lt. absurd (omega arith);
  whole = λ k d lt. absurd (omega arith);
  all_readable = λ k d lt. absurd (omega arith);
  compared = (refl, refl);
}

-- a silent line below the last one with answers
below_push : (lenient : Bool) (first : State) (lines : List TextLine) (due after : Due) (last : State) (line : TextLine) → (c : Compares lenient first lines due last) → IsWhole line → Silent line → Readable line → after.number ≡ due.number
    → HasCompared after.stage (expected_below c.below ++ one (expected_in line.bytes)) c.text after.left → Compares lenient first (lines ++ line ∷ []) after last
below_push lenient first lines due after last line c whole silent readable same compared = record {
  before = c.before;
  between = c.between;
  line = c.line;
  below = c.below ++ line ∷ [];
  parts = ap (λ x. x ++ line ∷ []) c.parts ∙ append_assoc c.before (c.line ∷ c.below) (line ∷ []);
  expected = c.expected;
  above = c.above;
  number = same ∙ c.number;
  told = c.told;
  text = c.text;
  answers = subst (λ (n : ℕ). AnswersLine c.between n (asked_of c.between.session.machine.size c.between.names c.line) c.told last) (sym same) c.answers;
  is_text = c.is_text;
  asks = c.asks;
  readable = c.readable;
  silent = All-push Silent c.below line c.silent silent;
  whole = All-push IsWhole c.below line c.whole whole;
  all_readable = All-push Readable c.below line c.all_readable readable;
  compared = subst (λ (e : List (List ℕ)). HasCompared after.stage e c.text after.left) (sym (below_one c.below line c.silent silent)) compared;
}

-- a silent line without an expectation
pub silent_more : (lenient : Bool) (first : State) (lines : List TextLine) (due : Option Due) (last : State) (line : TextLine) → AgreesSoFar lenient first lines due last → IsWhole line → Silent line → is_marked line.bytes ≡ false
    → AgreesSoFar lenient first (lines ++ line ∷ []) due last
silent_more lenient first lines None last line a whole silent unmarked = record {
  silent = All-push Silent lines line a.silent silent;
  all_readable = All-push Readable lines line a.all_readable (unmarked_readable line unmarked);
  none_expected = below_one lines line a.silent silent ∙ ap (λ x. expected_below lines ++ one x) (unmarked_none line.bytes unmarked) ∙ append-nil (expected_below lines) ∙ a.none_expected;
  same = a.same;
}
silent_more lenient first lines (Some due) last line a whole silent unmarked =
    below_push lenient first lines due due last line a whole silent (unmarked_readable line unmarked) refl
    (subst (λ (e : List (List ℕ)). HasCompared due.stage e a.text due.left)
    (sym (ap (λ x. expected_below a.below ++ one x) (unmarked_none line.bytes unmarked) ∙ append-nil (expected_below a.below))) a.compared)

-- the answers that were compared are the expected ones
so_far : (stage : Stage) (expected : List (List ℕ)) (text left : List ℕ) → is_ended stage ≡ false → HasCompared stage expected text left → text ≡ lines_text expected ++ left
so_far Untouched expected text left not_ended h = sym h.1 ∙ ap (λ e. lines_text e ++ left) (sym h.0)
so_far Begun expected text left not_ended h = h.1
so_far Rest expected text left not_ended h = absurd (false≢true (sym not_ended))

-- one answer more
answer_more : (expected : List (List ℕ)) (answer text left later : List ℕ) → text ≡ lines_text expected ++ left → left ≡ (answer ++ 10 ∷ []) ++ later → text ≡ lines_text (expected ++ answer ∷ []) ++ later
answer_more expected answer text left later is next =
    let line = answer ++ 10 ∷ [] in
    let longer : lines_text (expected ++ answer ∷ []) ≡ lines_text expected ++ line =
    flat_map-append (λ (a : List ℕ). a ++ 10 ∷ []) expected (answer ∷ []) ∙ ap (λ x. lines_text expected ++ x) (append-nil line) in
    is ∙ ap (λ x. lines_text expected ++ x) next ∙ sym (append_assoc (lines_text expected) line later) ∙ sym (ap (λ x. x ++ later) longer)

-- an expectation that agrees
takes_by : (before after : Due) (expected : List (List ℕ)) (answer text : List ℕ) → is_ended before.stage ≡ false → HasCompared before.stage expected text before.left
    → ((is_rest answer ≡ true) × (after.left ≡ before.left) × (after.stage ≡ Rest)) ⊎ ((is_next answer before.left ≡ true) × (after.left ≡ later_lines before.left) × (after.stage ≡ Begun))
    → HasCompared after.stage (expected ++ answer ∷ []) text after.left
takes_by before after expected answer text not_ended h (inl all) =
    let is : answer ≡ rest = (bytes_eq-Decides answer rest).0 all.0 in
    subst (λ (s : Stage). HasCompared s (expected ++ answer ∷ []) text after.left) (sym all.2)
    (expected, ap (λ a. expected ++ a ∷ []) is, so_far before.stage expected text before.left not_ended h ∙ ap (λ x. lines_text expected ++ x) (sym all.1))
takes_by before after expected answer text not_ended h (inr next) =
    let left : before.left ≡ (answer ++ 10 ∷ []) ++ after.left = next_in_front answer before.left next.0 ∙ ap (λ x. (answer ++ 10 ∷ []) ++ x) (sym next.1) in
    subst (λ (s : Stage). HasCompared s (expected ++ answer ∷ []) text after.left) (sym next.2)
    (omega (arith, length-append expected (answer ∷ [])), answer_more expected answer text before.left after.left (so_far before.stage expected text before.left not_ended h) left)

pub expected_one : (lenient : Bool) (first : State) (lines : List TextLine) (before after : Due) (last : State) (line : TextLine) (answer : List ℕ) → Compares lenient first lines before last → IsWhole line → Silent line → is_marked line.bytes ≡ true
    → expected_in line.bytes ≡ Some answer → is_ended before.stage ≡ false → Takes before answer after true → Compares lenient first (lines ++ line ∷ []) after last
expected_one lenient first lines before after last line answer c whole silent marked is not_ended takes =
    below_push lenient first lines before after last line c whole silent (some_readable line answer marked is) takes.0
    (subst (λ (o : Option (List ℕ)). HasCompared after.stage (expected_below c.below ++ one o) c.text after.left) (sym is)
    (takes_by before after (expected_below c.below) answer c.text not_ended c.compared takes.1))

-- HOW MANY EXPECTATIONS

-- an expectation compares one answer, or none
one_or_none : (b : Bool) (answer : List ℕ) → length (cond b [] (answer ∷ [])) ≤ 1
one_or_none true answer = omega arith
one_or_none false answer = omega arith

pub at_most_one : (answer : List ℕ) → length (compared_by (Some answer)) ≤ 1
at_most_one answer = one_or_none (is_rest answer) answer

pub counted_one : (lines : List TextLine) (line : TextLine) (answer : List ℕ) → expected_in line.bytes ≡ Some answer
    → length (expected_by lines) + length (compared_by (Some answer)) ≡ length (expected_by (lines ++ line ∷ []))
counted_one lines line answer is =
    let by = λ (l : TextLine). compared_by (expected_in l.bytes) in
    let more : length (expected_by (lines ++ line ∷ [])) ≡ length (expected_by lines ++ (compared_by (expected_in line.bytes) ++ [])) = ap length (flat_map-append by lines (line ∷ [])) in
    let last : length (compared_by (expected_in line.bytes) ++ []) ≡ length (compared_by (Some answer)) = ap (λ o. length (compared_by o ++ [])) is ∙ ap length (append-nil (compared_by (Some answer))) in
    omega (arith, more, last, length-append (expected_by lines) (compared_by (expected_in line.bytes) ++ []))

pub counted_none : (lines : List TextLine) (line : TextLine) → is_marked line.bytes ≡ false → length (expected_by lines) ≡ length (expected_by (lines ++ line ∷ []))
counted_none lines line unmarked =
    let by = λ (l : TextLine). compared_by (expected_in l.bytes) in
    let more : length (expected_by (lines ++ line ∷ [])) ≡ length (expected_by lines ++ (compared_by (expected_in line.bytes) ++ [])) = ap length (flat_map-append by lines (line ∷ [])) in
    let last : length (compared_by (expected_in line.bytes) ++ []) ≡ 0 = ap (λ o. length (compared_by o ++ [])) (unmarked_none line.bytes unmarked) in
    omega (arith, more, last, length-append (expected_by lines) (compared_by (expected_in line.bytes) ++ []))

pub asked_unmarked : (line : TextLine) → is_silent line.bytes ≡ false → is_marked line.bytes ≡ false
asked_unmarked line h = not_marked line.bytes h
