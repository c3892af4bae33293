-- The lines of a script that were copied so far.
use Rattle.std.proofs.Common.{◌≡◌, ℕ, ◌+◌, ◌==◌, ◌<◌, Bool, true, false, List, [], ◌∷◌, ◌++◌, length, take, drop, inl, inr, refl, sym, ap, subst, ◌∙◌, Option, Some, None, Result, Ok, Err, arith}
use Rattle.std.proofs.lemmas.Bool.{false≢true}
use Rattle.std.proofs.lemmas.List.{append-nil, nil_from_length}
use Rattle.std.proofs.lemmas.List.Elements.{All-push}
use Rattle.std.specs.Prelude.{codes, MatchResult}
use Rattle.std.specs.Io.KnownBytes.{Consumes, IsAtEnd}
use Rattle.std.specs.List.{All, position_or_len, flat_map}
use mathlib.Core.List.{append_assoc}
use Rattle.l4_text.specs.Grammar.{TextLine, lines_of, is_silent, ending_of}
use Rattle.l4_text.specs.Lines.{GivesLine}
use Rattle.l4_text.specs.declared.faults.RunFault.{RunFault}
use Rattle.l4_text.specs.declared.faults.RunFault.TheVariants.{Read, Write, Memory}
use Rattle.l4_text.specs.declared.lines.Ending.{Ending}
use Rattle.l4_text.specs.declared.lines.Ending.TheVariants.{Whole, Long as TooLong, Cut as IsCut}
use Rattle.l4_text.proofs.Grammar.{cut_line, none_whole}
use Rattle.l4_fpage.specs.declared.sizes.PageSize.{PageSize}
use Rattle.l4_shell.specs.ByLines.{state_of, IsFirst as IsFirstRun}
use Rattle.l4_shell.specs.Sessions.{State}
use Rattle.l4_shell.specs.declared.by_lines.ScriptRun.{ScriptRun}
use Rattle.l4_answers.proofs.AnswerTexts.{begins}
use Rattle.l4_expectations.specs.Copies.{expecting, expecting_all, CopiesBy, CopiesLine, CopiesLines, NoneAnswered, RestExpected, IsMalformed, FailsAtFirst, CopiesFirst, IsCopy, HasNoAnswers, CopiesScript}
use Rattle.l4_expectations.specs.Expectations.{is_marked, expected_in, is_rest}
use Rattle.l4_expectations.specs.Tests.{EndsInput, FailsAt, Passes, ExpectsNothing, Tests}
use Rattle.l4_expectations.specs.Inside.Copying.{IsFew, IsMemory, Added, Adds, IsLeftOut, NotLeftOut, above_after, GoesAbove, CopiesNext, FailsToCopy, FailsCopy, IsNothing, CopiesSome, CopiesAll}
use Rattle.l4_expectations.specs.Inside.Lines.{EndsWhole}
use Rattle.l4_expectations.specs.declared.copying.Above.{Above}
use Rattle.l4_expectations.specs.declared.copying.Above.TheVariants.{Nothing, Answers, Rest}
use Rattle.l4_expectations.specs.declared.copying.Copied.{Copied}
use Rattle.l4_expectations.specs.declared.copying.Copying.{Copying}
use Rattle.l4_expectations.specs.declared.due.Due.{Due}
use Rattle.l4_expectations.specs.declared.due.Stage.TheVariants.{Untouched}
use Rattle.l4_expectations.specs.declared.outcomes.Failure.{Failure}
use Rattle.l4_expectations.specs.declared.outcomes.Failure.TheVariants.{Differs, Refused, NoExpectations, Malformed, Stopped}
use Rattle.l4_expectations.specs.declared.outcomes.Fault.{Fault}
use Rattle.l4_expectations.specs.declared.outcomes.Fault.TheVariants.{Cut, Long, NoAnswer, NoLine, AfterRest}
use Rattle.l4_answers.proofs.Taking.{Taken, taken_none, taken_more, taken_with, rest_is, line_of_more, ending_whole, ending_long, something_kept, nothing_kept}

-- the answers that were added so far
pub record Adding (old now : Copying) (text rest : List ℕ) : Type 0 where
  pub some : List ℕ
  pub count : ℕ
  pub text_is : now.text.items ≡ old.text.items ++ some
  pub lines_are : now.lines ≡ old.lines + count
  pub above_is : now.above ≡ old.above
  pub few : IsFew now
  pub whole : some ++ expecting_all rest ≡ expecting_all text
  pub all : count + length (lines_of rest) ≡ length (lines_of text)

pub adding_none : (old : Copying) (text : List ℕ) → IsFew old → Adding old old text text
adding_none old text few = record {
  some = [];
  count = 0;
  text_is = sym (append-nil old.text.items);
  lines_are = omega arith;
  above_is = refl;
  few = few;
  whole = refl;
  all = omega arith;
}

pub is_added : (old : Copying) (text : List ℕ) (count : ℕ) (new : Copying) (r : Bool) → Adds old text count new r → r ≡ true → Added old text count new
is_added old text count new true h is = h
is_added old text count new false h is = absurd (false≢true is)

pub adding_more : (old now new : Copying) (text rest left : List ℕ) → Adding old now text rest → 0 < length rest → left ≡ drop (position_or_len (λ b. b == 10) rest + 1) rest
    → Added now (codes "#= " ++ (take (position_or_len (λ b. b == 10) rest) rest ++ 10 ∷ [])) 1 new → Adding old new text left
adding_more old now new text rest left a some left_is added =
    let n = position_or_len (λ b. b == 10) rest in
    let b = begins rest some in
    let one : List ℕ = codes "#= " ++ (take n rest ++ 10 ∷ []) in
    let later : lines_of (drop (n + 1) rest) ≡ lines_of left = ap lines_of (sym left_is) in
    let la = a.lines_are in
    let lb = added.lines_are in
    record {
      some = a.some ++ one;
      count = a.count + 1;
      text_is = added.text_is ∙ ap (λ x. x ++ one) a.text_is ∙ append_assoc old.text.items a.some one;
      lines_are = omega (arith, la, lb);
      above_is = added.above_is ∙ a.above_is;
      few = added.few;
      whole =
          append_assoc a.some one (expecting_all left)
          ∙ ap (λ x. a.some ++ x) (ap (λ (ls : List TextLine). one ++ flat_map expecting ls) (sym later) ∙ sym (ap (λ (ls : List TextLine). flat_map expecting ls) b.lines)) ∙ a.whole;
      all = let c = ap length later in let d = ap length b.lines in let e = a.all in omega (arith, c, d, e);
    }

pub adding_all : (old now : Copying) (text rest : List ℕ) → Adding old now text rest → length rest ≡ 0 → Added old (expecting_all text) (length (lines_of text)) now
adding_all old now text rest a none =
    let empty = nil_from_length rest none in
    let la = a.lines_are in
    record {
      text_is = a.text_is ∙ ap (λ x. old.text.items ++ x) (sym (append-nil a.some) ∙ ap (λ (r : List ℕ). a.some ++ expecting_all r) (sym empty) ∙ a.whole);
      lines_are = let c = ap (λ (r : List ℕ). length (lines_of r)) empty in let d = a.all in omega (arith, c, d, la);
      above_is = a.above_is;
      few = a.few;
    }

-- ONE LINE

-- an expectation was left out, or is malformed
pub left_out : (r : Result (Unit {0}) Failure) (m : State) (old new : Copying) (number : ℕ) (line : List ℕ) → IsFew old → is_silent line ≡ true → is_marked line ≡ true
    → MatchResult r (λ _. IsLeftOut old line new) (NotLeftOut old.above number line) → MatchResult r (λ _. CopiesNext m old line m new) (FailsToCopy old.above number line)
left_out (Ok done) m old new number line few silent marked h = record {
  copy = [];
  count = 0;
  copies = subst (λ (a : Bool). CopiesBy a (is_marked line) m (old.lines + 1) line [] 0 m) (sym silent) (subst (λ (b : Bool). CopiesBy true b m (old.lines + 1) line [] 0 m) (sym marked) (refl, refl, refl));
  text_is = ap (λ (c : Copying). c.text.items) h.same ∙ sym (append-nil old.text.items);
  lines_are = let same = ap (λ (c : Copying). c.lines) h.same in omega (arith, same);
  above_is =
      subst (λ (a : Bool). GoesAbove a (is_marked line) old.above (expected_in line) new.above) (sym silent)
      (subst (λ (b : Bool). GoesAbove true b old.above (expected_in line) new.above) (sym marked)
      (subst (λ (e : Option (List ℕ)). GoesAbove true true old.above e new.above) (sym h.expects) (h.was, ap (λ (c : Copying). c.above) h.same)));
  few = subst IsFew (sym h.same) few;
}
left_out (Err (Differs difference)) m old new number line few silent marked h = absurd h
left_out (Err (Refused refusal)) m old new number line few silent marked h = absurd h
left_out (Err NoExpectations) m old new number line few silent marked h = absurd h
left_out (Err (Malformed n fault)) m old new number line few silent marked h = (marked, h)
left_out (Err (Stopped fault)) m old new number line few silent marked h = absurd h

-- LINE AFTER LINE

abbrev IsWhole : TextLine → Type 0
IsWhole line = ending_of line ≡ Whole

-- what is known of the lines, by what an expectation below them is about
abbrev pub IsAbove : List TextLine → Above → Type 0
IsAbove lines Nothing = NoneAnswered lines
IsAbove lines Answers = Unit {0}
IsAbove lines Rest = RestExpected lines

pub record SoFar (first : State) (old new : Option (List ℕ)) (now : List ℕ × ℕ) (number : ℕ) (last : State) (copying : Copying) : Type 0 where
  pub lines : List TextLine
  pub taken : Taken old new now number lines
  pub whole : All IsWhole lines
  pub copies : CopiesLines first 1 lines copying.text.items copying.lines last
  pub above : IsAbove lines copying.above
  pub few : IsFew copying

pub so_far_none : (first : State) (a : Option (List ℕ)) (now : List ℕ × ℕ) (copying : Copying) → IsNothing copying → now ≡ ([], 0) → SoFar first a a now 1 first copying
so_far_none first a now copying starts is = record {
  lines = [];
  taken = taken_none a now is;
  whole = λ k d lt. absurd (omega arith);
  copies = (starts.text, starts.lines, refl);
  above = subst (λ (x : Above). IsAbove [] x) (sym starts.above) (λ k d lt. absurd (omega arith));
  few = let zero' = starts.lines in omega (arith, zero');
}

-- the lines of a copy, with one more
copies_more : (first mid new : State) (number : ℕ) (lines : List TextLine) (line : TextLine) (copy piece : List ℕ) (count some : ℕ)
    → CopiesLines first number lines copy count mid → CopiesLine mid (number + count) line.bytes piece some new → CopiesLines first number (lines ++ line ∷ []) (copy ++ piece) (count + some) new
copies_more first mid new number [] line copy piece count some h one =
    let at : number + count ≡ number = let none = h.1 in omega (arith, none) in (
      piece,
      [],
      some,
      0,
      new,
      subst (λ (s : State). CopiesLine s number line.bytes piece some new) h.2 (subst (λ (n : ℕ). CopiesLine mid n line.bytes piece some new) at one),
      (refl, refl, refl),
      ap (λ c. c ++ piece) h.0 ∙ sym (append-nil piece),
      let none = h.1 in omega (arith, none),
    )
copies_more first mid new number (l ∷ lines) line copy piece count some h one =
    let at : number + count ≡ (number + h.2) + h.3 = let sum = h.8 in omega (arith, sum) in (
      h.0,
      h.1 ++ piece,
      h.2,
      h.3 + some,
      h.4,
      h.5,
      copies_more h.4 mid new (number + h.2) lines line h.1 piece h.3 some h.6 (subst (λ (n : ℕ). CopiesLine mid n line.bytes piece some new) at one),
      ap (λ c. c ++ piece) h.7 ∙ append_assoc h.0 h.1 piece,
      let sum = h.8 in omega (arith, sum),
    )

-- what an expectation below one more line is about
above_more : (silent marked : Bool) (expected : Option (List ℕ)) (lines : List TextLine) (line : TextLine) (old new : Above) → IsAbove lines old → is_silent line.bytes ≡ silent → is_marked line.bytes ≡ marked
    → expected_in line.bytes ≡ expected → GoesAbove silent marked old expected new → IsAbove (lines ++ line ∷ []) new
above_more false marked expected lines line old new a s m e g = subst (λ (x : Above). IsAbove (lines ++ line ∷ []) x) (sym g) tt
above_more true false expected lines line Nothing new a s m e g = subst (λ (x : Above). IsAbove (lines ++ line ∷ []) x) (sym g) (All-push (λ (l : TextLine). is_silent l.bytes ≡ true) lines line a s)
above_more true false expected lines line Answers new a s m e g = subst (λ (x : Above). IsAbove (lines ++ line ∷ []) x) (sym g) tt
above_more true false expected lines line Rest new a s m e g = subst (λ (x : Above). IsAbove (lines ++ line ∷ []) x) (sym g) (record {
  before = a.before;
  rest = a.rest;
  below = a.below ++ line ∷ [];
  parts = ap (λ ls. ls ++ line ∷ []) a.parts ∙ append_assoc a.before (a.rest ∷ a.below) (line ∷ []);
  silent = All-push (λ (l : TextLine). is_silent l.bytes ≡ true) (a.rest ∷ a.below) line a.silent s;
  answer = a.answer;
  expects = a.expects;
  is = a.is;
})
above_more true true None lines line old new a s m e g = absurd g
above_more true true (Some answer) lines line old new a s m e g =
    subst (λ (x : Above). IsAbove (lines ++ line ∷ []) x) (sym g.1)
    (elim (is_rest answer) as (λ v. is_rest answer ≡ v → IsAbove (lines ++ line ∷ []) (above_after v)) [
      | true ↦ λ t. record {
        before = lines;
        rest = line;
        below = [];
        parts = refl;
        silent = All-push (λ (l : TextLine). is_silent l.bytes ≡ true) [] line (λ k d lt. absurd (omega arith)) s;
        answer = answer;
        expects = e;
        is = t;
      }
      | false ↦ λ f. tt
    ] refl)

pub so_far_on : (first : State) (old mid new : Option (List ℕ)) (now after : List ℕ × ℕ) (kept : List ℕ × Bool) (number : ℕ) (last next : State) (copying then' : Copying) (r : Option Ending) (ending : Ending) (bytes : List ℕ)
    → SoFar first old mid now number last copying → GivesLine mid new now after kept (Ok r) → r ≡ Some ending → ending ≡ Whole → bytes ≡ kept.0 → CopiesNext last copying bytes next then'
    → SoFar first old new after (number + 1) next then'
so_far_on first old mid new now after kept number last next copying then' r ending bytes a gives is whole same told =
    let g = subst (λ (o : Option Ending). GivesLine mid new now after kept (Ok o)) (is ∙ ap Some whole) gives in
    let l = g.0 in
    let line : TextLine = record { bytes = l.bytes; whole = true } in
    let e = ending_whole l.bytes kept l.kept_is g.1 in
    let c : CopiesNext last copying l.bytes next then' = subst (λ (b : List ℕ). CopiesNext last copying b next then') (same ∙ e.1) told in
    let at : copying.lines + 1 ≡ 1 + copying.lines = omega arith in
    record {
      lines = a.lines ++ line ∷ [];
      taken = taken_more old mid new now after kept number a.lines a.taken l;
      whole = All-push IsWhole a.lines line a.whole e.0;
      copies =
          subst (λ (n : ℕ). CopiesLines first 1 (a.lines ++ line ∷ []) then'.text.items n next) (sym c.lines_are)
          (subst (λ (t : List ℕ). CopiesLines first 1 (a.lines ++ line ∷ []) t (copying.lines + c.count) next) (sym c.text_is)
          (copies_more first last next 1 a.lines line copying.text.items c.copy copying.lines c.count a.copies (subst (λ (n : ℕ). CopiesLine last n l.bytes c.copy c.count next) at c.copies)));
      above = above_more (is_silent l.bytes) (is_marked l.bytes) (expected_in l.bytes) a.lines line copying.above then'.above a.above refl refl refl c.above_is;
      few = c.few;
    }

-- HOW IT ENDS

some_with : (first : State) (old mid new : Option (List ℕ)) (now : List ℕ × ℕ) (number : ℕ) (last : State) (copying : Copying) (read taken : List ℕ) (later : List TextLine)
    → SoFar first old mid now number last copying → Consumes mid new read → now.0 ++ read ≡ taken → lines_of taken ≡ later → CopiesSome first old new
some_with first old mid new now number last copying read taken later a more same is =
    let w = taken_with old mid new now number a.lines read taken a.taken more same in
    record {
      read = a.taken.read ++ read;
      «from» = w.0;
      lines = a.lines;
      later = later;
      parts = w.1 ∙ ap (λ ls. a.lines ++ ls) is;
      whole = a.whole;
      copy = copying.text.items;
      count = copying.lines;
      last = last;
      copies = a.copies;
    }

-- a read failed
pub stops_read : (first : State) (old mid new : Option (List ℕ)) (now after : List ℕ × ℕ) (kept : List ℕ × Bool) (number : ℕ) (last : State) (copying then' : Copying) (e : RunFault)
    → SoFar first old mid now number last copying → GivesLine mid new now after kept (Err e) → CopiesAll first old new then' (Err (Stopped Read))
unfolding some_with
stops_read first old mid new now after kept number last copying then' e a gives =
    let l = gives.0 in
    (some_with first old mid new now number last copying l.takes.read l.bytes (lines_of l.bytes) a l.takes.from (rest_is mid new now after kept l) refl, none_whole l.bytes l.plain)

-- the script ended
pub ends_all : (first : State) (old mid new : Option (List ℕ)) (now after : List ℕ × ℕ) (kept : List ℕ × Bool) (number : ℕ) (last : State) (copying : Copying) (r : Option Ending)
    → SoFar first old mid now number last copying → GivesLine mid new now after kept (Ok r) → r ≡ None → CopiesAll first old new copying (Ok tt)
unfolding some_with
ends_all first old mid new now after kept number last copying r a gives is =
    let g = subst (λ (o : Option Ending). GivesLine mid new now after kept (Ok o)) is gives in
    let l = g.0 in
    let none : l.bytes ≡ [] = nothing_kept l.bytes (sym (ap (λ k. k.0) l.kept_is) ∙ g.2) in
    let w = taken_with old mid new now number a.lines l.takes.read l.bytes a.taken l.takes.from (rest_is mid new now after kept l) in
    let all : lines_of (a.taken.read ++ l.takes.read) ≡ a.lines = w.1 ∙ ap (λ b. a.lines ++ lines_of b) none ∙ append-nil a.lines in
    (some_with first old mid new now number last copying l.takes.read l.bytes [] a l.takes.from (rest_is mid new now after kept l) (ap lines_of none), sym all, g.1, refl)

-- why an ending ends the copy
malformed_ending : (failure : Failure) (lines : List TextLine) (number : ℕ) (ending : Ending) (bytes : List ℕ) → ((lenient : Bool) (due : Option Due) → FailsAt lenient due number ending bytes failure)
    → IsMalformed lines number ending bytes failure
malformed_ending (Differs difference) lines number ending bytes h = elim (h true None).1 [ inl no' ↦ no' | inr surplus ↦ surplus.1 ]
malformed_ending (Refused refusal) lines number ending bytes h = (h true None).2
malformed_ending NoExpectations lines number ending bytes h = h true None
malformed_ending (Malformed n Cut) lines number ending bytes h = h true None
malformed_ending (Malformed n Long) lines number ending bytes h = h true None
malformed_ending (Malformed n NoAnswer) lines number ending bytes h = h true None
malformed_ending (Malformed n NoLine) lines number ending bytes h =
    let due : Due = record { number = 0; left = []; stage = Untouched } in
    let k : Some due ≡ None = (h true (Some due)).3 in absurd (let no' : ⊥ = cc in no')
malformed_ending (Malformed n AfterRest) lines number ending bytes h = absurd (h true None).3
malformed_ending (Stopped fault) lines number ending bytes h = absurd (h true None)

-- the copy ends at this line
ends_here : (failure : Failure) (first : State) (old new : Option (List ℕ)) (copying : Copying) (s : CopiesSome first old new) (line : TextLine) (later : List TextLine) → s.later ≡ line ∷ later
    → (ending_of line ≡ IsCut → IsAtEnd new) → IsMalformed s.lines (1 + length s.lines) (ending_of line) line.bytes failure → CopiesAll first old new copying (Err failure)
ends_here (Differs difference) first old new copying s line later is end h = h
ends_here (Refused refusal) first old new copying s line later is end h = h
ends_here NoExpectations first old new copying s line later is end h = h
ends_here (Malformed n fault) first old new copying s line later is end h =
    (s, subst (λ (ls : List TextLine). FailsAtFirst s.lines (1 + length s.lines) ls (Malformed n fault)) (sym is) h, subst (λ (ls : List TextLine). EndsInput ls new) (sym is) end)
ends_here (Stopped fault) first old new copying s line later is end h = absurd h

-- a whole line is not cut
whole_not_cut : (ending : Ending) (new : Option (List ℕ)) → ending ≡ Whole → ending ≡ IsCut → IsAtEnd new
whole_not_cut ending new whole cut = let wrong : Whole ≡ IsCut = sym whole ∙ cut in absurd (let no' : ⊥ = cc in no')

long_not_cut : (ending : Ending) (new : Option (List ℕ)) → ending ≡ TooLong → ending ≡ IsCut → IsAtEnd new
long_not_cut ending new long cut = let wrong : TooLong ≡ IsCut = sym long ∙ cut in absurd (let no' : ⊥ = cc in no')

pub ends_by : (ending : Ending) (first : State) (old mid new : Option (List ℕ)) (now after : List ℕ × ℕ) (kept : List ℕ × Bool) (number : ℕ) (last : State) (copying then' : Copying) (r : Option Ending) (failure : Failure)
    → SoFar first old mid now number last copying → GivesLine mid new now after kept (Ok r) → r ≡ Some ending → ((bytes : List ℕ) → EndsWhole number ending bytes (Err failure)) → CopiesAll first old new then' (Err failure)
unfolding some_with
ends_by Whole first old mid new now after kept number last copying then' r failure a gives is by =
    let g = subst (λ (o : Option Ending). GivesLine mid new now after kept (Ok o)) is gives in
    let l = g.0 in
    let line : TextLine = record { bytes = l.bytes; whole = true } in
    let e = ending_whole l.bytes kept l.kept_is g.1 in
    ends_here failure first old new then'
    (some_with first old mid new now number last copying l.takes.read ((l.bytes ++ 10 ∷ []) ++ after.0) (line ∷ lines_of after.0) a l.takes.from l.takes.same (line_of_more mid new now after kept l)) line (lines_of after.0) refl (whole_not_cut (ending_of line) new e.0)
    (subst (λ (k : ℕ). IsMalformed a.lines k (ending_of line) l.bytes failure) a.taken.number_is (subst (λ (x : Ending). IsMalformed a.lines number x l.bytes failure) (sym e.0) (malformed_ending failure a.lines number Whole l.bytes (by l.bytes))))
ends_by TooLong first old mid new now after kept number last copying then' r failure a gives is by =
    let g = subst (λ (o : Option Ending). GivesLine mid new now after kept (Ok o)) is gives in
    let l = g.0 in
    let line : TextLine = record { bytes = l.bytes; whole = true } in
    let e = ending_long l.bytes kept l.kept_is g.1 in
    ends_here failure first old new then'
    (some_with first old mid new now number last copying l.takes.read ((l.bytes ++ 10 ∷ []) ++ after.0) (line ∷ lines_of after.0) a l.takes.from l.takes.same (line_of_more mid new now after kept l)) line (lines_of after.0) refl (long_not_cut (ending_of line) new e)
    (subst (λ (k : ℕ). IsMalformed a.lines k (ending_of line) l.bytes failure) a.taken.number_is (subst (λ (x : Ending). IsMalformed a.lines number x l.bytes failure) (sym e) (malformed_ending failure a.lines number TooLong l.bytes (by l.bytes))))
ends_by IsCut first old mid new now after kept number last copying then' r failure a gives is by =
    let g = subst (λ (o : Option Ending). GivesLine mid new now after kept (Ok o)) is gives in
    let l = g.0 in
    let some : 0 < length (take 4096 l.bytes) = omega (arith, g.2, ap (λ k. length k.0) l.kept_is) in
    let line : TextLine = record { bytes = l.bytes; whole = false } in
    ends_here failure first old new then'
    (some_with first old mid new now number last copying l.takes.read l.bytes (line ∷ []) a l.takes.from (rest_is mid new now after kept l) (cut_line l.bytes l.plain (something_kept l.bytes some))) line [] refl (λ cut. g.1)
    (subst (λ (k : ℕ). IsMalformed a.lines k IsCut l.bytes failure) a.taken.number_is (malformed_ending failure a.lines number IsCut l.bytes (by l.bytes)))

-- why a line is malformed
malformed_line : (fault : Fault) (n : ℕ) (lines : List TextLine) (above : Above) (number : ℕ) (line : List ℕ) → IsAbove lines above → FailsToCopy above number line (Malformed n fault) → IsMalformed lines number Whole line (Malformed n fault)
malformed_line Cut n lines above number line a h = absurd h.1
malformed_line Long n lines above number line a h = absurd h.1
malformed_line NoAnswer n lines above number line a h = (h.1.0, refl, h.0, h.1.1)
malformed_line NoLine n lines above number line a h = (h.1.0, refl, h.1.1, subst (λ (x : Above). IsAbove lines x) h.1.2 a)
malformed_line AfterRest n lines above number line a h = (h.1.0, refl, h.1.1, subst (λ (x : Above). IsAbove lines x) h.1.2 a)

-- a line was not copied
pub ends_at : (first : State) (old mid new : Option (List ℕ)) (now after : List ℕ × ℕ) (kept : List ℕ × Bool) (number : ℕ) (last : State) (copying then' : Copying) (r : Option Ending) (ending : Ending) (bytes : List ℕ) (failure : Failure)
    → SoFar first old mid now number last copying → GivesLine mid new now after kept (Ok r) → r ≡ Some ending → ending ≡ Whole → bytes ≡ kept.0 → FailsToCopy copying.above number bytes failure
    → CopiesAll first old new then' (Err failure)
unfolding some_with
ends_at first old mid new now after kept number last copying then' r ending bytes (Differs difference) a gives is whole same told = absurd told
ends_at first old mid new now after kept number last copying then' r ending bytes (Refused refusal) a gives is whole same told = absurd told
ends_at first old mid new now after kept number last copying then' r ending bytes NoExpectations a gives is whole same told = absurd told
ends_at first old mid new now after kept number last copying then' r ending bytes (Malformed n fault) a gives is whole same told =
    let g = subst (λ (o : Option Ending). GivesLine mid new now after kept (Ok o)) (is ∙ ap Some whole) gives in
    let l = g.0 in
    let line : TextLine = record { bytes = l.bytes; whole = true } in
    let e = ending_whole l.bytes kept l.kept_is g.1 in
    ends_here (Malformed n fault) first old new then'
    (some_with first old mid new now number last copying l.takes.read ((l.bytes ++ 10 ∷ []) ++ after.0) (line ∷ lines_of after.0) a l.takes.from l.takes.same (line_of_more mid new now after kept l)) line (lines_of after.0) refl (whole_not_cut (ending_of line) new e.0)
    (subst (λ (k : ℕ). IsMalformed a.lines k (ending_of line) l.bytes (Malformed n fault)) a.taken.number_is
    (subst (λ (x : Ending). IsMalformed a.lines number x l.bytes (Malformed n fault)) (sym e.0)
    (malformed_line fault n a.lines copying.above number l.bytes a.above (subst (λ (b : List ℕ). FailsToCopy copying.above number b (Malformed n fault)) (same ∙ e.1) told))))
ends_at first old mid new now after kept number last copying then' r ending bytes (Stopped fault) a gives is whole same told =
    let g = subst (λ (o : Option Ending). GivesLine mid new now after kept (Ok o)) (is ∙ ap Some whole) gives in
    let l = g.0 in
    let line : TextLine = record { bytes = l.bytes; whole = true } in
    subst (λ (f : RunFault). CopiesAll first old new then' (Err (Stopped f))) (sym told)
    (some_with first old mid new now number last copying l.takes.read ((l.bytes ++ 10 ∷ []) ++ after.0) (line ∷ lines_of after.0) a l.takes.from l.takes.same (line_of_more mid new now after kept l))

-- THE COPY

first_of : (frames : ℕ) (size : PageSize) (run : ScriptRun) (old new : Option (List ℕ)) → IsFirstRun frames size run → CopiesSome (state_of run) old new → CopiesFirst frames size old new
first_of frames size run old new b s = record {
  read = s.read;
  «from» = s.«from»;
  lines = s.lines;
  later = s.later;
  parts = s.parts;
  whole = s.whole;
  boot = b.0;
  boots = b.1;
  sized = b.2;
  copy = s.copy;
  count = s.count;
  last = s.last;
  copies = subst (λ (m : State). CopiesLines m 1 s.lines s.copy s.count s.last) b.3 s.copies;
}

pub copies_err : (failure : Failure) (frames : ℕ) (size : PageSize) (run : ScriptRun) (old new : Option (List ℕ)) (copying : Copying) → IsFirstRun frames size run
    → CopiesAll (state_of run) old new copying (Err failure) → CopiesScript frames size old new (Err failure)
unfolding first_of
copies_err (Differs difference) frames size run old new copying b h = absurd h
copies_err (Refused refusal) frames size run old new copying b h = absurd h
copies_err NoExpectations frames size run old new copying b h = absurd h
copies_err (Malformed n fault) frames size run old new copying b h = (first_of frames size run old new b h.0, h.1, h.2)
copies_err (Stopped Read) frames size run old new copying b h = (first_of frames size run old new b h.0, h.1)
copies_err (Stopped Write) frames size run old new copying b h = absurd h
copies_err (Stopped Memory) frames size run old new copying b h = inr (first_of frames size run old new b h)

pub copies_ok : (frames : ℕ) (size : PageSize) (run : ScriptRun) (old new left : Option (List ℕ)) (copying : Copying) (copied : Copied) → IsFirstRun frames size run → CopiesAll (state_of run) old new copying (Ok tt)
    → copied.text.items ≡ copying.text.items → Passes false frames size (Some copied.text.items) left copied.size → IsCopy frames size old new copied
unfolding first_of
copies_ok frames size run old new left copying copied b h same passes = record {
  first = first_of frames size run old new b h.0;
  all = h.1;
  ended = h.2;
  copy_is = same ∙ h.3;
  left = left;
  passes = passes;
}

-- no line has answers
copies_none : (frames : ℕ) (size : PageSize) (run : ScriptRun) (old new left : Option (List ℕ)) (copying : Copying) → IsFirstRun frames size run → CopiesAll (state_of run) old new copying (Ok tt)
    → ExpectsNothing false frames size (Some copying.text.items) left → HasNoAnswers frames size old new
unfolding first_of
copies_none frames size run old new left copying b h none = record {
  first = first_of frames size run old new b h.0;
  all = h.1;
  ended = h.2;
  left = left;
  none = subst (λ (t : List ℕ). ExpectsNothing false frames size (Some t) left) h.3 none;
}

-- the copy was not tested to its end
copies_not : (failure : Failure) (frames : ℕ) (size : PageSize) (run : ScriptRun) (old new : Option (List ℕ)) (copying : Copying) → IsFirstRun frames size run → CopiesAll (state_of run) old new copying (Ok tt)
    → IsMemory failure → CopiesScript frames size old new (Err failure)
copies_not (Differs difference) frames size run old new copying b h m = absurd m
copies_not (Refused refusal) frames size run old new copying b h m = absurd m
copies_not NoExpectations frames size run old new copying b h m = absurd m
copies_not (Malformed n fault) frames size run old new copying b h m = absurd m
copies_not (Stopped fault) frames size run old new copying b h m =
    subst (λ (f : RunFault). CopiesScript frames size old new (Err (Stopped f))) (sym m) (inr (first_of frames size run old new b h.0))

-- the copy was tested, and does not pass
pub copies_failed : (tested failure : Failure) (frames : ℕ) (size : PageSize) (run : ScriptRun) (old new left : Option (List ℕ)) (copying : Copying) → IsFirstRun frames size run → CopiesAll (state_of run) old new copying (Ok tt)
    → Tests false frames size (Some copying.text.items) left (Err tested) → FailsCopy tested failure → CopiesScript frames size old new (Err failure)
copies_failed NoExpectations failure frames size run old new left copying b h fails f =
    subst (λ (x : Failure). CopiesScript frames size old new (Err x)) (sym f) (copies_none frames size run old new left copying b h fails)
copies_failed (Differs difference) failure frames size run old new left copying b h fails f = copies_not failure frames size run old new copying b h f
copies_failed (Refused refusal) failure frames size run old new left copying b h fails f = copies_not failure frames size run old new copying b h f
copies_failed (Malformed n fault) failure frames size run old new left copying b h fails f = copies_not failure frames size run old new copying b h f
copies_failed (Stopped fault) failure frames size run old new left copying b h fails f = copies_not failure frames size run old new copying b h f
