-- The lines of a judged list, one by one.
use Rattle.std.proofs.Common.{◌≡◌, ℕ, ◌+◌, ◌<◌, ◌≤◌, ◌⊎◌, inl, inr, Bool, true, false, cond, List, [], ◌∷◌, ◌++◌, length, take, Option, Some, None, option_map, ok_or, Result, Ok, Err, ◌||◌, not, sym, ap, subst, ◌∙◌, refl, arith}
use Rattle.std.specs.Io.KnownBytes.{Consumes, IsAtEnd, Appends}
use Rattle.std.proofs.lemmas.List.{append-nil}
use mathlib.Core.List.{append_assoc}
use Rattle.l4_answers.specs.Lines.{later_lines}
use Rattle.l4_fpage.specs.declared.sizes.PageSize.{PageSize}
use Rattle.l4_ipc.specs.Machine.{Machine, IsBoot}
use Rattle.l4_text.specs.Lines.{TakesLine, GivesLine}
use Rattle.l4_text.specs.Streams.{WentOut, HasTold, Tells}
use Rattle.l4_text.specs.declared.lines.Ending.{Ending}
use Rattle.l4_text.specs.declared.lines.Ending.TheVariants.{Whole, Long as TooLong, Cut as IsCut}
use Rattle.l4_text.specs.declared.faults.RunFault.{RunFault}
use Rattle.l4_text.specs.declared.faults.RunFault.TheVariants.{Read, Write, Memory}
use Rattle.l4_text.proofs.Telling.{all_out, some_out, tells_none, tells_more, tells_is}
use Rattle.l4_step_lines.specs.declared.requests.Request.{Request}
use Rattle.l4_step_lines.specs.declared.requests.Request.TheVariants.{Do, Enabled, Reply, Space, Pages}
use Rattle.l4_step_lines.specs.declared.running.Fault.{Fault}
use Rattle.l4_step_lines.specs.declared.running.Fault.TheVariants.{Stopped, Cut, Long, Unread}
use Rattle.l4_text.specs.Grammar.{TextLine, lines_of, ending_of, is_silent}
use Rattle.l4_text.specs.Tokens.{tokens_of}
use Rattle.l4_step_lines.specs.Lists.{asked_at}
use Rattle.l4_step_lines.specs.Requests.{request_of}
use Rattle.l4_step_lines.specs.Stops.{unread_says}
use Rattle.l4_step_lines.proofs.Going.{not_cut}
use Rattle.l4_judging.specs.declared.expected.Expected.{Expected}
use Rattle.l4_judging.specs.declared.judging.Judged.{Judged}
use Rattle.l4_judging.specs.declared.judging.JudgeFault.{JudgeFault}
use Rattle.l4_judging.specs.declared.judging.JudgeFault.TheVariants.{List as OfList}
use Rattle.l4_judging.specs.declared.judging.Wanted.{Wanted}
use Rattle.l4_judging.specs.Calls.{Calls, starts_call, with_last}
use Rattle.l4_judging.specs.Judging.{request_report, with_call, said_in, has_said, is_unknown, after_answer, difference, with_answer, with_request, ends_short, IsExpected, answer_count, step_count, is_short, short_text, stops, is_wanted, other_text, has_all, missing_text, end_report, differs_at_end, verdict_of, agreed_text, JudgesAnswer, JudgesAsked, JudgesSaid, JudgesAt, JudgesLines, IsStart, JudgesFirst, EndsAt, EndsWith, Ends, IsUnwritten, Judges}
use Rattle.l4_judging.specs.Inside.Judged.{MatchesAnswer, TellsRequest, TellsJudged, EndsBy, EndsEarly, TellsEnd, JudgesSome, TellsLines}
use Rattle.l4_text.proofs.Grammar.{cut_line, none_whole}
use Rattle.l4_answers.proofs.Taking.{Taken, taken_none, taken_more, taken_parts, taken_with, rest_is, line_of_more, ending_whole, ending_long, nothing_kept, something_kept}

-- ONE LINE

-- an answer was compared
pub answer_judged : (old : Judged) (e : Expected) (number : ℕ) (said : List ℕ) (same differs : Bool) (count : ℕ) (after : Expected) (written out : Option (List ℕ)) (s t : List ℕ × Bool) → old.expected ≡ Some e → same ≡ has_said e.due said
    → after ≡ after_answer e number → count ≡ answer_count said → differs ≡ (old.differs || not same) → Tells written out s t (cond (has_said e.due said) [] (difference e number said))
    → MatchesAnswer old (record { alloc = old.alloc; requests = old.requests; partial = old.partial; all = old.all; keeps_calls = old.keeps_calls; calls = old.calls; expected = Some after; steps = old.steps; answers = old.answers + count; differs = differs }) number said written out s t true
answer_judged old e number said same differs count after written out s t is same_is after_is count_is differs_is tells =
    let made : Expected → ℕ → Bool → Judged = λ a n d. record { alloc = old.alloc; requests = old.requests; partial = old.partial; all = old.all; keeps_calls = old.keeps_calls; calls = old.calls; expected = Some a; steps = old.steps; answers = old.answers + n; differs = d } in
    let new_is : made after count differs ≡ with_answer old e number said =
    ap (λ (a : Expected). made a count differs) after_is
    ∙ ap (λ (n : ℕ). made (after_answer e number) n differs) count_is
    ∙ ap (λ (d : Bool). made (after_answer e number) (answer_count said) d) (differs_is ∙ ap (λ b. old.differs || not b) same_is) in
    let text : List ℕ = cond (has_said e.due said) [] (difference e number said) in
    (text, subst (λ (o : Option Expected). JudgesAnswer old o number said text (made after count differs)) (sym is) (refl, new_is), tells)

not_not : (b : Bool) → not (not b) ≡ b
not_not true = refl
not_not false = refl

-- the report on the answers above, and whether it ends the list
above_is_short : (old : Judged) (above : Option Expected) (short : Bool) → above ≡ old.expected → short ≡ is_short old.partial above → short ≡ is_short old.partial old.expected
above_is_short old above short above_is short_is = short_is ∙ ap (λ o. is_short old.partial o) above_is

above_ends : (old : Judged) (short ended : Bool) → short ≡ is_short old.partial old.expected → ended ≡ stops old.all short → ended ≡ ends_short old
above_ends old short ended short_is ended_is = ended_is ∙ ap (λ b. stops old.all b) short_is

above_differs : (old : Judged) (short inner : Bool) → short ≡ is_short old.partial old.expected → inner ≡ (old.differs || not (not short)) → inner ≡ (old.differs || is_short old.partial old.expected)
above_differs old short inner short_is inner_is = inner_is ∙ ap (λ b. old.differs || b) (not_not short ∙ short_is)

-- a request was compared
pub request_judged : (old : Judged) (e : Expected) (above : Option Expected) (requests later : Option (List ℕ)) (found : List ℕ) (short ended same inner differs : Bool) (steps : ℕ) (a b c : Option (List ℕ)) (s t u : List ℕ × Bool)
    → found ≡ e.line.items → above ≡ old.expected → requests ≡ old.requests → later ≡ option_map later_lines old.requests → short ≡ is_short old.partial above → ended ≡ stops old.all short → same ≡ is_wanted ended requests found
    → inner ≡ (old.differs || not (not short)) → differs ≡ (inner || not same) → Tells a b s t (short_text old.partial above) → Tells b c t u (other_text ended requests e.last found)
    → TellsRequest old (record { alloc = old.alloc; requests = later; partial = old.partial; all = old.all; keeps_calls = old.keeps_calls; calls = old.calls; expected = Some e; steps = old.steps + steps; answers = old.answers; differs = differs }) steps e a c s u
request_judged old e above requests later found short ended same inner differs steps a b c s t u found_is above_is requests_is later_is short_is ended_is same_is inner_is differs_is told_short told_other =
    let short' = above_is_short old above short above_is short_is in
    let ended' = above_ends old short ended short' ended_is in
    let line : List ℕ = e.line.items in
    let same' : same ≡ is_wanted (ends_short old) old.requests line = same_is ∙ ap (λ l. is_wanted ended requests l) found_is ∙ ap (λ r. is_wanted ended r line) requests_is ∙ ap (λ b. is_wanted b old.requests line) ended' in
    let made : Option (List ℕ) → Bool → Judged = λ r d. record { alloc = old.alloc; requests = r; partial = old.partial; all = old.all; keeps_calls = old.keeps_calls; calls = old.calls; expected = Some e; steps = old.steps + steps; answers = old.answers; differs = d } in
    let differs' : differs ≡ ((old.differs || is_short old.partial old.expected) || not (is_wanted (ends_short old) old.requests line)) =
    differs_is ∙ ap (λ b. b || not same) (above_differs old short inner short' inner_is) ∙ ap (λ b. (old.differs || is_short old.partial old.expected) || not b) same' in
    let new_is : made later differs ≡ with_request old steps e = ap (λ (r : Option (List ℕ)). made r differs) later_is ∙ ap (λ (d : Bool). made (option_map later_lines old.requests) d) differs' in (
      new_is,
      tells_more a b c s t u (short_text old.partial old.expected) (other_text (ends_short old) old.requests e.last line)
          (tells_is a b s t _ _ (ap (λ o. short_text old.partial o) above_is) told_short)
          (tells_is b c t u _ _ (ap (λ l. other_text ended requests e.last l) found_is ∙ ap (λ r. other_text ended r e.last line) requests_is ∙ ap (λ b. other_text b old.requests e.last line) ended') told_other),
    )

-- a line that is not silent asks for its request
pub asks_request : (number : ℕ) (line : List ℕ) (request : Request) → is_silent line ≡ false → request_of (tokens_of line) ≡ Some request → asked_at number Whole line ≡ Ok (Some request)
asks_request number line request loud is =
    ap (λ b. cond b (Ok None) (ok_or (option_map Some (request_of (tokens_of line))) (Unread number (unread_says number (tokens_of line))))) loud
    ∙ ap (λ o. ok_or (option_map Some o) (Unread number (unread_says number (tokens_of line)))) is

-- what was judged, with other last calls
abbrev pub keeping : Judged → Calls → Judged
keeping old calls =
    record { alloc = old.alloc; requests = old.requests; partial = old.partial; all = old.all; keeps_calls = old.keeps_calls; calls = calls; expected = old.expected; steps = old.steps; answers = old.answers; differs = old.differs }

-- the line of a request was judged
pub line_judged : (m n : Machine) (old new : Judged) (request : Request) (number : ℕ) (line : List ℕ) (steps : ℕ) (caller : Option ℕ) (calls : Calls) (e : Expected) (a b : Option (List ℕ)) (s t : List ℕ × Bool) → said_in line ≡ None → asked_at number Whole line ≡ Ok (Some request)
    → IsExpected m old.calls request number line e n → steps ≡ step_count request → caller ≡ starts_call request → calls ≡ with_last old.keeps_calls old.calls caller number line → TellsRequest (keeping old calls) new steps e a b s t
    → TellsJudged m n old new number line a b s t (Ok tt)
line_judged m n old new request number line steps caller calls e a b s t plain asked expects steps_is caller_is calls_are told =
    let kept : keeping old calls ≡ with_call old (starts_call request) number line = ap (keeping old) (calls_are ∙ ap (λ o. with_last old.keeps_calls old.calls o number line) caller_is) in
    let judged : (text : List ℕ) × JudgesAsked m old (Ok (Some request)) number line text n new × Tells a b s t text =
    (request_report old e, (e, expects, refl, told.0 ∙ ap (λ j. with_request j steps e) kept ∙ ap (λ k. with_request (with_call old (starts_call request) number line) k e) steps_is), told.1) in (
      judged.0,
      subst (λ (o : Option (List ℕ)). JudgesSaid m old number o line judged.0 n new) (sym plain) (subst (λ (q : Result (Option Request) Fault). JudgesAsked m old q number line judged.0 n new) (sym asked) judged.1),
      judged.2,
    )

-- the end of a list was judged
pub end_judged : (result : Result Bool JudgeFault) (old : Judged) (above : Option Expected) (requests : Option (List ℕ)) (number : ℕ) (short ended same inner differs : Bool) (a b c d : Option (List ℕ)) (s t u v : List ℕ × Bool)
    → above ≡ old.expected → requests ≡ old.requests → short ≡ is_short old.partial above → ended ≡ stops old.all short → same ≡ has_all ended requests → inner ≡ (old.differs || not (not short)) → differs ≡ (inner || not same)
    → result ≡ verdict_of differs old number → Tells a b s t (short_text old.partial above) → Tells b c t u (missing_text ended requests number) → Tells c d u v (agreed_text result old) → TellsEnd old number a d s v result
end_judged result old above requests number short ended same inner differs a b c d s t u v above_is requests_is short_is ended_is same_is inner_is differs_is result_is told_short told_missing told =
    let short' = above_is_short old above short above_is short_is in
    let ended' = above_ends old short ended short' ended_is in
    let same' : same ≡ has_all (ends_short old) old.requests = same_is ∙ ap (λ r. has_all ended r) requests_is ∙ ap (λ b. has_all b old.requests) ended' in
    let differs' : differs ≡ differs_at_end old =
    differs_is ∙ ap (λ b. b || not same) (above_differs old short inner short' inner_is) ∙ ap (λ b. (old.differs || is_short old.partial old.expected) || not b) same' in (
      result_is ∙ ap (λ b. verdict_of b old number) differs',
      tells_more a c d s u v (end_report old number) (agreed_text result old)
          (tells_more a b c s t u (short_text old.partial old.expected) (missing_text (ends_short old) old.requests number)
          (tells_is a b s t _ _ (ap (λ o. short_text old.partial o) above_is) told_short)
          (tells_is b c t u _ _ (ap (λ r. missing_text ended r number) requests_is ∙ ap (λ b. missing_text b old.requests number) ended') told_missing))
          told,
    )

-- ONE LINE MORE

-- after lines that were judged, one more
judges_more : (m between n : Machine) (old mid new : Judged) (number : ℕ) (lines : List TextLine) (text : List ℕ) (line : TextLine) (last : List ℕ)
    → JudgesLines m old number lines text between mid → stops mid.all mid.differs ≡ false → JudgesAt between mid (number + length lines) (ending_of line) line.bytes last n new
    → JudgesLines m old number (lines ++ line ∷ []) (text ++ last) n new
judges_more m between n old mid new number [] text line last are on is = (
  subst (λ (j : Judged). stops j.all j.differs ≡ false) are.2 on,
  last,
  [],
  n,
  new,
  subst (λ (x : Machine). JudgesAt x old number (ending_of line) line.bytes last n new) are.1
      (subst (λ (j : Judged). JudgesAt between j number (ending_of line) line.bytes last n new) are.2
      (subst (λ (k : ℕ). JudgesAt between mid k (ending_of line) line.bytes last n new) (omega arith) is)),
  (refl, refl, refl),
  ap (λ t. t ++ last) are.0 ∙ sym (append-nil last),
)
judges_more m between n old mid new number (first ∷ lines) text line last are on is =
    let k : number + length (first ∷ lines) ≡ (number + 1) + length lines = omega arith in (
      are.0,
      are.1,
      are.2 ++ last,
      are.3,
      are.4,
      are.5,
      judges_more are.3 between n are.4 mid new (number + 1) lines are.2 line last are.6 on (subst (λ (i : ℕ). JudgesAt between mid i (ending_of line) line.bytes last n new) k is),
      ap (λ t. t ++ last) are.7 ∙ append_assoc are.1 are.2 last,
    )

-- HOW MANY WERE COUNTED

one_answer : (said : List ℕ) → answer_count said ≤ 1
one_answer said = elim (is_unknown said) as (λ b. cond b 0 1 ≤ 1) [ true ↦ omega arith | false ↦ omega arith ]

one_step : (request : Request) → step_count request ≤ 1
one_step (Do step) = omega arith
one_step Enabled = omega arith
one_step (Reply thread) = omega arith
one_step (Space thread) = omega arith
one_step (Pages space) = omega arith

-- a line counts one more at most
abbrev CountsOne : Judged → Judged → Type 0
CountsOne old new = (new.steps ≤ old.steps + 1) × (new.answers ≤ old.answers + 1)

counts_same : (old new : Judged) → new ≡ old → CountsOne old new
counts_same old new is = subst (λ (j : Judged). CountsOne old j) (sym is) (omega arith, omega arith)

answer_counts : (old new : Judged) (expected : Option Expected) (number : ℕ) (said text : List ℕ) → JudgesAnswer old expected number said text new → CountsOne old new
answer_counts old new None number said text is = absurd is
answer_counts old new (Some expected) number said text is =
    let one = one_answer said in
    subst (λ (j : Judged). CountsOne old j) (sym is.1) (omega arith, omega (arith, one))

asked_counts : (m n : Machine) (old new : Judged) (asked : Result (Option Request) Fault) (number : ℕ) (line text : List ℕ) → JudgesAsked m old asked number line text n new → CountsOne old new
asked_counts m n old new (Ok None) number line text is = counts_same old new is.2
asked_counts m n old new (Ok (Some request)) number line text is =
    let one = one_step request in
    subst (λ (j : Judged). CountsOne old j) (sym is.3) (omega (arith, one), omega arith)
asked_counts m n old new (Err fault) number line text is = absurd is

said_counts : (m n : Machine) (old new : Judged) (number : ℕ) (said : Option (List ℕ)) (line text : List ℕ) → JudgesSaid m old number said line text n new → CountsOne old new
said_counts m n old new number (Some said) line text is = answer_counts old new old.expected number said text is.0
said_counts m n old new number None line text is = asked_counts m n old new (asked_at number Whole line) number line text is

-- THE LOOP

-- the lines that were judged so far, before the one of this number
pub record SoFar (m : Machine) (start : Judged) (old new : Option (List ℕ)) (now : List ℕ × ℕ) (number : ℕ) (last : Machine) (judged : Judged) (written out : Option (List ℕ)) (before after : List ℕ × Bool) : Type 0 where
  pub lines : List TextLine
  pub taken : Taken old new now number lines
  pub text : List ℕ
  pub judges : JudgesLines m start 1 lines text last judged
  pub tells : Tells written out before after text
  pub steps : judged.steps < number
  pub answers : judged.answers < number

pub so_far_none : (m : Machine) (start : Judged) (a w : Option (List ℕ)) (now : List ℕ × ℕ) (s : List ℕ × Bool) → (start.steps ≡ 0) × (start.answers ≡ 0) → now ≡ ([], 0) → SoFar m start a a now 1 m start w w s s
so_far_none m start a w now s starts is = record {
  lines = [];
  taken = taken_none a now is;
  text = [];
  judges = (refl, refl, refl);
  tells = tells_none w s;
  steps = omega (arith, starts.0);
  answers = omega (arith, starts.1);
}

-- what was held back went out
pub so_far_sent : (m : Machine) (start : Judged) (old new : Option (List ℕ)) (now : List ℕ × ℕ) (number : ℕ) (last : Machine) (judged : Judged) (written out out' : Option (List ℕ)) (before s t : List ℕ × Bool)
    → SoFar m start old new now number last judged written out before s → Tells out out' s t [] → SoFar m start old new now number last judged written out' before t
so_far_sent m start old new now number last judged written out out' before s t a sent = record {
  lines = a.lines;
  taken = a.taken;
  text = a.text;
  judges = a.judges;
  tells = tells_is written out' before t (a.text ++ []) a.text (append-nil a.text) (tells_more written out out' before s t a.text [] a.tells sent);
  steps = a.steps;
  answers = a.answers;
}

-- a line was judged, and the list goes on
more_so_far : (m : Machine) (start : Judged) (old mid new : Option (List ℕ)) (now after : List ℕ × ℕ) (kept : List ℕ × Bool) (number : ℕ) (last next : Machine) (judged then' : Judged)
    (written out out' : Option (List ℕ)) (before s t : List ℕ × Bool) → SoFar m start old mid now number last judged written out before s → TakesLine mid new now after kept → kept.1 ≡ false → stops judged.all judged.differs ≡ false
    → (text : List ℕ) × JudgesAt last judged number Whole kept.0 text next then' × Tells out out' s t text → SoFar m start old new after (number + 1) next then' written out' before t
more_so_far m start old mid new now after kept number last next judged then' written out out' before s t a l short on is =
    let line : TextLine = record { bytes = l.bytes; whole = true } in
    let e = ending_whole l.bytes kept l.kept_is short in
    let bytes : JudgesAt last judged number Whole l.bytes is.0 next then' = subst (λ (b : List ℕ). JudgesAt last judged number Whole b is.0 next then') e.1 is.1 in
    let at : JudgesAt last judged (1 + length a.lines) (ending_of line) l.bytes is.0 next then' =
    subst (λ (k : ℕ). JudgesAt last judged k (ending_of line) l.bytes is.0 next then') a.taken.number_is
    (subst (λ (x : Ending). JudgesAt last judged number x l.bytes is.0 next then') (sym e.0) bytes) in
    let counts = said_counts last next judged then' number (said_in l.bytes) l.bytes is.0 bytes in
    record {
      lines = a.lines ++ line ∷ [];
      taken = taken_more old mid new now after kept number a.lines a.taken l;
      text = a.text ++ is.0;
      judges = judges_more m last next start judged then' 1 a.lines a.text line is.0 a.judges on at;
      tells = tells_more written out out' before s t a.text is.0 a.tells is.2;
      steps = omega (arith, a.steps, counts.0);
      answers = omega (arith, a.answers, counts.1);
    }

pub so_far_on : (m : Machine) (start : Judged) (old mid new : Option (List ℕ)) (now after : List ℕ × ℕ) (kept : List ℕ × Bool) (number : ℕ) (last next : Machine) (judged then' : Judged)
    (written out out' : Option (List ℕ)) (before s t : List ℕ × Bool) (r : Option Ending) (ending : Ending) (bytes : List ℕ) → SoFar m start old mid now number last judged written out before s → GivesLine mid new now after kept (Ok r) → r ≡ Some ending → ending ≡ Whole
    → stops judged.all judged.differs ≡ false → bytes ≡ kept.0 → TellsJudged last next judged then' number bytes out out' s t (Ok tt) → SoFar m start old new after (number + 1) next then' written out' before t
so_far_on m start old mid new now after kept number last next judged then' written out out' before s t r ending bytes a gives is whole on same told =
    let g = subst (λ (o : Option Ending). GivesLine mid new now after kept (Ok o)) (is ∙ ap Some whole) gives in
    more_so_far m start old mid new now after kept number last next judged then' written out out' before s t a g.0 g.1 on
    (told.0, subst (λ (b : List ℕ). JudgesAt last judged number Whole b told.0 next then') same told.1, told.2)

-- HOW THE LOOP ENDS

-- the lines so far, as lines of what was read
some_so_far : (m : Machine) (start : Judged) (old new : Option (List ℕ)) (now : List ℕ × ℕ) (number : ℕ) (last : Machine) (judged : Judged) (written out : Option (List ℕ)) (before after : List ℕ × Bool)
    → SoFar m start old new now number last judged written out before after → JudgesSome m start old new
some_so_far m start old new now number last judged written out before after a = record {
  read = a.taken.read;
  «from» = a.taken.from;
  lines = a.lines;
  later = lines_of now.0;
  parts = taken_parts old new now number a.lines a.taken;
  last = last;
  judged = judged;
  text = a.text;
  judges = a.judges;
}

-- the same where more was read, whose lines these are
some_with : (m : Machine) (start : Judged) (old mid new : Option (List ℕ)) (now : List ℕ × ℕ) (number : ℕ) (last : Machine) (judged : Judged) (written out : Option (List ℕ)) (before s : List ℕ × Bool) (read taken : List ℕ) (later : List TextLine)
    → SoFar m start old mid now number last judged written out before s → Consumes mid new read → now.0 ++ read ≡ taken → lines_of taken ≡ later → JudgesSome m start old new
some_with m start old mid new now number last judged written out before s read taken later a more same is =
    let w = taken_with old mid new now number a.lines read taken a.taken more same in
    record {
      read = a.taken.read ++ read;
      «from» = w.0;
      lines = a.lines;
      later = later;
      parts = w.1 ∙ ap (λ ls. a.lines ++ ls) is;
      last = last;
      judged = judged;
      text = a.text;
      judges = a.judges;
    }

-- after a difference the rest was read
early : (judged : Judged) (number : ℕ) (later : List TextLine) (new : Option (List ℕ)) (text : List ℕ) (result : Result Bool JudgeFault) → stops judged.all judged.differs ≡ true
    → ((result ≡ Ok false) × IsAtEnd new) ⊎ (result ≡ Err (OfList (Stopped Read))) → Ends judged number later new text result text
early judged number later new text result stopped (inl ended) = inl (stopped, ended.1, ended.0, refl)
early judged number later new text result stopped (inr fault) = inr (inr (inr (inl (inl stopped, fault, refl))))

-- a difference ended it
pub stops_early : (m : Machine) (start : Judged) (old mid new : Option (List ℕ)) (now : List ℕ × ℕ) (number : ℕ) (last : Machine) (judged : Judged) (written out out' : Option (List ℕ)) (before s t : List ℕ × Bool) (result : Result Bool JudgeFault)
    → SoFar m start old mid now number last judged written out before s → stops judged.all judged.differs ≡ true → EndsEarly mid new out out' s t result → TellsLines m start old new written out' before t result
unfolding some_with
stops_early m start old mid new now number last judged written out out' before s t result a stopped e = (
  some_with m start old mid new now number last judged written out before s e.0 (now.0 ++ e.0) (lines_of (now.0 ++ e.0)) a e.1 refl refl,
  a.text,
  inl (early judged (1 + length a.lines) (lines_of (now.0 ++ e.0)) new a.text result stopped e.2),
  tells_is written out' before t (a.text ++ []) a.text (append-nil a.text) (tells_more written out out' before s t a.text [] a.tells e.3),
)

-- a write failed
pub stops_write : (m : Machine) (start : Judged) (old new : Option (List ℕ)) (now : List ℕ × ℕ) (number : ℕ) (last : Machine) (judged : Judged) (written out : Option (List ℕ)) (before after : List ℕ × Bool)
    → SoFar m start old new now number last judged written out before after → TellsLines m start old new written out before after (Err (OfList (Stopped Write)))
unfolding some_so_far
stops_write m start old new now number last judged written out before after a =
    (some_so_far m start old new now number last judged written out before after a, a.text, inr (refl, refl), a.tells)

-- a read failed
pub stops_read : (m : Machine) (start : Judged) (old mid new : Option (List ℕ)) (now after : List ℕ × ℕ) (kept : List ℕ × Bool) (number : ℕ) (last : Machine) (judged : Judged) (written out : Option (List ℕ)) (before s : List ℕ × Bool) (e : RunFault)
    → SoFar m start old mid now number last judged written out before s → GivesLine mid new now after kept (Err e) → TellsLines m start old new written out before s (Err (OfList (Stopped Read)))
unfolding some_with
stops_read m start old mid new now after kept number last judged written out before s e a gives =
    let l = gives.0 in (
      some_with m start old mid new now number last judged written out before s l.takes.read l.bytes (lines_of l.bytes) a l.takes.from (rest_is mid new now after kept l) refl,
      a.text,
      inl (inr (inr (inr (inl (inr (none_whole l.bytes l.plain), refl, refl))))),
      a.tells,
    )

-- the list ended
pub ends_all : (result : Result Bool JudgeFault) (m : Machine) (start : Judged) (old mid new : Option (List ℕ)) (now after : List ℕ × ℕ) (kept : List ℕ × Bool) (number : ℕ) (last : Machine) (judged : Judged) (written out out' : Option (List ℕ)) (before s t : List ℕ × Bool)
    (r : Option Ending) → SoFar m start old mid now number last judged written out before s → GivesLine mid new now after kept (Ok r) → r ≡ None → stops judged.all judged.differs ≡ false → TellsEnd judged number out out' s t result
    → TellsLines m start old new written out' before t result
unfolding some_with
ends_all result m start old mid new now after kept number last judged written out out' before s t r a gives is on ended =
    let g = subst (λ (o : Option Ending). GivesLine mid new now after kept (Ok o)) is gives in
    let l = g.0 in
    let none : l.bytes ≡ [] = nothing_kept l.bytes (sym (ap (λ k. k.0) l.kept_is) ∙ g.2) in
    let told = subst (λ (k : ℕ). TellsEnd judged k out out' s t result) a.taken.number_is ended in
    let report : List ℕ = end_report judged (1 + length a.lines) in (
      some_with m start old mid new now number last judged written out before s l.takes.read l.bytes [] a l.takes.from (rest_is mid new now after kept l) (ap lines_of none),
      a.text ++ report ++ agreed_text result judged,
      inl (inr (inl (on, refl, g.1, told.0, refl))),
      tells_is written out' before t _ _ (sym (append_assoc a.text report (agreed_text result judged))) (tells_more written out out' before s t a.text (report ++ agreed_text result judged) a.tells told.1),
    )

-- the ending of a line ended it
pub ends_by : (m : Machine) (start : Judged) (old mid new : Option (List ℕ)) (now after : List ℕ × ℕ) (kept : List ℕ × Bool) (number : ℕ) (last : Machine) (judged : Judged) (written out : Option (List ℕ)) (before s : List ℕ × Bool) (r : Option Ending) (ending : Ending) (fault : Fault)
    → SoFar m start old mid now number last judged written out before s → GivesLine mid new now after kept (Ok r) → r ≡ Some ending → stops judged.all judged.differs ≡ false → EndsBy number ending (Err fault)
    → TellsLines m start old new written out before s (Err (OfList fault))
unfolding some_with
ends_by m start old mid new now after kept number last judged written out before s r ending fault a gives is on (inl by) =
    let g = subst (λ (o : Option Ending). GivesLine mid new now after kept (Ok o)) (is ∙ ap Some by.0) gives in
    let l = g.0 in
    let line : TextLine = record { bytes = l.bytes; whole = true } in
    let long = ending_long l.bytes kept l.kept_is g.1 in
    let asked : asked_at (1 + length a.lines) (ending_of line) l.bytes ≡ Err fault = ap (λ x. asked_at (1 + length a.lines) x l.bytes) long ∙ ap (λ k. Err (Long k)) (sym a.taken.number_is) ∙ ap Err (sym by.1) in (
      some_with m start old mid new now number last judged written out before s l.takes.read ((l.bytes ++ 10 ∷ []) ++ after.0) (line ∷ lines_of after.0) a l.takes.from l.takes.same (line_of_more mid new now after kept l),
      a.text,
      inl (inr (inr (inl (on, OfList fault, (asked, not_cut (IsAtEnd new) (ending_of line) TooLong tt long), refl, refl)))),
      a.tells,
    )
ends_by m start old mid new now after kept number last judged written out before s r ending fault a gives is on (inr by) =
    let g = subst (λ (o : Option Ending). GivesLine mid new now after kept (Ok o)) (is ∙ ap Some by.0) gives in
    let l = g.0 in
    let some : 0 < length (take 4096 l.bytes) = omega (arith, g.2, ap (λ k. length k.0) l.kept_is) in
    let line : TextLine = record { bytes = l.bytes; whole = false } in
    let asked : asked_at (1 + length a.lines) (ending_of line) l.bytes ≡ Err fault = ap (λ k. Err (Cut k)) (sym a.taken.number_is) ∙ ap Err (sym by.1) in (
      some_with m start old mid new now number last judged written out before s l.takes.read l.bytes (line ∷ []) a l.takes.from (rest_is mid new now after kept l) (cut_line l.bytes l.plain (something_kept l.bytes some)),
      a.text,
      inl (inr (inr (inl (on, OfList fault, (asked, λ cut. g.1), refl, refl)))),
      a.tells,
    )

-- a line ended it, or there was no memory
ended : (fault : JudgeFault) (judged : Judged) (number : ℕ) (later : List TextLine) (new : Option (List ℕ)) (text : List ℕ) (At : Type 0) → stops judged.all judged.differs ≡ false → (At → EndsWith judged number later new fault)
    → At ⊎ (fault ≡ OfList (Stopped Memory)) → Ends judged number later new text (Err fault) text
ended fault judged number later new text At on at (inl line) = inr (inr (inl (on, fault, at line, refl, refl)))
ended fault judged number later new text At on at (inr full) = inr (inr (inr (inr (on, ap Err full, refl))))

pub ends_at : (m : Machine) (start : Judged) (old mid new : Option (List ℕ)) (now after : List ℕ × ℕ) (kept : List ℕ × Bool) (number : ℕ) (last next : Machine) (judged then' : Judged) (written out out' : Option (List ℕ)) (before s t : List ℕ × Bool) (r : Option Ending) (ending : Ending) (bytes : List ℕ) (fault : JudgeFault)
    → SoFar m start old mid now number last judged written out before s → GivesLine mid new now after kept (Ok r) → r ≡ Some ending → ending ≡ Whole → stops judged.all judged.differs ≡ false → bytes ≡ kept.0 → TellsJudged last next judged then' number bytes out out' s t (Err fault)
    → TellsLines m start old new written out' before t (Err fault)
unfolding some_with
ends_at m start old mid new now after kept number last next judged then' written out out' before s t r ending bytes fault a gives is whole on same told =
    let g = subst (λ (o : Option Ending). GivesLine mid new now after kept (Ok o)) (is ∙ ap Some whole) gives in
    let l = g.0 in
    let line : TextLine = record { bytes = l.bytes; whole = true } in
    let e = ending_whole l.bytes kept l.kept_is g.1 in
    let at : EndsAt judged number Whole bytes fault → EndsWith judged (1 + length a.lines) (line ∷ lines_of after.0) new fault = λ ends. (
      subst (λ (k : ℕ). EndsAt judged k (ending_of line) l.bytes fault) a.taken.number_is
          (subst (λ (x : Ending). EndsAt judged number x l.bytes fault) (sym e.0) (subst (λ (b : List ℕ). EndsAt judged number Whole b fault) (same ∙ e.1) ends)),
      not_cut (IsAtEnd new) (ending_of line) Whole tt e.0,
    ) in (
      some_with m start old mid new now number last judged written out before s l.takes.read ((l.bytes ++ 10 ∷ []) ++ after.0) (line ∷ lines_of after.0) a l.takes.from l.takes.same (line_of_more mid new now after kept l),
      a.text,
      inl (ended fault judged (1 + length a.lines) (line ∷ lines_of after.0) new a.text (EndsAt judged number Whole bytes fault) on at told.0),
      tells_is written out' before t (a.text ++ []) a.text (append-nil a.text) (tells_more written out out' before s t a.text [] a.tells told.1),
    )

-- THE RUN

first_of : (frames : ℕ) (size : PageSize) (wanted : Wanted) (m : Machine) (start : Judged) (old new : Option (List ℕ)) → IsBoot frames m → m.size ≡ size → IsStart wanted start → JudgesSome m start old new → JudgesFirst frames size wanted old new
first_of frames size wanted m start old new boots sized starts j = record {
  read = j.read;
  «from» = j.from;
  lines = j.lines;
  later = j.later;
  parts = j.parts;
  boot = m;
  boots = boots;
  sized = sized;
  start = start;
  starts = starts;
  last = j.last;
  judged = j.judged;
  text = j.text;
  judges = j.judges;
}

-- what was told is what went out, or a beginning of it
all_is_some : (now : Option (List ℕ)) (s : Option (List ℕ)) (told : List ℕ) → Appends s now told → WentOut s now told
all_is_some now s told out = record { front = told; rest = []; whole = sym (append-nil told); out = out }

-- all that was told went out
pub judges_on : (result : Result Bool JudgeFault) (frames : ℕ) (size : PageSize) (wanted : Wanted) (m : Machine) (start : Judged) (old new written out now : Option (List ℕ)) (before after : List ℕ × Bool) → IsBoot frames m → m.size ≡ size → IsStart wanted start → before ≡ ([], false)
    → TellsLines m start old new written out before after result → ((s : Option (List ℕ)) (told : List ℕ) → HasTold s out after.0 after.1 told → Appends s now told) → Judges frames size wanted old new written now result
unfolding first_of
judges_on result frames size wanted m start old new written out now before after boots sized starts is t sent =
    let out_is = all_out written out now before after t.1 is t.3 sent in
    let f = first_of frames size wanted m start old new boots sized starts t.0 in
    elim t.2 as (λ _. Judges frames size wanted old new written now result) [
      | inl ends ↦ inr (f, t.1, inl (ends, out_is))
      | inr unwritten ↦ inr (f, t.1, inr (unwritten.0, inl unwritten.1, all_is_some now written t.1 out_is))
    ]

-- a write failed
pub judges_not : (result : Result Bool JudgeFault) (frames : ℕ) (size : PageSize) (wanted : Wanted) (m : Machine) (start : Judged) (old new written out now : Option (List ℕ)) (before after : List ℕ × Bool) → IsBoot frames m → m.size ≡ size → IsStart wanted start → before ≡ ([], false)
    → TellsLines m start old new written out before after result → ((s : Option (List ℕ)) (told : List ℕ) → HasTold s out after.0 after.1 told → WentOut s now told) → Judges frames size wanted old new written now (Err (OfList (Stopped Write)))
unfolding first_of
judges_not result frames size wanted m start old new written out now before after boots sized starts is t sent =
    let out_is = some_out written out now before after t.1 is t.3 sent in
    let f = first_of frames size wanted m start old new boots sized starts t.0 in
    elim t.2 as (λ _. Judges frames size wanted old new written now (Err (OfList (Stopped Write)))) [
      | inl ends ↦ inr (f, t.1, inr (refl, inr (result, ends), out_is))
      | inr unwritten ↦ inr (f, t.1, inr (refl, inl unwritten.1, out_is))
    ]
