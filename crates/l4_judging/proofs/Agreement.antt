-- A list in which nothing differs agrees.
use Rattle.std.proofs.Common.{◌≡◌, ℕ, ◌+◌, ◌==◌, ◌||◌, ◌&&◌, ◌⊎◌, inl, inr, not, Bool, true, false, cond, List, [], ◌∷◌, ◌++◌, length, Option, Some, None, option_map, ok_or, Result, Ok, Err, sym, ap, subst, ◌∙◌, refl, arith}
use Rattle.std.specs.Io.KnownBytes.{Appends, IsAtEnd}
use Rattle.std.specs.Prelude.{IfSome}
use Rattle.std.proofs.lemmas.Bool.{false≢true}
use Rattle.std.proofs.lemmas.Bool.Decides.{nat_tests}
use Rattle.std.proofs.lemmas.List.{append-nil}
use Rattle.std.proofs.lemmas.Option.{none-some}
use Rattle.l4_answers.specs.Lines.{later_lines, is_next}
use Rattle.l4_fpage.specs.declared.sizes.PageSize.{PageSize}
use Rattle.l4_ipc.specs.Machine.{Machine}
use Rattle.l4_answers.proofs.FirstLine.{next_in_front}
use Rattle.l4_text.proofs.LineSteps.{empty_list}
use Rattle.l4_text.specs.Grammar.{TextLine, lines_of, ending_of, is_empty, is_silent}
use Rattle.l4_text.specs.Streams.{WentOut}
use Rattle.l4_text.specs.Tokens.{tokens_of}
use Rattle.l4_text.specs.declared.lines.Ending.{Ending}
use Rattle.l4_text.specs.declared.lines.Ending.TheVariants.{Whole, Long as TooLong, Cut as IsCut}
use Rattle.l4_step_lines.specs.declared.requests.Request.{Request}
use Rattle.l4_step_lines.specs.declared.running.Fault.{Fault}
use Rattle.l4_step_lines.specs.declared.running.Fault.TheVariants.{Unread}
use Rattle.l4_step_lines.specs.Lists.{asked_at, asked_of}
use Rattle.l4_step_lines.specs.Requests.{request_of}
use Rattle.l4_step_lines.specs.Stops.{unread_says}
use Rattle.l4_judging.specs.declared.expected.Expected.{Expected}
use Rattle.l4_judging.specs.declared.judging.Judged.{Judged}
use Rattle.l4_judging.specs.declared.judging.JudgeFault.{JudgeFault}
use Rattle.l4_judging.specs.declared.judging.Wanted.{Wanted}
use Rattle.l4_judging.specs.Agreeing.{said_then, said_above, SaysLines, SaysText, IsAnswered, AreAnswered, Agrees, AllAgrees}
use Rattle.l4_judging.specs.Calls.{starts_call}
use Rattle.l4_judging.specs.Judging.{said_in, has_said, after_answer, lacks, is_short, stops, ends_short, is_wanted, has_all, with_answer, with_call, with_request, step_count, differs_at_end, verdict_of, IsExpected, JudgesAnswer, JudgesAsked, JudgesSaid, JudgesAt, JudgesLines, Ends, JudgesFirst, IsUnwritten, Judges}
use Rattle.l4_judging.specs.Requests.{request_text, requests_text}

-- TESTS

or_false : (a b : Bool) → (a || b) ≡ false → (a ≡ false) × (b ≡ false)
or_false true b h = absurd (false≢true (sym h))
or_false false b h = (refl, h)

not_false : (a : Bool) → not a ≡ false → a ≡ true
not_false true h = refl
not_false false h = absurd (false≢true (sym h))

not_not_true : (a b : Bool) → (a || not b) ≡ false → (a ≡ false) × (b ≡ true)
not_not_true a b h = ((or_false a (not b) h).0, not_false b (or_false a (not b) h).1)

-- A LINE

-- an answer is a comment, which is silent
said_is_silent : (line said : List ℕ) → said_in line ≡ Some said → is_silent line ≡ true
said_is_silent [] said h = absurd (none-some said h)
said_is_silent (first ∷ []) said h = absurd (none-some said h)
said_is_silent (first ∷ second ∷ more) said h =
    let sharp : (first == 35) ≡ true = elim (first == 35) as (λ b. cond (b && second == 32) (Some more) None ≡ Some said → b ≡ true) [ true ↦ λ _. refl | false ↦ λ none. absurd (none-some said none) ] h in
    ap (λ b. b || is_empty (tokens_of (first ∷ second ∷ more))) sharp

-- what a line that is silent, or is not, asks for
silent_asks : (number : ℕ) (line : List ℕ) → is_silent line ≡ true → asked_at number Whole line ≡ Ok None
silent_asks number line h = ap (λ b. cond b (Ok None) (ok_or (option_map Some (request_of (tokens_of line))) (Unread number (unread_says number (tokens_of line))))) h

-- a line that asks for nothing is silent, and one with a request is not
abbrev AsksBy : Bool → Result (Option Request) Fault → Type 0
AsksBy silent (Ok None) = silent ≡ true
AsksBy silent (Ok (Some request)) = silent ≡ false
AsksBy silent (Err fault) = Unit {0}

asks_by : (number : ℕ) (line : List ℕ) → AsksBy (is_silent line) (asked_at number Whole line)
asks_by number line =
    elim (is_silent line) as (λ b. AsksBy b (cond b (Ok None) (ok_or (option_map Some (request_of (tokens_of line))) (Unread number (unread_says number (tokens_of line)))))) [
      | true ↦ refl
      | false ↦ elim (request_of (tokens_of line)) as (λ o. AsksBy false (ok_or (option_map Some o) (Unread number (unread_says number (tokens_of line))))) [ None ↦ tt | Some request ↦ refl ]
    ]

-- WHAT IS STILL EXPECTED

-- the answers that follow are those that are expected; or there are none yet, where that is accepted
abbrev Fits : Bool → Option Expected → List (List ℕ) → Type 0
Fits partial None said = said ≡ []
Fits partial (Some e) said = SaysLines e.due said ⊎ ((partial ≡ true) × (e.answered ≡ false) × (said ≡ []))

-- nothing is missing
is_nothing : (text : List ℕ) → (length text == 0) ≡ true → text ≡ []
is_nothing text h =
    let zero : length text ≡ 0 = grind (arith, nat_tests) in
    empty_list text zero

no_lack : (partial : Bool) (e : Expected) (empty answered : Bool) → (length e.due == 0) ≡ empty → e.answered ≡ answered → cond empty false (answered || not partial) ≡ false → Fits partial (Some e) []
no_lack partial e true answered empty_is answered_is h = inl (is_nothing e.due empty_is)
no_lack partial e false true empty_is answered_is h = absurd (false≢true (sym h))
no_lack partial e false false empty_is answered_is h = inr (not_false partial h, answered_is, refl)

fits_none : (partial : Bool) (expected : Option Expected) → is_short partial expected ≡ false → Fits partial expected []
fits_none partial None h = refl
fits_none partial (Some e) h = no_lack partial e (length e.due == 0) e.answered refl refl h

-- a request was given its answers
fits_text : (partial : Bool) (e : Expected) (said : List (List ℕ)) → Fits partial (Some e) said → SaysText partial e.due said
fits_text partial e said (inl says) = inl says
fits_text partial e said (inr none) = inr (none.0, none.2)

-- an answer is in front of those that follow
fits_more : (partial : Bool) (e : Expected) (number : ℕ) (said : List ℕ) (rest : List (List ℕ)) → has_said e.due said ≡ true → Fits partial (Some (after_answer e number)) rest → Fits partial (Some e) (said ∷ rest)
fits_more partial e number said rest same (inl says) = inl (same, says)
fits_more partial e number said rest same (inr none) = absurd (false≢true (sym none.1))

-- REQUESTS

-- the requests that are left are those of these lines
abbrev Left : Option (List ℕ) → List TextLine → Type 0
Left requests lines = IfSome requests (λ r. r ≡ requests_text lines)

-- a line without a request
left_same : (requests : Option (List ℕ)) (line : TextLine) (lines : List TextLine) → is_silent line.bytes ≡ true → Left requests lines → Left requests (line ∷ lines)
left_same None line lines silent left = left
left_same (Some r) line lines silent left = left ∙ sym (ap (λ b. cond b [] (line.bytes ++ 10 ∷ []) ++ requests_text lines) silent)

-- a request that is the wanted one
left_more : (ended : Bool) (requests : Option (List ℕ)) (line : TextLine) (lines : List TextLine) → ended ≡ false → is_silent line.bytes ≡ false → is_wanted ended requests line.bytes ≡ true → Left (option_map later_lines requests) lines → Left requests (line ∷ lines)
left_more ended None line lines on loud same left = left
left_more ended (Some r) line lines on loud same left =
    let next : is_next line.bytes r ≡ true = ap (λ b. b || is_next line.bytes r) (sym on) ∙ same in
    next_in_front line.bytes r next ∙ ap (λ more. (line.bytes ++ 10 ∷ []) ++ more) left ∙ sym (ap (λ b. cond b [] (line.bytes ++ 10 ∷ []) ++ requests_text lines) loud)

left_none : (ended : Bool) (requests : Option (List ℕ)) → ended ≡ false → has_all ended requests ≡ true → Left requests []
left_none ended None on h = tt
left_none ended (Some r) on h = is_nothing r (ap (λ b. b || length r == 0) (sym on) ∙ h)

-- no report ended the list
no_end : (judged : Judged) → is_short judged.partial judged.expected ≡ false → ends_short judged ≡ false
no_end judged h = ap (λ b. stops judged.all b) h

-- LINES

-- what holds of lines at whose end nothing differs, after what was judged before them
record Agree (m : Machine) (old : Judged) (number : ℕ) (lines : List TextLine) (n : Machine) : Type 0 where
  same : old.differs ≡ false
  fits : Fits old.partial old.expected (said_above lines)
  answered : AreAnswered old.partial m number lines n
  left : Left old.requests lines

agree_said : (m n : Machine) (old : Judged) (e : Expected) (number : ℕ) (said : List ℕ) (line : TextLine) (lines : List TextLine) → old.expected ≡ Some e → ending_of line ≡ Whole → said_in line.bytes ≡ Some said
    → Agree m (with_answer old e number said) (number + 1) lines n → Agree m old number (line ∷ lines) n
agree_said m n old e number said line lines e_is whole said_is a =
    let silent = said_is_silent line.bytes said said_is in
    let d = not_not_true old.differs (has_said e.due said) a.same in
    let fits' : Fits old.partial (Some e) (said ∷ said_above lines) = fits_more old.partial e number said (said_above lines) d.1 a.fits in
    let above : said_above (line ∷ lines) ≡ said ∷ said_above lines = ap (λ o. said_then o (is_silent line.bytes) (said_above lines)) said_is in
    let asked : asked_of number line ≡ Ok None = ap (λ x. asked_at number x line.bytes) whole ∙ silent_asks number line.bytes silent in
    record {
      same = d.0;
      fits = subst (λ (o : Option Expected). Fits old.partial o (said_above (line ∷ lines))) (sym e_is) (subst (λ (answers : List (List ℕ)). Fits old.partial (Some e) answers) (sym above) fits');
      answered = (m, subst (λ (q : Result (Option Request) Fault). IsAnswered old.partial m q (said_above lines) m) (sym asked) refl, a.answered);
      left = left_same old.requests line lines silent a.left;
    }

agree_silent : (m n : Machine) (old : Judged) (number : ℕ) (line : TextLine) (lines : List TextLine) → ending_of line ≡ Whole → said_in line.bytes ≡ None → is_silent line.bytes ≡ true
    → Agree m old (number + 1) lines n → Agree m old number (line ∷ lines) n
agree_silent m n old number line lines whole plain silent a =
    let above : said_above (line ∷ lines) ≡ said_above lines = ap (λ o. said_then o (is_silent line.bytes) (said_above lines)) plain ∙ ap (λ b. cond b (said_above lines) []) silent in
    let asked : asked_of number line ≡ Ok None = ap (λ x. asked_at number x line.bytes) whole ∙ silent_asks number line.bytes silent in
    record {
      same = a.same;
      fits = subst (λ (answers : List (List ℕ)). Fits old.partial old.expected answers) (sym above) a.fits;
      answered = (m, subst (λ (q : Result (Option Request) Fault). IsAnswered old.partial m q (said_above lines) m) (sym asked) refl, a.answered);
      left = left_same old.requests line lines silent a.left;
    }

agree_request : (m between n : Machine) (old : Judged) (request : Request) (e : Expected) (number : ℕ) (line : TextLine) (lines : List TextLine) → ending_of line ≡ Whole → said_in line.bytes ≡ None → is_silent line.bytes ≡ false
    → asked_at number Whole line.bytes ≡ Ok (Some request) → IsExpected m old.calls request number line.bytes e between → Agree between (with_request (with_call old (starts_call request) number line.bytes) (step_count request) e) (number + 1) lines n → Agree m old number (line ∷ lines) n
agree_request m between n old request e number line lines whole plain loud asks expects a =
    let d = not_not_true (old.differs || is_short old.partial old.expected) (is_wanted (ends_short old) old.requests e.line.items) a.same in
    let before = or_false old.differs (is_short old.partial old.expected) d.0 in
    let above : said_above (line ∷ lines) ≡ [] = ap (λ o. said_then o (is_silent line.bytes) (said_above lines)) plain ∙ ap (λ b. cond b (said_above lines) []) loud in
    let asked : asked_of number line ≡ Ok (Some request) = ap (λ x. asked_at number x line.bytes) whole ∙ asks in
    let answered' : IsAnswered old.partial m (Ok (Some request)) (said_above lines) between = (e.due, expects.answers, fits_text old.partial e (said_above lines) a.fits) in
    record {
      same = before.0;
      fits = subst (λ (answers : List (List ℕ)). Fits old.partial old.expected answers) (sym above) (fits_none old.partial old.expected before.1);
      answered = (between, subst (λ (q : Result (Option Request) Fault). IsAnswered old.partial m q (said_above lines) between) (sym asked) answered', a.answered);
      left = left_more (ends_short old) old.requests line lines (no_end old before.1) loud (ap (λ l. is_wanted (ends_short old) old.requests l) (sym expects.line_is) ∙ d.1) a.left;
    }

-- one line, by what it is
agree_answer : (m n : Machine) (old then' : Judged) (expected : Option Expected) (number : ℕ) (said text : List ℕ) (line : TextLine) (lines : List TextLine) → old.expected ≡ expected → ending_of line ≡ Whole → said_in line.bytes ≡ Some said
    → JudgesAnswer old expected number said text then' → Agree m then' (number + 1) lines n → Agree m old number (line ∷ lines) n
agree_answer m n old then' None number said text line lines is whole said_is judged a = absurd judged
agree_answer m n old then' (Some e) number said text line lines is whole said_is judged a = agree_said m n old e number said line lines is whole said_is (subst (λ (j : Judged). Agree m j (number + 1) lines n) judged.1 a)

agree_asked : (asked : Result (Option Request) Fault) (m between n : Machine) (old then' : Judged) (number : ℕ) (text : List ℕ) (line : TextLine) (lines : List TextLine) → ending_of line ≡ Whole → said_in line.bytes ≡ None
    → asked_at number Whole line.bytes ≡ asked → AsksBy (is_silent line.bytes) asked → JudgesAsked m old asked number line.bytes text between then' → Agree between then' (number + 1) lines n → Agree m old number (line ∷ lines) n
agree_asked (Ok None) m between n old then' number text line lines whole plain asks by judged a =
    agree_silent m n old number line lines whole plain by
    (subst (λ (x : Machine). Agree x old (number + 1) lines n) judged.1 (subst (λ (j : Judged). Agree between j (number + 1) lines n) judged.2 a))
agree_asked (Ok (Some request)) m between n old then' number text line lines whole plain asks by judged a =
    agree_request m between n old request judged.0 number line lines whole plain by asks judged.1 (subst (λ (j : Judged). Agree between j (number + 1) lines n) judged.3 a)
agree_asked (Err fault) m between n old then' number text line lines whole plain asks by judged a = absurd judged

agree_line : (said : Option (List ℕ)) (m between n : Machine) (old then' : Judged) (number : ℕ) (text : List ℕ) (line : TextLine) (lines : List TextLine) → ending_of line ≡ Whole → said_in line.bytes ≡ said
    → JudgesSaid m old number said line.bytes text between then' → Agree between then' (number + 1) lines n → Agree m old number (line ∷ lines) n
agree_line (Some said) m between n old then' number text line lines whole is judged a =
    agree_answer m n old then' old.expected number said text line lines refl whole is judged.0 (subst (λ (x : Machine). Agree x then' (number + 1) lines n) judged.1 a)
agree_line None m between n old then' number text line lines whole is judged a =
    agree_asked (asked_at number Whole line.bytes) m between n old then' number text line lines whole is refl (subst (λ (q : Result (Option Request) Fault). AsksBy (is_silent line.bytes) q) refl (asks_by number line.bytes)) judged a

agree_at : (ending : Ending) (m between n : Machine) (old then' : Judged) (number : ℕ) (text : List ℕ) (line : TextLine) (lines : List TextLine) → ending_of line ≡ ending → JudgesAt m old number ending line.bytes text between then'
    → Agree between then' (number + 1) lines n → Agree m old number (line ∷ lines) n
agree_at Whole m between n old then' number text line lines is judged a = agree_line (said_in line.bytes) m between n old then' number text line lines is refl judged a
agree_at TooLong m between n old then' number text line lines is judged a = absurd judged
agree_at IsCut m between n old then' number text line lines is judged a = absurd judged

agree_lines : (m n : Machine) (old new : Judged) (number : ℕ) (lines : List TextLine) (text : List ℕ) → JudgesLines m old number lines text n new → differs_at_end new ≡ false → Agree m old number lines n
agree_lines m n old new number [] text judged same =
    let here : differs_at_end old ≡ false = subst (λ (j : Judged). differs_at_end j ≡ false) judged.2 same in
    let d = not_not_true (old.differs || is_short old.partial old.expected) (has_all (ends_short old) old.requests) here in
    let before = or_false old.differs (is_short old.partial old.expected) d.0 in
    record {
      same = before.0;
      fits = fits_none old.partial old.expected before.1;
      answered = judged.1;
      left = left_none (ends_short old) old.requests (no_end old before.1) d.1;
    }
agree_lines m n old new number (line ∷ lines) text judged same =
    agree_at (ending_of line) m judged.3 n old judged.4 number judged.1 line lines refl judged.5 (agree_lines judged.3 n judged.4 new (number + 1) lines judged.2 judged.6 same)

-- THE RUN

abbrev IsYes : Result Bool JudgeFault → Type 0
IsYes (Ok true) = Unit {0}
IsYes (Ok false) = ⊥
IsYes (Err fault) = ⊥

same_at_end : (judged : Judged) (number : ℕ) (differs : Bool) → IsYes (verdict_of differs judged number) → differs ≡ false
same_at_end judged number true agrees = absurd agrees
same_at_end judged number false agrees = refl

agrees_at_end : (frames : ℕ) (size : PageSize) (wanted : Wanted) (old new : Option (List ℕ)) (f : JudgesFirst frames size wanted old new) → f.later ≡ [] → IsAtEnd new → differs_at_end f.judged ≡ false → AllAgrees frames size wanted old new
agrees_at_end frames size wanted old new f later ended same =
    let a = agree_lines f.boot f.last f.start f.judged 1 f.lines f.text f.judges same in
    let all : f.lines ≡ lines_of f.read = sym (f.parts ∙ ap (λ ls. f.lines ++ ls) later ∙ append-nil f.lines) in
    let fits' : Fits f.start.partial None (said_above f.lines) = subst (λ (o : Option Expected). Fits f.start.partial o (said_above f.lines)) f.starts.expected a.fits in (
      f.read,
      f.from,
      ended,
      subst (λ (ls : List TextLine). Agrees frames size wanted ls) all
          (record {
            boot = f.boot;
            boots = f.boots;
            sized = f.sized;
            last = f.last;
            above = fits';
            answered = subst (λ (p : Bool). AreAnswered p f.boot 1 f.lines f.last) f.starts.partial a.answered;
            requests = subst (λ (o : Option (List ℕ)). Left o f.lines) f.starts.requests a.left;
          }),
    )

ends_yes : (result : Result Bool JudgeFault) (frames : ℕ) (size : PageSize) (wanted : Wanted) (old new : Option (List ℕ)) (f : JudgesFirst frames size wanted old new) (told : List ℕ) → IsYes result
    → Ends f.judged (1 + length f.lines) f.later new f.text result told → AllAgrees frames size wanted old new
ends_yes result frames size wanted old new f told agrees (inl difference) = absurd (subst IsYes difference.2 agrees)
ends_yes result frames size wanted old new f told agrees (inr (inl end)) =
    agrees_at_end frames size wanted old new f end.1 end.2 (same_at_end f.judged (1 + length f.lines) (differs_at_end f.judged) (subst IsYes end.3 agrees))
ends_yes result frames size wanted old new f told agrees (inr (inr (inl line))) = absurd (subst IsYes line.3 agrees)
ends_yes result frames size wanted old new f told agrees (inr (inr (inr (inl unread)))) = absurd (subst IsYes unread.1 agrees)
ends_yes result frames size wanted old new f told agrees (inr (inr (inr (inr full)))) = absurd (subst IsYes full.1 agrees)

run_yes : (result : Result Bool JudgeFault) (frames : ℕ) (size : PageSize) (wanted : Wanted) (old new written now : Option (List ℕ)) (f : JudgesFirst frames size wanted old new) (told : List ℕ) → IsYes result
    → (Ends f.judged (1 + length f.lines) f.later new f.text result told × Appends written now told)
    ⊎ (IsUnwritten result × ((told ≡ f.text) ⊎ ((ended : Result Bool JudgeFault) × Ends f.judged (1 + length f.lines) f.later new f.text ended told)) × WentOut written now told) → AllAgrees frames size wanted old new
run_yes result frames size wanted old new written now f told agrees (inl ended) = ends_yes result frames size wanted old new f told agrees ended.0
run_yes result frames size wanted old new written now f told agrees (inr unwritten) = absurd (subst IsYes unwritten.0 agrees)

judges_yes : (result : Result Bool JudgeFault) (frames : ℕ) (size : PageSize) (wanted : Wanted) (old new written now : Option (List ℕ)) → IsYes result → Judges frames size wanted old new written now result → AllAgrees frames size wanted old new
judges_yes result frames size wanted old new written now agrees (inl memory) = absurd (subst IsYes memory.2 agrees)
judges_yes result frames size wanted old new written now agrees (inr run) = run_yes result frames size wanted old new written now run.0 run.1 agrees run.2

-- if a run ends with the verdict that the list agrees, it does
pub agrees_if : (result : Result Bool JudgeFault) (frames : ℕ) (size : PageSize) (wanted : Wanted) (old new written now : Option (List ℕ)) → Judges frames size wanted old new written now result → result ≡ Ok true → AllAgrees frames size wanted old new
agrees_if result frames size wanted old new written now judged ok = judges_yes result frames size wanted old new written now (subst IsYes (sym ok) tt) judged
