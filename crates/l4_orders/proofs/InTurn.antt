-- Lines that are executed in their order, and threads that are stuck, one more each.
use Rattle.std.proofs.Common.{◌≡◌, ℕ, ◌+◌, ◌<◌, get_or, List, [], ◌∷◌, ◌++◌, length, Option, Some, None, take, refl, sym, ap, subst, ◌∙◌, arith, append_assoc, append-nil}
use Rattle.std.proofs.lemmas.List.{length-append, take_more}
use Rattle.l4_fpage.specs.declared.sizes.PageSize.{PageSize}
use Rattle.l4_answers.specs.Reports.{Report}
use Rattle.l4_sinks.specs.Texts.{AreAnswerTexts}
use Rattle.l4_expectations.specs.Expectations.{HasAnswers}
use Rattle.l4_text.specs.declared.lines.Ending.TheVariants.{Whole}
use Rattle.l4_commands.specs.Requests.{asked_at}
use Rattle.l4_shell.specs.Sessions.{State, AnswersLine}
use Rattle.l4_shell.proofs.Quiet.{nothing_both}
use Rattle.std.specs.Option.{option_to_list}
use Rattle.l4_orders.specs.declared.plans.Block.{Block}
use Rattle.l4_orders.specs.declared.plans.PlanLine.{PlanLine}
use Rattle.l4_orders.specs.Plans.{gone_after, line_at}
use Rattle.l4_orders.specs.Telling.{lines_from}
use Rattle.l4_orders.proofs.Turning.{lines_more}
use Rattle.l4_orders.specs.Inside.Executed.{Executed, Asked}
use Rattle.l4_orders.specs.Turns.{AnswersWell, AnswersInTurn}

pub in_turn_more : (s m new : State) (first number : ℕ) (lines : List PlanLine) (line : PlanLine) (told more : List Report) → AnswersInTurn s first lines told m → number ≡ first + length lines
    → AnswersLine m number (asked_at m.session.machine.size m.names Whole line.bytes.items) more new → AnswersInTurn s first (lines ++ line ∷ []) (told ++ more) new
in_turn_more s m new first number [] line told more x is answer = (
  more,
  [],
  new,
  subst (λ (p : State × ℕ). AnswersLine p.0 p.1 (asked_at p.0.session.machine.size p.0.names Whole line.bytes.items) more new) (λ i. (x.1 i, (let same : number ≡ first = omega (arith, is) in same) i)) answer,
  (refl, refl),
  ap (λ (l : List Report). l ++ more) x.0 ∙ sym (append-nil more),
)
in_turn_more s m new first number (l ∷ lines) line told more x is answer = (
  x.0,
  x.1 ++ more,
  x.2,
  x.3,
  in_turn_more x.2 m new (first + 1) number lines line x.1 more x.4 (omega (arith, is)) answer,
  ap (λ (t : List Report). t ++ more) x.5 ∙ append_assoc x.0 x.1 more,
)

-- LINES

pub executed_none : (s : State) (first : ℕ) → Executed s s first first []
executed_none s first = record { told = []; answers = (refl, refl); well = tt; number_is = omega arith }

pub executed_more : (s m new : State) (first number next : ℕ) (lines : List PlanLine) (line : PlanLine) → Executed s m first number lines → AnswersWell m number line.bytes.items new → next ≡ number + 1
    → Executed s new first next (lines ++ line ∷ [])
executed_more s m new first number next lines line x answer is = record {
  told = x.told ++ answer.0;
  answers = in_turn_more s m new first number lines line x.told answer.0 x.answers x.number_is answer.1;
  well = nothing_both x.told answer.0 x.well answer.2;
  number_is = is ∙ (let n = x.number_is in omega (arith, n, length-append lines (line ∷ [])));
}

pub executed_line : (s m new : State) (first number next : ℕ) (blocks : List Block) (gone order now : List ℕ) (place : ℕ) (line : PlanLine)
    → Executed s m first number (lines_from blocks gone order) → now ≡ gone_after gone order → line_at blocks now place ≡ Some line → AnswersWell m number line.bytes.items new → next ≡ number + 1
    → Executed s new first next (lines_from blocks gone (order ++ place ∷ []))
executed_line s m new first number next blocks gone order now place line x same some answer is =
    subst (λ (l : List PlanLine). Executed s new first next l)
    (sym (lines_more blocks gone order place ∙ ap (λ (o : Option PlanLine). lines_from blocks gone order ++ option_to_list o) (ap (λ (g : List ℕ). line_at blocks g place) (sym same) ∙ some)))
    (executed_more s m new first number next (lines_from blocks gone order) line x answer is)

pub executed_no_line : (s m : State) (first number : ℕ) (blocks : List Block) (gone order now : List ℕ) (place : ℕ)
    → Executed s m first number (lines_from blocks gone order) → now ≡ gone_after gone order → line_at blocks now place ≡ None
    → Executed s m first number (lines_from blocks gone (order ++ place ∷ []))
executed_no_line s m first number blocks gone order now place x same none =
    subst (λ (l : List PlanLine). Executed s m first number l)
    (sym (lines_more blocks gone order place ∙ ap (λ (o : Option PlanLine). lines_from blocks gone order ++ option_to_list o) (ap (λ (g : List ℕ). line_at blocks g place) (sym same) ∙ none) ∙ append-nil (lines_from blocks gone order)))
    x

-- the same along a list that a loop goes through
pub execute_next : (s m new : State) (first number next : ℕ) (lines : List PlanLine) (i : ℕ) (line : PlanLine) (bytes : List ℕ) → i < length lines → line ≡ get_or lines i line → bytes ≡ line.bytes.items
    → Executed s m first number (take i lines) → AnswersWell m number bytes new → next ≡ number + 1 → Executed s new first next (take (i + 1) lines)
execute_next s m new first number next lines i line bytes lt item same x answer is =
    subst (λ (l : List PlanLine). Executed s new first next l)
    (sym (take_more lines i line lt ∙ ap (λ (l : PlanLine). take i lines ++ l ∷ []) (sym item)))
    (executed_more s m new first number next (take i lines) line x (subst (λ (b : List ℕ). AnswersWell m number b new) same answer) is)

pub order_line : (s m new end : State) (first number next last : ℕ) (blocks : List Block) (gone order now : List ℕ) (i : ℕ) (line : PlanLine) (bytes : List ℕ) → i < length order → bytes ≡ line.bytes.items
    → Executed s m first number (lines_from blocks gone (take i order)) → now ≡ gone_after gone (take i order) → Some line ≡ line_at blocks now (get_or order i 0)
    → AnswersWell m number bytes new → next ≡ number + 1 → end ≡ new → last ≡ next → Executed s end first last (lines_from blocks gone (take (i + 1) order))
order_line s m new end first number next last blocks gone order now i line bytes lt bytes_are x same some answer is end_is last_is =
    subst (λ (p : State × ℕ). Executed s p.0 first p.1 (lines_from blocks gone (take (i + 1) order))) (λ j. (sym end_is j, sym last_is j))
    (subst (λ (o : List ℕ). Executed s new first next (lines_from blocks gone o)) (sym (take_more order i 0 lt))
    (executed_line s m new first number next blocks gone (take i order) now (get_or order i 0) line x same (sym some)
    (subst (λ (b : List ℕ). AnswersWell m number b new) bytes_are answer) is))

pub order_no_line : (s m end : State) (first number last : ℕ) (blocks : List Block) (gone order now : List ℕ) (i : ℕ) → i < length order
    → Executed s m first number (lines_from blocks gone (take i order)) → now ≡ gone_after gone (take i order) → None ≡ line_at blocks now (get_or order i 0)
    → end ≡ m → last ≡ number → Executed s end first last (lines_from blocks gone (take (i + 1) order))
order_no_line s m end first number last blocks gone order now i lt x same none end_is last_is =
    subst (λ (p : State × ℕ). Executed s p.0 first p.1 (lines_from blocks gone (take (i + 1) order))) (λ j. (sym end_is j, sym last_is j))
    (subst (λ (o : List ℕ). Executed s m first number (lines_from blocks gone o)) (sym (take_more order i 0 lt))
    (executed_no_line s m first number blocks gone (take i order) now (get_or order i 0) x same (sym none)))

pub in_turn_both : (s m t : State) (first number : ℕ) (xs ys : List PlanLine) (a b : List Report) → AnswersInTurn s first xs a m → number ≡ first + length xs → AnswersInTurn m number ys b t
    → AnswersInTurn s first (xs ++ ys) (a ++ b) t
in_turn_both s m t first number [] ys a b x is y =
    subst (λ (p : State × ℕ). AnswersInTurn p.0 p.1 ys (a ++ b) t) (λ i. (x.1 i, (let same : number ≡ first = omega (arith, is) in same) i))
    (subst (λ (told : List Report). AnswersInTurn m number ys (told ++ b) t) (sym x.0) y)
in_turn_both s m t first number (l ∷ xs) ys a b x is y = (
  x.0,
  x.1 ++ b,
  x.2,
  x.3,
  in_turn_both x.2 m t (first + 1) number xs ys x.1 b x.4 (omega (arith, is)) y,
  ap (λ (told : List Report). told ++ b) x.5 ∙ append_assoc x.0 x.1 b,
)

pub executed_both : (s m t : State) (first number next : ℕ) (xs ys : List PlanLine) → Executed s m first number xs → Executed m t number next ys → Executed s t first next (xs ++ ys)
executed_both s m t first number next xs ys x y = record {
  told = x.told ++ y.told;
  answers = in_turn_both s m t first number xs ys x.told y.told x.answers x.number_is y.answers;
  well = nothing_both x.told y.told x.well y.well;
  number_is = y.number_is ∙ (let n = x.number_is in omega (arith, n, length-append xs ys));
}

-- QUERIES

texts_both : (e : Option PageSize) (a b : List Report) (x y : List ℕ) → AreAnswerTexts e a x → AreAnswerTexts e b y → AreAnswerTexts e (a ++ b) (x ++ y)
texts_both e [] b x y p q = subst (λ (t : List ℕ). AreAnswerTexts e b (t ++ y)) (sym p) q
texts_both e (r ∷ a) b x y p q =
    (p.0, p.1 ++ y, p.2, texts_both e a b p.1 y p.3 q, ap (λ (t : List ℕ). t ++ y) p.4 ∙ append_assoc p.0 p.1 y)

pub asked_none : (s : State) (first : ℕ) → Asked s s first first [] []
asked_none s first = record { told = []; answers = (refl, refl); texts = refl; number_is = omega arith }

pub asked_more : (s m new : State) (first number next : ℕ) (lines : List PlanLine) (line : PlanLine) (text answer : List ℕ) → Asked s m first number lines text
    → HasAnswers m number line.bytes.items answer new → next ≡ number + 1 → Asked s new first next (lines ++ line ∷ []) (text ++ answer)
asked_more s m new first number next lines line text answer x more is = record {
  told = x.told ++ more.0;
  answers = in_turn_more s m new first number lines line x.told more.0 x.answers x.number_is more.1;
  texts = texts_both None x.told more.0 text answer x.texts more.2;
  number_is = is ∙ (let n = x.number_is in omega (arith, n, length-append lines (line ∷ [])));
}

-- the same along a list that a loop goes through
pub ask_next : (s m new : State) (first number next : ℕ) (lines : List PlanLine) (i : ℕ) (line : PlanLine) (bytes text answer after : List ℕ) → i < length lines → line ≡ get_or lines i line → bytes ≡ line.bytes.items
    → Asked s m first number (take i lines) text → HasAnswers m number bytes answer new → after ≡ text ++ answer → next ≡ number + 1 → Asked s new first next (take (i + 1) lines) after
ask_next s m new first number next lines i line bytes text answer after lt item same x more after_is is =
    subst (λ (p : List PlanLine × List ℕ). Asked s new first next p.0 p.1)
    (λ j. ((sym (take_more lines i line lt ∙ ap (λ (l : PlanLine). take i lines ++ l ∷ []) (sym item))) j, sym after_is j))
    (asked_more s m new first number next (take i lines) line text answer x (subst (λ (b : List ℕ). HasAnswers m number b answer new) same more) is)
