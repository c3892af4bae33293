-- The lines of an order, one more turn each.
use Rattle.std.proofs.Common.{◌≡◌, ℕ, ◌+◌, ◌<◌, get_or, take, Bool, false, is_err, length, arith, Result, Ok, Err, OnOk, List, [], ◌∷◌, ◌++◌, flat_map, Option, None, Some, refl, sym, ap, ◌∙◌, append_assoc, append-nil}
use Rattle.std.proofs.lemmas.Bool.{false≢true}
use Rattle.std.proofs.lemmas.List.{take_more, length-take-le}
use Rattle.std.specs.Option.{option_to_list}
use Rattle.l4_merges.specs.declared.found.Found.{Found}
use Rattle.l4_orders.specs.declared.plans.Block.{Block}
use Rattle.l4_orders.specs.declared.plans.Plan.{Plan}
use Rattle.l4_orders.specs.declared.plans.PlanLine.{PlanLine}
use Rattle.l4_orders.specs.declared.telling.OrderStyle.{OrderStyle}
use Rattle.l4_orders.specs.Plans.{gone_after, line_at, gone_with}
use Rattle.l4_orders.specs.Telling.{lines_from, outcome_text, outcomes_text}

pub gone_more : (gone order : List ℕ) (place : ℕ) → gone_after gone (order ++ place ∷ []) ≡ gone_with (gone_after gone order) place
gone_more gone [] place = refl
gone_more gone (p ∷ order) place = gone_more (gone_with gone p) order place

-- the lines of turns that follow others
pub lines_both : (blocks : List Block) (gone order later : List ℕ) → lines_from blocks gone (order ++ later) ≡ lines_from blocks gone order ++ lines_from blocks (gone_after gone order) later
lines_both blocks gone [] later = refl
lines_both blocks gone (p ∷ order) later =
    ap (λ (l : List PlanLine). option_to_list (line_at blocks gone p) ++ l) (lines_both blocks (gone_with gone p) order later)
    ∙ sym (append_assoc (option_to_list (line_at blocks gone p)) (lines_from blocks (gone_with gone p) order) (lines_from blocks (gone_after (gone_with gone p) order) later))

pub lines_more : (blocks : List Block) (gone order : List ℕ) (place : ℕ)
    → lines_from blocks gone (order ++ place ∷ []) ≡ lines_from blocks gone order ++ option_to_list (line_at blocks (gone_after gone order) place)
lines_more blocks gone [] place = append-nil (option_to_list (line_at blocks gone place))
lines_more blocks gone (p ∷ order) place =
    ap (λ (l : List PlanLine). option_to_list (line_at blocks gone p) ++ l) (lines_more blocks (gone_with gone p) order place)
    ∙ sym (append_assoc (option_to_list (line_at blocks gone p)) (lines_from blocks (gone_with gone p) order) (option_to_list (line_at blocks (gone_after (gone_with gone p) order) place)))

flat_both : (f : PlanLine → List ℕ) (xs ys : List PlanLine) → flat_map f (xs ++ ys) ≡ flat_map f xs ++ flat_map f ys
flat_both f [] ys = refl
flat_both f (x ∷ xs) ys = ap (λ (l : List ℕ). f x ++ l) (flat_both f xs ys) ∙ sym (append_assoc (f x) (flat_map f xs) (flat_map f ys))

-- the text so far, with the text of the line of one more turn
pub text_more : (f : PlanLine → List ℕ) (blocks : List Block) (gone order now : List ℕ) (place : ℕ) (out before : List ℕ) (line : PlanLine)
    → before ≡ out ++ flat_map f (lines_from blocks gone order) → now ≡ gone_after gone order → line_at blocks now place ≡ Some line
    → before ++ f line ≡ out ++ flat_map f (lines_from blocks gone (order ++ place ∷ []))
text_more f blocks gone order now place out before line is same some =
    let at = ap (λ (g : List ℕ). line_at blocks g place) (sym same) ∙ some in
    ap (λ (t : List ℕ). t ++ f line) is ∙ append_assoc out (flat_map f (lines_from blocks gone order)) (f line)
    ∙ sym (ap (λ (t : List ℕ). out ++ t)
    (ap (flat_map f) (lines_more blocks gone order place ∙ ap (λ (o : Option PlanLine). lines_from blocks gone order ++ option_to_list o) at)
    ∙ flat_both f (lines_from blocks gone order) (line ∷ []) ∙ ap (λ (t : List ℕ). flat_map f (lines_from blocks gone order) ++ t) (append-nil (f line))))

-- the same where there is no such line
pub text_same : (f : PlanLine → List ℕ) (blocks : List Block) (gone order now : List ℕ) (place : ℕ) (out before : List ℕ)
    → before ≡ out ++ flat_map f (lines_from blocks gone order) → now ≡ gone_after gone order → line_at blocks now place ≡ None
    → before ≡ out ++ flat_map f (lines_from blocks gone (order ++ place ∷ []))
text_same f blocks gone order now place out before is same none =
    let at = ap (λ (g : List ℕ). line_at blocks g place) (sym same) ∙ none in
    is ∙ sym (ap (λ (l : List PlanLine). out ++ flat_map f l)
    (lines_more blocks gone order place ∙ ap (λ (o : Option PlanLine). lines_from blocks gone order ++ option_to_list o) at ∙ append-nil (lines_from blocks gone order)))

pub gone_one : (gone order now next : List ℕ) (place : ℕ) → now ≡ gone_after gone order → next ≡ gone_with now place → next ≡ gone_after gone (order ++ place ∷ [])
gone_one gone order now next place same is = is ∙ ap (λ (g : List ℕ). gone_with g place) same ∙ sym (gone_more gone order place)

-- the same along the list that a loop goes through
pub text_next : (f : PlanLine → List ℕ) (blocks : List Block) (gone order now : List ℕ) (i : ℕ) (out before after : List ℕ) (line : PlanLine) → i < length order
    → before ≡ out ++ flat_map f (lines_from blocks gone (take i order)) → now ≡ gone_after gone (take i order) → Some line ≡ line_at blocks now (get_or order i 0) → after ≡ before ++ f line
    → after ≡ out ++ flat_map f (lines_from blocks gone (take (i + 1) order))
text_next f blocks gone order now i out before after line lt is same some added =
    added ∙ text_more f blocks gone (take i order) now (get_or order i 0) out before line is same (sym some)
    ∙ ap (λ (o : List ℕ). out ++ flat_map f (lines_from blocks gone o)) (sym (take_more order i 0 lt))

pub text_none : (f : PlanLine → List ℕ) (blocks : List Block) (gone order now : List ℕ) (i : ℕ) (out before after : List ℕ) → i < length order
    → before ≡ out ++ flat_map f (lines_from blocks gone (take i order)) → now ≡ gone_after gone (take i order) → None ≡ line_at blocks now (get_or order i 0) → after ≡ before
    → after ≡ out ++ flat_map f (lines_from blocks gone (take (i + 1) order))
text_none f blocks gone order now i out before after lt is same none kept =
    kept ∙ text_same f blocks gone (take i order) now (get_or order i 0) out before is same (sym none)
    ∙ ap (λ (o : List ℕ). out ++ flat_map f (lines_from blocks gone o)) (sym (take_more order i 0 lt))

pub gone_next : (gone order now next : List ℕ) (i : ℕ) → i < length order → now ≡ gone_after gone (take i order) → next ≡ gone_with now (get_or order i 0) → next ≡ gone_after gone (take (i + 1) order)
gone_next gone order now next i lt same is =
    gone_one gone (take i order) now next (get_or order i 0) same is ∙ ap (λ (o : List ℕ). gone_after gone o) (sym (take_more order i 0 lt))

ok_of : {E : Type 0} {A : Type 0} (r : Result (Unit {0}) E) → false ≡ is_err r → OnOk r A → A
ok_of (Ok u) h x = x
ok_of (Err e) h x = absurd (false≢true h)

-- the counts after a turn that could be counted
pub gone_counted : {E : Type 0} (r : Result (Unit {0}) E) (gone order now next : List ℕ) (i : ℕ) → false ≡ is_err r → i < length order → now ≡ gone_after gone (take i order)
    → OnOk r (next ≡ gone_with now (get_or order i 0)) → next ≡ gone_after gone (take (i + 1) order)
gone_counted r gone order now next i good lt same is = gone_next gone order now next i lt same (ok_of r good is)

pub counted : {E : Type 0} (r : Result (Unit {0}) E) (next now : List ℕ) (place : ℕ) → false ≡ is_err r → OnOk r (next ≡ gone_with now place) → next ≡ gone_with now place
counted r next now place good is = ok_of r good is

-- OUTCOMES

pub outcomes_more : (plan : Plan) (style : OrderStyle) (number : ℕ) (found : List Found) (one : Found)
    → outcomes_text plan style number (found ++ one ∷ []) ≡ outcomes_text plan style number found ++ outcome_text plan style (number + length found) one
outcomes_more plan style number [] one = append-nil (outcome_text plan style number one) ∙ ap (λ (n : ℕ). outcome_text plan style n one) (let same : number ≡ number + 0 = omega arith in same)
outcomes_more plan style number (f ∷ found) one =
    ap (λ (t : List ℕ). outcome_text plan style number f ++ t)
    (outcomes_more plan style (number + 1) found one ∙ ap (λ (n : ℕ). outcomes_text plan style (number + 1) found ++ outcome_text plan style n one)
    (let same : number + 1 + length found ≡ number + length (f ∷ found) = omega arith in same))
    ∙ sym (append_assoc (outcome_text plan style number f) (outcomes_text plan style (number + 1) found) (outcome_text plan style (number + length (f ∷ found)) one))

pub outcomes_next : (plan : Plan) (style : OrderStyle) (found : List Found) (i : ℕ) (one : Found) (number : ℕ) (out before after : List ℕ) → i < length found → one ≡ get_or found i one → number ≡ i + 1
    → before ≡ out ++ outcomes_text plan style 1 (take i found) → after ≡ before ++ outcome_text plan style number one → after ≡ out ++ outcomes_text plan style 1 (take (i + 1) found)
outcomes_next plan style found i one number out before after lt item number_is is added =
    let count : number ≡ 1 + length (take i found) = omega (arith, number_is, length-take-le i found (omega (arith, lt))) in
    added ∙ ap (λ (t : List ℕ). t ++ outcome_text plan style number one) is ∙ append_assoc out (outcomes_text plan style 1 (take i found)) (outcome_text plan style number one)
    ∙ ap (λ (t : List ℕ). out ++ t)
    (ap (λ (n : ℕ). outcomes_text plan style 1 (take i found) ++ outcome_text plan style n one) count
    ∙ sym (outcomes_more plan style 1 (take i found) one)
    ∙ ap (λ (l : List Found). outcomes_text plan style 1 l) (sym (take_more found i one lt ∙ ap (λ (x : Found). take i found ++ x ∷ []) (sym item))))
