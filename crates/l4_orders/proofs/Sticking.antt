-- The text of threads that are stuck, one more each.
use Rattle.std.proofs.Common.{◌≡◌, ℕ, ◌+◌, ◌<◌, ◌≤◌, Bool, true, false, if◌then◌else◌, List, [], ◌∷◌, ◌++◌, length, take, get_or, slice_get, Option, Some, None, Result, Ok, Err, OnOk, sym, ap, ◌∙◌, arith, append_assoc, append-nil}
use Rattle.std.specs.Option.{option_map_or}
use Rattle.std.proofs.lemmas.List.{take_all, take_more, length-take-le}
use Rattle.l4_orders.specs.declared.plans.Block.{Block}
use Rattle.l4_orders.specs.declared.plans.PlanLine.{PlanLine}
use Rattle.l4_orders.specs.Turns.{stuck_text, stuck_line, stuck_lines}

on_ok : {E : Type 0} {A B : Type 0} (r : Result (Unit {0}) E) → (A → B) → OnOk r A → OnOk r B
on_ok (Ok u) f h = f h
on_ok (Err e) f h = tt

pub stuck_before : {E : Type 0} (r : Result (Unit {0}) E) (out new : List ℕ) (block : Block) (gone : ℕ) (line : PlanLine) → false ≡ block.cancels → Some line ≡ slice_get block.lines.items gone
    → OnOk r (new ≡ out ++ stuck_text block.thread line.number) → OnOk r (new ≡ out ++ stuck_line block gone)
stuck_before r out new block gone line of is ok =
    on_ok r (λ e. e ∙ (λ i. out ++ (if of i then [] else option_map_or (λ one. stuck_text block.thread one.number) (is i) []))) ok

pub not_stuck : (out : List ℕ) (block : Block) (gone : ℕ) → false ≡ block.cancels → None ≡ slice_get block.lines.items gone → out ≡ out ++ stuck_line block gone
not_stuck out block gone of is = sym (append-nil out) ∙ (λ i. out ++ (if of i then [] else option_map_or (λ one. stuck_text block.thread one.number) (is i) []))

pub never_stuck : (out : List ℕ) (block : Block) (gone : ℕ) → true ≡ block.cancels → out ≡ out ++ stuck_line block gone
never_stuck out block gone of =
    sym (append-nil out) ∙ ap (λ (b : Bool). out ++ (if b then [] else option_map_or (λ (one : PlanLine). stuck_text block.thread one.number) (slice_get block.lines.items gone) [])) of

one_more : (blocks : List Block) (gone : List ℕ) (b : Block) (g : ℕ) → length blocks ≡ length gone → stuck_lines (blocks ++ b ∷ []) (gone ++ g ∷ []) ≡ stuck_lines blocks gone ++ stuck_line b g
one_more [] [] b g same = append-nil (stuck_line b g)
one_more [] (n ∷ gone) b g same = absurd (omega (arith, same))
one_more (c ∷ blocks) [] b g same = absurd (omega (arith, same))
one_more (c ∷ blocks) (n ∷ gone) b g same =
    ap (λ (t : List ℕ). stuck_line c n ++ t) (one_more blocks gone b g (omega (arith, same))) ∙ sym (append_assoc (stuck_line c n) (stuck_lines blocks gone) (stuck_line b g))

pub stuck_next : (blocks : List Block) (gone : List ℕ) (i : ℕ) (b : Block) (out before after : List ℕ) → length gone ≡ length blocks → i < length blocks → b ≡ get_or blocks i b
    → before ≡ out ++ stuck_lines (take i blocks) (take i gone) → after ≡ before ++ stuck_line b (get_or gone i 0) → after ≡ out ++ stuck_lines (take (i + 1) blocks) (take (i + 1) gone)
stuck_next blocks gone i b out before after long lt item is added =
    let low : i < length gone = omega (arith, long, lt) in
    let same : length (take i blocks) ≡ length (take i gone) = length-take-le i blocks (omega (arith, lt)) ∙ sym (length-take-le i gone (omega (arith, low))) in
    added ∙ ap (λ (t : List ℕ). t ++ stuck_line b (get_or gone i 0)) is ∙ append_assoc out (stuck_lines (take i blocks) (take i gone)) (stuck_line b (get_or gone i 0))
    ∙ ap (λ (t : List ℕ). out ++ t)
    (sym (one_more (take i blocks) (take i gone) b (get_or gone i 0) same)
    ∙ (λ j. stuck_lines ((sym (take_more blocks i b lt ∙ ap (λ (c : Block). take i blocks ++ c ∷ []) (sym item))) j) ((sym (take_more gone i 0 low)) j)))

pub stuck_all : (blocks : List Block) (gone : List ℕ) (i : ℕ) (out after : List ℕ) → length gone ≡ length blocks → length blocks ≤ i → after ≡ out ++ stuck_lines (take i blocks) (take i gone)
    → after ≡ out ++ stuck_lines blocks gone
stuck_all blocks gone i out after long le is =
    is ∙ (λ j. out ++ stuck_lines (take_all i blocks le j) (take_all i gone (omega (arith, long, le)) j))
