use Rattle.std.proofs.Common.{◌≡◌, true, false, length, sym, ap, ◌∙◌, refl, arith}
use Rattle.l4_answers.specs.Lines.{first_line}
use Rattle.l4_judging.specs.Judging.{has_said}
use Rattle.l4_judging.proofs.WatchedLines.{is_some_text, differs_here, rest_next}
use Rattle.l4_judging.proofs.watching.first_difference.Goals as goal

pub loop-place-init : goal.loop-place-init
loop-place-init c = (omega arith, refl)

pub returns-then-not-has_said : goal.returns-then-not-has_said
returns-then-not-has_said c =
    let other : has_said c.loop-place.due (first_line c.loop-place.rest.now) ≡ false = ap (has_said c.loop-place.due) (sym c.first_line.ensures) ∙ sym c.has_said.ensures ∙ c.if-not-has_said.true in
    c.loop-place.invariant.1
    ∙ differs_here c.loop-place.place c.loop-place.due c.loop-place.rest.now (is_some_text c.loop-place.rest.now (sym c.is_empty.ensures ∙ c.if-is_empty.false)) other

pub loop-place-preserved : goal.loop-place-preserved
loop-place-preserved c =
    let same : has_said c.loop-place.due (first_line c.loop-place.rest.now) ≡ true = ap (has_said c.loop-place.due) (sym c.first_line.ensures) ∙ sym c.has_said.ensures ∙ c.if-not-has_said.false in
    rest_next c.loop-place.place (length c.args.answer.now) c.loop-place.due c.loop-place.rest.now c.go_on.new.self c.later_lines-rest.result.now _
    (is_some_text c.loop-place.rest.now (sym c.is_empty.ensures ∙ c.if-is_empty.false)) same c.go_on.ensures c.later_lines-rest.ensures c.loop-place.invariant
