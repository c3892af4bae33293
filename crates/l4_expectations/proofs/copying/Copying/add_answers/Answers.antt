use Rattle.std.proofs.Common.{◌+◌, ◌++◌, ◌∷◌, [], length, min, take, codes, ap, subst, ◌∙◌}
use Rattle.l4_answers.proofs.AnswerTexts.{behind, some_left}
use Rattle.l4_expectations.specs.Inside.Copying.{Added}
use Rattle.l4_expectations.proofs.CopiedLines.{adding_none, adding_more, is_added}
use Rattle.l4_expectations.proofs.copying.Copying.add_answers.Goals as goal

pub loop-rest-init : goal.loop-rest-init
loop-rest-init c = adding_none _ _ c.requires

pub loop-rest-preserved : goal.loop-rest-preserved
loop-rest-preserved c =
    let n = c.line_len-len.ensures.value in
    adding_more _ _ _ _ c.loop-rest.rest.now _ c.loop-rest.invariant (some_left (length c.loop-rest.rest.now) _ c.is_empty.ensures c.loop-rest-test.true)
    (behind c.loop-rest.rest.now _ c.min.result (c.min.ensures ∙ ap (λ k. min (k + 1) (length c.loop-rest.rest.now)) n))
    (subst (λ k. Added c.loop-rest.self (codes "#= " ++ (take k c.loop-rest.rest.now ++ 10 ∷ [])) 1 c.add.new.self) n (is_added _ _ _ _ _ c.add.ensures c.if-not-add.false))
