use Rattle.std.proofs.Common.{length, refl}
use Rattle.l4_answers.proofs.AnswerTexts.{front_piece, behind, some_left}
use Rattle.l4_history.proofs.AnnotatedLines.{text_first, text_more, text_all, text_err, put_same, none_left, same_modes, same_below}
use Rattle.l4_history.proofs.annotating.Annotated.put_text.Goals as goal

pub loop-rest-init : goal.loop-rest-init
loop-rest-init g c = (text_first _ _ _ _ _ _ _, refl)

pub loop-rest-preserved : goal.loop-rest-preserved
loop-rest-preserved g c =
    let rest = c.loop-rest.rest.now in (
      text_more _ _ _ _ rest _ _ _ _ _ _ _ _ _ _ _ c.loop-rest.invariant.0 (some_left (length rest) _ c.is_empty.ensures c.loop-rest-test.true)
          (front_piece rest _ c.first_len-len.result c.first_len-len.ensures) (behind rest _ c.first_len-len.result c.first_len-len.ensures)
          (same_modes c.args.self.now _ _ _ _ _ _ _ _ _ c.loop-rest.invariant.1 c.in-Ok.ensures.ok),
      put_same c.args.self.now _ _ c.loop-rest.invariant.1 c.in-Ok.ensures.same,
    )

pub returns-in-Err-clause-err : goal.returns-in-Err-clause-err
returns-in-Err-clause-err g c =
    let rest = c.loop-rest.rest.now in
    text_err c.in-Err.fault _ _ _ _ rest _ _ _ _ _ _ _ _ _ c.loop-rest.invariant.0 (some_left (length rest) _ c.is_empty.ensures c.loop-rest-test.true)
    (front_piece rest _ c.first_len-len.result c.first_len-len.ensures) (same_below c.args.self.now _ _ _ _ _ _ _ _ c.loop-rest.invariant.1 c.in-Err.ensures.err)

pub returns-clause-ok : goal.returns-clause-ok
returns-clause-ok g c = text_all _ _ _ _ _ _ _ _ _ _ _ c.loop-rest.invariant.0 (none_left (length c.loop-rest.rest.now) _ c.is_empty.ensures c.loop-rest-test.false)
