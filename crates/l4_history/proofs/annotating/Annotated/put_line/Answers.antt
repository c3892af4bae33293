use Rattle.std.proofs.Common.{sym, ◌∙◌}
use Rattle.l4_history.proofs.AnnotatedLines.{explaining_line, moving_line, moving_err, other_line}
use Rattle.l4_history.proofs.annotating.Annotated.put_line.Goals as goal

pub returns-then-is_comment-clause-ok : goal.returns-then-is_comment-clause-ok
returns-then-is_comment-clause-ok g c = explaining_line _ _ _ _ _ _ _ _ _ (sym c.is_comment.ensures ∙ c.if-is_comment.true) c.put_bytes.ensures

pub returns-then-tells_transfer-clause-ok : goal.returns-then-tells_transfer-clause-ok
returns-then-tells_transfer-clause-ok g c =
    moving_line c.put_next_moves.result _ _ _ _ _ _ _ _ _ _ _ _ _ _ (sym c.is_comment.ensures ∙ c.if-is_comment.false) (sym c.tells_transfer.ensures ∙ c.if-tells_transfer.true)
    c.put_number.ensures c.put_bytes-2.ensures c.put_next_moves.ensures.ok

pub returns-then-tells_transfer-clause-err : goal.returns-then-tells_transfer-clause-err
returns-then-tells_transfer-clause-err g c =
    moving_err c.put_next_moves.result _ _ _ _ _ _ _ _ _ _ _ _ (sym c.is_comment.ensures ∙ c.if-is_comment.false) (sym c.tells_transfer.ensures ∙ c.if-tells_transfer.true)
    c.put_number.ensures c.put_bytes-2.ensures c.put_next_moves.ensures.err

pub returns-clause-ok : goal.returns-clause-ok
returns-clause-ok g c =
    other_line _ _ _ _ _ _ _ _ _ _ _ (sym c.is_comment.ensures ∙ c.if-is_comment.false) (sym c.tells_transfer.ensures ∙ c.if-tells_transfer.false)
    c.put_number.ensures c.put_bytes-2.ensures
