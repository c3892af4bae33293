use Rattle.std.proofs.Common.{refl, sym, ◌∙◌}
use Rattle.l4_history.proofs.NextTransfers.{ahead_on, transfer_ok, transfer_err}
use Rattle.l4_history.proofs.moves.Follower.put_next_moves.Goals as goal

pub returns-then-is_transfer-clause-ok : goal.returns-then-is_transfer-clause-ok
returns-then-is_transfer-clause-ok g c =
    let i = c.loop-place.invariant in
    transfer_ok c.put_transfer.result _ _ _ _ _ _ _ c.in-Some.entry _ _ _ _ _ _ i.0 (sym c.get.ensures ∙ c.in-Some.is) (sym c.is_transfer.ensures ∙ c.if-is_transfer.true) i.2 i.3 c.put_transfer.ensures.ok

pub returns-then-is_transfer-clause-err : goal.returns-then-is_transfer-clause-err
returns-then-is_transfer-clause-err g c = transfer_err c.put_transfer.result _ _ _ _ _ _ c.loop-place.invariant.2 c.loop-place.invariant.3 c.put_transfer.ensures.err

pub loop-place-preserved : goal.loop-place-preserved
loop-place-preserved g c =
    let i = c.loop-place.invariant in
    (ahead_on _ _ _ _ _ _ c.in-Some.entry i.0 (sym c.get.ensures ∙ c.in-Some.is) (c.repeats.ensures c.if-not-repeats.false) (sym c.is_transfer.ensures ∙ c.if-is_transfer.false), refl, i.2, i.3)
