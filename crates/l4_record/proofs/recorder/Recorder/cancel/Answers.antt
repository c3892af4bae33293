use Rattle.std.proofs.Common.{ap, arith}
use Rattle.l4_board.specs.Board.{Publishing}
use Rattle.l4_record.proofs.Ending.{ended_kept, cancels}
use Rattle.l4_record.proofs.recorder.Recorder.cancel.Goals as goal

pub invariant_of-self-2 : goal.invariant_of-self-2
invariant_of-self-2 c = (
  ended_kept c.self.inside.frames _ _ c.self.inside.past.entries c.self.inside.history.entries _ _ c.self.inside.kept_from c.self.inside.publisher.board _ c.self.inside.publisher.shown _ c.args.number c.args.cause
      c.reserve.ensures.entries c.in_default.ensures.ok
      (let no_more = c.if-kept-gt-LAST_START.false in let l = c.len-kept.ensures in omega (arith, no_more, l))
      c.self.invariant.1 c.self.invariant.0
      (let shown = ap (λ (p : Publishing). p.shown) c.publish.ensures in let l = c.len.ensures in omega (arith, shown, l)),
  c.self.invariant.1,
)

pub returns-clause-ok : goal.returns-clause-ok
returns-clause-ok c =
    cancels c.self.inside.frames _ _ c.self.inside.past.entries c.self.inside.history.entries _ _ c.self.inside.kept_from c.self.inside.publisher.board _ c.self.inside.publisher.shown _ c.args.number c.args.cause
    c.reserve.ensures.entries c.in_default.ensures.ok
    (let no_more = c.if-kept-gt-LAST_START.false in let l = c.len-kept.ensures in omega (arith, no_more, l))
    c.self.invariant.1 c.self.invariant.0
    (ap (λ (p : Publishing). p.board) c.publish.ensures) c.args.self.now c.self.view_is
