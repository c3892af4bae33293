use Rattle.std.proofs.Common.{sym, ◌∙◌}
use Rattle.l4_judging.proofs.Skipping.{ends_read, ends_unread}
use Rattle.l4_judging.proofs.judging.end_early.Goals as goal

pub returns-then-read_rest : goal.returns-then-read_rest
returns-then-read_rest g c = ends_read _ _ _ _ _ _ _ c.if-read_rest.true c.read_rest.ensures c.send_before_line.ensures.told

pub returns : goal.returns
returns g c = ends_unread _ _ _ _ _ _ _ c.if-read_rest.false c.read_rest.ensures c.send_before_line.ensures.told
