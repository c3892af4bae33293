use Rattle.std.proofs.Common.{true, false, sym, ◌∙◌}
use Rattle.l4_orders.specs.Possible.{is_asked}
use Rattle.l4_orders.specs.Reading.{lines_in}
use Rattle.l4_orders.proofs.Adding.{on_ok}
use Rattle.l4_orders.proofs.Mapped.{found_in, already_asked, asked_now}
use Rattle.l4_orders.proofs.possible.ask.Goals as goal

pub returns-then-asks_for-clause-ok : goal.returns-then-asks_for-clause-ok
returns-then-asks_for-clause-ok c =
    already_asked c.args.size c.args.names.now c.args.thread (lines_in c.args.queries.now.items)
    (found_in (λ line. is_asked c.args.size c.args.names.now c.args.thread line) c.args.queries.now.items c.as_slice.result.now c.asks_for.result true c.asks_for.ensures c.as_slice.ensures.value c.if-asks_for.true)

pub returns-then-is_asked-clause-ok : goal.returns-then-is_asked-clause-ok
returns-then-is_asked-clause-ok c =
    on_ok c.add.result
    (λ added. added ∙ asked_now c.args.size c.args.names.now c.args.thread (lines_in c.args.queries.now.items) c.in-Ok.bytes.items
    (found_in (λ line. is_asked c.args.size c.args.names.now c.args.thread line) c.args.queries.now.items c.as_slice.result.now c.asks_for.result false c.asks_for.ensures c.as_slice.ensures.value c.if-asks_for.false)
    c.in-Ok.ensures (sym c.is_asked.ensures ∙ c.if-is_asked.true)) c.add.ensures.ok
