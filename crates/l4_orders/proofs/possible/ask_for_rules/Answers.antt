use Rattle.std.proofs.Common.{true, false, ◌∙◌}
use Rattle.l4_orders.specs.Possible.{is_over_threads}
use Rattle.l4_orders.specs.Reading.{lines_in}
use Rattle.l4_orders.proofs.Adding.{on_ok}
use Rattle.l4_orders.proofs.Mapped.{found_in, asked_for, not_asked_for}
use Rattle.l4_orders.proofs.possible.ask_for_rules.Goals as goal

pub returns-then-has_over_threads-clause-ok : goal.returns-then-has_over_threads-clause-ok
returns-then-has_over_threads-clause-ok c =
    on_ok c.ask_all.result
    (λ asked. asked ∙ asked_for c.args.size c.args.plan.now.names (lines_in c.args.plan.now.queries.items) c.args.threads.now
    (found_in (λ line. is_over_threads line) c.args.plan.now.queries.items c.as_slice.result.now c.has_over_threads.result true c.has_over_threads.ensures c.as_slice.ensures.value c.if-has_over_threads.true)) c.ask_all.ensures.ok

pub returns-clause-ok : goal.returns-clause-ok
returns-clause-ok c =
    not_asked_for c.args.size c.args.plan.now.names (lines_in c.args.plan.now.queries.items) c.args.threads.now
    (found_in (λ line. is_over_threads line) c.args.plan.now.queries.items c.as_slice.result.now c.has_over_threads.result false c.has_over_threads.ensures c.as_slice.ensures.value c.if-has_over_threads.false)
