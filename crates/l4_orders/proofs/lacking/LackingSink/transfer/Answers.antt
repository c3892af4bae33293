use Rattle.std.proofs.Common.{ap, ◌∙◌}
use Rattle.l4_answers.specs.Reports.{Transferred}
use Rattle.l4_orders.specs.Inside.Lacking.{then_lack}
use Rattle.l4_orders.proofs.Noting.{noted_more}
use Rattle.l4_orders.proofs.lacking.LackingSink.transfer.Goals as goal

pub returns : goal.returns
returns c = λ first told h.
    noted_more first c.args.self.now _ told (Transferred c.args.sender c.args.receiver c.args.outcome) h (c.note.ensures ∙ ap (then_lack c.args.self.now.lack) (c.lack_of_outcome.ensures c.args.sender c.args.receiver))
