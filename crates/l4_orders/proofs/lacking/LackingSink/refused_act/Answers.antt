use Rattle.std.proofs.Common.{ap, ◌∙◌}
use Rattle.l4_answers.specs.Reports.{RefusedAct}
use Rattle.l4_orders.specs.Inside.Lacking.{lack_of_code, then_lack}
use Rattle.l4_orders.proofs.Noting.{noted_more}
use Rattle.l4_orders.proofs.lacking.LackingSink.refused_act.Goals as goal

pub returns : goal.returns
returns c = λ first told h.
    noted_more first c.args.self.now _ told (RefusedAct c.args.thread c.args.code.now) h (c.note.ensures ∙ ap (then_lack c.args.self.now.lack) (c.lack_of_code.ensures ∙ ap lack_of_code c.name.ensures))
