use Rattle.l4_judging.proofs.LastCalls.{kept}
use Rattle.l4_judging.proofs.calls.LastCalls.keep.Goals as goal

pub returns : goal.returns
returns c = λ _.
    kept c.args.self.now c.self.inside.calls.entries c.insert.new.self.entries c.args.keeps c.args.thread c.in-Some.thread c.args.number c.args.line.now c.in-Some-call_line.made
    c.self.view_is c.in-Some.is c.if-not-keeps.false c.in-Some-call_line.ensures c.in-Ok.ensures.updates.0
