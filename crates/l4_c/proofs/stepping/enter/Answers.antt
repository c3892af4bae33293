use Rattle.l4_c.proofs.Starting.{goes_on, goes_nowhere}
use Rattle.l4_c.proofs.stepping.enter.Goals as goal

pub returns-then-entered-eq0 : goal.returns-then-entered-eq0
returns-then-entered-eq0 c =
    goes_on c.args.kernel.now c.start.new.kernel c.follow.new.kernel c.args.thread c.args.given.now c.args.words.now c.args.steps.now
    c.follow.new.steps c.start.result c.follow.result c.start.ensures c.if-entered-eq0.true c.follow.ensures

pub returns-else-entered-eq0 : goal.returns-else-entered-eq0
returns-else-entered-eq0 c =
    goes_nowhere c.args.kernel.now c.start.new.kernel c.args.thread c.args.given.now c.args.words.now c.args.steps.now c.start.result c.start.ensures
    c.if-entered-eq0.false
