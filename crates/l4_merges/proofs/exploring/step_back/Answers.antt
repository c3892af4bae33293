use Rattle.std.proofs.Common.{arith, vec_len}
use Rattle.l4_merges.proofs.Covering.{popped}
use Rattle.l4_merges.proofs.exploring.step_back.Goals as goal

pub returns : goal.returns
returns c = λ front last e.
    popped c.args.path.now.items c.pop.new.self.items front last (vec_len c.args.path.now) (vec_len c.pop.new.self) c.pop.result (omega (arith, c.args.path.now.ok.0)) c.pop.ensures.cases c.pop.ensures.items e
