use Rattle.l4_determined.proofs.OneAct.{one_act}
use Rattle.l4_determined.proofs.laws.the_next_act_is_one.Goals as goal

pub returns : goal.returns
returns c = λ t old a b d e u v x y. let one = one_act t old a b d e u v x y in (one.thread, one.call, one.servers)
