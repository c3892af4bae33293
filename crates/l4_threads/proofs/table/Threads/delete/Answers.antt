use Rattle.l4_threads.proofs.DeleteLemmas.{ended_list_is}
use Rattle.l4_threads.proofs.table.Threads.delete.Goals as goal

pub returns-clause-ended : goal.returns-clause-ended
returns-clause-ended c =
    ended_list_is c.args.self.now c.take_away.new.self c.in-Ok.number c.ended_with-ended.result.items c.take_away.ensures c.ended_with-ended.ensures.rising c.ended_with-ended.ensures.each
