use Rattle.l4_c_queries.proofs.Refused.{refused_unseated, refused_seated}
use Rattle.l4_c_queries.proofs.entries.refused_call.Goals as goal

pub returns : goal.returns
returns c = refused_seated _ _ _ _ _ _ _ c.in-Some.ensures.0 c.lock_number.ensures c.lock_detail.ensures c.unseated-2.ensures
