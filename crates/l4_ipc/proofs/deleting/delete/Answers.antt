use Rattle.std.proofs.Common.{refl}
use Rattle.l4_ipc.proofs.Deletes.{few_ended, deleted}
use Rattle.l4_ipc.proofs.deleting.delete.Goals as goal

pub caller_first-answer-requires : goal.caller_first-answer-requires
caller_first-answer-requires c = few_ended c.args.threads.now c.delete.new.self c.args.number c.in-Ok.deleted.ended.items c.law_consistent.ensures c.requires c.in-Ok.ensures.ended

pub returns : goal.returns
returns c = λ size. deleted size c.args.threads.now c.delete.new.self c.end_wordless.new.self c.args.forest.now c.end_space.new.forest c.args.number c.args.id c.in-Ok.deleted.number c.in-Ok.deleted.ended.items c.in-Ok.deleted.space _
    c.requires c.in-Ok.ensures.test c.in-Ok.ensures.ok c.in-Ok.ensures.ended c.in-Ok.ensures.space c.end_space.ensures c.end_wordless.ensures refl c.caller_first-answer.ensures
