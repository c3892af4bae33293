use Rattle.l4_shell.specs.Sessions.{session}
use Rattle.l4_shell.proofs.Listing.{carries_parent, carries_reply, carries_count, carries_name}
use Rattle.l4_shell.proofs.session.Session.carry_out.Goals as goal

pub returns-in-TellParent-clause-told : goal.returns-in-TellParent-clause-told
returns-in-TellParent-clause-told g c =
    carries_parent g.S.Sink.has_told c.args.names.now (session c.args.self.now.kernel c.args.self.now.servers) c.kernel-in-TellParent.result.now _ _ _ _ _ _ c.in-TellParent.is c.kernel-in-TellParent.ensures c.tell_parent.ensures

pub returns-in-TellReply-clause-told : goal.returns-in-TellReply-clause-told
returns-in-TellReply-clause-told g c =
    carries_reply g.S.Sink.has_told c.args.names.now (session c.args.self.now.kernel c.args.self.now.servers) c.kernel-in-TellReply.result.now _ _ _ _ _ c.in-TellReply.is c.kernel-in-TellReply.ensures c.tell_reply.ensures

pub returns-in-TellSteps-clause-told : goal.returns-in-TellSteps-clause-told
returns-in-TellSteps-clause-told g c = carries_count g.S.Sink.has_told c.args.names.now _ _ _ _ _ _ c.in-TellSteps.is (c.tell_count.ensures c.args.self.now.servers)

pub returns-in-GiveName-clause-told : goal.returns-in-GiveName-clause-told
returns-in-GiveName-clause-told g c =
    carries_name g.S.Sink.has_told c.args.names.now (session c.args.self.now.kernel c.args.self.now.servers) _ c.in-GiveName.number c.in-GiveName.name _ _ _ c.in-GiveName.is c.give_name.ensures.told
