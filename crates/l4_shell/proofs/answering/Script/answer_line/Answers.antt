use Rattle.std.proofs.Common.{[], sym, ap}
use Rattle.l4_text.specs.declared.lines.Ending.{Ending}
use Rattle.l4_commands.specs.declared.commands.ScriptFault.TheVariants.{LineTooLong, CutLine}
use Rattle.l4_commands.specs.Requests.{asked_at}
use Rattle.l4_shell.specs.Sessions.{state}
use Rattle.l4_shell.proofs.StraightLines.{refuses_line}
use Rattle.l4_shell.proofs.answering.Script.answer_line.Goals as goal

pub returns-in-Long : goal.returns-in-Long
returns-in-Long g c =
    refuses_line g.S.Sink.has_told (state c.args.self.now.session.kernel c.args.self.now.session.servers c.args.self.now.names) _ [] LineTooLong _ _ _ _ _ (sym (ap (λ (e : Ending). asked_at c.args.self.now.session.kernel.machine.size c.args.self.now.names e c.args.bytes.now) c.in-Long.is)) c.script_code.ensures c.page_size.ensures c.unread_line.ensures

pub returns-in-Cut : goal.returns-in-Cut
returns-in-Cut g c =
    refuses_line g.S.Sink.has_told (state c.args.self.now.session.kernel c.args.self.now.session.servers c.args.self.now.names) _ [] CutLine _ _ _ _ _ (sym (ap (λ (e : Ending). asked_at c.args.self.now.session.kernel.machine.size c.args.self.now.names e c.args.bytes.now) c.in-Cut.is)) c.script_code-in-Cut.ensures c.page_size-in-Cut.ensures c.unread_line-in-Cut.ensures
