use Rattle.std.proofs.Common.{sym, codes, ◌∙◌}
use Rattle.l4_text.specs.Tokens.{tokens_of}
use Rattle.l4_commands.specs.Commands.{asked}
use Rattle.l4_commands.proofs.InTurn.{recv_is, send_is, ipc_is, fault_is, in_size}
use Rattle.l4_shell.proofs.StraightLines.{answers_as}
use Rattle.l4_shell.proofs.answering.Script.answer_command.Goals as goal

pub returns-then-is_recv : goal.returns-then-is_recv
returns-then-is_recv g c =
    answers_as g.S.Sink.has_told _ _ _ c.args.bytes.now _ _ _ _ (recv_is c.page_size.result c.args.self.now.names c.args.name.now (tokens_of c.args.rest.now) (sym c.if-is_recv.ensures) ∙ in_size _ _ _ _ c.page_size.ensures)
    (c.answer_call.ensures (asked c.page_size.result c.args.self.now.names (codes "recv") (tokens_of c.args.rest.now)) c.read_receive-number.ensures)

pub returns-then-is_send : goal.returns-then-is_send
returns-then-is_send g c =
    answers_as g.S.Sink.has_told _ _ _ c.args.bytes.now _ _ _ _ (send_is c.page_size-then-is_send.result c.args.self.now.names c.args.name.now (tokens_of c.args.rest.now) (sym c.if-is_send.ensures) ∙ in_size _ _ _ _ c.page_size-then-is_send.ensures)
    (c.answer_call-then-is_send.ensures (asked c.page_size-then-is_send.result c.args.self.now.names (codes "send") (tokens_of c.args.rest.now)) c.read_send-number.ensures)

pub returns-then-is_ipc : goal.returns-then-is_ipc
returns-then-is_ipc g c =
    answers_as g.S.Sink.has_told _ _ _ c.args.bytes.now _ _ _ _ (ipc_is c.page_size-then-is_ipc.result c.args.self.now.names c.args.name.now (tokens_of c.args.rest.now) (sym c.if-is_ipc.ensures) ∙ in_size _ _ _ _ c.page_size-then-is_ipc.ensures)
    (c.answer_call-then-is_ipc.ensures (asked c.page_size-then-is_ipc.result c.args.self.now.names (codes "ipc") (tokens_of c.args.rest.now)) c.read_ipc-number.ensures)

pub returns-then-is_fault : goal.returns-then-is_fault
returns-then-is_fault g c =
    answers_as g.S.Sink.has_told _ _ _ c.args.bytes.now _ _ _ _ (fault_is c.args.self.now.session.kernel.machine.size c.args.self.now.names c.args.name.now (tokens_of c.args.rest.now) (sym c.if-is_fault.ensures))
    (c.answer_call-then-is_fault.ensures (asked c.args.self.now.session.kernel.machine.size c.args.self.now.names (codes "fault") (tokens_of c.args.rest.now)) (c.read_fault-number.ensures c.args.self.now.session.kernel.machine.size))
