use Rattle.std.proofs.Common.{rules}
use Rattle.l4_commands.specs.Commands.{command_of}
use Rattle.l4_commands.proofs.commands.request.Goals as goal

-- the readers of these commands take no page size, and so read them for every size

pub returns-then-eq : goal.returns-then-eq
unfolding command_of
returns-then-eq c = let e = c.thread.ensures c.args.size in search rules

pub returns-then-eq-2 : goal.returns-then-eq-2
unfolding command_of
returns-then-eq-2 c = let e = c.set_pager.ensures c.args.size in search rules

pub returns-then-eq-3 : goal.returns-then-eq-3
unfolding command_of
returns-then-eq-3 c = let e = c.delete.ensures c.args.size in search rules

pub returns-then-eq-4 : goal.returns-then-eq-4
unfolding command_of
returns-then-eq-4 c = let e = c.delegate.ensures c.args.size in search rules

pub returns-then-eq-5 : goal.returns-then-eq-5
unfolding command_of
returns-then-eq-5 c = let e = c.part.ensures c.args.size in search rules

pub returns-then-eq-7 : goal.returns-then-eq-7
unfolding command_of
returns-then-eq-7 c = let e = c.show.ensures c.args.size in search rules

pub returns-then-eq-8 : goal.returns-then-eq-8
unfolding command_of
returns-then-eq-8 c = let e = c.parent.ensures c.args.size in search rules

pub returns : goal.returns
unfolding command_of
returns c = let e = c.pager_command.ensures c.args.size in search rules
