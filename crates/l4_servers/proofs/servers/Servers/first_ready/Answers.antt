use Rattle.l4_servers.proofs.Finding.{looking_first, looking_more, looking_found, looking_none, has_reply}
use Rattle.l4_servers.proofs.Numbers.{one_on, none_on}
use Rattle.l4_servers.proofs.servers.Servers.first_ready.Goals as goal

pub loop-thread-init : goal.loop-thread-init
loop-thread-init c =
    looking_first c.args.kernel.now.threads _ _ _ _ _ c.self.view_is c.as_slice-thread-items.ensures.is c.as_slice-thread-items.ensures.rising

pub returns-then-is_some : goal.returns-then-is_some
returns-then-is_some c =
    looking_found c.args.kernel.now.threads c.args.self.now _ _ _ c.loop-thread.invariant (one_on c.as_slice-thread-items.result.now c.loop-thread.thread-index c.loop-thread-test.true)
    (has_reply _ _ _ c.if-is_some.ensures c.reply.ensures)

pub loop-thread-preserved : goal.loop-thread-preserved
loop-thread-preserved c =
    looking_more c.args.kernel.now.threads c.args.self.now _ _ _ c.loop-thread.invariant (one_on c.as_slice-thread-items.result.now c.loop-thread.thread-index c.loop-thread-test.true)
    (has_reply _ _ _ c.if-is_some.ensures c.reply.ensures)

pub returns : goal.returns
returns c = looking_none c.args.kernel.now.threads c.args.self.now _ c.loop-thread.invariant (none_on c.as_slice-thread-items.result.now c.loop-thread.thread-index c.loop-thread-test.false)
