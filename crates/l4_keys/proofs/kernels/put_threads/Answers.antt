use Rattle.l4_keys.specs.Keys.{has_thread, AreOfThread}
use Rattle.l4_keys.proofs.Listing.{begun}
use Rattle.l4_keys.proofs.Writing.{on_ok, thread_more, threads_end}
use Rattle.l4_keys.proofs.kernels.put_threads.Goals as goal

pub loop-number-init : goal.loop-number-init
loop-number-init c = begun (has_thread c.args.kernel.now.threads) (AreOfThread c.args.kernel.now.threads) c.args.out.now.items

pub loop-number-preserved : goal.loop-number-preserved
loop-number-preserved c =
    thread_more c.args.kernel.now.threads c.args.out.now.items c.loop-number.from c.in-Some.number _ c.in-Some-thread.thread.now c.loop-number.out.items c.put.new.out.items _
    c.loop-number.invariant c.in-Some.ensures c.in-Some-thread.ensures c.in_ok-put.ensures c.in_ok-put_thread.ensures c.in-Some-checked_add.ensures.1

pub returns : goal.returns
returns c =
    on_ok c.put-2.result (threads_end c.args.kernel.now.threads c.args.out.now.items c.loop-number.out.items c.put-2.new.out.items c.loop-number.from c.loop-number.invariant c.in_default.ensures) c.put-2.ensures
