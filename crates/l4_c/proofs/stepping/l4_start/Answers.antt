use Rattle.std.proofs.Common.{Option, Some, sym, subst}
use Rattle.l4_ipc.specs.Machine.{Machine}
use Rattle.l4_c.specs.Exports.{Starts}
use Rattle.l4_c.proofs.stepping.l4_start.Goals as goal

pub returns : goal.returns
returns c =
    let thread = c.args.thread in let call = c.args.call.now in let words = c.args.words.now in let told = c.start-started.result in let after = c.put.new.self.value in
    let begun = subst (λ (m : Machine). Starts (Some m) thread call words told (Some c.start-started.new.kernel)) c.deref_mut.ensures.value c.start-started.ensures in
    subst (λ (old : Option Machine). Starts old thread call words told after) (sym c.in-Some.ensures.taken)
    (subst (λ (new : Option Machine). Starts (Some c.in-Some.kernel.value) thread call words told new) (sym c.put.ensures) begun)
