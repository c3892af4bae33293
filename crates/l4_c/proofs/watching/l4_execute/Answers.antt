use Rattle.std.proofs.Common.{Option, sym, subst}
use Rattle.l4_ipc.specs.Machine.{Machine}
use Rattle.l4_c.specs.Watched.{ExecutesFor, ExecutesLine}
use Rattle.l4_c.proofs.watching.l4_execute.Goals as goal

pub returns : goal.returns
returns c =
    let line = c.args.line.now in let room = c.args.out.now in let told = c.execute-told.result in let text = c.execute-told.new.out in
    subst (λ (old : Option Machine). ExecutesLine old line room told text c.put.new.self.value) (sym c.in-Some.ensures.taken)
    (c.execute-told.new.kernel, subst (λ (m : Machine). ExecutesFor m line room told text c.execute-told.new.kernel) c.deref_mut.ensures.value c.execute-told.ensures, c.put.ensures)
