use Rattle.std.proofs.Common.{Option, sym, subst}
use Rattle.l4_ipc.specs.Machine.{Machine}
use Rattle.l4_c.specs.Watched.{JudgesFor, Judges}
use Rattle.l4_c.proofs.watching.l4_judge.Goals as goal

pub returns : goal.returns
returns c =
    let line = c.args.line.now in let found = c.args.found.now in let room = c.args.out.now in let told = c.judge-told.result in let text = c.judge-told.new.out in
    subst (λ (old : Option Machine). Judges old line found room told text c.put.new.self.value) (sym c.in-Some.ensures.taken)
    (c.judge-told.new.kernel, subst (λ (m : Machine). JudgesFor m line found room told text c.judge-told.new.kernel) c.deref_mut.ensures.value c.judge-told.ensures, c.put.ensures)
