use Rattle.l4_history.proofs.AnnotatedLines.{line_ran_out}
use Rattle.l4_history.proofs.annotating.Annotated.annotate_line.Goals as goal

pub returns-clause-err : goal.returns-clause-err
returns-clause-err g c =
    line_ran_out c.in-Err.fault c.args.self.now c.answered.new.self _ _ _ _ _ _ _ _ _ _ c.answered.ensures.same c.as_slice.ensures.value c.in-Some.ensures.answered c.in-Err.ensures.err
