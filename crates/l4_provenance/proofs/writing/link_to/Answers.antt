use Rattle.l4_provenance.proofs.Given.{of_letter}
use Rattle.l4_provenance.proofs.writing.link_to.Goals as goal

pub returns-in_default : goal.returns-in_default
returns-in_default c = λ w. c.in_default.ensures w.1.0 w.1.1 w.1.2 w.1.3 w.1.4

pub returns : goal.returns
returns c = of_letter c.args.kernel.now c.args.step.now _ _ _ _ c.args.number c.args.place c.in-Some.ensures c.first_link.result c.first_link.ensures
