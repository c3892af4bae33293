use Rattle.std.proofs.Common.{inl, inr, codes}
use Rattle.l4_outcomes.proofs.Lacking.{lacks_memory}
use Rattle.l4_outcomes.specs.Faults.{refused_by}
use Rattle.l4_page.proofs.printing.printed.Goals as goal

pub returns-in-Ok : goal.returns-in-Ok
returns-in-Ok c = elim c.print.ensures [
  | inl told ↦ inl (c.in-Ok.search, c.in-Ok.ensures, told)
  | inr told ↦ inr (refused_by (codes "NoMemory"), lacks_memory c.args.given.now.frames c.args.size c.args.given.now.most c.args.script.now c.in-Ok.search c.in-Ok.ensures, told)
]
