use Rattle.std.proofs.Common.{List, ℕ, sym, subst, ◌∙◌}
use Rattle.l4_checkpoints.specs.Checkpoints.{IsWritten}
use Rattle.l4_checkpoints.proofs.reading.compared.Goals as goal

pub returns-clause-ok : goal.returns-clause-ok
returns-clause-ok c = record {
  written = subst (λ (l : List ℕ). IsWritten c.args.heading.frames c.args.heading.entries c.args.kernel l) (sym (c.are_same.ensures.0 c.if-not-are_same.false ∙ c.as_slice.ensures.value)) c.in-Ok.ensures;
  some = c.requires.some;
  few = c.requires.few;
  numbers = c.requires.numbers;
}
