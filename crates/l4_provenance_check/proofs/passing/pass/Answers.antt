use Rattle.std.proofs.Common.{sym, ◌∙◌}
use Rattle.std.proofs.lemmas.Bool.{false≢true}
use Rattle.l4_provenance_check.proofs.Alone.{none_alone, none_elsewhere, brings_passes}
use Rattle.l4_provenance_check.proofs.passing.pass.Goals as goal

pub returns-in-Ok-false-clause-ok : goal.returns-in-Ok-false-clause-ok
returns-in-Ok-false-clause-ok c =
    let ok = c.in-Ok-false.ensures.ok in (
      ok.0,
      none_alone c.args.number c.args.kernel.now c.leaves_alone.new.kernel c.args.entry.now c.args.place c.args.left.now ok.0 c.in_default.ensures (λ a. false≢true (sym c.in-Ok-false.field-0-test ∙ ok.1.1 a)),
    )

pub returns-then-not-is_at-clause-ok : goal.returns-then-not-is_at-clause-ok
returns-then-not-is_at-clause-ok c = (
  c.in-Ok-true-brings.ensures.ok.0,
  none_elsewhere c.args.number c.args.kernel.now c.args.entry.now c.args.place c.args.left.now c.in-Some.link.now c.in-Some.rest.now c.in-Some.ensures.0 c.in-Some.ensures.1
      (λ e. false≢true (c.if-not-is_at.ensures.1 e)),
)

pub returns-clause-ok : goal.returns-clause-ok
returns-clause-ok c =
    let ok = c.in-Ok-true-brings.ensures.ok in (
      ok.0,
      brings_passes c.args.number c.args.kernel.now c.brings.new.kernel c.args.entry.now c.args.place c.args.left.now ok.0 c.in-Some.link.now c.in-Some.rest.now c.in-Some.ensures.0 c.in-Some.ensures.1
          (ok.1.0 c.in-Ok-true-brings.field-0-test) (c.is_at.ensures.0 c.if-not-is_at.false),
    )
