use Rattle.std.proofs.Common.{Bool, ◌||◌, is_some, refl, sym, ap, ◌∙◌}
use Rattle.l4_sinks.proofs.Reporting.{told_out, told_lost}
use Rattle.l4_sinks.proofs.teller.TellerSink.finish.Goals as goal

pub returns-in-Ok-clause-ok : goal.returns-in-Ok-clause-ok
returns-in-Ok-clause-ok g c = λ first told h.
    told_out g.W.Write.contents first _ _ told h refl refl refl c.in-Ok.ensures.open.1 c.in-Ok.ensures.ok

pub returns-in-Ok-clause-same : goal.returns-in-Ok-clause-same
returns-in-Ok-clause-same g c =
    ap (λ (b : Bool). b || is_some c.args.self.now.refused) (c.in-Ok.ensures.open.1 ∙ sym c.in-Ok.ensures.open.0)

pub returns-in-Err-clause-err : goal.returns-in-Err-clause-err
returns-in-Err-clause-err g c = (
  c.in-Err.ensures.err.0,
  λ first told h. told_lost g.W.Write.contents first _ _ told h refl refl refl c.in-Err.ensures.failed c.in-Err.ensures.err.1,
)
