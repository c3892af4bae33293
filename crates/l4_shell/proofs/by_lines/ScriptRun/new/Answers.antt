use Rattle.std.proofs.Common.{sym, subst, ◌∙◌}
use Rattle.l4_record.specs.Seated.{Seated}
use Rattle.l4_shell.specs.Inside.Scripts.{HasFirstSeats}
use Rattle.l4_shell.proofs.Scripting.{first_is}
use Rattle.l4_shell.proofs.by_lines.ScriptRun.new.Goals as goal

pub invariant_of-result : goal.invariant_of-result
invariant_of-result c =
    let has = subst (λ (k : Seated). HasFirstSeats c.args.frames c.args.size k) (sym c.new-2.ensures.0) c.in-Some.ensures in
    record { whole = has.5 }

pub returns : goal.returns
returns c =
    let has = subst (λ (k : Seated). HasFirstSeats c.args.frames c.args.size k) (sym c.new-2.ensures.0) c.in-Some.ensures in
    (_, has.0, has.4, first_is _ _ _ _ _ has (c.new-2.ensures.1 ∙ c.new.ensures) c.new-2.ensures.2)
