use Rattle.std.proofs.Common.{[], ◌∷◌, ◌∙◌, ap, refl}
use Rattle.l4_threads.specs.Threads.{space_of}
use Rattle.l4_ipc.specs.Machine.{Machine}
use Rattle.l4_answers.specs.Refusals.{Refusal}
use Rattle.l4_answers.specs.Reports.{RefusedLine}
use Rattle.l4_shell.proofs.Served.{region_added, region_refused}
use Rattle.std.proofs.Common.{rules}
use Rattle.l4_answers.specs.Refusals.{kernel_refusal}
use Rattle.l4_ipc.specs.declared.steps.Refused.TheVariants.{UnknownThread}
use Rattle.l4_shell.proofs.session.Session.add_region.Goals as goal

pub returns-in-Ok : goal.returns-in-Ok
returns-in-Ok g c = region_added g.S.Sink.has_told _ _ _ _ _ _ _ _ _ _ (c.in-Some.ensures ∙ ap (λ (m : Machine). space_of m.threads c.args.thread) c.kernel.ensures) c.in-Ok.ensures refl c.region_added.ensures

pub returns-in-Err : goal.returns-in-Err
returns-in-Err g c = region_refused g.S.Sink.has_told _ _ _ _ _ _ _ _ _ _ _ (c.in-Some.ensures ∙ ap (λ (m : Machine). space_of m.threads c.args.thread) c.kernel.ensures) c.in-Err.ensures (ap (λ (r : Refusal). RefusedLine c.args.line r ∷ []) c.region_code.ensures) c.refused_line.ensures

pub returns-in_default : goal.returns-in_default
returns-in_default g c = (RefusedLine c.args.line (kernel_refusal UnknownThread) ∷ [], search rules, c.unknown_thread.ensures)
