use Rattle.l4_shell.proofs.Listing.{lists_pages, shows_pages, end_of}
use Rattle.l4_answers.specs.Reports.{RefusedLine}
use Rattle.std.proofs.Common.{[], ◌∷◌, rules}
use Rattle.l4_answers.specs.Refusals.{kernel_refusal}
use Rattle.l4_ipc.specs.declared.steps.Refused.TheVariants.{UnknownThread}
use Rattle.l4_shell.proofs.session.show.Goals as goal

pub returns : goal.returns
returns g c =
    shows_pages g.S.Sink.has_told _ _ _ _ _ _ _ _ c.in-Some.ensures (lists_pages g.S.Sink.has_told _ _ _ _ _ _ _ _ _ (end_of c.args.kernel.now _ _ _ _ _ _ c.space_pages-most.ensures.small c.page_size.ensures c.space_pages-most.ensures.value c.saturating_add.ensures c.min-end.ensures) c.list_pages-shown.ensures c.shown.ensures)

pub returns-in_default : goal.returns-in_default
returns-in_default g c = (RefusedLine c.args.line (kernel_refusal UnknownThread) ∷ [], search rules, c.unknown_thread.ensures)
