use Rattle.std.proofs.Common.{◌++◌, ◌∷◌, [], false, ap, ◌∙◌}
use Rattle.std.specs.Prelude.{is_some}
use Rattle.std.specs.Option.{option_to_list}
use Rattle.l4_ipc.specs.NextSteps.{own_answer}
use Rattle.l4_ipc.specs.declared.calls.Call.TheVariants.{Ipc}
use Rattle.l4_record.specs.Following.{start_entry}
use Rattle.l4_record.specs.Lists.{EntryList}
use Rattle.l4_record.proofs.RoundTrip.{ipc_again}
use Rattle.l4_record.proofs.history.History.push_ipc.Goals as goal

pub push-requires-clause-read : goal.push-requires-clause-read
push-requires-clause-read c = ap is_some (ipc_again c.args.number c.args.call.now c.as_slice.result.now c.as_slice.ensures.value c.as_slice.ensures.fits)

pub returns-clause-entries : goal.returns-clause-entries
returns-clause-entries c =
    c.push.ensures.items
    ∙ ap (λ o. c.self.inside.entries.items ++ option_to_list o) (ipc_again c.args.number c.args.call.now c.as_slice.result.now c.as_slice.ensures.value c.as_slice.ensures.fits)
    ∙ ap (λ (l : EntryList). l.entries ++ start_entry c.args.number (Ipc c.args.call.now) (own_answer false 0) ∷ []) c.self.view_is
