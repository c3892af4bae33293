use Rattle.std.proofs.Common.{◌++◌, ◌∷◌, [], ap, ◌∙◌}
use Rattle.std.specs.Prelude.{is_some}
use Rattle.std.specs.Option.{option_to_list}
use Rattle.l4_record.specs.Following.{cancel_entry}
use Rattle.l4_record.specs.Lists.{EntryList}
use Rattle.l4_record.proofs.RoundTrip.{cancel_again}
use Rattle.l4_record.proofs.history.History.push_cancel.Goals as goal

pub push-requires-clause-read : goal.push-requires-clause-read
push-requires-clause-read c = ap is_some (cancel_again c.args.number c.cause_word.result c.args.cause c.cause_word.ensures)

pub returns-clause-entries : goal.returns-clause-entries
returns-clause-entries c =
    c.push.ensures.items
    ∙ ap (λ o. c.self.inside.entries.items ++ option_to_list o) (cancel_again c.args.number c.cause_word.result c.args.cause c.cause_word.ensures)
    ∙ ap (λ (l : EntryList). l.entries ++ cancel_entry c.args.number c.args.cause ∷ []) c.self.view_is
