use Rattle.std.proofs.Common.{◌++◌, ◌∷◌, [], ap, ◌∙◌}
use Rattle.std.specs.Prelude.{is_some}
use Rattle.std.specs.Option.{option_to_list}
use Rattle.l4_record.specs.Following.{start_entry}
use Rattle.l4_record.specs.Inside.Words.{entry_at}
use Rattle.l4_record.specs.Lists.{EntryList}
use Rattle.l4_record.proofs.history.History.push_answered.Goals as goal

pub push-requires-clause-read : goal.push-requires-clause-read
push-requires-clause-read c = ap is_some (ap entry_at c.as_slice.ensures.words ∙ c.write_start.ensures)

pub returns-clause-entries : goal.returns-clause-entries
returns-clause-entries c =
    c.push.ensures.items
    ∙ ap (λ o. c.self.inside.entries.items ++ option_to_list o) (ap entry_at c.as_slice.ensures.words ∙ c.write_start.ensures)
    ∙ ap (λ (l : EntryList). l.entries ++ start_entry c.args.number c.args.call.now c.args.answer.now ∷ []) c.self.view_is
