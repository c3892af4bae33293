use Rattle.std.proofs.Common.{◌≡◌, ◌≤◌, ◌<◌, ◌-◌, length, take, drop, ap, ◌∙◌, sym, rules}
use Rattle.std.specs.Prelude.{slice_get}
use Rattle.l4_journal.specs.Inside.Stored.{RecordList}
use Rattle.l4_journal.proofs.Storing.{no_record, record_at}
use Rattle.l4_journal.proofs.store.Store.get.Goals as goal

pub returns-then-place-ends : goal.returns-then-place-ends
returns-then-place-ends c =
    let past : length c.self.inside.ends.items ≤ c.args.place = search rules in
    sym (no_record 0 c.self.inside.ends.items c.self.inside.words.items c.args.place past) ∙ ap (λ (l : RecordList). slice_get l.records c.args.place) c.self.view_is

pub returns : goal.returns
returns c =
    let ends = c.self.inside.ends.items in
    let words = c.self.inside.words.items in
    let bounds = c.bounds-start.result in
    let within : c.args.place < length ends = search rules in
    let here : c.of.result ≡ take (bounds.1 - bounds.0) (drop bounds.0 words) = search rules in
    record_at ends words c.args.place bounds.0 bounds.1 c.of.result within (search rules) (search rules) here
    ∙ ap (λ (l : RecordList). slice_get l.records c.args.place) c.self.view_is
