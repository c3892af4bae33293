use Rattle.std.proofs.Common.{◌≤◌, ◌-◌, ℕ, List, ap, ◌∙◌, arith}
use Rattle.std.specs.Prelude.{codes, slice_get}
use Rattle.l4_record.specs.Segments.{kept}
use Rattle.l4_record.specs.declared.entries.Entry.{Entry}
use Rattle.l4_refusals.specs.Texts.{spelled}
use Rattle.l4_c_values.specs.Recorded.{no_entry_result, entry_result}
use Rattle.l4_c_queries.proofs.Kept.{kept_there, if_kept, if_not_kept}
use Rattle.l4_c_queries.proofs.entries.entry_of.Goals as goal

pub returns-then-number-first : goal.returns-then-number-first
returns-then-number-first c =
    let l = c.args.lock.now in
    c.no_entry.ensures
    ∙ if_not_kept l.kept_from c.args.number (entry_result (slice_get l.history c.args.number)) (no_entry_result (spelled (codes "L8"))) (omega (arith, c.if-number-first.true, c.kept_from-first.ensures))

pub returns : goal.returns
returns c =
    let l = c.args.lock.now in
    let le : l.kept_from ≤ c.args.number = omega (arith, c.if-number-first.false, c.kept_from-first.ensures) in
    let there =
    c.get.ensures ∙ ap (λ (es : List Entry). slice_get es (c.args.number - c.kept_from-first.result)) c.history.ensures
    ∙ ap (λ (k : ℕ). slice_get (kept l.kept_from l.history) (c.args.number - k)) c.kept_from-first.ensures ∙ kept_there l.history l.kept_from c.args.number le in
    c.told.ensures ∙ ap entry_result there
    ∙ if_kept l.kept_from c.args.number (entry_result (slice_get l.history c.args.number)) (no_entry_result (spelled (codes "L8"))) le
