use Rattle.std.proofs.Common.{is_some, sym, ap, ◌∙◌}
use Rattle.l4_provenance_check.proofs.Alone.{alone_of, alone_not}
use Rattle.l4_provenance_check.proofs.passing.leaves_alone.Goals as goal

pub returns-clause-ok : goal.returns-clause-ok
returns-clause-ok c =
    let does = c.in_default.ensures.ok in
    let done = c.is_done-done.ensures.0 c.if-not-done.false in
    let before = sym (c.is_some-before.ensures ∙ ap is_some c.mapping.ensures) ∙ c.if-not-before.false in
    let after = sym (c.is_some-after.ensures ∙ ap is_some c.mapping-2.ensures) ∙ c.if-not-after.false in
    let m = c.args.kernel.now in
    let n = c.redo.new.kernel in (
      does,
      (
        λ h. alone_of m n c.args.entry.now c.args.place before after c.is_written-written.result c.is_written-written.ensures h,
        λ h. alone_not m n c.args.entry.now c.args.place does done c.is_written-written.result c.is_written-written.ensures h,
      ),
    )
