use Rattle.std.proofs.Common.{◌-◌, ◌*◌, ◌∙◌, ap, arith}
use Rattle.l4_plan_lines.proofs.TagLemmas.{right_tag, tag_is, right_so_far}
use Rattle.l4_plan_lines.proofs.answers.first_wrong_tag.Goals as goal

pub returns-then-deref-k-clause-first : goal.returns-then-deref-k-clause-first
returns-then-deref-k-clause-first c =
    let s = c.args.claim.now in
    record {
      inside = omega (arith, c.len-count.ensures.value, c.loop-k-test.true);
      other = λ e. c.if-deref-k.true (tag_is s.tags.items _ s.items.items c.loop-k.k c.saturating_sub.result c.min-items.result c.deref.ensures.0
          (c.saturating_sub.ensures ∙ ap (λ n. n - 31 * c.loop-k.k) c.len.ensures.value) c.min-items.ensures e);
      before = c.loop-k.invariant;
    }

pub loop-k-preserved : goal.loop-k-preserved
loop-k-preserved c =
    let s = c.args.claim.now in
    right_so_far s.tags.items s.items.items c.loop-k.k c.loop-k.invariant
    (right_tag s.tags.items _ s.items.items c.loop-k.k c.saturating_sub.result c.min-items.result c.deref.ensures.0
    (c.saturating_sub.ensures ∙ ap (λ n. n - 31 * c.loop-k.k) c.len.ensures.value) c.min-items.ensures c.if-deref-k.false)
