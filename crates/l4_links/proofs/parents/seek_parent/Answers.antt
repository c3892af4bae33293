use Rattle.std.proofs.Common.{◌≡◌, ◌+◌, ◌⊎◌, ℕ, subst, inl, inr, arith}
use Rattle.std.proofs.lemmas.Bool.{cases_lt}
use Rattle.l4_spaces.specs.Tables.{table_pages}
use Rattle.l4_links.specs.Inside.Parents.{NoParents, IsFirstParent}
use Rattle.l4_links.proofs.ParentWalk.{NoneYet, table_done, table_has}
use Rattle.l4_links.proofs.parents.seek_parent.Goals as goal

pub returns-in-Some-parent_in : goal.returns-in-Some-parent_in
returns-in-Some-parent_in c =
    let w = c.in-Some.ensures.whole in
    let l = c.len.ensures in
    let m = c.min-last.ensures in
    let before = c.in-Some.ensures.before in
    table_has c.args.nodes.now.slots c.args.pages.now c.args.space c.args.page c.loop-start.next c.args.end c.loop-start.invariant.0 c.loop-start.invariant.1 c.in-Some.start c.in-Some.row.now c.in-Some.ensures c.min-last.result
    c.in-Some-parent_in.low c.in-Some-parent_in.key (omega (arith, w, l, m)) (omega (arith, m, before))
    (subst (λ (from : ℕ). IsFirstParent c.args.nodes.now.slots c.in-Some.row.now from c.min-last.result c.in-Some-parent_in.low c.in-Some-parent_in.key) c.saturating_sub-from.ensures c.in-Some-parent_in.ensures)

pub loop-start-preserved : goal.loop-start-preserved
loop-start-preserved c =
    let w = c.in-Some.ensures.whole in
    let l = c.len.ensures in
    let m = c.min-last.ensures in
    let before = c.in-Some.ensures.before in
    let next : c.in-Some.start + table_pages ≡ c.in-Some.start + c.len-in-loop-start.result = (let n = c.len-in-loop-start.ensures in omega (arith, w, n)) in
    let lasts : (c.min-last.result ≡ table_pages) ⊎ (c.in-Some.start + c.min-last.result ≡ c.args.end) = elim (cases_lt c.args.end (c.in-Some.start + table_pages)) [
      | inl less ↦ inr (omega (arith, less, w, l, m, before))
      | inr more ↦ inl (omega (arith, more, w, l, m, before))
    ] in (
      (let from = c.in-Some.ensures.from in let start = c.loop-start.invariant.0 in omega (arith, next, from, start)),
      subst (λ (n : ℕ). NoneYet c.args.nodes.now.slots c.args.pages.now c.args.space c.args.page c.args.end n) next
          (table_done c.args.nodes.now.slots c.args.pages.now c.args.space c.args.page c.loop-start.next c.args.end c.loop-start.invariant.0 c.loop-start.invariant.1 c.in-Some.start c.in-Some.row.now c.in-Some.ensures c.min-last.result
          lasts (omega (arith, w, l, m))
          (subst (λ (from : ℕ). NoParents c.args.nodes.now.slots c.in-Some.row.now from c.min-last.result) c.saturating_sub-from.ensures c.in_default-parent_in.ensures)),
    )
