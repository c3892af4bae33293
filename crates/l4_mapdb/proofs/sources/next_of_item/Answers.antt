use Rattle.std.proofs.Common.{◌≡◌, ◌≤◌, ◌^◌, ap, arith, subst}
use Rattle.l4_msg.specs.declared.items.ItemMove.{ItemMove}
use Rattle.l4_mapdb.proofs.Clashing.{read_there}
use Rattle.l4_mapdb.proofs.Moves.{one_by, between_first, between_more, between_all, between_found}
use Rattle.l4_mapdb.proofs.sources.next_of_item.Goals as goal

pub loop-found-init : goal.loop-found-init
loop-found-init c = record {
  after = c.later_page-start.ensures.first;
  begun = λ by at. subst (λ (x : ItemMove). x.mv.source.first ≤ c.later_page-start.result)
      (one_by c.args.items.now c.args.item c.index-items-item.result by (read_there c.args.items.now c.args.item c.index-items-item.result c.requires c.index-items-item.is) at) c.later_page-start.ensures.second;
  none = between_first c.args.links.now.entries c.args.from c.args.to c.args.items.now c.args.item c.args.page c.later_page-start.result c.index-items-item.result
      (read_there c.args.items.now c.args.item c.index-items-item.result c.requires c.index-items-item.is) c.later_page-start.ensures.one;
}

pub returns-in_default : goal.returns-in_default
returns-in_default c =
    between_all c.args.links.now.entries c.args.from c.args.to c.args.items.now c.args.item c.args.page c.loop-found.start c.end_of-end.result c.index-items-item.result
    (read_there c.args.items.now c.args.item c.index-items-item.result c.requires c.index-items-item.is) c.end_of-end.ensures.is c.in_default.ensures c.loop-found.invariant.none

pub returns-in-Some-move_of : goal.returns-in-Some-move_of
returns-in-Some-move_of c =
    let h = c.in-Some-move_of.ensures in
    between_found c.args.links.now.entries c.args.from c.args.to c.args.items.now c.args.item c.args.page c.loop-found.start c.end_of-end.result c.in-Some.found.0 c.in-Some-move_of.used
    c.in-Some.ensures.0 c.loop-found.invariant.after c.loop-found.invariant.none h.0 h.1 h.2

pub loop-found-preserved : goal.loop-found-preserved
loop-found-preserved c =
    let from_here = c.in-Some.ensures.0.from in
    let after = c.loop-found.invariant.after in
    record {
      after = omega (arith, from_here, after);
      begun = λ by at. (let b = c.loop-found.invariant.begun by at in omega (arith, from_here, b));
      none = between_more c.args.links.now.entries c.args.from c.args.to c.args.items.now c.args.item c.args.page c.loop-found.start c.end_of-end.result c.in-Some.found.0 c.index-items-item.result
          (read_there c.args.items.now c.args.item c.index-items-item.result c.requires c.index-items-item.is) c.end_of-end.ensures.is c.in-Some.ensures.0 c.in_default-move_of.ensures c.loop-found.invariant.none;
    }

pub move_of-requires-clause-named : goal.move_of-requires-clause-named
move_of-requires-clause-named c by at =
    let same = one_by c.args.items.now c.args.item c.index-items-item.result by (read_there c.args.items.now c.args.item c.index-items-item.result c.requires c.index-items-item.is) at in
    let first : c.index-items-item.result.mv.source.first ≡ by.mv.source.first = ap (λ (x : ItemMove). x.mv.source.first) same in
    let size : 2 ^ c.index-items-item.result.mv.source.log ≡ 2 ^ by.mv.source.log = ap (λ (x : ItemMove). 2 ^ x.mv.source.log) same in
    let b = c.loop-found.invariant.begun by at in
    let n = c.in-Some.ensures.0 in
    record { from = omega (arith, b, n.from); below = omega (arith, n.before, c.end_of-end.ensures.is, first, size) }
