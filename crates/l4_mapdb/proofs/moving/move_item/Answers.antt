use Rattle.std.proofs.Common.{refl, sym, ◌∙◌, inl, inr, arith, ◌+◌, subst}
use Rattle.l4_links.specs.Entries.{Linked}
use Rattle.l4_mapdb.proofs.Clashing.{read_there}
use Rattle.l4_mapdb.proofs.Deciding.{truths_agree, truths_differ}
use Rattle.l4_mapdb.specs.Inside.Placing.{Placed, IsDone}
use Rattle.l4_mapdb.proofs.ItemWalk.{begin_item, over_item}
use Rattle.l4_mapdb.proofs.PageWalk.{pass_page, end_page, blank_page, none_page, more_page}
use Rattle.l4_mapdb.proofs.moving.move_item.Goals as goal

pub loop-page-init : goal.loop-page-init
loop-page-init c = (
  omega arith,
  refl,
  λ start ready p. begin_item start c.args.links.now c.args.from c.args.to c.args.items.now c.args.grants c.args.item c.index-items-item.result
      (read_there c.args.items.now c.args.item c.index-items-item.result c.requires.within c.index-items-item.is) p,
)

pub returns-then-by-grants-clause-moves : goal.returns-then-by-grants-clause-moves
returns-then-by-grants-clause-moves c = λ start ready p. over_item start c.args.links.now c.args.from c.args.to c.args.items.now c.args.grants c.args.item c.index-items-item.result
    (read_there c.args.items.now c.args.item c.index-items-item.result c.requires.within c.index-items-item.is) (truths_differ c.index-items-item.result.grant c.args.grants c.if-by-grants.true) p

pub returns-in_default-clause-moves : goal.returns-in_default-clause-moves
returns-in_default-clause-moves c = λ start ready p. end_page start c.loop-page.links c.args.from c.args.to c.args.items.now ready c.law_places.ensures c.args.grants c.args.item c.index-items-item.result
    (read_there c.args.items.now c.args.item c.index-items-item.result c.requires.within c.index-items-item.is) (truths_agree c.index-items-item.result.grant c.args.grants c.if-by-grants.false) c.loop-page.begin c.loop-page.invariant.0
    (c.loop-page.invariant.2 start ready p) c.end_of-end.result c.end_of-end.ensures.is c.in_default.ensures

pub move_key-requires : goal.move_key-requires
move_key-requires c = record {
  blank = (
    record { space = c.args.from; page = c.in-Some.page },
    c.in-Some.ensures.1,
    blank_page c.requires.ready.0 c.loop-page.links c.loop-page.links c.args.from c.args.to c.args.items.now c.requires.ready.1 c.law_places.ensures refl c.args.grants c.args.item c.index-items-item.result
        (read_there c.args.items.now c.args.item c.index-items-item.result c.requires.within c.index-items-item.is) (truths_agree c.index-items-item.result.grant c.args.grants c.if-by-grants.false) c.in-Some.page (omega (arith, c.loop-page.invariant.0, c.in-Some.ensures.0.from)) (omega (arith, c.in-Some.ensures.0.before, c.end_of-end.ensures.is))
        (pass_page c.requires.ready.0 c.loop-page.links c.args.from c.args.to c.args.items.now c.requires.ready.1 c.law_places.ensures c.args.grants c.args.item c.index-items-item.result
        (read_there c.args.items.now c.args.item c.index-items-item.result c.requires.within c.index-items-item.is) (truths_agree c.index-items-item.result.grant c.args.grants c.if-by-grants.false) c.loop-page.begin c.loop-page.invariant.0
        (c.loop-page.invariant.2 c.requires.ready.0 c.requires.ready.1 c.requires.ready.2) c.in-Some.page c.in-Some.ensures.0.from (λ other le lt has. omega (arith, lt, c.in-Some.ensures.0.least other le has))),
  );
}

pub loop-page-smaller : goal.loop-page-smaller
loop-page-smaller c = omega (arith, c.in-Some.ensures.0.from, c.in-Some.ensures.0.before)

pub loop-page-preserved : goal.loop-page-preserved
loop-page-preserved c = (
  omega (arith, c.loop-page.invariant.0, c.in-Some.ensures.0.from),
  c.move_key.ensures.spaces ∙ c.loop-page.invariant.1,
  λ start ready p.
      let item_at = read_there c.args.items.now c.args.item c.index-items-item.result c.requires.within c.index-items-item.is in
      let passed = pass_page start c.loop-page.links c.args.from c.args.to c.args.items.now ready c.law_places.ensures c.args.grants c.args.item c.index-items-item.result item_at (truths_agree c.index-items-item.result.grant c.args.grants c.if-by-grants.false) c.loop-page.begin c.loop-page.invariant.0
      (c.loop-page.invariant.2 start ready p) c.in-Some.page c.in-Some.ensures.0.from (λ other le lt has. omega (arith, lt, c.in-Some.ensures.0.least other le has)) in
      elim (c.move_key.ensures.moves _ c.in-Some.ensures.1) [
        | inl done ↦ more_page start c.loop-page.links c.move_key.new.links c.args.from c.args.to c.args.items.now ready c.law_places.ensures c.move_key.ensures.spaces c.args.grants c.args.item c.index-items-item.result item_at (truths_agree c.index-items-item.result.grant c.args.grants c.if-by-grants.false)
            c.in-Some.page (omega (arith, c.loop-page.invariant.0, c.in-Some.ensures.0.from)) (omega (arith, c.in-Some.ensures.0.before, c.end_of-end.ensures.is)) passed done
        | inr left ↦ subst (λ (s : Linked). Placed start c.args.from c.args.to c.args.items.now (IsDone start c.args.from c.args.to c.args.items.now c.args.grants c.args.item (c.in-Some.page + 1)) s) (sym left.1)
            (none_page start c.loop-page.links c.move_key.new.links c.args.from c.args.to c.args.items.now ready c.law_places.ensures c.move_key.ensures.spaces c.args.grants c.args.item c.index-items-item.result item_at (truths_agree c.index-items-item.result.grant c.args.grants c.if-by-grants.false)
            c.in-Some.page (omega (arith, c.loop-page.invariant.0, c.in-Some.ensures.0.from)) (omega (arith, c.in-Some.ensures.0.before, c.end_of-end.ensures.is)) passed left.0)
      ],
)
