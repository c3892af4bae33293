use Rattle.std.proofs.Common.{◌≡◌, ℕ, length, Some, refl, subst, arith}
use Rattle.std.proofs.lemmas.Option.{slice_get_read, slice_get_within}
use Rattle.std.specs.List.{slice_get}
use Rattle.l4_spaces.specs.Rows.{AreTablesOf}
use Rattle.l4_spaces.proofs.Aside.{made_aside}
use Rattle.l4_links.specs.declared.blocks.Pages.{Pages}
use Rattle.l4_links.specs.Entries.{pages_of}
use Rattle.l4_links.specs.Inside.Bringing.{CanBring}
use Rattle.l4_links.specs.Inside.Growing.{WantsPages}
use Rattle.l4_links.specs.Inside.Keeping.{entries_of}
use Rattle.l4_links.proofs.Wanting.{makes_none, makes_more}
use Rattle.l4_links.proofs.WantedItems.{can_first, can_more, ends_before}
use Rattle.l4_links.proofs.wants.wants_all.Goals.{After-wants_item, In_ok-more}
use Rattle.l4_links.proofs.wants.wants_all.Goals as goal

pub loop-item-init : goal.loop-item-init
loop-item-init c = record {
  can = can_first c.args.from c.args.to c.args.items.now (entries_of c.args.nodes.now.slots) c.args.targets.now.items;
  few = λ high by le is. omega arith;
  within = omega arith;
  makes = makes_none c.args.targets.now.items c.requires.growing.5.target.whole c.requires.growing.5.target.full;
}

-- the item, and what the tables say
by_is : (c : After-wants_item) → slice_get c.args.items.now c.loop-item.item ≡ Some c.index-items-item.result
by_is c = slice_get_read c.args.items.now (length c.args.items.now) c.loop-item.item c.index-items-item.result refl c.loop-item-test.true c.index-items-item.is

target : (c : After-wants_item) → AreTablesOf c.requires.growing.4 c.args.to c.loop-item.targets.items
target c = (let m = c.loop-item.invariant.makes in made_aside c.requires.growing.4 c.args.to c.args.targets.now.items c.loop-item.targets.items c.requires.growing.5.target m.same m.whole m.full)

wants : (c : In_ok-more) → WantsPages (pages_of c.args.from c.args.to c.index-items-item.result) (pages_of c.args.from c.args.to c.index-items-item.result).source.page (pages_of c.args.from c.args.to c.index-items-item.result).end
    c.args.sources.now.items c.wants_item.new.targets.items c.in_ok-more.more.slots c.in_ok-more.more.changes c.args.nodes.now.slots
wants c = subst (λ (o : Pages). WantsPages o o.source.page o.end c.args.sources.now.items c.wants_item.new.targets.items c.in_ok-more.more.slots c.in_ok-more.more.changes c.args.nodes.now.slots) c.pages_of-of.ensures c.in_ok-more.ensures.wants

pub overflow_add-slots : goal.overflow_add-slots
overflow_add-slots c =
    let at = goal.at.overflow_add-slots c in
    let le = ends_before c.args.from c.args.to c.index-items-item.result c.args.nodes.now.slots c.args.sources.now.items c.wants_item.new.targets.items c.loop-item.slots c.in_ok-more.more.slots c.in_ok-more.more.changes (wants at.In_ok-more)
    (c.loop-item.invariant.few c.loop-item.item c.index-items-item.result (omega arith) (by_is at.After-wants_item)) in
    let inside = c.index-items-item.result.mv.target.block.inside in
    omega (arith, le, inside)

pub loop-item-preserved : goal.loop-item-preserved
loop-item-preserved c =
    let at = goal.at.loop-item-preserved c in
    let le = ends_before c.args.from c.args.to c.index-items-item.result c.args.nodes.now.slots c.args.sources.now.items c.wants_item.new.targets.items c.loop-item.slots c.in_ok-more.more.slots c.in_ok-more.more.changes (wants at.In_ok-more)
    (c.loop-item.invariant.few c.loop-item.item c.index-items-item.result (omega arith) (by_is at.After-wants_item)) in
    let lt = c.loop-item-test.true in
    record {
      can = can_more c.args.from c.args.to c.args.items.now c.loop-item.item c.index-items-item.result (by_is at.After-wants_item) c.args.nodes.now.slots c.requires.growing.4 c.args.sources.now.items c.loop-item.targets.items c.wants_item.new.targets.items
          c.requires.growing.5.source (target at.After-wants_item) c.requires.growing.5.indexed c.wants_item.ensures.makes c.loop-item.slots c.in_ok-more.more.slots c.loop-item.changes c.in_ok-more.more.changes (wants at.In_ok-more)
          c.requires.plain c.requires.growing.5.live.within c.loop-item.invariant.can;
      few = λ high next gt is. (let apart = (c.requires.apart c.loop-item.item high c.index-items-item.result next (omega (arith, gt)) (slice_get_within c.args.items.now high next is) (by_is at.After-wants_item) is).target in omega (arith, le, apart));
      within = omega (arith, lt);
      makes = makes_more c.args.targets.now.items c.loop-item.targets.items c.wants_item.new.targets.items c.loop-item.invariant.makes c.wants_item.ensures.makes;
    }

pub returns-clause-wants : goal.returns-clause-wants
returns-clause-wants c =
    let end = c.loop-item-test.false in
    let within = c.loop-item.invariant.within in
    subst (λ (n : ℕ). CanBring c.args.from c.args.to c.args.items.now n (entries_of c.args.nodes.now.slots) c.loop-item.targets.items c.loop-item.slots c.loop-item.changes) (let e : c.loop-item.item ≡ length c.args.items.now = omega (arith, end, within) in e) c.loop-item.invariant.can
