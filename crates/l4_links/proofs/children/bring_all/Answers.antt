use Rattle.std.proofs.Common.{◌≡◌, ℕ, Some, true, length, refl, sym, subst, slice_get, arith}
use Rattle.l4_links.specs.declared.blocks.Pages.{Pages}
use Rattle.l4_links.specs.Entries.{pages_of, IsDue, Brings}
use Rattle.l4_links.specs.Inside.Bringing.{CanBring}
use Rattle.l4_links.specs.Inside.Growing.{CanBringFrom, BringsPages}
use Rattle.l4_links.specs.Inside.Keeping.{entries_of}
use Rattle.l4_links.proofs.BroughtParts.{fits_leaves}
use Rattle.l4_links.proofs.Items.{read_there, still_growing, brought_first, next_can, brought_next}
use Rattle.l4_links.proofs.children.bring_all.Goals.{In-Some, After-pages_of-of}
use Rattle.l4_links.proofs.children.bring_all.Goals as goal

-- all that is due can come
can : (c : In-Some) → CanBring c.args.from c.args.to c.args.items.now (length c.args.items.now) (entries_of c.args.nodes.now.slots) c.wants_all.new.targets.items c.in-Some.field-0.slots c.in-Some.field-0.changes
can c = c.in-Some.ensures.wants

pub returns-in_default-clause-growing : goal.returns-in_default-clause-growing
returns-in_default-clause-growing c pages =
    still_growing c.args.from c.args.to c.requires.differ c.args.items.now c.requires.apart 0 c.args.sources.now.items c.args.targets.now.items c.args.nodes.now pages c.wants_all.new.targets.items c.args.nodes.now.slots c.wants_all.ensures.makes refl

pub returns-then-not-changes-clause-growing : goal.returns-then-not-changes-clause-growing
returns-then-not-changes-clause-growing c pages =
    still_growing c.args.from c.args.to c.requires.differ c.args.items.now c.requires.apart 0 c.args.sources.now.items c.args.targets.now.items c.args.nodes.now pages c.wants_all.new.targets.items c.args.nodes.now.slots c.wants_all.ensures.makes refl

-- all is there already
pub returns-then-not-changes-clause-moves : goal.returns-then-not-changes-clause-moves
returns-then-not-changes-clause-moves c = λ _.
    let w = can (goal.at.returns-then-not-changes-clause-moves c).In-Some in
    (w.4 c.if-not-changes.true, fits_leaves (IsDue c.args.from c.args.to c.args.items.now (length c.args.items.now) (entries_of c.args.nodes.now.slots)) (entries_of c.args.nodes.now.slots) w.0, w.3)

pub returns-in_default-make_room-clause-growing : goal.returns-in_default-make_room-clause-growing
returns-in_default-make_room-clause-growing c pages =
    still_growing c.args.from c.args.to c.requires.differ c.args.items.now c.requires.apart 0 c.args.sources.now.items c.args.targets.now.items c.args.nodes.now pages c.wants_all.new.targets.items c.make_room.new.self.slots c.wants_all.ensures.makes c.make_room.ensures.same

pub loop-item-init : goal.loop-item-init
loop-item-init c =
    let w = can (goal.at.loop-item-init c).In-Some in
    brought_first c.args.from c.args.to c.requires.differ c.args.items.now c.requires.apart c.in-Some.field-0.slots c.args.sources.now.items c.args.targets.now.items c.args.nodes.now c.wants_all.new.targets.items c.make_room.new.self
    c.wants_all.ensures.makes c.make_room.ensures.same c.in-Ok.ensures.room w.0 w.1 w.2

-- the item
item : (c : After-pages_of-of) → slice_get c.args.items.now c.loop-item.item ≡ Some c.index-items-item.result
item c = read_there c.args.items.now c.loop-item.item c.index-items-item.result (omega (arith, c.loop-item-test.true)) c.index-items-item.is

pub bring_item-requires-clause-can : goal.bring_item-requires-clause-can
bring_item-requires-clause-can c =
    let at = (goal.at.bring_item-requires-clause-can c).After-pages_of-of in
    let g = c.requires.growing in
    subst (λ (p : Pages). CanBringFrom p p.source.page c.loop-item.sources.items c.loop-item.targets.items c.loop-item.nodes) (sym c.pages_of-of.ensures)
    (next_can c.args.from c.args.to c.requires.differ c.args.items.now c.requires.apart c.in-Some.field-0.slots c.args.sources.now.items c.args.targets.now.items c.args.nodes.now c.loop-item.item c.loop-item.sources.items c.loop-item.targets.items c.loop-item.nodes
    c.loop-item.invariant c.index-items-item.result (item at) (omega (arith, c.loop-item-test.true)) g.0 g.1 g.2 g.3 g.4 g.5)

pub loop-item-preserved : goal.loop-item-preserved
loop-item-preserved c =
    let at = (goal.at.loop-item-preserved c).After-pages_of-of in
    let g = c.requires.growing in
    brought_next c.args.from c.args.to c.requires.differ c.args.items.now c.requires.apart c.in-Some.field-0.slots c.args.sources.now.items c.args.targets.now.items c.args.nodes.now c.loop-item.item c.loop-item.sources.items c.loop-item.targets.items c.loop-item.nodes
    c.loop-item.invariant c.index-items-item.result (item at) (omega (arith, c.loop-item-test.true)) g.0 g.1 g.2 g.3 g.4 g.5 c.bring_item.new.sources.items c.bring_item.new.targets.items c.bring_item.new.nodes
    (subst (λ (p : Pages). BringsPages p p.source.page p.end c.loop-item.sources.items c.bring_item.new.sources.items c.loop-item.targets.items c.bring_item.new.targets.items c.loop-item.nodes c.bring_item.new.nodes) c.pages_of-of.ensures c.bring_item.ensures)

pub returns-clause-growing : goal.returns-clause-growing
returns-clause-growing c pages first head stamp all g = let v = c.loop-item.invariant.brings pages first head stamp all g in (v.0, v.1)

pub returns-clause-moves : goal.returns-clause-moves
returns-clause-moves c = λ _.
    let g = c.requires.growing in
    let h = c.loop-item.invariant in (
      subst (λ (n : ℕ). Brings (IsDue c.args.from c.args.to c.args.items.now n (entries_of c.args.nodes.now.slots)) (entries_of c.args.nodes.now.slots) (entries_of c.loop-item.nodes.slots))
          (let within = c.loop-item.auto.item-end in let e : c.loop-item.item ≡ length c.args.items.now = omega (arith, c.loop-item-test.false, within) in e) (h.brings g.0 g.1 g.2 g.3 g.4 g.5).2,
      fits_leaves (IsDue c.args.from c.args.to c.args.items.now (length c.args.items.now) (entries_of c.args.nodes.now.slots)) (entries_of c.args.nodes.now.slots) h.fits,
      (can (goal.at.returns-clause-moves c).In-Some).3,
    )
