use Rattle.std.proofs.Common.{◌∙◌, refl, ◌<◌, length, arith}
use Rattle.std.proofs.lemmas.Option.{slice_get_within}
use Rattle.l4_mapdb.specs.Inside.Messages.{OfItems}
use Rattle.l4_mapdb.proofs.Clashing.{read_there}
use Rattle.l4_mapdb.proofs.Tidying.{items_first, items_more, tidies_as}
use Rattle.l4_mapdb.proofs.unmarking.unmark.Goals as goal

pub loop-item-init : goal.loop-item-init
loop-item-init c = record { tidies = items_first c.args.from c.args.to c.args.items.now c.args.links.now.entries; spaces = refl }

pub loop-item-preserved : goal.loop-item-preserved
loop-item-preserved c =
    let lt : c.loop-item.item < length c.args.items.now = omega (arith, c.loop-item-test.true) in
    record {
      tidies = items_more c.args.from c.args.to c.args.items.now c.loop-item.item c.index-items-item.result c.args.links.now.entries c.loop-item.links.entries c.tidy_block.new.links.entries c.tidy_block-in-loop-item.new.links.entries
          (read_there c.args.items.now c.loop-item.item c.index-items-item.result lt c.index-items-item.is) c.tidy_block.ensures.tidies c.tidy_block-in-loop-item.ensures.tidies c.loop-item.invariant.tidies;
      spaces = c.tidy_block-in-loop-item.ensures.spaces ∙ c.tidy_block.ensures.spaces ∙ c.loop-item.invariant.spaces;
    }

pub returns : goal.returns
returns c = record {
  tidies = tidies_as (OfItems c.args.from c.args.to c.args.items.now c.loop-item.item) (OfItems c.args.from c.args.to c.args.items.now (length c.args.items.now)) c.args.links.now.entries c.loop-item.links.entries
      (λ key. (
        λ h. (h.0, (h.1.0, h.1.1, slice_get_within c.args.items.now h.1.0 h.1.1 h.1.3, h.1.3, h.1.4), h.2),
        λ h. (let lt = h.1.2 in (h.0, (h.1.0, h.1.1, omega (arith, lt, c.loop-item-test.false), h.1.3, h.1.4), h.2)),
      )) c.loop-item.invariant.tidies;
  spaces = c.loop-item.invariant.spaces;
}
