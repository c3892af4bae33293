use Rattle.std.proofs.Common.{◌∙◌, sym, refl, ap}
use Rattle.l4_fpage.specs.Rights.{is_none}
use Rattle.l4_mapdb.proofs.Clashing.{read_there}
use Rattle.l4_mapdb.proofs.Moves.{shares_none, shares_some}
use Rattle.l4_mapdb.proofs.sources.move_of.Goals as goal

pub returns-then-is_empty : goal.returns-then-is_empty
returns-then-is_empty c =
    shares_none c.args.links.now.entries c.args.from c.args.to c.args.items.now c.args.item c.args.found.0 c.args.found.1 c.index-items-item.result c.in-Some.standing
    (read_there c.args.items.now c.args.item c.index-items-item.result c.requires.there c.index-items-item.is)
    (λ k h. (c.requires.at k).1 h) (sym c.standing.ensures ∙ c.in-Some.is)
    (sym (c.is_empty.ensures ∙ ap is_none c.intersection.ensures) ∙ c.if-is_empty.true)

pub returns : goal.returns
returns c =
    let at = read_there c.args.items.now c.args.item c.index-items-item.result c.requires.there c.index-items-item.is in
    let named = c.requires.named c.index-items-item.result at in (
      shares_some c.args.links.now.entries c.args.from c.args.to c.args.items.now c.args.item c.args.found.0 c.args.found.1 c.index-items-item.result c.in-Some.standing at
          ((c.requires.at c.args.found.1).0 refl) (sym c.standing.ensures ∙ c.in-Some.is)
          (sym (c.is_empty.ensures ∙ ap is_none c.intersection.ensures) ∙ c.if-is_empty.false) named.from named.below,
      refl,
      refl,
    )
