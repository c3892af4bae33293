use Rattle.std.proofs.Common.{◌≡◌, true, false, sym, ◌∙◌}
use Rattle.l4_mapdb.proofs.Tangling.{not_so, no_clash}
use Rattle.l4_mapdb.proofs.tangles.clashes_with.Goals as goal

pub returns-then-not-used : goal.returns-then-not-used
returns-then-not-used c = not_so (no_clash c.args.links.now.entries c.args.from c.args.to c.args.items.now c.args.used.now c.args.other c.in_default.ensures
    (λ g. let z : false ≡ true = sym c.if-not-used.true ∙ g in cc))

pub returns : goal.returns
returns c = not_so (no_clash c.args.links.now.entries c.args.from c.args.to c.args.items.now c.args.used.now c.args.other c.in_default.ensures (λ g. c.in_default-move_out.ensures))
