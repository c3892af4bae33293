use Rattle.std.proofs.Common.{Bool, sym, subst}
use Rattle.l4_forest.specs.Inside.Cuts.{IsOver, TakesKeys}
use Rattle.l4_forest.proofs.Taken.{takes_tree, takes_below, leaves_blank}
use Rattle.l4_forest.proofs.taking.take_key.Goals as goal

pub take_blank-requires : goal.take_blank-requires
take_blank-requires c = record { blank = leaves_blank c.args.top c.args.links.now.entries c.clear.new.self.entries c.requires.there c.clear.ensures.clears }

pub returns-then-with_self-clause-takes : goal.returns-then-with_self-clause-takes
returns-then-with_self-clause-takes c =
    subst (λ (b : Bool). TakesKeys (IsOver c.args.links.now.entries b c.args.top) c.args.links.now.entries c.take_blank.new.self.entries) (sym c.if-with_self.true)
    (takes_tree c.args.top c.args.links.now c.requires.clean c.law_trees.ensures c.clear.new.self.entries c.take_blank.new.self.entries c.clear.ensures.clears c.take_blank.ensures.gone c.take_blank.ensures.others)

pub returns-clause-takes : goal.returns-clause-takes
returns-clause-takes c =
    subst (λ (b : Bool). TakesKeys (IsOver c.args.links.now.entries b c.args.top) c.args.links.now.entries c.cut_below.new.self.entries) (sym c.if-with_self.false)
    (takes_below c.args.top c.args.links.now c.requires.clean c.law_trees.ensures c.cut_below.new.self.entries c.cut_below.ensures.cuts)
