use Rattle.std.proofs.Common.{ℕ, Option, subst, sym}
use Rattle.l4_links.specs.Entries.{Linked, Buries}
use Rattle.l4_links.specs.Inside.Keeping.{entries_of}
use Rattle.l4_links.specs.Inside.Stacks.{HasStack}
use Rattle.l4_links.proofs.Stacking.{stack_empty}
use Rattle.l4_links.proofs.Burying.{sound_buried, view_buries}
use Rattle.l4_links.proofs.Links.bury.Goals as goal

pub bury-self-inside-requires-clause-forest : goal.bury-self-inside-requires-clause-forest
bury-self-inside-requires-clause-forest c = (c.self.invariant.sound.keys, c.self.invariant.sound.forest)

pub invariant_of-self : goal.invariant_of-self
invariant_of-self c = record {
  sound = search (sound_buried);
  indexed = c.bury-self-inside.ensures.indexed c.self.invariant.indexed;
  stack =
      subst (λ (o : Option ℕ). HasStack c.bury-self-inside.new.nodes.slots o) (sym c.none-self-inside.ensures)
      (stack_empty c.bury-self-inside.new.nodes.slots c.bury-self-inside.ensures.buries.empty);
}

pub returns-clause-buries : goal.returns-clause-buries
returns-clause-buries c =
    subst (λ (s : Linked). Buries s.entries (entries_of c.bury-self-inside.new.nodes.slots)) c.self.view_is
    (view_buries c.self.inside.nodes.slots c.bury-self-inside.new.nodes.slots c.self.inside.first c.bury-self-inside.result c.bury-self-inside.ensures.buries)
