use Rattle.std.proofs.Common.{◌≡◌, ℕ, [], Option, None, refl, subst, sym}
use Rattle.l4_nodes.specs.Slots.{Slots}
use Rattle.l4_links.specs.Inside.Stacks.{HasStack}
use Rattle.l4_links.specs.Inside.Keeping.{IsSound, sources_walk}
use Rattle.l4_links.proofs.Kept.{sound_empty}
use Rattle.l4_links.proofs.Naming.{indexed_empty}
use Rattle.l4_links.proofs.Stacking.{stack_empty, no_right}
use Rattle.l4_links.proofs.Links.new.Goals as goal

pub invariant_of-result : goal.invariant_of-result
invariant_of-result c =
    let slots = c.in_ok-nodes.nodes.slots in
    let is : slots ≡ [] = c.in_ok-nodes.ensures.none in
    record {
      sound = subst (λ (o : Option ℕ). IsSound slots o 1 sources_walk) (sym c.none.ensures) (subst (λ (s : Slots). IsSound s None 1 sources_walk) (sym is) (sound_empty sources_walk));
      indexed = indexed_empty slots c.new.result is c.new.ensures.pages;
      stack = subst (λ (o : Option ℕ). HasStack slots o) (sym c.none-2.ensures) (subst (λ (s : Slots). HasStack s None) (sym is) (stack_empty [] (λ k. no_right [] k refl)));
    }
