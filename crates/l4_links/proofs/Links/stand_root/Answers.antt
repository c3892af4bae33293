use Rattle.std.proofs.Common.{ℕ, Option, None, false, subst, refl, sym}
use Rattle.l4_links.specs.Entries.{Linked, Stands}
use Rattle.l4_links.specs.Inside.Keeping.{entries_of, IsSound}
use Rattle.l4_links.proofs.Kept.{sound_root}
use Rattle.l4_links.proofs.Views.{view_root}
use Rattle.l4_links.proofs.Naming.{indexed_same}
use Rattle.l4_links.proofs.Stacking.{stack_comes}
use Rattle.l4_links.proofs.Links.stand_root.Goals as goal

pub invariant_of-self : goal.invariant_of-self
invariant_of-self c = record {
  sound =
      subst (λ (o : Option ℕ). IsSound c.link_root-self-inside.new.nodes.slots o c.fresh-self-inside.result c.self.inside.walk) (sym c.link_root-self-inside.ensures.first)
      (sound_root c.self.inside.nodes.slots c.link_root-self-inside.new.nodes.slots c.self.inside.first c.self.inside.stamp c.fresh-self-inside.result c.self.inside.walk c.args.key (record { frame = c.args.frame; rights = c.args.rights; source = false; granted = None })
      c.self.invariant.sound c.link_root-self-inside.ensures.rises c.link_root-self-inside.ensures.comes c.link_root-self-inside.ensures.forest c.fresh-self-inside.ensures);
  indexed = indexed_same c.self.inside.nodes.slots c.link_root-self-inside.new.nodes.slots c.self.inside.pages c.self.inside.pages c.link_root-self-inside.ensures.comes.spots_same refl refl c.self.invariant.indexed;
  stack = stack_comes (record { frame = c.args.frame; rights = c.args.rights; source = false; granted = None }) c.args.key c.self.inside.nodes.slots c.link_root-self-inside.new.nodes.slots c.self.inside.doomed c.link_root-self-inside.ensures.comes c.requires.some c.self.invariant.stack;
}

pub returns-clause-stands : goal.returns-clause-stands
returns-clause-stands c =
    subst (λ (s : Linked). Stands c.args.key (record { frame = c.args.frame; rights = c.args.rights; source = false; granted = None; parent = None }) s.entries (entries_of c.link_root-self-inside.new.nodes.slots)) c.self.view_is
    (view_root c.self.inside.nodes.slots c.link_root-self-inside.new.nodes.slots c.args.key c.args.frame c.args.rights c.link_root-self-inside.ensures.rises c.link_root-self-inside.ensures.comes)
