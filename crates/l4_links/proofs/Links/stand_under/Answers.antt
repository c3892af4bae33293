use Rattle.std.proofs.Common.{◌≡◌, None, Some, ap, false, refl, sym, subst, ◌∙◌}
use Rattle.std.specs.Option.{option_map}
use Rattle.l4_fpage.specs.Rights.{common}
use Rattle.l4_links.specs.Entries.{Linked, Sprouts, standing_at}
use Rattle.l4_links.specs.Inside.Keeping.{entries_of, standing_of}
use Rattle.l4_links.proofs.Kept.{sound_child}
use Rattle.l4_links.proofs.Views.{view_child}
use Rattle.l4_links.proofs.Naming.{indexed_same}
use Rattle.l4_links.proofs.Seen.{standing_is}
use Rattle.l4_links.proofs.Stacking.{stack_comes}
use Rattle.l4_links.proofs.Links.stand_under.Goals as goal

pub invariant_of-self : goal.invariant_of-self
invariant_of-self c = record {
  sound =
      sound_child c.self.inside.nodes.slots c.link_under.new.nodes.slots c.self.inside.first c.self.inside.stamp c.fresh-self-inside.result c.self.inside.walk c.args.parent c.args.key c.in-Some.above c.args.rights
      c.self.invariant.sound (sym c.node_of.ensures ∙ c.in-Some.is) c.link_under.ensures.sprouts c.link_under.ensures.comes c.link_under.ensures.forest c.fresh-self-inside.ensures;
  indexed = indexed_same c.self.inside.nodes.slots c.link_under.new.nodes.slots c.self.inside.pages c.self.inside.pages c.link_under.ensures.comes.spots_same refl refl c.self.invariant.indexed;
  stack =
      stack_comes (record { frame = c.in-Some.above.frame; rights = common c.in-Some.above.rights c.args.rights; source = false; granted = None }) c.args.key c.self.inside.nodes.slots c.link_under.new.nodes.slots c.self.inside.doomed
      c.link_under.ensures.comes
      (c.requires.some (standing_of c.in-Some.above) (subst (λ (s : Linked). standing_at s.entries c.args.parent ≡ Some (standing_of c.in-Some.above)) c.self.view_is
      (standing_is c.self.inside.nodes.slots c.args.parent ∙ ap (option_map standing_of) (sym c.node_of.ensures ∙ c.in-Some.is))))
      c.self.invariant.stack;
}

pub returns-clause-sprouts : goal.returns-clause-sprouts
returns-clause-sprouts c =
    subst (λ (s : Linked). Sprouts c.args.parent c.args.key c.args.rights s.entries (entries_of c.link_under.new.nodes.slots)) c.self.view_is
    (view_child c.self.inside.nodes.slots c.link_under.new.nodes.slots c.self.inside.first c.self.inside.stamp c.self.inside.walk c.args.parent c.args.key c.in-Some.above c.args.rights
    c.self.invariant.sound (sym c.node_of.ensures ∙ c.in-Some.is) c.link_under.ensures.sprouts c.link_under.ensures.comes)
