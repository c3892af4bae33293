use Rattle.std.proofs.Common.{arith, ◌≡◌, ◌≢◌, None, sym, ap, ◌∙◌, subst, inl}
use Rattle.std.specs.Option.{option_map}
use Rattle.l4_nodes.specs.Slots.{node_at}
use Rattle.l4_links.specs.Entries.{Linked, IsStanding, IsBlank}
use Rattle.l4_links.specs.Inside.Keeping.{standing_of}
use Rattle.l4_links.specs.Inside.Nodes.{TakesOver as TakesSlot}
use Rattle.l4_links.proofs.Seen.{blank_node, standing_is}
use Rattle.l4_links.proofs.Naming.{place_there, place_fits, place_key, place_present, taken, indexed_taken}
use Rattle.l4_links.proofs.Noting.{quiet_taken, less_taken, sound_quiet}
use Rattle.l4_links.proofs.Views.{view_takes}
use Rattle.l4_links.proofs.Stacking.{stack_quiet}
use Rattle.l4_links.proofs.Links.take_over.Goals.{After-give}
use Rattle.l4_links.proofs.Links.take_over.Goals as goal

-- a node stands under the key, and none under the blank's
there : (c : After-give) → node_at c.self.inside.nodes.slots c.args.key ≢ None
there c none =
    (let z = subst (λ (s : Linked). IsStanding s.entries c.args.key) (sym c.self.view_is) c.requires.there in z) (standing_is c.self.inside.nodes.slots c.args.key ∙ ap (option_map standing_of) none)

blank : (c : After-give) → node_at c.self.inside.nodes.slots c.args.blank ≡ None
blank c = blank_node c.self.inside.nodes.slots c.args.blank (subst (λ (s : Linked). IsBlank s.entries c.args.blank) (sym c.self.view_is) c.requires.blank)

two_keys : (c : After-give) → c.args.key ≢ c.args.blank
two_keys c e = there c (ap (node_at c.self.inside.nodes.slots) e ∙ blank c)

pub set-requires-clause-there : goal.set-requires-clause-there
set-requires-clause-there c = place_there c.self.inside.nodes.slots c.self.inside.pages c.args.blank c.in-Some-place_of.to c.self.invariant.indexed (sym c.place_of-2.ensures ∙ c.in-Some-place_of.is)

pub set-requires-clause-fits : goal.set-requires-clause-fits
set-requires-clause-fits c = place_fits c.self.inside.nodes.slots c.self.inside.pages c.args.blank c.in-Some-place_of.to c.self.invariant.indexed (sym c.place_of-2.ensures ∙ c.in-Some-place_of.is)

pub set-requires-clause-room : goal.set-requires-clause-room
set-requires-clause-room c = inl (place_present c.self.inside.nodes.slots c.self.inside.pages c.args.blank c.in-Some-place_of.to c.self.invariant.indexed (sym c.place_of-2.ensures ∙ c.in-Some-place_of.is))

pub set-requires-clause-few : goal.set-requires-clause-few
set-requires-clause-few c = place_key c.self.inside.nodes.slots c.self.inside.pages c.args.key c.in-Some.from c.self.invariant.indexed (sym c.place_of.ensures ∙ c.in-Some.is)

pub give-requires : goal.give-requires
give-requires c = place_fits c.self.inside.nodes.slots c.self.inside.pages c.args.blank c.in-Some-place_of.to c.self.invariant.indexed (sym c.place_of-2.ensures ∙ c.in-Some-place_of.is)

takes : (c : After-give) → TakesSlot c.args.key c.args.blank c.args.rights c.self.inside.nodes.slots c.give.new.nodes.slots
takes c =
    taken c.self.inside.nodes.slots c.remove.new.self.slots c.give.new.nodes.slots c.args.key c.args.blank c.in-Some.from c.in-Some-place_of.to c.args.rights (two_keys c)
    (sym c.place_of.ensures ∙ c.in-Some.is) (sym c.place_of-2.ensures ∙ c.in-Some-place_of.is) c.remove.ensures.gone c.remove.ensures.others c.give.ensures

pub invariant_of-self : goal.invariant_of-self
invariant_of-self c =
    let at = (goal.at.invariant_of-self c).After-give in
    let old = c.self.inside.nodes.slots in
    let new = c.give.new.nodes.slots in
    record {
      sound =
          sound_quiet old new (quiet_taken old new c.args.key c.args.blank c.args.rights (takes at) (blank at)) c.self.inside.first c.self.inside.stamp c.self.inside.walk
          (less_taken old new c.args.key c.args.blank c.args.rights (takes at) (blank at)) c.self.invariant.sound;
      indexed =
          indexed_taken old c.remove.new.self.slots new c.args.key c.args.blank c.in-Some.from c.in-Some-place_of.to c.args.rights (two_keys at)
          (sym c.place_of.ensures ∙ c.in-Some.is) (sym c.place_of-2.ensures ∙ c.in-Some-place_of.is) c.remove.ensures.gone c.remove.ensures.others c.give.ensures
          c.self.inside.pages c.set.new.self c.clear.new.self c.set.ensures.pages c.clear.ensures.pages (c.clear.ensures.spaces ∙ c.set.ensures.spaces) c.self.invariant.indexed;
      stack = stack_quiet old new c.self.inside.doomed (quiet_taken old new c.args.key c.args.blank c.args.rights (takes at) (blank at)) c.self.invariant.stack;
    }

pub returns-clause-takes : goal.returns-clause-takes
returns-clause-takes c = grind (arith, blank, view_takes, takes)
