use Rattle.std.proofs.Common.{arith, ◌≡◌, ◌≢◌, ℕ, IsTrue, Some, None, false, refl, sym, ap, ◌∙◌, subst}
use Rattle.std.specs.FinMap as map
use Rattle.std.specs.FinSet as set
use Rattle.l4_links.specs.Entries.{Linked, AddsBlank, IsAt}
use Rattle.l4_nodes.specs.Slots.{Slots, slot_at, node_at}
use Rattle.l4_links.specs.Inside.Keeping.{entries_of}
use Rattle.l4_links.proofs.Kept.{nodes_blank, sound_nodes}
use Rattle.l4_links.proofs.Naming.{Pages, is_at, indexed_same, indexed_added}
use Rattle.l4_links.proofs.Views.{view_blank, blank_added}
use Rattle.l4_links.proofs.Stacking.{stack_nodes}
use Rattle.l4_links.proofs.Links.add_blank.Goals as goal

-- where there is no memory for tables, all is as before
pub invariant_of-self-in_err-prepare : goal.invariant_of-self-in_err-prepare
invariant_of-self-in_err-prepare c = grind (arith, indexed_same)

-- how the slots have changed
vacant : (c : goal.After-set) → slot_at c.self.inside.nodes.slots c.insert_blank-key.result ≡ None
vacant c = ap (λ (s : Slots). slot_at s c.insert_blank-key.result) (sym c.make_room.ensures.same) ∙ c.insert_blank-key.ensures.was_vacant

others : (c : goal.After-set) (o : ℕ) → o ≢ c.insert_blank-key.result → slot_at c.insert_blank-key.new.self.slots o ≡ slot_at c.self.inside.nodes.slots o
others c o ne = c.insert_blank-key.ensures.others o ne ∙ ap (λ (s : Slots). slot_at s o) c.make_room.ensures.same

-- the slot is a blank of the page
blank_at : (c : goal.After-set) → slot_at c.insert_blank-key.new.self.slots c.insert_blank-key.result ≡ Some (record { place = c.args.place; wanted = false; node = None })
blank_at c = c.insert_blank-key.ensures.here

-- which leaves all nodes as they were
same_nodes : (c : goal.After-set) (k : ℕ) → node_at c.insert_blank-key.new.self.slots k ≡ node_at c.self.inside.nodes.slots k
same_nodes c = nodes_blank c.self.inside.nodes.slots c.insert_blank-key.new.self.slots c.insert_blank-key.result (record { place = c.args.place; wanted = false; node = None }) refl (vacant c) (blank_at c) (others c)

pub invariant_of-self-2 : goal.invariant_of-self-2
invariant_of-self-2 c = record {
  sound = sound_nodes c.self.inside.nodes.slots c.insert_blank-key.new.self.slots (same_nodes c) c.self.inside.first c.self.inside.stamp c.self.inside.walk c.self.invariant.sound;
  indexed =
      indexed_added c.self.inside.nodes.slots c.insert_blank-key.new.self.slots c.self.inside.pages c.set.new.self c.args.place c.insert_blank-key.result (record { place = c.args.place; wanted = false; node = None }) c.self.invariant.indexed
      (λ k at. c.requires.free k (subst (λ (s : Linked). IsAt s.entries c.args.place k) c.self.view_is ((is_at c.self.inside.nodes.slots c.args.place k).0 at)))
      c.insert_blank-key.ensures.few (vacant c) refl (blank_at c) (others c) (subst (λ (s : Linked). IsTrue (set.contains s.spaces c.args.place.space)) (sym c.self.view_is) c.requires.there) c.requires.fits
      (c.set.ensures.pages ∙ ap (λ (p : Pages). map.insert p (c.args.place.space, c.args.place.page) c.insert_blank-key.result) c.prepare.ensures.pages) (c.set.ensures.spaces ∙ c.prepare.ensures.spaces);
  stack = stack_nodes c.self.inside.nodes.slots c.insert_blank-key.new.self.slots c.self.inside.doomed (same_nodes c) c.self.invariant.stack;
}

pub returns-clause-ok : goal.returns-clause-ok
returns-clause-ok c =
    subst (λ (s : Linked). AddsBlank c.args.place s.entries (entries_of c.insert_blank-key.new.self.slots) c.insert_blank-key.result) c.self.view_is
    (view_blank c.self.inside.nodes.slots c.insert_blank-key.new.self.slots c.insert_blank-key.result c.args.place (vacant c) (blank_at c) (others c))

pub returns-clause-blank : goal.returns-clause-blank
returns-clause-blank c = blank_added c.args.place c.args.self.now.entries (entries_of c.insert_blank-key.new.self.slots) c.insert_blank-key.result (returns-clause-ok c)
