use Rattle.std.proofs.Common.{arith, ℕ, sym, subst, ◌∙◌, refl}
use Rattle.l4_links.specs.Entries.{Linked, CapsBelow, CapsTree}
use Rattle.l4_links.specs.Inside.Keeping.{entries_of, BeginsWalk, IsSound}
use Rattle.l4_fpage.specs.Rights.{bits_of}
use Rattle.l4_links.specs.Inside.Nodes.{IsSame}
use Rattle.l4_links.proofs.Writes.{keys_same}
use Rattle.l4_links.proofs.Stacking.{stack_same}
use Rattle.l4_links.proofs.Renewing.{caps_from_same, there_same, some_node}
use Rattle.l4_links.proofs.Kept.{marks_for, sound_capped}
use Rattle.l4_links.proofs.Views.{view_caps, caps_none}
use Rattle.l4_links.proofs.Capping.{sound_tree, view_tree, tree_none}
use Rattle.l4_links.proofs.Naming.{indexed_same}
use Rattle.l4_links.proofs.Low.{caps_low, tree_low}
use Rattle.l4_links.proofs.Links.cap_run.Goals as goal

pub returns-then-contains-clause-below : goal.returns-then-contains-clause-below
returns-then-contains-clause-below c = λ _.
    subst (λ (s : Linked). CapsBelow c.args.top c.args.cap s.entries s.entries) c.self.view_is
    (caps_low c.self.inside.nodes.slots c.self.inside.first c.self.inside.stamp c.self.inside.walk c.args.top c.args.cap c.in-Some.node c.self.invariant.sound (sym c.node_of.ensures ∙ c.in-Some.is) (c.if-contains.ensures.within.0 refl))

pub returns-then-contains-clause-tree : goal.returns-then-contains-clause-tree
returns-then-contains-clause-tree c = λ _.
    subst (λ (s : Linked). CapsTree c.args.top c.args.cap s.entries s.entries) c.self.view_is
    (tree_low c.self.inside.nodes.slots c.self.inside.first c.self.inside.stamp c.self.inside.walk c.args.top c.args.cap c.in-Some.node c.self.invariant.sound (sym c.node_of.ensures ∙ c.in-Some.is) (c.if-contains.ensures.within.0 refl))

pub returns-in_default-clause-below : goal.returns-in_default-clause-below
returns-in_default-clause-below c = λ _.
    subst (λ (s : Linked). CapsBelow c.args.top c.args.cap s.entries s.entries) c.self.view_is
    (caps_none c.self.inside.nodes.slots c.self.inside.first c.self.inside.stamp c.self.inside.walk c.args.top c.args.cap c.self.invariant.sound (sym c.node_of.ensures ∙ c.in_default.is))

pub returns-in_default-clause-tree : goal.returns-in_default-clause-tree
returns-in_default-clause-tree c = λ _.
    subst (λ (s : Linked). CapsTree c.args.top c.args.cap s.entries s.entries) c.self.view_is
    (tree_none c.self.inside.nodes.slots c.self.inside.first c.self.inside.stamp c.self.inside.walk c.args.top c.args.cap c.self.invariant.sound (sym c.node_of.ensures ∙ c.in_default.is))

pub cap_below-doomed-requires : goal.cap_below-doomed-requires
cap_below-doomed-requires c =
    let old = c.self.inside.nodes.slots in
    let new = c.stamp_for-stamp.new.nodes.slots in
    let same : IsSame old new = c.stamp_for-stamp.ensures.same in
    let begins : BeginsWalk c.self.inside.walk (bits_of c.args.cap) c.self.inside.stamp c.stamp_for-stamp.result old new =
    subst (λ (w : ℕ). BeginsWalk c.self.inside.walk w c.self.inside.stamp c.stamp_for-stamp.result old new) c.bits-walk.ensures c.stamp_for-stamp.ensures.begins in
    let m = marks_for old new c.self.inside.first c.self.inside.stamp c.self.inside.walk c.stamp_for-stamp.result c.args.cap c.self.invariant.sound same begins in
    record {
      few = keys_same old new same.spots_same c.self.invariant.indexed.few;
      marks = m.0;
      stamped = m.1;
      there = there_same old new c.args.top same (some_node (sym c.node_of.ensures ∙ c.in-Some.is));
      stack = stack_same old new c.self.inside.doomed same.dooms_same c.self.invariant.stack;
    }

pub invariant_of-self : goal.invariant_of-self
invariant_of-self c = record {
  sound =
      subst (λ (w : ℕ). IsSound c.cap_below-doomed.new.nodes.slots c.self.inside.first c.stamp_for-stamp.result w) (sym c.bits-walk.ensures)
      (sound_capped c.self.inside.nodes.slots c.cap_below-doomed.new.nodes.slots c.self.inside.first c.self.inside.stamp c.self.inside.walk c.stamp_for-stamp.result c.args.top c.args.cap
      c.self.invariant.sound (caps_from_same c.self.inside.nodes.slots c.stamp_for-stamp.new.nodes.slots c.cap_below-doomed.new.nodes.slots c.args.top c.args.cap c.stamp_for-stamp.ensures.same c.cap_below-doomed.ensures.caps) c.cap_below-doomed.ensures.marks c.cap_below-doomed.ensures.stamped);
  indexed = indexed_same c.self.inside.nodes.slots c.cap_below-doomed.new.nodes.slots c.self.inside.pages c.self.inside.pages (caps_from_same c.self.inside.nodes.slots c.stamp_for-stamp.new.nodes.slots c.cap_below-doomed.new.nodes.slots c.args.top c.args.cap c.stamp_for-stamp.ensures.same c.cap_below-doomed.ensures.caps).spots_same refl refl c.self.invariant.indexed;
  stack = c.cap_below-doomed.ensures.stack;
}

pub returns-then-not-with_top-clause-below : goal.returns-then-not-with_top-clause-below
returns-then-not-with_top-clause-below c = grind (arith, view_caps, caps_from_same)

pub invariant_of-self-2 : goal.invariant_of-self-2
invariant_of-self-2 c = record {
  sound =
      subst (λ (w : ℕ). IsSound c.cap_at-self-inside.new.nodes.slots c.self.inside.first c.stamp_for-stamp.result w) (sym c.bits-walk.ensures)
      (sound_tree c.self.inside.nodes.slots c.cap_below-doomed.new.nodes.slots c.cap_at-self-inside.new.nodes.slots c.self.inside.first c.self.inside.stamp c.self.inside.walk c.stamp_for-stamp.result c.args.top c.args.cap
      c.self.invariant.sound (caps_from_same c.self.inside.nodes.slots c.stamp_for-stamp.new.nodes.slots c.cap_below-doomed.new.nodes.slots c.args.top c.args.cap c.stamp_for-stamp.ensures.same c.cap_below-doomed.ensures.caps) c.cap_below-doomed.ensures.marks c.cap_below-doomed.ensures.stamped c.cap_at-self-inside.ensures.caps);
  indexed = indexed_same c.self.inside.nodes.slots c.cap_at-self-inside.new.nodes.slots c.self.inside.pages c.self.inside.pages (λ k. c.cap_at-self-inside.ensures.caps.spots_same k ∙ (caps_from_same c.self.inside.nodes.slots c.stamp_for-stamp.new.nodes.slots c.cap_below-doomed.new.nodes.slots c.args.top c.args.cap c.stamp_for-stamp.ensures.same c.cap_below-doomed.ensures.caps).spots_same k) refl refl c.self.invariant.indexed;
  stack = c.cap_at-self-inside.ensures.stack;
}

pub returns-clause-tree : goal.returns-clause-tree
returns-clause-tree c = λ _.
    subst (λ (s : Linked). CapsTree c.args.top c.args.cap s.entries (entries_of c.cap_at-self-inside.new.nodes.slots)) c.self.view_is
    (view_tree c.self.inside.nodes.slots c.cap_below-doomed.new.nodes.slots c.cap_at-self-inside.new.nodes.slots c.self.inside.first c.self.inside.stamp c.self.inside.walk c.args.top c.args.cap
    c.self.invariant.sound (caps_from_same c.self.inside.nodes.slots c.stamp_for-stamp.new.nodes.slots c.cap_below-doomed.new.nodes.slots c.args.top c.args.cap c.stamp_for-stamp.ensures.same c.cap_below-doomed.ensures.caps) c.cap_at-self-inside.ensures.caps)
