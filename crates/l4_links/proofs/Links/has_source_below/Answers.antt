use Rattle.std.proofs.Common.{◌≡◌, ℕ, sym, subst, ◌∙◌, refl}
use Rattle.l4_links.specs.Entries.{Linked, entry_at, Descends, IsSource}
use Rattle.l4_links.specs.Inside.Keeping.{entries_of}
use Rattle.l4_links.proofs.Renewing.{there_same, some_node, meets_from_same, none_from_same}
use Rattle.l4_links.proofs.Seeking.{same_on}
use Rattle.l4_links.proofs.Kept.{seen_for, sound_found, sound_sought}
use Rattle.l4_links.proofs.Views.{view_same, view_meets, view_none, nothing_below}
use Rattle.l4_links.proofs.Naming.{indexed_same}
use Rattle.l4_links.proofs.Stacking.{stack_same}
use Rattle.l4_links.proofs.Links.has_source_below.Goals as goal

pub returns-in_default-clause-no : goal.returns-in_default-clause-no
returns-in_default-clause-no c _ =
    subst (λ (s : Linked). (low : ℕ) → Descends s.entries low c.args.top → ¬ (IsSource s.entries low)) c.self.view_is
    (λ low d _. nothing_below c.self.inside.nodes.slots c.self.inside.first c.self.inside.stamp c.self.inside.walk c.args.top low c.self.invariant.sound (sym c.node_of.ensures ∙ c.in_default.is) d)

pub has_source-requires : goal.has_source-requires
has_source-requires c =
    let old = c.self.inside.nodes.slots in
    let new = c.stamp_for-stamp.new.nodes.slots in
    let m = seen_for old new c.self.inside.first c.self.inside.stamp c.self.inside.walk c.stamp_for-stamp.result c.self.invariant.sound c.stamp_for-stamp.ensures.same c.stamp_for-stamp.ensures.begins in
    record { seen = m.0; stamped = m.1; there = there_same old new c.args.top c.stamp_for-stamp.ensures.same (some_node (sym c.node_of.ensures ∙ c.in-Some.is)) }

pub invariant_of-self : goal.invariant_of-self
invariant_of-self c = record {
  sound = search (sound_found, same_on);
  indexed = indexed_same c.self.inside.nodes.slots c.has_source.new.nodes.slots c.self.inside.pages c.self.inside.pages (same_on c.self.inside.nodes.slots c.stamp_for-stamp.new.nodes.slots c.has_source.new.nodes.slots c.stamp_for-stamp.ensures.same c.has_source.ensures.same).spots_same refl refl c.self.invariant.indexed;
  stack = stack_same c.self.inside.nodes.slots c.has_source.new.nodes.slots c.self.inside.doomed (same_on c.self.inside.nodes.slots c.stamp_for-stamp.new.nodes.slots c.has_source.new.nodes.slots c.stamp_for-stamp.ensures.same c.has_source.ensures.same).dooms_same c.self.invariant.stack;
}

pub returns-then-has_source-clause-same : goal.returns-then-has_source-clause-same
returns-then-has_source-clause-same c =
    subst (λ (s : Linked). (key : ℕ) → entry_at (entries_of c.has_source.new.nodes.slots) key ≡ entry_at s.entries key) c.self.view_is (view_same c.self.inside.nodes.slots c.has_source.new.nodes.slots (same_on c.self.inside.nodes.slots c.stamp_for-stamp.new.nodes.slots c.has_source.new.nodes.slots c.stamp_for-stamp.ensures.same c.has_source.ensures.same))

pub returns-then-has_source-clause-yes : goal.returns-then-has_source-clause-yes
returns-then-has_source-clause-yes c _ =
    subst (λ (s : Linked). (low : ℕ) × Descends s.entries low c.args.top × IsSource s.entries low) c.self.view_is (view_meets c.self.inside.nodes.slots c.args.top (meets_from_same c.self.inside.nodes.slots c.stamp_for-stamp.new.nodes.slots c.args.top c.stamp_for-stamp.ensures.same (c.has_source.ensures.yes c.if-has_source.true)))

pub invariant_of-self-else-has_source : goal.invariant_of-self-else-has_source
invariant_of-self-else-has_source c = record {
  sound =
      sound_sought c.self.inside.nodes.slots c.has_source.new.nodes.slots c.self.inside.first c.self.inside.stamp c.self.inside.walk c.stamp_for-stamp.result
      c.self.invariant.sound (same_on c.self.inside.nodes.slots c.stamp_for-stamp.new.nodes.slots c.has_source.new.nodes.slots c.stamp_for-stamp.ensures.same c.has_source.ensures.same) (c.has_source.ensures.no c.if-has_source.false).1 c.has_source.ensures.stamped;
  indexed = indexed_same c.self.inside.nodes.slots c.has_source.new.nodes.slots c.self.inside.pages c.self.inside.pages (same_on c.self.inside.nodes.slots c.stamp_for-stamp.new.nodes.slots c.has_source.new.nodes.slots c.stamp_for-stamp.ensures.same c.has_source.ensures.same).spots_same refl refl c.self.invariant.indexed;
  stack = stack_same c.self.inside.nodes.slots c.has_source.new.nodes.slots c.self.inside.doomed (same_on c.self.inside.nodes.slots c.stamp_for-stamp.new.nodes.slots c.has_source.new.nodes.slots c.stamp_for-stamp.ensures.same c.has_source.ensures.same).dooms_same c.self.invariant.stack;
}

pub returns-clause-same : goal.returns-clause-same
returns-clause-same c =
    subst (λ (s : Linked). (key : ℕ) → entry_at (entries_of c.has_source.new.nodes.slots) key ≡ entry_at s.entries key) c.self.view_is (view_same c.self.inside.nodes.slots c.has_source.new.nodes.slots (same_on c.self.inside.nodes.slots c.stamp_for-stamp.new.nodes.slots c.has_source.new.nodes.slots c.stamp_for-stamp.ensures.same c.has_source.ensures.same))

pub returns-clause-no : goal.returns-clause-no
returns-clause-no c _ =
    subst (λ (s : Linked). (low : ℕ) → Descends s.entries low c.args.top → ¬ (IsSource s.entries low)) c.self.view_is (view_none c.self.inside.nodes.slots c.args.top (none_from_same c.self.inside.nodes.slots c.stamp_for-stamp.new.nodes.slots c.args.top c.stamp_for-stamp.ensures.same (c.has_source.ensures.no c.if-has_source.false).0))
