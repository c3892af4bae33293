use Rattle.std.proofs.Common.{◌≡◌, IsTrue, sym, ap, ◌∙◌, subst}
use Rattle.std.specs.Ordering.{nat_cmp}
use Rattle.std.specs.FinSet as set
use Rattle.l4_spaces.specs.Tables.{Tables}
use Rattle.l4_links.specs.Entries.{Linked, MovesItems}
use Rattle.l4_links.specs.Inside.Growing.{AreGrowing}
use Rattle.l4_links.specs.Inside.Keeping.{seen, entries_of}
use Rattle.l4_links.proofs.Asides.{growing_first, indexed_last}
use Rattle.l4_links.proofs.Kept.{live_of, sound_live}
use Rattle.l4_links.proofs.Links.move_items.Goals.{After-take_tables-sources, After-bring_all-done, After-put_tables-2}
use Rattle.l4_links.proofs.Links.move_items.Goals as goal

-- nothing has changed yet
same : (c : After-take_tables-sources) → seen c.self.inside ≡ c.args.self.now
same c = c.self.view_is ∙ (c.move_alone.ensures.left c.if-move_alone.false).0

pub take_tables-targets-requires : goal.take_tables-targets-requires
take_tables-targets-requires c = record { there = subst (λ (s : Linked). IsTrue (set.contains s.spaces c.args.to)) (sym (c.self.view_is ∙ (c.move_alone.ensures.left c.if-move_alone.false).0)) c.requires.there }

pub take_tables-sources-requires : goal.take_tables-sources-requires
take_tables-sources-requires c =
    let left = c.move_alone.ensures.left c.if-move_alone.false in
    record { there = subst (λ (v : set.FinSet nat_cmp). IsTrue (set.contains v c.args.from)) (ap (λ (s : Linked). s.spaces) (sym (c.self.view_is ∙ left.0)) ∙ c.take_tables-targets.ensures.out.spaces) left.1 }

start : (c : After-take_tables-sources) → AreGrowing c.args.from c.args.to c.take_tables-sources.new.self c.take_tables-sources.result.items c.take_tables-targets.result.items c.self.inside.nodes.slots c.self.inside.first c.self.inside.doomed c.self.inside.stamp c.self.inside.pages
start c =
    growing_first c.args.from c.args.to c.self.inside.pages c.take_tables-targets.new.self c.take_tables-sources.new.self c.take_tables-sources.result.items c.take_tables-targets.result.items c.requires.differ c.take_tables-targets.ensures.out c.take_tables-sources.ensures.out
    c.self.inside.nodes.slots c.self.inside.first c.self.inside.doomed c.self.inside.stamp (live_of c.self.inside.nodes.slots c.self.inside.first c.self.inside.stamp c.self.inside.walk c.self.invariant.sound) c.self.invariant.stack c.self.invariant.indexed
    (subst (λ (s : Linked). IsTrue (set.contains s.spaces c.args.to)) (sym (same c)) c.requires.there)

pub bring_all-done-requires-clause-growing : goal.bring_all-done-requires-clause-growing
bring_all-done-requires-clause-growing c =
    (c.take_tables-sources.new.self, c.self.inside.first, c.self.inside.doomed, c.self.inside.stamp, c.self.inside.pages, start (goal.at.bring_all-done-requires-clause-growing c).After-take_tables-sources)

-- the tables of all spaces, once the pages have moved
later : (c : After-bring_all-done) → AreGrowing c.args.from c.args.to c.take_tables-sources.new.self c.take_tables-sources.result.items c.take_tables-targets.result.items c.self.inside.nodes.slots c.self.inside.first c.self.inside.doomed c.self.inside.stamp c.self.inside.pages
    → (all : Tables) × AreGrowing c.args.from c.args.to c.take_tables-sources.new.self c.bring_all-done.new.sources.items c.bring_all-done.new.targets.items c.bring_all-done.new.nodes.slots c.self.inside.first c.self.inside.doomed c.self.inside.stamp all
later c = c.bring_all-done.ensures.growing c.take_tables-sources.new.self c.self.inside.first c.self.inside.doomed c.self.inside.stamp c.self.inside.pages

pub put_tables-requires-clause-there : goal.put_tables-requires-clause-there
put_tables-requires-clause-there c =
    let left = c.move_alone.ensures.left c.if-move_alone.false in
    subst (λ (v : set.FinSet nat_cmp). IsTrue (set.contains v c.args.from)) (ap (λ (s : Linked). s.spaces) (sym (c.self.view_is ∙ left.0)) ∙ c.take_tables-targets.ensures.out.spaces ∙ c.take_tables-sources.ensures.out.spaces) left.1

pub put_tables-requires-clause-whole : goal.put_tables-requires-clause-whole
put_tables-requires-clause-whole c = let at = goal.at.put_tables-requires-clause-whole c in (later at.After-bring_all-done (start at.After-take_tables-sources)).1.source.whole

pub put_tables-requires-clause-full : goal.put_tables-requires-clause-full
put_tables-requires-clause-full c = let at = goal.at.put_tables-requires-clause-full c in (later at.After-bring_all-done (start at.After-take_tables-sources)).1.source.full

pub put_tables-requires-2-clause-there : goal.put_tables-requires-2-clause-there
put_tables-requires-2-clause-there c =
    subst (λ (v : set.FinSet nat_cmp). IsTrue (set.contains v c.args.to))
    (ap (λ (s : Linked). s.spaces) (sym (same (goal.at.put_tables-requires-2-clause-there c).After-take_tables-sources)) ∙ c.take_tables-targets.ensures.out.spaces ∙ c.take_tables-sources.ensures.out.spaces ∙ sym c.put_tables.ensures.back.spaces) c.requires.there

pub put_tables-requires-2-clause-whole : goal.put_tables-requires-2-clause-whole
put_tables-requires-2-clause-whole c = let at = goal.at.put_tables-requires-2-clause-whole c in (later at.After-bring_all-done (start at.After-take_tables-sources)).1.target.whole

pub put_tables-requires-2-clause-full : goal.put_tables-requires-2-clause-full
put_tables-requires-2-clause-full c = let at = goal.at.put_tables-requires-2-clause-full c in (later at.After-bring_all-done (start at.After-take_tables-sources)).1.target.full

pub invariant_of-self : goal.invariant_of-self
invariant_of-self c =
    let at = goal.at.invariant_of-self c in
    let l = later at.After-bring_all-done (start at.After-take_tables-sources) in
    record {
      sound = sound_live c.bring_all-done.new.nodes.slots c.self.inside.first c.self.inside.stamp c.fresh-self-inside.result c.self.inside.walk l.1.live c.fresh-self-inside.ensures;
      indexed =
          indexed_last c.args.from c.args.to c.take_tables-sources.new.self c.put_tables.new.self c.put_tables-2.new.self l.0 c.bring_all-done.new.sources.items c.bring_all-done.new.targets.items c.put_tables.ensures.back c.put_tables-2.ensures.back
          c.bring_all-done.new.nodes.slots c.self.inside.first c.self.inside.doomed c.self.inside.stamp l.1;
      stack = l.1.stack;
    }

spaces_same : (c : After-put_tables-2) → c.put_tables-2.new.self.spaces ≡ c.self.inside.pages.spaces
spaces_same c = c.put_tables-2.ensures.back.spaces ∙ c.put_tables.ensures.back.spaces ∙ sym c.take_tables-sources.ensures.out.spaces ∙ sym c.take_tables-targets.ensures.out.spaces

pub returns-clause-moves : goal.returns-clause-moves
returns-clause-moves c = λ done.
    subst (λ (s : Linked). MovesItems c.args.from c.args.to c.args.items.now s.entries (entries_of c.bring_all-done.new.nodes.slots)) (same (goal.at.returns-clause-moves c).After-take_tables-sources) (c.bring_all-done.ensures.moves done)

pub returns-clause-left : goal.returns-clause-left
returns-clause-left c = λ f.
    let at = goal.at.returns-clause-left c in
    (λ i. record { entries = entries_of (c.bring_all-done.ensures.left f i); spaces = spaces_same at.After-put_tables-2 i }) ∙ same at.After-take_tables-sources

pub returns-clause-spaces : goal.returns-clause-spaces
returns-clause-spaces c = let at = goal.at.returns-clause-spaces c in spaces_same at.After-put_tables-2 ∙ ap (λ (s : Linked). s.spaces) (same at.After-take_tables-sources)
