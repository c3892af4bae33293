use Rattle.std.proofs.Common.{◌≡◌, ◌+◌, ◌-◌, ◌^◌, ℕ, Some, None, IsTrue, false, length, refl, sym, ap, ◌∙◌, subst, slice_get, arith}
use Rattle.std.specs.FinMap as map
use Rattle.std.specs.FinSet as set
use Rattle.l4_fpage.specs.Rights.{common}
use Rattle.l4_spaces.specs.Tables.{key_of, IsPage}
use Rattle.l4_nodes.specs.Slots.{Slots, node_at}
use Rattle.l4_links.specs.declared.blocks.Pages.{Pages}
use Rattle.l4_links.specs.Entries.{Linked, MovesItems}
use Rattle.l4_links.specs.Inside.Growing.{SharesNone}
use Rattle.l4_links.specs.Inside.Keeping.{entries_of}
use Rattle.l4_links.specs.Inside.Nodes.{AddsUnder}
use Rattle.l4_links.proofs.Adding.{blank_of}
use Rattle.l4_links.proofs.Alone.{nothing_moves, alone_passed, alone_added}
use Rattle.l4_links.proofs.Items.{read_there}
use Rattle.l4_links.proofs.Kept.{nodes_blank, sound_nodes, sound_child}
use Rattle.l4_links.proofs.Naming.{unnamed, indexed_same, indexed_added}
use Rattle.l4_links.proofs.Stacking.{stack_nodes, stack_comes}
use Rattle.l4_links.proofs.Writes.{same_some, no_some}
use Rattle.l4_links.proofs.Links.move_alone.Goals.{After-get, After-make_key, After-add_under}
use Rattle.l4_links.proofs.Links.move_alone.Goals as goal

pub returns-then-not-has-clause-moves : goal.returns-then-not-has-clause-moves
returns-then-not-has-clause-moves c = λ _.
    subst (λ (s : Linked). MovesItems c.args.from c.args.to c.args.items.now s.entries s.entries) c.self.view_is
    (nothing_moves c.args.from c.args.to c.args.items.now c.self.inside.nodes.slots c.self.inside.pages c.self.invariant.indexed (sym c.has.ensures ∙ c.if-not-has.true))

-- the space is there
there : (c : After-get) → IsTrue (set.contains c.args.self.now.spaces c.args.from)
there c = ap (λ (s : Linked). set.contains s.spaces c.args.from) (sym c.self.view_is) ∙ sym c.has.ensures ∙ c.if-not-has.false

-- the only item, which maps one page
one : (c : After-get) → length c.args.items.now ≡ 1
one c = omega (arith, c.if-items-ne1.false)

item : (c : After-get) → slice_get c.args.items.now 0 ≡ Some c.index-items-0.result
item c = read_there c.args.items.now 0 c.index-items-0.result (let n = one c in omega (arith, n)) c.index-items-0.is

single : (c : After-get) → c.pages_of-of.result.end ≡ c.pages_of-of.result.source.page + 1
single c = omega (arith, c.if-of-ne1.false)

from_is : (c : After-get) → c.args.from ≡ c.pages_of-of.result.source.space
from_is c = ap (λ (p : Pages). p.source.space) (sym c.pages_of-of.ensures)

named : (c : After-get) → key_of c.self.inside.pages c.pages_of-of.result.source.space c.pages_of-of.result.source.page ≡ c.get.result
named c = ap (λ (z : ℕ). key_of c.self.inside.pages z c.pages_of-of.result.source.page) (sym (from_is c)) ∙ sym c.get.ensures.value

passed : (c : After-get) → ((k : ℕ) → c.get.result ≡ Some k → SharesNone k c.pages_of-of.result.rights c.self.inside.nodes.slots) → MovesItems c.args.from c.args.to c.args.items.now c.args.self.now.entries c.args.self.now.entries
passed c none =
    subst (λ (s : Linked). MovesItems c.args.from c.args.to c.args.items.now s.entries s.entries) c.self.view_is
    (alone_passed c.args.from c.args.to c.args.items.now c.index-items-0.result (one c) (item c) c.pages_of-of.result c.pages_of-of.ensures c.if-of.false (single c) c.self.inside.nodes.slots c.self.inside.pages c.self.invariant.indexed
    (λ k is. none k (sym (named c) ∙ is)))

pub returns-in_default-clause-moves : goal.returns-in_default-clause-moves
returns-in_default-clause-moves c = λ _. passed (goal.at.returns-in_default-clause-moves c).After-get (λ k is. absurd (c.in_default.not-Some k is))

pub returns-in_default-sharing-clause-moves : goal.returns-in_default-sharing-clause-moves
returns-in_default-sharing-clause-moves c = λ _.
    passed (goal.at.returns-in_default-sharing-clause-moves c).After-get
    (λ k is. subst (λ (z : ℕ). SharesNone z c.pages_of-of.result.rights c.self.inside.nodes.slots) (same_some (sym c.in-Some.is ∙ is)) c.in_default-sharing.ensures)

-- room for one more slot changes nothing that a contract sees
left : (c : After-make_key) → ◌≡◌ {A = Linked} (record { entries = entries_of c.make_key.new.self.slots; spaces = c.self.inside.pages.spaces }) c.args.self.now
left c = ap (λ (s : Slots). record { entries = entries_of s; spaces = c.self.inside.pages.spaces }) c.make_key.ensures.same ∙ c.self.view_is

pub returns-in_default-make_key-clause-left : goal.returns-in_default-make_key-clause-left
returns-in_default-make_key-clause-left c = λ _. let at = goal.at.returns-in_default-make_key-clause-left c in (left at.After-make_key, there at.After-get)

pub claim-requires-clause-there : goal.claim-requires-clause-there
claim-requires-clause-there c = subst (λ (s : Linked). IsTrue (set.contains s.spaces c.args.to)) (sym c.self.view_is) c.requires.there

-- the place is one
fits : (c : After-get) → IsPage c.pages_of-of.result.target.page
fits c =
    let goes : c.pages_of-of.result.target.page ≡ c.index-items-0.result.mv.target.first = ap (λ (p : Pages). p.target.page) c.pages_of-of.ensures in
    let inside = c.index-items-0.result.mv.target.block.inside in
    let size : 2 ^ c.index-items-0.result.mv.source.log ≡ 2 ^ c.index-items-0.result.mv.target.log = ap (λ (k : ℕ). 2 ^ k) c.index-items-0.result.mv.same_size in
    let from : c.pages_of-of.result.source.page ≡ c.index-items-0.result.mv.source.first = ap (λ (p : Pages). p.source.page) c.pages_of-of.ensures in
    let end : c.pages_of-of.result.end ≡ c.index-items-0.result.mv.source.first + 2 ^ c.index-items-0.result.mv.source.log = ap (λ (p : Pages). p.end) c.pages_of-of.ensures in
    let alone = single c in
    omega (arith, goes, inside, size, from, end, alone)

pub claim-requires-clause-fits : goal.claim-requires-clause-fits
claim-requires-clause-fits c = fits (goal.at.claim-requires-clause-fits c).After-get

pub add_under-requires-clause-fits : goal.add_under-requires-clause-fits
add_under-requires-clause-fits c = fits (goal.at.add_under-requires-clause-fits c).After-get

pub returns-in_default-claim-clause-left : goal.returns-in_default-claim-clause-left
returns-in_default-claim-clause-left c = λ _.
    let at = goal.at.returns-in_default-claim-clause-left c in
    ((λ i. record { entries = entries_of c.make_key.new.self.slots; spaces = (c.in_default-claim.ensures.err.1 i).spaces }) ∙ left at.After-make_key, there at.After-get)

pub returns-then-not-claimed-clause-left : goal.returns-then-not-claimed-clause-left
returns-then-not-claimed-clause-left c = λ _.
    let at = goal.at.returns-then-not-claimed-clause-left c in
    ((λ i. record { entries = entries_of c.make_key.new.self.slots; spaces = ((c.in-Ok-claim.ensures.present c.if-not-claimed.true).1 i).spaces }) ∙ left at.After-make_key, there at.After-get)

-- how the slots have changed: as if a blank had come first under the vacant key, which leaves all nodes as they were
adds : (c : After-add_under) → AddsUnder c.in-Some.key c.pages_of-of.result.target c.in-Some-sharing.above c.pages_of-of.result.rights c.self.inside.nodes.slots c.add_under.new.nodes.slots c.in-Ok.child
adds c =
    subst (λ (k : ℕ). AddsUnder c.in-Some.key c.pages_of-of.result.target c.in-Some-sharing.above c.pages_of-of.result.rights c.self.inside.nodes.slots c.add_under.new.nodes.slots k) (sym c.in-Ok.ensures.key.0)
    (subst (λ (s : Slots). AddsUnder c.in-Some.key c.pages_of-of.result.target c.in-Some-sharing.above c.pages_of-of.result.rights s c.add_under.new.nodes.slots c.make_key.new.self.vacant_key) c.make_key.ensures.same c.add_under.ensures.adds)

same : (c : After-add_under) (k : ℕ) → node_at (adds c).middle k ≡ node_at c.self.inside.nodes.slots k
same c = nodes_blank c.self.inside.nodes.slots (adds c).middle c.in-Ok.child (blank_of c.pages_of-of.result.target) refl (adds c).blanks.vacant (adds c).blanks.filled (adds c).blanks.others

-- the place has no key, by the tables
to_is : (c : After-add_under) → c.args.to ≡ c.pages_of-of.result.target.space
to_is c = ap (λ (p : Pages). p.target.space) (sym c.pages_of-of.ensures)

free : (c : After-add_under) → key_of c.self.inside.pages c.pages_of-of.result.target.space c.pages_of-of.result.target.page ≡ None
free c = ap (λ (z : ℕ). key_of c.self.inside.pages z c.pages_of-of.result.target.page) (sym (to_is c)) ∙ (c.in-Ok-claim.ensures.claimed c.if-not-claimed.false).0

pub invariant_of-self-2 : goal.invariant_of-self-2
invariant_of-self-2 c =
    let at = goal.at.invariant_of-self-2 c in
    let a = at.After-add_under in
    record {
      sound =
          sound_child (adds a).middle c.add_under.new.nodes.slots c.self.inside.first c.self.inside.stamp c.fresh-self-inside.result c.self.inside.walk c.in-Some.key c.in-Ok.child c.in-Some-sharing.above c.pages_of-of.result.rights
          (sound_nodes c.self.inside.nodes.slots (adds a).middle (same a) c.self.inside.first c.self.inside.stamp c.self.inside.walk c.self.invariant.sound)
          (same a c.in-Some.key ∙ c.in-Some-sharing.ensures.0) (adds a).sprouts (adds a).comes (adds a).forest c.fresh-self-inside.ensures;
      indexed =
          indexed_same (adds a).middle c.add_under.new.nodes.slots c.claim.new.self c.claim.new.self (adds a).comes.spots_same refl refl
          (indexed_added c.self.inside.nodes.slots (adds a).middle c.self.inside.pages c.claim.new.self c.pages_of-of.result.target c.in-Ok.child (blank_of c.pages_of-of.result.target) c.self.invariant.indexed
          (unnamed c.self.inside.nodes.slots c.self.inside.pages c.self.invariant.indexed c.pages_of-of.result.target (free a))
          c.in-Ok.ensures.key.1 (adds a).blanks.vacant refl (adds a).blanks.filled (adds a).blanks.others
          (subst (λ (z : ℕ). IsTrue (set.contains c.self.inside.pages.spaces z)) (to_is a) (subst (λ (s : Linked). IsTrue (set.contains s.spaces c.args.to)) (sym c.self.view_is) c.requires.there)) (fits at.After-get)
          (subst (λ (z : ℕ). c.claim.new.self.pages ≡ map.insert c.self.inside.pages.pages (z, c.pages_of-of.result.target.page) c.in-Ok.child) (to_is a) (c.in-Ok-claim.ensures.claimed c.if-not-claimed.false).1) c.claim.ensures.spaces);
      stack =
          stack_comes (record { frame = c.in-Some-sharing.above.frame; rights = common c.in-Some-sharing.above.rights c.pages_of-of.result.rights; source = false; granted = None }) c.in-Ok.child (adds a).middle c.add_under.new.nodes.slots c.self.inside.doomed
          (adds a).comes c.in-Some-sharing.ensures.1 (stack_nodes c.self.inside.nodes.slots (adds a).middle c.self.inside.doomed (same a) c.self.invariant.stack);
    }

pub returns-clause-moves : goal.returns-clause-moves
returns-clause-moves c = λ _.
    let at = goal.at.returns-clause-moves c in
    subst (λ (s : Linked). MovesItems c.args.from c.args.to c.args.items.now s.entries (entries_of c.add_under.new.nodes.slots)) c.self.view_is
    (alone_added c.args.from c.args.to c.args.items.now c.index-items-0.result (one at.After-get) (item at.After-get) c.pages_of-of.result c.pages_of-of.ensures c.if-of.false (single at.After-get) c.self.inside.nodes.slots c.self.inside.pages
    c.self.invariant.indexed c.in-Some.key (named at.After-get ∙ c.in-Some.is) c.in-Some-sharing.above c.in-Some-sharing.ensures.0 c.in-Some-sharing.ensures.1 (free at.After-add_under) c.add_under.new.nodes.slots c.in-Ok.child (adds at.After-add_under))
