use Rattle.std.proofs.Common.{arith, ℕ, Option, Some, None, false, refl, subst}
use Rattle.l4_fpage.specs.Rights.{RightsSet}
use Rattle.l4_nodes.specs.declared.nodes.Node.{Node}
use Rattle.l4_nodes.specs.Slots.{Writes, SetsPrev, unnoted}
use Rattle.l4_links.proofs.Writes.{slot_key}
use Rattle.l4_links.proofs.Roots.{forest_root, rises, no_next}
use Rattle.l4_links.proofs.Neighbours.{comes_in}
use Rattle.l4_links.proofs.lists.link_root.Goals as goal

pub to-at-requires : goal.to-at-requires
to-at-requires c = slot_key c.args.nodes.now.slots c.args.key c.requires.few c.requires.room

abbrev root : ℕ → RightsSet → Option ℕ → Option ℕ → Node
root frame rights first none = record {
  frame = frame;
  rights = rights;
  source = false;
  granted = None;
  depth = 0;
  seen = 0;
  mark = 0;
  end = none;
  parent = none;
  prev = none;
  next = first;
  doomed = none;
}

written : (c : goal.After-set_prev) → Writes c.args.key (Some (root c.args.frame c.args.rights c.args.first None)) c.args.nodes.now.slots c.write.new.nodes.slots
written c = subst (λ (o : Option ℕ). Writes c.args.key (Some (unnoted (root c.args.frame c.args.rights c.args.first o))) c.args.nodes.now.slots c.write.new.nodes.slots) c.none-none.ensures c.write.ensures.writes

before : (c : goal.After-set_prev) → SetsPrev c.args.first (Some c.args.key) c.write.new.nodes.slots c.set_prev.new.nodes.slots
before c = subst (λ (o : Option ℕ). SetsPrev c.args.first o c.write.new.nodes.slots c.set_prev.new.nodes.slots) c.to-at.ensures c.set_prev.ensures.sets

pub returns-clause-rises : goal.returns-clause-rises
returns-clause-rises c = search (rises, written, before, arith)

pub returns-clause-comes : goal.returns-clause-comes
returns-clause-comes c =
    comes_in c.args.nodes.now.slots c.write.new.nodes.slots c.set_prev.new.nodes.slots c.set_prev.new.nodes.slots c.args.key (root c.args.frame c.args.rights c.args.first None)
    None None c.args.first (Some c.args.key) c.requires.blank c.requires.room (written c) (before c) (no_next c.set_prev.new.nodes.slots) refl refl

pub returns-clause-forest : goal.returns-clause-forest
returns-clause-forest c ks forest first =
    forest_root c.args.nodes.now.slots c.write.new.nodes.slots c.set_prev.new.nodes.slots c.args.key (root c.args.frame c.args.rights c.args.first None) c.args.first ks forest first
    c.requires.room c.requires.blank (written c) (before c) refl refl (returns-clause-rises c)
