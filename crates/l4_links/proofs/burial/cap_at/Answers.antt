use Rattle.std.proofs.Common.{ℕ, Option, sym, ◌∙◌, subst}
use Rattle.l4_links.specs.Inside.Stacks.{HasStack}
use Rattle.l4_links.proofs.Stacking.{none_is, some_is, rights_written, caps_kept, caps_written, stack_left, stack_grown}
use Rattle.l4_links.proofs.burial.cap_at.Goals as goal

pub returns-then-is_empty-clause-caps : goal.returns-then-is_empty-clause-caps
returns-then-is_empty-clause-caps c =
    caps_kept c.args.nodes.now.slots c.args.key c.args.cap c.in-Some.node (sym c.node_of.ensures ∙ c.in-Some.is) (none_is c.in-Some.node.rights (sym c.is_empty.ensures ∙ c.if-is_empty.true))

pub returns-then-is_empty-2-clause-caps : goal.returns-then-is_empty-2-clause-caps
returns-then-is_empty-2-clause-caps c =
    caps_written c.args.nodes.now.slots c.set_rights.new.nodes.slots c.args.key c.args.cap c.intersection-rights.result c.args.doomed c.in-Some.node (sym c.node_of.ensures ∙ c.in-Some.is) c.intersection-rights.ensures (rights_written c.args.key c.intersection-rights.result c.args.doomed c.args.nodes.now.slots c.set_rights.new.nodes.slots c.in-Some.node (sym c.node_of.ensures ∙ c.in-Some.is) c.set_rights.ensures.sets)

pub returns-then-is_empty-2-clause-stack : goal.returns-then-is_empty-2-clause-stack
returns-then-is_empty-2-clause-stack c =
    subst (λ (o : Option ℕ). HasStack c.set_rights.new.nodes.slots o) (sym c.to.ensures)
    (stack_grown c.args.nodes.now.slots c.set_rights.new.nodes.slots c.args.key c.args.cap c.intersection-rights.result c.args.doomed c.in-Some.node (sym c.node_of.ensures ∙ c.in-Some.is) c.intersection-rights.ensures (rights_written c.args.key c.intersection-rights.result c.args.doomed c.args.nodes.now.slots c.set_rights.new.nodes.slots c.in-Some.node (sym c.node_of.ensures ∙ c.in-Some.is) c.set_rights.ensures.sets)
    (some_is c.in-Some.node.rights (sym c.is_empty.ensures ∙ c.if-is_empty.false)) (none_is c.intersection-rights.result (sym c.is_empty-2.ensures ∙ c.if-is_empty-2.true)) c.requires.stack)

pub returns-clause-caps : goal.returns-clause-caps
returns-clause-caps c =
    caps_written c.args.nodes.now.slots c.set_rights-2.new.nodes.slots c.args.key c.args.cap c.intersection-rights.result c.in-Some.node.doomed c.in-Some.node (sym c.node_of.ensures ∙ c.in-Some.is) c.intersection-rights.ensures (rights_written c.args.key c.intersection-rights.result c.in-Some.node.doomed c.args.nodes.now.slots c.set_rights-2.new.nodes.slots c.in-Some.node (sym c.node_of.ensures ∙ c.in-Some.is) c.set_rights-2.ensures.sets)

pub returns-clause-stack : goal.returns-clause-stack
returns-clause-stack c =
    stack_left c.args.nodes.now.slots c.set_rights-2.new.nodes.slots c.args.key c.args.cap c.intersection-rights.result c.in-Some.node.doomed c.in-Some.node (sym c.node_of.ensures ∙ c.in-Some.is) c.intersection-rights.ensures (rights_written c.args.key c.intersection-rights.result c.in-Some.node.doomed c.args.nodes.now.slots c.set_rights-2.new.nodes.slots c.in-Some.node (sym c.node_of.ensures ∙ c.in-Some.is) c.set_rights-2.ensures.sets)
    (some_is c.in-Some.node.rights (sym c.is_empty.ensures ∙ c.if-is_empty.false)) (some_is c.intersection-rights.result (sym c.is_empty-2.ensures ∙ c.if-is_empty-2.false)) c.args.doomed c.requires.stack
