use Rattle.std.proofs.Common.{ap, Some, sym, subst, ◌∙◌}
use Rattle.l4_nodes.specs.Slots.{SetsRights}
use Rattle.l4_links.proofs.Replacing.{live_unlinked, renewed_own, renewed_other}
use Rattle.l4_links.proofs.children.renew.Goals as goal

pub returns-then-own-parent-clause-renews : goal.returns-then-own-parent-clause-renews
returns-then-own-parent-clause-renews c =
    let shares = c.requires.shares in
    let live = c.requires.live in
    renewed_own c.args.nodes.now.slots c.set_rights.new.nodes.slots c.args.parent c.args.key c.args.rights shares.0 shares.1 (λ none. shares.3 (shares.2 ∙ none)) c.requires.apart c.requires.spare c.requires.bare
    live.0 live.1 live.2 c.in-Some.node (sym c.node_of.ensures ∙ c.in-Some.is) (sym c.key.ensures ∙ c.in-Some-key.is ∙ ap (λ k. Some k) c.if-own-parent.true)
    (subst (λ r. SetsRights c.args.key r c.in-Some.node.doomed c.args.nodes.now.slots c.set_rights.new.nodes.slots) shares.2 c.set_rights.ensures.sets)

pub link_under-requires-clause-forest : goal.link_under-requires-clause-forest
link_under-requires-clause-forest c =
    let live = c.requires.live in
    let l = live_unlinked c.args.nodes.now.slots c.unlink.new.nodes.slots c.args.key c.requires.spare c.unlink.ensures.parts c.unlink.ensures.order live.0 live.1 live.2 in
    (l.keys, l.forest)

pub returns-clause-renews : goal.returns-clause-renews
returns-clause-renews c =
    let shares = c.requires.shares in
    renewed_other c.args.nodes.now.slots c.link_under.new.nodes.slots c.args.parent c.args.key c.args.rights shares.0 shares.1 (λ none. shares.3 (shares.2 ∙ none)) c.requires.apart c.requires.spare c.requires.bare
    c.unlink.new.nodes.slots c.unlink.ensures.parts c.unlink.ensures.order c.in-Some-node_of.above (sym c.node_of-2.ensures ∙ c.in-Some-node_of.is) c.link_under.ensures.sprouts c.link_under.ensures.comes c.link_under.ensures.forest

pub returns-clause-room : goal.returns-clause-room
returns-clause-room c more room = c.link_under.ensures.room more (c.unlink.ensures.room more room)
