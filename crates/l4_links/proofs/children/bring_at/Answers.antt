use Rattle.std.proofs.Common.{◌≡◌, Some, None, slice_index_or, refl, sym, ◌∙◌, inl, inr, arith}
use Rattle.l4_links.specs.Inside.Growing.{SharesSome}
use Rattle.l4_links.proofs.children.bring_at.Goals.{In-Some-at}
use Rattle.l4_links.proofs.children.bring_at.Goals as goal

pub returns-then-of-clause-lacked : goal.returns-then-of-clause-lacked
returns-then-of-clause-lacked c more room = let fits = room.slots in c.set_place.ensures.room more (record { slots = omega (arith, fits); notes = room.notes; keys = room.keys })

shares : (c : In-Some-at) → SharesSome c.in-Some.key c.args.of.now.rights c.args.nodes.now.slots
shares c = (c.in-Some-sharing.above, c.in-Some-sharing.ensures.0, c.in-Some-sharing.ensures.1)

shown : (c : In-Some-at) → slice_index_or c.args.source.now c.args.at.0 None ≡ Some c.in-Some.key
shown c = sym c.link-link.ensures ∙ sym c.key.ensures ∙ c.in-Some.is

taken : (c : In-Some-at) → slice_index_or c.args.target.now c.args.at.1 None ≡ Some c.in-Some-at.taken
taken c = sym c.at.ensures ∙ c.in-Some-at.is

pub renew-requires-clause-bare : goal.renew-requires-clause-bare
renew-requires-clause-bare c = let at = (goal.at.renew-requires-clause-bare c).In-Some-at in c.requires.can.bare c.in-Some.key c.in-Some-at.taken (shown at) (shares at) (taken at)

pub returns-in-Some-at-clause-enters : goal.returns-in-Some-at-clause-enters
returns-in-Some-at-clause-enters c =
    let at = (goal.at.returns-in-Some-at-clause-enters c).In-Some-at in
    inr (c.in-Some.key, shown at, inl (c.if-of.false, refl, inr (record { shares = shares at; key = c.in-Some-at.taken; taken = taken at; renews = c.renew.ensures.renews; same = refl })))

pub returns-in-Some-at-clause-lacked : goal.returns-in-Some-at-clause-lacked
returns-in-Some-at-clause-lacked c more room = let fits = room.slots in c.renew.ensures.room more (record { slots = omega (arith, fits); notes = room.notes; keys = room.keys })
