use Rattle.std.proofs.Common.{◌≡◌, sym, ap, ◌∙◌, length, arith, subst}
use Rattle.l4_msg.specs.Regions.{AreWholeInParts, NeedsMessages, messages_of}
use Rattle.l4_msg.proofs.Parts.{messages_bound, parts_are_whole}
use Rattle.l4_plan.specs.Plan.{Listing}
use Rattle.l4_plan.proofs.Listed.{length_items}
use Rattle.l4_plan.proofs.plans.Plan.messages.Goals as goal

pub returns-clause-value : goal.returns-clause-value
returns-clause-value c =
    let e : c.self.inside.items ≡ length c.args.self.now.items = sym (length_items c.self.inside.size c.self.inside.region c.self.inside.region.source c.self.inside.items) ∙ ap (λ (p : Listing). length p.items) c.self.view_is in
    omega (arith, c.div_ceil.ensures)

pub returns-clause-fewest : goal.returns-clause-fewest
returns-clause-fewest c size r h =
    let e : c.self.inside.items ≡ length c.args.self.now.items = sym (length_items c.self.inside.size c.self.inside.region c.self.inside.region.source c.self.inside.items) ∙ ap (λ (p : Listing). length p.items) c.self.view_is in
    let value : messages_of (length c.args.self.now.items) ≡ c.div_ceil.result = omega (arith, c.div_ceil.ensures) in
    subst (NeedsMessages size r) value (messages_bound size r (length c.args.self.now.items) h.shortest)

pub returns-clause-whole : goal.returns-clause-whole
returns-clause-whole c size r h =
    let e : c.self.inside.items ≡ length c.args.self.now.items = sym (length_items c.self.inside.size c.self.inside.region c.self.inside.region.source c.self.inside.items) ∙ ap (λ (p : Listing). length p.items) c.self.view_is in
    let value : messages_of (length c.args.self.now.items) ≡ c.div_ceil.result = omega (arith, c.div_ceil.ensures) in
    subst (AreWholeInParts r c.args.self.now.pages) value (parts_are_whole size r c.args.self.now.items c.args.self.now.pages h.sound.space h.plan)
