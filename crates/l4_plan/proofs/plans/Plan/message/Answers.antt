use Rattle.std.proofs.Common.{sym, subst, List}
use Rattle.l4_msg.specs.Regions.{IsPlan, part_of_list, part_of_region}
use Rattle.l4_msg.specs.declared.items.Item.{Item}
use Rattle.l4_msg.proofs.Parts.{part_is_plan}
use Rattle.l4_plan.proofs.plans.Plan.message.Goals as goal

pub returns-clause-moves : goal.returns-clause-moves
returns-clause-moves c size r h =
    let p = c.args.self.now in
    subst (λ (is : List Item). IsPlan size (part_of_region r p.pages c.args.number) is (part_of_list p.pages c.args.number)) (sym c.part.ensures.sends.items_are)
    (part_is_plan size r p.items p.pages h.sound.space h.plan c.args.number)
