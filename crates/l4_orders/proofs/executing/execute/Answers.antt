use Rattle.std.proofs.Common.{◌∙◌, sym, ap, refl, []}
use Rattle.l4_orders.specs.declared.lacking.Lack.{Lack}
use Rattle.l4_orders.specs.Inside.Lacking.{first_lack}
use Rattle.l4_orders.proofs.Filled.{reports_full}
use Rattle.l4_orders.proofs.Noting.{lacks_nothing}
use Rattle.l4_orders.proofs.executing.execute.Goals as goal

pub returns-in-Nothing : goal.returns-in-Nothing
returns-in-Nothing c =
    let told = c.answer_line.ensures.0 in
    let noted = c.answer_line.ensures.2 c.new-sink.result [] refl in
    (told, c.answer_line.ensures.1, lacks_nothing told (sym (ap (λ (l : Lack). first_lack l told) c.new-sink.ensures) ∙ sym noted ∙ sym c.lack.ensures ∙ c.in-Nothing.is))

pub returns-in-History : goal.returns-in-History
returns-in-History c _ =
    let told = c.answer_line.ensures.0 in
    let noted = c.answer_line.ensures.2 c.new-sink.result [] refl in
    (told, c.answer_line.ensures.1, reports_full told (sym (ap (λ (l : Lack). first_lack l told) c.new-sink.ensures) ∙ sym noted ∙ sym c.lack.ensures ∙ c.in-History.is))
