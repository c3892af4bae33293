use Rattle.std.proofs.Common.{List, inr, subst}
use Rattle.l4_msg.specs.declared.items.Item.{Item}
use Rattle.l4_msg.specs.declared.regions.Region.{Region}
use Rattle.l4_c_values.specs.Regions.{region_of}
use Rattle.l4_c.specs.Checked.{IsProved}
use Rattle.l4_c.proofs.checking.judged.Goals as goal

pub returns-in-Ok-check : goal.returns-in-Ok-check
returns-in-Ok-check c =
    let said = c.in-Ok-check.ensures in let pages = c.args.pages.now in
    let proved : IsProved c.args.size c.region_of.result c.as_slice.result.now pages = record {
      none = said.none;
      exact = said.exact;
      certificate = said.certificate;
      one_each = said.one_each;
      few = said.few;
      shortest = said.shortest;
    } in
    let here = subst (λ (r : Region). IsProved c.args.size r c.as_slice.result.now pages) c.region_of.ensures proved in
    inr (c.in-Ok.items.items, c.in-Ok.ensures.ok, inr (subst (λ (items : List Item). IsProved c.args.size (region_of c.args.given.now) items pages) c.as_slice.ensures.value here, c.verdict_of-in-Ok-check.ensures))
