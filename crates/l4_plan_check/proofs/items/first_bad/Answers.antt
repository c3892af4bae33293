use Rattle.std.proofs.Common.{◌≡◌, ◌∙◌, subst, arith, inl, inr, get_or}
use Rattle.std.proofs.lemmas.Bool.{cases_lt}
use Rattle.std.proofs.lemmas.List.{get_or_default}
use Rattle.l4_plan_check.specs.Claims.{IsGoodItem}
use Rattle.l4_plan_check.proofs.items.first_bad.Goals as goal

pub loop-i-preserved : goal.loop-i-preserved
loop-i-preserved c k d from below =
    let items = c.args.items.now in
    elim (cases_lt k c.loop-i.i) [
      | inl lt ↦ c.loop-i.invariant k d from lt
      | inr ge ↦
          let e : c.loop-i.i ≡ k = omega arith in
          let good : IsGoodItem c.args.size c.args.region.now c.index-items-i.result = c.is_good.ensures.0 c.if-not-is_good.false in
          let same : c.index-items-i.result ≡ get_or items c.loop-i.i d = c.index-items-i.is ∙ get_or_default items c.loop-i.i c.index-items-i.result d (omega arith) in
          rw (← e) (subst (IsGoodItem c.args.size c.args.region.now) same good)
    ]
