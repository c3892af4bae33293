use Rattle.std.proofs.Common.{arith, refl}
use Rattle.l4_msg.proofs.Rivals.{certificate_bounds}
use Rattle.l4_msg.specs.Regions.{IsSound, IsCertificate}
use Rattle.l4_plan_check.proofs.Claims.{Passed, none_of, page_first, rank_below, rival_of, certificate_of}
use Rattle.l4_plan_check.proofs.checks.check.Goals as goal
use Rattle.l4_plan_check.proofs.Shared.{in_largest}

pub returns-in-Some-first_gap-clause-first : goal.returns-in-Some-first_gap-clause-first
returns-in-Some-first_gap-clause-first c =
    let sound : IsSound c.args.size c.args.region.now = c.if-not-is_sound.ensures.0 refl in
    let passed : Passed c.args.size c.args.region.now c.args.items.now c.args.pages.now 2 = record {
      region = λ _. sound;
      good = λ _. c.in_default.ensures;
      gap = λ lt. absurd (omega arith);
      few = λ lt. absurd (omega arith);
      count = λ lt. absurd (omega arith);
      inside = λ lt. absurd (omega arith);
      pair = λ lt. absurd (omega arith);
    } in
    record { holds = c.in-Some-first_gap.ensures; earlier = none_of c.args.size c.args.region.now c.args.items.now c.args.pages.now 2 passed }

pub returns-in-Some-page_fault-clause-first : goal.returns-in-Some-page_fault-clause-first
returns-in-Some-page_fault-clause-first c =
    let sound : IsSound c.args.size c.args.region.now = c.if-not-is_sound.ensures.0 refl in
    let passed : Passed c.args.size c.args.region.now c.args.items.now c.args.pages.now 4 = record {
      region = λ _. sound;
      good = λ _. c.in_default.ensures;
      gap = λ _. c.in_default-first_gap.ensures;
      few = λ _. c.if-items-gt-MAX_PLAN_ITEMS.false;
      count = λ _. c.if-pages-items.false;
      inside = λ lt. absurd (omega arith);
      pair = λ lt. absurd (omega arith);
    } in
    page_first c.args.size c.args.region.now c.args.items.now c.args.pages.now c.in-Some-page_fault.fault passed c.in-Some-page_fault.ensures

pub returns-clause-none : goal.returns-clause-none
returns-clause-none c fault =
    let sound : IsSound c.args.size c.args.region.now = c.if-not-is_sound.ensures.0 refl in
    let passed : Passed c.args.size c.args.region.now c.args.items.now c.args.pages.now 6 = record {
      region = λ _. sound;
      good = λ _. c.in_default.ensures;
      gap = λ _. c.in_default-first_gap.ensures;
      few = λ _. c.if-items-gt-MAX_PLAN_ITEMS.false;
      count = λ _. c.if-pages-items.false;
      inside = λ _. c.in_default-page_fault.ensures.0;
      pair = λ _. c.in_default-page_fault.ensures.1;
    } in
    none_of c.args.size c.args.region.now c.args.items.now c.args.pages.now 6 passed fault (rank_below fault)

pub returns-clause-exact : goal.returns-clause-exact
returns-clause-exact c = rival_of c.args.size c.args.region.now c.args.items.now c.in_default.ensures c.in_default-first_gap.ensures

pub returns-clause-certificate : goal.returns-clause-certificate
returns-clause-certificate c = certificate_of c.args.region.now c.args.pages.now c.in_default-page_fault.ensures.0 c.in_default-page_fault.ensures.1

pub returns-clause-shortest : goal.returns-clause-shortest
returns-clause-shortest c rival h =
    let sound : IsSound c.args.size c.args.region.now = c.if-not-is_sound.ensures.0 refl in
    let cert : IsCertificate c.args.region.now c.args.pages.now = certificate_of c.args.region.now c.args.pages.now c.in_default-page_fault.ensures.0 c.in_default-page_fault.ensures.1 in
    omega (arith, c.if-pages-items.false, certificate_bounds c.args.size c.args.region.now c.args.pages.now rival sound.space cert h)

pub page_fault-requires : goal.page_fault-requires
page_fault-requires c =
    let sound : IsSound c.args.size c.args.region.now = c.if-not-is_sound.ensures.0 refl in
    in_largest c.args.size c.args.region.now sound.space
