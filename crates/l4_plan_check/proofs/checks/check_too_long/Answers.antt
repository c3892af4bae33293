use Rattle.std.proofs.Common.{arith, refl}
use Rattle.l4_msg.proofs.Rivals.{certificate_bounds}
use Rattle.l4_msg.specs.Regions.{IsSound, IsCertificate}
use Rattle.l4_plan_check.proofs.Claims.{long_none_of, long_page_first, certificate_of}
use Rattle.l4_plan_check.proofs.checks.check_too_long.Goals as goal
use Rattle.l4_plan_check.proofs.Shared.{in_largest}

pub returns-in-Some-clause-first : goal.returns-in-Some-clause-first
returns-in-Some-clause-first c =
    let sound : IsSound c.args.size c.args.region.now = c.if-not-is_sound.ensures.0 refl in
    long_page_first c.args.size c.args.region.now c.args.pages.now c.in-Some.fault sound c.if-pages-ne-TOO_MANY.false c.in-Some.ensures

pub returns-in-None-clause-none : goal.returns-in-None-clause-none
returns-in-None-clause-none c fault =
    let sound : IsSound c.args.size c.args.region.now = c.if-not-is_sound.ensures.0 refl in
    long_none_of c.args.size c.args.region.now c.args.pages.now sound c.if-pages-ne-TOO_MANY.false c.in-None.ensures.0 c.in-None.ensures.1 fault

pub returns-in-None-clause-certificate : goal.returns-in-None-clause-certificate
returns-in-None-clause-certificate c = certificate_of c.args.region.now c.args.pages.now c.in-None.ensures.0 c.in-None.ensures.1

pub returns-in-None-clause-too_long : goal.returns-in-None-clause-too_long
returns-in-None-clause-too_long c rival h =
    let sound : IsSound c.args.size c.args.region.now = c.if-not-is_sound.ensures.0 refl in
    let cert : IsCertificate c.args.region.now c.args.pages.now = certificate_of c.args.region.now c.args.pages.now c.in-None.ensures.0 c.in-None.ensures.1 in
    omega (arith, c.if-pages-ne-TOO_MANY.false, certificate_bounds c.args.size c.args.region.now c.args.pages.now rival sound.space cert h)

pub page_fault-requires : goal.page_fault-requires
page_fault-requires c =
    let sound : IsSound c.args.size c.args.region.now = c.if-not-is_sound.ensures.0 refl in
    in_largest c.args.size c.args.region.now sound.space
