use Rattle.std.proofs.Common.{arith}
use Rattle.l4_plan.proofs.Runs.{pass_none, pass_step}
use Rattle.l4_plan.proofs.splitting.pass.Goals as goal

pub loop-page-init : goal.loop-page-init
loop-page-init c = record { end = omega arith; few = omega arith; passes = pass_none c.args.region.now }

pub overflow_add-page : goal.overflow_add-page
overflow_add-page c =
    let s = c.requires in
    let next = pass_step c.args.region.now c.loop-page.page c.loop-page.blocks c.largest_allowed-log.result c.min-run.result s (omega (arith, c.min-run.ensures, c.run_of.ensures.some)) (λ i lt. c.run_of.ensures.same i (omega (arith, c.min-run.ensures))) c.loop-page.invariant.passes in
    omega (arith, next.to, s.source)

pub loop-page-preserved : goal.loop-page-preserved
loop-page-preserved c =
    let s = c.requires in
    record {
      end = omega arith;
      few = omega (arith, c.min-run.ensures);
      passes = pass_step c.args.region.now c.loop-page.page c.loop-page.blocks c.largest_allowed-log.result c.min-run.result s (omega (arith, c.min-run.ensures, c.run_of.ensures.some)) (λ i lt. c.run_of.ensures.same i (omega (arith, c.min-run.ensures))) c.loop-page.invariant.passes;
    }
