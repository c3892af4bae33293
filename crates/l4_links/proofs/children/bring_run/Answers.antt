use Rattle.std.proofs.Common.{◌≡◌, ◌+◌, ℕ, None, length, slice_index_or, subst, arith}
use Rattle.l4_spaces.specs.Tables.{table_pages}
use Rattle.l4_nodes.specs.declared.Place.{Place}
use Rattle.l4_links.specs.Inside.Growing.{Enters, BringsRow}
use Rattle.l4_links.proofs.RowSteps.{run_first, can_next, can_enter, run_more}
use Rattle.l4_links.proofs.children.bring_run.Goals as goal

pub loop-step-init : goal.loop-step-init
loop-step-init c = record {
  brings = run_first c.args.of.now c.args.page c.args.run.now.from c.args.run.now.to c.args.run.now.entries c.args.source.now c.args.target.now c.args.nodes.now;
  within = omega arith;
}

pub place_for-here-requires-clause-after : goal.place_for-here-requires-clause-after
place_for-here-requires-clause-after c = let from = c.requires.can.start.from in omega (arith, from)

pub place_for-here-requires-clause-fits : goal.place_for-here-requires-clause-fits
place_for-here-requires-clause-fits c =
    let before = c.requires.can.before in
    let fits = c.requires.fits in
    let lt = c.loop-step-test.true in
    let from = c.requires.can.start.from in
    omega (arith, from, before, fits, lt)

pub bring_at-requires-clause-from : goal.bring_at-requires-clause-from
bring_at-requires-clause-from c =
    let whole : length c.loop-step.source ≡ table_pages = (c.loop-step.invariant.brings c.requires.can).1.rows.source_row.whole in
    let all = c.requires.can.f_in in
    let lt = c.loop-step-test.true in
    omega (arith, whole, all, lt)

pub bring_at-requires-clause-to : goal.bring_at-requires-clause-to
bring_at-requires-clause-to c =
    let whole : length c.loop-step.target ≡ table_pages = (c.loop-step.invariant.brings c.requires.can).1.rows.target_row.whole in
    let all = c.requires.can.t_in in
    let lt = c.loop-step-test.true in
    omega (arith, whole, all, lt)

pub bring_at-requires-clause-can : goal.bring_at-requires-clause-can
bring_at-requires-clause-can c =
    can_enter c.args.of.now (c.args.page + c.loop-step.step) (c.args.run.now.from + c.loop-step.step) (c.args.run.now.to + c.loop-step.step) c.loop-step.source c.loop-step.target c.loop-step.nodes
    (can_next c.args.of.now c.args.page c.args.run.now.from c.args.run.now.to c.args.run.now.entries c.loop-step.step c.args.source.now c.loop-step.source c.args.target.now c.loop-step.target c.args.nodes.now c.loop-step.nodes c.loop-step.invariant.brings
    c.loop-step-test.true c.requires.can)

pub loop-step-preserved : goal.loop-step-preserved
loop-step-preserved c =
    let from = c.requires.can.start.from in
    let before = c.requires.can.before in
    let fits = c.requires.fits in
    let lt = c.loop-step-test.true in
    record {
      brings =
          run_more c.args.of.now c.args.page c.args.run.now.from c.args.run.now.to c.args.run.now.entries c.loop-step.step c.args.source.now c.loop-step.source c.args.target.now c.loop-step.target c.args.nodes.now c.loop-step.nodes c.loop-step.invariant.brings
          c.loop-step-test.true c.bring_at.new.nodes c.bring_at.new.source c.bring_at.new.target (omega (arith, from, before, fits, lt))
          (subst (λ (p : Place). Enters c.args.of.now (slice_index_or c.loop-step.source (c.args.run.now.from + c.loop-step.step) None) p (c.args.run.now.from + c.loop-step.step) (c.args.run.now.to + c.loop-step.step) c.loop-step.nodes.slots c.bring_at.new.nodes.slots
          c.loop-step.source c.bring_at.new.source c.loop-step.target c.bring_at.new.target) c.place_for-here.ensures c.bring_at.ensures.enters) c.bring_at.ensures.lacked c.bring_at.ensures.room;
      within = omega (arith, lt);
    }

pub returns : goal.returns
returns c =
    let end = c.loop-step-test.false in
    let within = c.loop-step.invariant.within in
    let all : c.loop-step.step ≡ c.args.run.now.entries = omega (arith, end, within) in
    subst (λ (n : ℕ). BringsRow c.args.of.now c.args.page c.args.run.now.from c.args.run.now.to c.args.run.now.entries n c.args.source.now c.loop-step.source c.args.target.now c.loop-step.target c.args.nodes.now c.loop-step.nodes) all c.loop-step.invariant.brings
