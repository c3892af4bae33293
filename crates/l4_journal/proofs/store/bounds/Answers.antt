use Rattle.std.proofs.Common.{◌≤◌, ◌-◌, ◌≡◌, suc, sym, subst, arith}
use Rattle.std.specs.Prelude.{slice_index_or}
use Rattle.l4_journal.specs.Inside.Stored.{start_at}
use Rattle.l4_journal.proofs.Storing.{bounds_at}
use Rattle.l4_journal.proofs.store.bounds.Goals as goal

pub returns-then-place-eq0-clause-inside : goal.returns-then-place-eq0-clause-inside
returns-then-place-eq0-clause-inside c = (omega arith, (bounds_at 0 c.args.ends.now c.args._all c.args.place c.requires.ends c.requires.within).1)

pub returns-clause-inside : goal.returns-clause-inside
returns-clause-inside c =
    let place : suc (c.args.place - 1) ≡ c.args.place = omega (arith, c.if-place-eq0.false) in
    let bounds = bounds_at 0 c.args.ends.now c.args._all c.args.place c.requires.ends c.requires.within in
    (subst (λ k. start_at 0 c.args.ends.now k ≤ slice_index_or c.args.ends.now c.args.place 0) (sym place) bounds.0, bounds.1)
