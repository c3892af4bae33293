use Rattle.std.proofs.Common.{◌≡◌, ◌+◌, ◌++◌, ℕ, List, [], false, None, take, length, refl, sym, ap, ◌∙◌, subst, arith}
use Rattle.std.proofs.lemmas.List.{take_all}
use Rattle.l4_record.specs.declared.entries.Entry.{Entry}
use Rattle.l4_record.specs.History.{Follows}
use Rattle.l4_record.proofs.Replayed.{take_zero}
use Rattle.l4_saved.specs.Inside.Telling.{entry_text, IsTold}
use Rattle.l4_saved.specs.Stopping.{seat_after}
use Rattle.l4_saved.proofs.Told.{told_more, seat_more, stops, told_follows}
use Rattle.l4_saved.proofs.pages.follow.Goals as goal

pub overflow_add-first : goal.overflow_add-first
overflow_add-first c =
    let lt = c.loop-number-test.true in
    let numbers = c.count-number-end.ensures.numbers (omega (arith, lt)) in
    omega (arith, c.first-first.ensures, numbers, lt)

pub returns-in-Err-clause-err : goal.returns-in-Err-clause-err
returns-in-Err-clause-err c =
    let so_far = c.loop-number.invariant in (
      so_far.0,
      stops false c.args.kernel.now None c.args.entries.now.joined.now.entries c.loop-number.number c.loop-number.kernel so_far.0 c.in-Some.entry (sym c.get.ensures ∙ c.in-Some.is) so_far.1 c.loop-number.last
          so_far.2 c.args.entries.now.joined.now.first _ c.in-Err.fault (ap (λ (n : ℕ). n + c.loop-number.number) c.first-first.ensures) c.in-Err.ensures.err,
    )

pub loop-number-preserved : goal.loop-number-preserved
loop-number-preserved c =
    let so_far = c.loop-number.invariant in
    let new = c.continue_with.new.kernel in (
      so_far.0 ++ entry_text false c.in-Some.entry new,
      told_more false c.args.kernel.now None c.args.entries.now.joined.now.entries c.loop-number.number c.loop-number.kernel so_far.0 c.in-Some.entry (sym c.get.ensures ∙ c.in-Some.is) so_far.1
          c.loop-number.last so_far.2 new c.in_default-continue_with.ensures.ok,
      seat_more false c.args.kernel.now None c.args.entries.now.joined.now.entries c.loop-number.number c.loop-number.kernel so_far.0 c.in-Some.entry (sym c.get.ensures ∙ c.in-Some.is) so_far.1
          c.loop-number.last so_far.2,
    )

pub returns-clause-ok : goal.returns-clause-ok
returns-clause-ok c =
    let entries = c.args.entries.now.joined.now.entries in
    let so_far = c.loop-number.invariant in
    let past : length entries ≡ c.loop-number.number = omega (arith, c.loop-number-test.false, c.loop-number.auto.number-end, c.count-number-end.ensures.count) in
    let all : take c.loop-number.number entries ≡ entries = take_all c.loop-number.number entries (omega (arith, past)) in
    subst (λ (es : List Entry). Follows c.args.kernel.now None es c.loop-number.kernel) all
    (told_follows false c.args.kernel.now None (take c.loop-number.number entries) c.loop-number.kernel so_far.0 so_far.1)
