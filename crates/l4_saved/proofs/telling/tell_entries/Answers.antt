use Rattle.std.proofs.Common.{◌++◌, sym, ap, ◌+◌, ℕ, ◌∙◌, arith}
use Rattle.l4_text.proofs.Telling.{tells_more}
use Rattle.l4_saved.specs.Inside.Telling.{entry_text}
use Rattle.l4_saved.proofs.Told.{told_more, seat_more, stops}
use Rattle.l4_saved.proofs.telling.tell_entries.Goals as goal

pub overflow_add-first : goal.overflow_add-first
overflow_add-first g c =
    let lt = c.loop-number-test.true in
    let numbers = c.count-number-end.ensures.numbers (omega (arith, lt)) in
    omega (arith, c.first-first.ensures, numbers, lt)

pub returns-in-Err-clause-err : goal.returns-in-Err-clause-err
returns-in-Err-clause-err g c =
    let so_far = c.loop-number.invariant in (
      so_far.0,
      stops c.args.answers c.args.replay.now.kernel c.args.replay.now.last c.args.entries.now.joined.now.entries c.loop-number.number c.loop-number.replay.kernel so_far.0 c.in-Some.entry
          (sym c.get.ensures ∙ c.in-Some.is) so_far.1.0 c.loop-number.replay.last so_far.1.1 c.args.entries.now.joined.now.first _ c.in-Err.fault
          (ap (λ (n : ℕ). n + c.loop-number.number) c.first-first.ensures) c.in-Err.ensures.err,
      so_far.2,
    )

pub loop-number-preserved : goal.loop-number-preserved
loop-number-preserved g c =
    let so_far = c.loop-number.invariant in
    let new = c.continue_with.new.kernel in (
      so_far.0 ++ entry_text c.args.answers c.in-Some.entry new,
      (
        told_more c.args.answers c.args.replay.now.kernel c.args.replay.now.last c.args.entries.now.joined.now.entries c.loop-number.number c.loop-number.replay.kernel so_far.0 c.in-Some.entry
            (sym c.get.ensures ∙ c.in-Some.is) so_far.1.0 c.loop-number.replay.last so_far.1.1 new c.in_default-continue_with.ensures.ok,
        seat_more c.args.answers c.args.replay.now.kernel c.args.replay.now.last c.args.entries.now.joined.now.entries c.loop-number.number c.loop-number.replay.kernel so_far.0 c.in-Some.entry
            (sym c.get.ensures ∙ c.in-Some.is) so_far.1.0 c.loop-number.replay.last so_far.1.1,
      ),
      tells_more _ _ _ _ _ _ so_far.0 (entry_text c.args.answers c.in-Some.entry new) so_far.2 c.put_entry.ensures,
    )
