use Rattle.std.proofs.Common.{◌≡◌, ℕ, [], arith, if◌then◌else◌, Bool, true, false, refl, sym, ◌∙◌}
use Rattle.std.proofs.lemmas.List.{append-nil}
use mir.Val.{bool_byte}
use Rattle.l4_pager.proofs.Serves.{one, begun, counted_turn, all_turns, shut_turns, stopped_turns}
use Rattle.l4_pager.proofs.serving.serve.Goals as goal

bit : (b : Bool) (step : ℕ) → step ≡ bool_byte b → step ≡ (if b then 1 else 0)
bit true step e = e
bit false step e = e

pub returns-in-Err-clause-err : goal.returns-in-Err-clause-err
returns-in-Err-clause-err g c = (
  c.args.gate.now,
  c.wait.result,
  c.in-Err.ensures.1,
  ([], 0, c.in-Err.ensures.0 ∙ sym (append-nil (g.G.Gate.pairs c.args.gate.now)), omega arith, refl, c.wait.ensures, refl),
)

pub loop-init : goal.loop-init
loop-init g c =
    begun g.G.Gate.accepts c.args.regions.now c.args.gate.now c.enter.new.self (g.G.Gate.pairs c.args.gate.now) (g.G.Gate.pairs c.enter.new.self) c.in-Ok.reply c.wait.result c.wait.ensures c.in-Ok.ensures.0 c.in-Ok.ensures.1

pub returns-in-Err-enter-clause-err : goal.returns-in-Err-enter-clause-err
returns-in-Err-enter-clause-err g c = (
  c.loop.gate,
  c.next_call-call.result.0,
  c.in-Err-enter.ensures.1,
  stopped_turns g.G.Gate.accepts c.args.regions.now c.args.gate.now c.loop.gate (g.G.Gate.pairs c.args.gate.now) (g.G.Gate.pairs c.loop.gate) (g.G.Gate.pairs c.enter-in-loop.new.self) c.loop.reply c.loop.answers c.loop.counter c.args.turns c.next_call-call.result.0 c.next_call-call.result.1 c.loop.invariant c.in-Err-enter.ensures.0 c.loop-test.true c.next_call-call.ensures (sym c.if-is_shut.ensures),
)

pub overflow_add-answers : goal.overflow_add-answers
overflow_add-answers g c = omega (arith, c.loop.invariant.few, c.loop-test.true, bit c.next_call-call.result.1 c.from-answers.result c.from-answers.ensures, one c.next_call-call.result.1, c.ranges.turns.fits)

pub loop-preserved : goal.loop-preserved
loop-preserved g c =
    counted_turn g.G.Gate.accepts c.args.regions.now c.args.gate.now c.loop.gate c.enter-in-loop.new.self (g.G.Gate.pairs c.args.gate.now) (g.G.Gate.pairs c.loop.gate) (g.G.Gate.pairs c.enter-in-loop.new.self) c.loop.reply c.in-Ok-enter.next c.next_call-call.result.0 c.next_call-call.result.1 c.loop.answers c.loop.counter c.from-answers.result
    c.loop.invariant c.next_call-call.ensures (sym c.if-is_shut.ensures) c.in-Ok-enter.ensures.0 c.in-Ok-enter.ensures.1 (bit c.next_call-call.result.1 c.from-answers.result c.from-answers.ensures)

pub returns-clause-ok : goal.returns-clause-ok
returns-clause-ok g c =
    all_turns g.G.Gate.accepts c.args.regions.now c.args.gate.now c.loop.gate (g.G.Gate.pairs c.args.gate.now) (g.G.Gate.pairs c.loop.gate) c.loop.reply c.loop.answers c.loop.counter c.args.turns c.loop.invariant (omega (arith, c.loop-test.false, c.loop.auto))

pub returns-then-is_shut-clause-ok : goal.returns-then-is_shut-clause-ok
returns-then-is_shut-clause-ok g c =
    shut_turns g.G.Gate.accepts c.args.regions.now c.args.gate.now c.loop.gate (g.G.Gate.pairs c.args.gate.now) (g.G.Gate.pairs c.loop.gate) c.loop.reply c.loop.answers c.loop.counter c.args.turns c.loop.invariant c.loop-test.true (sym c.if-is_shut.ensures)
