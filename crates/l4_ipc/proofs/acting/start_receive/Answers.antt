use Rattle.std.proofs.Common.{refl, inl, inr, sym, ap, ◌∙◌, false}
use Rattle.l4_ipc.specs.declared.calls.Call.TheVariants.{Ipc}
use Rattle.l4_ipc.specs.Machine.{machine}
use Rattle.l4_phases.specs.Phases.{going_on}
use Rattle.l4_phases.specs.Turns.{next_of}
use Rattle.l4_ipc.proofs.Starts.{refuses, started, nothing, sends_nothing, receives_next, can_receive}
use Rattle.l4_ipc.proofs.acting.start_receive.Goals as goal

pub returns-in-Err : goal.returns-in-Err
returns-in-Err c = λ size s. (
  inl (refuses (machine size c.args.threads.now s) c.args.number (Ipc c.args.call.now) _ c.requires.running
      (inr (sym c.if-has_bad_timeout.ensures, (c.in-Err.fault, inr (nothing, sends_nothing c.args.call.now c.requires.receives, c.in-Err.ensures.err.0, c.in-Err.ensures.err.1, c.in-Err.ensures.err.2), refl)))),
  refl,
)

pub enter-requires : goal.enter-requires
enter-requires c = can_receive c.args.threads.now c.args.number c.later.result (next_of c.going_on-turn.result) c.requires.running c.going_on-turn.ensures

pub returns : goal.returns
returns c = λ size s.
    started size c.args.threads.now c.enter.new.threads s c.args.number c.args.call.now nothing c.in-Ok.window (next_of c.going_on-turn.result) _
    c.requires.running
    (record { timeouts = sym c.if-has_bad_timeout.ensures; sends = sends_nothing c.args.call.now c.requires.receives; receives = c.in-Ok.ensures.ok })
    (c.going_on-turn.ensures ∙ ap (λ l. going_on c.args.threads.now l false) c.later.ensures ∙ sym (receives_next c.args.threads.now c.args.number c.args.call.now c.in-Ok.window c.requires.receives))
    refl c.enter.ensures.ended c.enter.ensures.threads
