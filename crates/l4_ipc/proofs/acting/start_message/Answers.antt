use Rattle.std.proofs.Common.{refl, inl, inr, false}
use Rattle.l4_threads.specs.Threads.{failed}
use Rattle.l4_ipc.specs.declared.calls.Call.TheVariants.{Ipc}
use Rattle.l4_phases.specs.declared.turns.Next.TheVariants.{Ends}
use Rattle.l4_ipc.specs.Machine.{machine}
use Rattle.l4_ipc.specs.Inside.Turns.{sent_of}
use Rattle.l4_ipc.proofs.Starts.{refuses, started, sends_some, sends_to, sends_nobody}
use Rattle.l4_ipc.proofs.acting.start_message.Goals as goal

pub returns-in-Err : goal.returns-in-Err
returns-in-Err c = λ size s.
    let call = c.args.call.now in
    let sent = sent_of c.args.words.now c.args.items.now in (
      inl (refuses (machine size c.args.threads.now s) c.args.number (Ipc call) _ c.requires.running
          (inr (c.requires.timely, (c.in-Err.fault, inr (sent, sends_some call sent c.requires.sends c.requires.sent, c.in-Err.ensures.err.0, c.in-Err.ensures.err.1, c.in-Err.ensures.err.2), refl)))),
      refl,
    )

pub returns-in_default : goal.returns-in_default
returns-in_default c = λ size s.
    let call = c.args.call.now in
    let sent = sent_of c.args.words.now c.args.items.now in
    started size c.args.threads.now c.end.new.threads s c.args.number call sent c.in-Ok.window (Ends (failed false 4)) _ c.requires.running
    (record { timeouts = c.requires.timely; sends = sends_some call sent c.requires.sends c.requires.sent; receives = c.in-Ok.ensures.ok })
    (sends_nobody c.args.threads.now c.args.number call c.args.words.now c.args.items.now c.in-Ok.window c.requires.sends c.in_default.ensures)
    refl refl c.end.ensures

pub returns : goal.returns
returns c = λ size s.
    let call = c.args.call.now in
    let sent = sent_of c.args.words.now c.args.items.now in
    started size c.args.threads.now c.start_message.new.self s c.args.number call sent c.in-Ok.window _ _ c.requires.running
    (record { timeouts = c.requires.timely; sends = sends_some call sent c.requires.sends c.requires.sent; receives = c.in-Ok.ensures.ok })
    (sends_to c.args.threads.now c.args.number call c.args.words.now c.args.items.now c.in-Ok.window c.in-Some.to c.sends_at_once.result c.later.result c.requires.sends c.in-Some.ensures c.sends_at_once.ensures c.later.ensures)
    refl refl c.start_message.ensures
