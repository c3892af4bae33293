use Rattle.std.proofs.Common.{List, sym, ap, subst, ◌∙◌}
use Rattle.l4_msg.specs.declared.items.Item.{Item}
use Rattle.l4_threads.specs.Threads.{Threads, sending_of, start_send}
use Rattle.l4_ipc.specs.Machine.{machine}
use Rattle.l4_ipc.specs.Inside.Sound.{IsSound}
use Rattle.l4_ipc.proofs.Holding.{sends_sound}
use Rattle.l4_ipc.proofs.kernel.Kernel.resume_send.Goals as goal

pub invariant_of-self : goal.invariant_of-self
invariant_of-self c = record {
  sound = subst (λ (t : Threads). IsSound (machine c.self.inside.size t c.self.inside.forest))
      (sym (c.start_message.ensures ∙ ap (λ (l : List Item). start_send c.self.inside.threads c.args.number (sending_of c.args.words.now l c.args.phase)) c.as_slice.ensures.value))
      (sends_sound c.self.inside.size c.self.inside.threads c.self.inside.forest c.args.number c.args.words.now c.args.phase c.in-Ok.message c.in-Ok.ensures.ok c.self.invariant.sound);
  fits = c.self.invariant.fits;
}
