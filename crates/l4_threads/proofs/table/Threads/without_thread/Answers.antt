use Rattle.std.proofs.Common.{refl, sym, ap, ◌∙◌}
use Rattle.l4_threads.specs.Inside.Entries.{Entries, has_space}
use Rattle.l4_threads.proofs.DeleteLemmas.{used_seen, unused_seen}
use Rattle.l4_threads.proofs.table.Threads.without_thread.Goals as goal

pub returns-then-is_inhabited : goal.returns-then-is_inhabited
returns-then-is_inhabited c =
    used_seen c.self.inside.threads c.self.inside.queue.items c.self.inside.next_space c.args.self.now c.self.invariant.table c.self.view_is c.args.space
    (ap (λ (es : Entries). has_space es c.args.space) (sym c.as_slice.ensures.value) ∙ sym c.if-is_inhabited.ensures)

pub returns-else-is_inhabited : goal.returns-else-is_inhabited
returns-else-is_inhabited c = (
  refl,
  unused_seen c.self.inside.threads c.self.inside.queue.items c.self.inside.next_space c.args.self.now c.self.invariant.table c.self.view_is c.args.space
      (ap (λ (es : Entries). has_space es c.args.space) (sym c.as_slice.ensures.value) ∙ sym c.if-is_inhabited.ensures),
)
