use Rattle.std.proofs.Common.{◌≡◌, ℕ, Some, length, refl, sym, ap, ◌∙◌, subst, arith}
use Rattle.std.proofs.lemmas.Option.{slice_get_read}
use Rattle.l4_threads.specs.Inside.Entries.{Entries}
use Rattle.l4_threads.specs.Inside.Kept.{threads_of}
use Rattle.l4_threads.proofs.EnabledLemmas.{LeastSoFar, least_skips, least_takes}
use Rattle.l4_threads.proofs.NextLemmas.{IsFrom, stands, next_is}
use Rattle.l4_threads.proofs.table.Threads.next_thread.Goals as goal
use Rattle.l4_threads.proofs.table.Threads.next_thread.Goals.{then-entry-from, else-entry-from}

pub loop-entry-preserved : goal.loop-entry-preserved
loop-entry-preserved c =
    let es = c.as_slice-entry-items.result.now in
    let there = slice_get_read es (length es) c.loop-entry.entry-index c.entry-item.result refl c.loop-entry-test.true c.entry-item.is in
    let is = subst (λ (l : Entries). threads_of l c.self.inside.queue.items c.self.inside.next_space ≡ c.args.self.now) (sym c.as_slice-entry-items.ensures.value) c.self.view_is in
    elim c.if-entry-from.branch [
      | then-entry-from w ↦
          subst (LeastSoFar (IsFrom c.args.self.now c.args.from) es _) (sym (w.least-is ∙ ap (λ (n : ℕ). Some n) w.lesser.ensures))
          (least_takes (IsFrom c.args.self.now c.args.from) es c.loop-entry.entry-index c.entry-item.result there
          (omega (arith, w.if-entry-from.true), stands es c.self.inside.queue.items c.self.inside.next_space c.args.self.now is c.loop-entry.entry-index c.entry-item.result there) c.loop-entry.least c.loop-entry.invariant)
      | else-entry-from w ↦
          subst (LeastSoFar (IsFrom c.args.self.now c.args.from) es _) (sym w.least-is)
          (least_skips (IsFrom c.args.self.now c.args.from) es c.loop-entry.entry-index c.entry-item.result there (λ h. let le = h.0 in omega (arith, w.if-entry-from.false, le)) c.loop-entry.least c.loop-entry.invariant)
    ]

pub returns : goal.returns
returns c =
    let is = subst (λ (es : Entries). threads_of es c.self.inside.queue.items c.self.inside.next_space ≡ c.args.self.now) (sym c.as_slice-entry-items.ensures.value) c.self.view_is in
    next_is c.as_slice-entry-items.result.now c.self.inside.queue.items c.self.inside.next_space c.args.self.now is c.args.from c.loop-entry.entry-index c.loop-entry-test.false c.loop-entry.least c.loop-entry.invariant
