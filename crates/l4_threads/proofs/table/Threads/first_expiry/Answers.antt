use Rattle.std.proofs.Common.{◌≡◌, ℕ, Some, refl, sym, ap, ◌∙◌, subst, length, slice_get}
use Rattle.std.proofs.lemmas.Option.{slice_get_read}
use Rattle.std.proofs.lemmas.Bool.{false≢true}
use Rattle.l4_threads.specs.Inside.Entries.{Entries, any_state}
use Rattle.l4_threads.specs.Enabled.{expires, CanExpire}
use Rattle.l4_threads.specs.Inside.Transfers.{AreTransfers}
use Rattle.l4_threads.specs.Inside.Kept.{threads_of}
use Rattle.l4_threads.proofs.EnabledLemmas.{LeastSoFar, least_skips, least_takes, least_of_all, never_expires, none_such}
use Rattle.l4_threads.proofs.TransferLemmas.{expires_as}
use Rattle.l4_threads.proofs.table.Threads.first_expiry.Goals as goal
use Rattle.l4_threads.proofs.table.Threads.first_expiry.Goals.{then-expires_beside, else-expires_beside}

pub returns-then-not-any_expires : goal.returns-then-not-any_expires
returns-then-not-any_expires c = λ n.
    never_expires c.args.self.now n
    (none_such expires c.self.inside.threads c.self.inside.queue.items c.self.inside.next_space c.args.self.now c.self.view_is
    (ap (any_state expires) (sym c.as_slice.ensures.value) ∙ sym c.any_expires.ensures ∙ c.if-not-any_expires.true) n)

pub loop-entry-preserved : goal.loop-entry-preserved
loop-entry-preserved c =
    let es = c.as_slice-entry-items.result.now in
    let there = slice_get_read es (length es) c.loop-entry.entry-index c.entry-item.result refl c.loop-entry-test.true c.entry-item.is in
    let can = expires_as c.self.inside.threads c.self.inside.queue.items c.self.inside.next_space c.args.self.now c.self.invariant.table c.self.view_is c.law_consistent.ensures
    c.as_slice-in-loop-entry.result.now (subst (AreTransfers c.args.self.now) (sym c.as_slice-in-loop-entry.ensures.value) c.transfers-transfers.ensures)
    c.loop-entry.entry-index c.entry-item.result (ap (λ (l : Entries). slice_get l c.loop-entry.entry-index) (sym c.as_slice-entry-items.ensures.value) ∙ there)
    c.expires_beside.result c.expires_beside.ensures in
    elim c.if-expires_beside.branch [
      | then-expires_beside w ↦
          subst (LeastSoFar (CanExpire c.args.self.now) es _) (sym (w.least-is ∙ ap (λ (n : ℕ). Some n) w.lesser.ensures))
          (least_takes (CanExpire c.args.self.now) es c.loop-entry.entry-index c.entry-item.result there (can.0 w.if-expires_beside.true) c.loop-entry.least c.loop-entry.invariant)
      | else-expires_beside w ↦
          subst (LeastSoFar (CanExpire c.args.self.now) es _) (sym w.least-is)
          (least_skips (CanExpire c.args.self.now) es c.loop-entry.entry-index c.entry-item.result there (λ h. false≢true (sym w.if-expires_beside.false ∙ can.1 h)) c.loop-entry.least c.loop-entry.invariant)
    ]

pub returns : goal.returns
returns c =
    let is = subst (λ (es : Entries). threads_of es c.self.inside.queue.items c.self.inside.next_space ≡ c.args.self.now) (sym c.as_slice-entry-items.ensures.value) c.self.view_is in
    least_of_all c.as_slice-entry-items.result.now c.self.inside.queue.items c.self.inside.next_space c.args.self.now is c.loop-entry.entry-index c.loop-entry-test.false c.loop-entry.least c.loop-entry.invariant
