-- What becomes of the table where a call ends.
use Rattle.std.proofs.Common.{◌≡◌, ◌≢◌, ℕ, None, Some, refl, ap, ◌∙◌, IsSome}
use Rattle.l4_threads.specs.declared.table.Threads.TheInside.{Inside}
use Rattle.l4_threads.specs.declared.State.TheVariants.{Running}
use Rattle.l4_threads.specs.declared.Reply.{Reply}
use Rattle.l4_threads.specs.declared.Thread.{Thread}
use Rattle.l4_threads.specs.Threads.{Threads, state_of, end_call}
use Rattle.l4_threads.specs.Inside.Entries.{found, changed_in, in_state}
use Rattle.l4_threads.specs.Inside.Focused.{with_running}
use Rattle.l4_threads.specs.Inside.Kept.{threads_of, seen, IsKept}
use Rattle.l4_threads.proofs.QueueLemmas.{left_by}
use Rattle.l4_threads.proofs.ViewLemmas.{found_some, found_not_none, left_table, seen_left}
use Rattle.l4_threads.proofs.FocusLemmas.{focused_running}

-- the thread of this number is there
module _ (a : Inside) (t : Threads) (is : seen a ≡ t) (n : ℕ) (there : IsSome (state_of t n)) where
  ending : (thread : Thread) × (found a.threads n ≡ Some thread)
  ending = found_some a.threads a.queue.items a.next_space t is n there

  pub ending_there : found a.threads n ≢ None
  ending_there = found_not_none a.threads n ending.0 ending.1

  -- its call ends with this reply
  pub ended_kept : IsKept a → (reply : Reply) (b : Inside)
      → b.threads ≡ changed_in a.threads n (in_state (Running (Some reply))) → b.queue.items ≡ left_by n a.queue.items → b.next_space ≡ a.next_space → b.focus ≡ with_running a.focus n
      → IsKept b
  ended_kept kept reply b threads queue space focus = record {
    table = rw (threads, queue, space) (left_table a.threads a.queue.items a.next_space n ending.0 (Running (Some reply)) kept.table ending.1 refl);
    focused = rw (threads, focus) (focused_running a.threads a.focus n ending.0 (Running (Some reply)) ending.1 refl kept.focused);
  }

  pub ended_seen : IsKept a → (reply : Reply) → threads_of (changed_in a.threads n (in_state (Running (Some reply)))) (left_by n a.queue.items) a.next_space ≡ end_call t n reply
  ended_seen kept reply = seen_left a.threads a.queue.items a.next_space n ending.0 (Running (Some reply)) kept.table ending.1 ∙ ap (λ (t : Threads). end_call t n reply) is
