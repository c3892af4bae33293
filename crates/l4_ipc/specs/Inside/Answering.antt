-- The result of a start: its answer, or the reason why it is refused (this profile's own).
use Rattle.std.specs.Prelude.{ℕ, Bool, Result, Ok, Err}
use Rattle.l4_fpage.specs.declared.sizes.PageSize.{PageSize}
use Rattle.l4_mapdb.specs.Mappings.{Mappings}
use Rattle.l4_threads.specs.Threads.{Threads}
use Rattle.l4_ipc.specs.declared.calls.Call.{Call}
use Rattle.l4_ipc.specs.declared.calls.Call.TheVariants.{Control as Controls}
use Rattle.l4_ipc.specs.declared.calls.Control.{Control}
use Rattle.l4_ipc.specs.declared.steps.Answer.{Answer}
use Rattle.l4_ipc.specs.declared.steps.Refused.{Refused}
use Rattle.l4_ipc.specs.declared.steps.CancelCause.{CancelCause}
use Rattle.l4_ipc.specs.declared.steps.Step.TheVariants.{Start, Expire, Cancel}
use Rattle.l4_ipc.specs.Machine.{machine}
use Rattle.l4_ipc.specs.NextSteps.{own_answer}
use Rattle.l4_ipc.specs.Steps.{Steps}

-- the result of a call that ends no other thread's call; `ended` says whether it has ended itself
abbrev pub answered_if : ℕ → Result Bool Refused → Result Answer Refused
answered_if n (Ok ended) = Ok (own_answer ended n)
answered_if n (Err e) = Err e

-- the result with the answer that was written
abbrev pub written : Result (Unit {0}) Refused → Answer → Result Answer Refused
written (Ok done) answer = Ok answer
written (Err e) answer = Err e

-- the thread starts this call with this result, whatever is mapped
abbrev pub StartsCall : Threads → ℕ → Call → Result Bool Refused → Threads → Type 0
StartsCall old n call result new = (size : PageSize) (s : Mappings) → Steps (machine size old s) (Start n call) (answered_if n result) (machine size new s)

-- the thread starts this control with this result, whatever size pages have
abbrev pub StartsControl : Threads → Mappings → ℕ → Control → Result Answer Refused → Threads → Mappings → Type 0
StartsControl t s n control answer t' s' = (size : PageSize) → Steps (machine size t s) (Start n (Controls control)) answer (machine size t' s')

-- the call of the thread expires with this answer, whatever is mapped
abbrev pub ExpiresCall : Threads → ℕ → Result Answer Refused → Threads → Type 0
ExpiresCall old n answer new = (size : PageSize) (s : Mappings) → Steps (machine size old s) (Expire n) answer (machine size new s)

-- the wait of the thread is canceled with this answer, whatever is mapped
abbrev pub CancelsCall : Threads → ℕ → CancelCause → Result Answer Refused → Threads → Type 0
CancelsCall old n cause answer new = (size : PageSize) (s : Mappings) → Steps (machine size old s) (Cancel n cause) answer (machine size new s)
