-- The pages that a transfer moves if it is delivered, read from the machine before it, in the order of its items and of their pages (this
-- profile's own).
use Rattle.std.specs.Prelude.{◌≡◌, ℕ, ◌<◌, ◌≤◌, ◌⊎◌, Some}
use Rattle.l4_fpage.specs.Pages.{most_pages}
use Rattle.l4_mapdb.specs.Transfer.{PageMove}
use Rattle.l4_threads.specs.declared.Receiving.{Receiving}
use Rattle.l4_threads.specs.declared.Sending.{Sending}
use Rattle.l4_threads.specs.declared.State.TheVariants.{Sending as IsSender, Receiving as IsReceiver}
use Rattle.l4_threads.specs.declared.Thread.{Thread}
use Rattle.l4_threads.specs.Threads.{thread_at}
use Rattle.l4_ipc.specs.declared.steps.Step.{Step}
use Rattle.l4_ipc.specs.declared.steps.Step.TheVariants.{Transfer}
use Rattle.l4_ipc.specs.Machine.{Machine}
use Rattle.l4_ipc.specs.Moving.{IsUsedBy}
use Rattle.l4_provenance.specs.declared.moves.MovedPage.{MovedPage}

-- the step is a transfer from a thread that sends to one that receives, and this is a used move of its message
pub record IsMoved (m : Machine) (step : Step) (move : PageMove) : Type 0 where
  pub sender : ℕ
  pub receiver : ℕ
  pub step_is : step ≡ Transfer sender receiver
  pub «from» : Thread
  pub to : Thread
  pub sends : Sending
  pub takes : Receiving
  pub from_at : thread_at m.threads sender ≡ Some «from»
  pub to_at : thread_at m.threads receiver ≡ Some to
  pub from_state : «from».state ≡ IsSender sends
  pub to_state : to.state ≡ IsReceiver takes
  pub used : IsUsedBy m.size m.mappings «from».space to.space sends.items.items takes.window move

-- the move is of this item and of this page or a later one, or of a later item
abbrev pub IsFrom : ℕ → ℕ → PageMove → Type 0
IsFrom item page move = (item < move.item) ⊎ ((move.item ≡ item) × (page ≤ move.source.page))

-- the move as data
pub record IsTold (moved : MovedPage) (move : PageMove) : Type 0 where
  pub item : moved.item ≡ move.item
  pub source : moved.source ≡ move.source.page
  pub space : moved.space ≡ move.target.space
  pub target : moved.target ≡ move.target.page
  pub rights : moved.rights ≡ move.rights

-- the first move of the step from this item and page on
pub record IsNextMove (m : Machine) (step : Step) (item page : ℕ) (moved : MovedPage) : Type 0 where
  pub move : PageMove
  pub is : IsMoved m step move
  pub reached : IsFrom item page move
  pub least : (other : PageMove) → IsMoved m step other → IsFrom item page other → IsFrom move.item move.source.page other
  pub told : IsTold moved move
  pub small : moved.source < most_pages

-- no page is moved from this item and page on
abbrev pub NoneMovedFrom : Machine → Step → ℕ → ℕ → Type 0
NoneMovedFrom m step item page = (move : PageMove) → IsMoved m step move → ¬ (IsFrom item page move)
