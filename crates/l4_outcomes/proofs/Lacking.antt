-- Searches that stop: for lack of memory, also for their results, or because a history is full.
use Rattle.std.proofs.Common.{◌≡◌, ℕ, List, inl, inr, refl, codes}
use Rattle.l4_fpage.specs.declared.sizes.PageSize.{PageSize}
use Rattle.l4_merges.specs.declared.machine.Failure.{Failure}
use Rattle.l4_merges.specs.declared.machine.Failure.TheVariants.{Memory, Full}
use Rattle.l4_orders.specs.Filling.{FillsHistory}
use Rattle.l4_orders.specs.declared.plans.Plan.{Plan}
use Rattle.l4_outcomes.specs.Faults.{refused_by, failure_result}
use Rattle.l4_outcomes.specs.Searching.{IsLack, IsSearched, IsUnsearched}
use Rattle.l4_outcomes.specs.declared.faults.SearchResult.{SearchResult}
use Rattle.l4_outcomes.specs.declared.searched.Searched.{Searched}

pub lacks_memory : (frames : ℕ) (size : PageSize) (most : ℕ) (text : List ℕ) (s : Searched) → IsSearched frames size most text s → IsUnsearched frames size text (refused_by (codes "NoMemory"))
lacks_memory frames size most text s (rest, framed, reads, finds) = inr (framed, inr (rest, s.plan, reads, inl refl))

pub lacks_by : (frames : ℕ) (size : PageSize) (plan : Plan) (why : Failure) (r : SearchResult) → (why ≡ Full → FillsHistory frames size plan) → r ≡ failure_result why → IsLack frames size plan r
lacks_by frames size plan Memory r fills is = inl is
lacks_by frames size plan Full r fills is = inr (is, fills refl)
