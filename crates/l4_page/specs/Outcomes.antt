-- The results of searches of plans (this profile's own).
use Rattle.std.specs.Prelude.{◌≡◌, ◌⊎◌, ℕ, List, [], ◌∷◌, ◌++◌, length}
use Rattle.std.specs.List.{flat_map}
use Rattle.l4_fpage.specs.declared.sizes.PageSize.{PageSize}
use Rattle.l4_refusals.specs.Texts.{texts, text_in}
use Rattle.l4_merges.specs.declared.found.Found.{Found}
use Rattle.l4_orders.specs.Rules.{broken_rules}
use Rattle.l4_orders.specs.Telling.{witness_text}
use Rattle.l4_orders.specs.declared.plans.Plan.{Plan}
use Rattle.l4_outcomes.specs.Counts.{counts_of}
use Rattle.l4_outcomes.specs.Faults.{search_result}
use Rattle.l4_outcomes.specs.Searching.{IsSearched, IsUnsearched}
use Rattle.l4_outcomes.specs.declared.counts.SearchCounts.{SearchCounts}
use Rattle.l4_outcomes.specs.declared.faults.SearchResult.{SearchResult}
use Rattle.l4_outcomes.specs.declared.searched.Searched.{Searched}
use Rattle.l4_page.specs.declared.outcomes.OutcomesTold.{OutcomesTold}
use Rattle.l4_page.specs.Told.{placed}

-- the answers of an outcome, the script of an order that produces it, and the rules that it breaks
abbrev pub texts_of : Plan → Found → List ℕ
texts_of plan one = one.outcome.items ++ witness_text plan one.order.items ++ broken_rules plan one.outcome.items

-- the lengths of these texts
abbrev pub lengths_of : Plan → Found → List ℕ
lengths_of plan one = length one.outcome.items ∷ length (witness_text plan one.order.items) ∷ length (broken_rules plan one.outcome.items) ∷ []

-- the texts of all outcomes, one after another, and their lengths
abbrev pub all_texts : Searched → List ℕ
all_texts s = flat_map (texts_of s.plan) s.explored.found.items

abbrev pub all_lengths : Searched → List ℕ
all_lengths s = flat_map (lengths_of s.plan) s.explored.found.items

abbrev pub no_counts : SearchCounts
no_counts = record { ended = 0; outcomes = 0; orders = 0; states = 0 }

-- what the refusal with this number means
abbrev pub meaning_of : ℕ → List ℕ
meaning_of refusal = (text_in texts refusal).1

abbrev pub found_told : Searched → OutcomesTold
found_told s = record { result = search_result 0 0 0; counts = counts_of s.explored; length = length (all_texts s) }

abbrev pub refused_told : SearchResult → OutcomesTold
refused_told r = record { result = r; counts = no_counts; length = length (meaning_of r.refusal) }

-- the texts of all outcomes are written, and their lengths
abbrev pub TellsFound : Searched → List ℕ → List ℕ → List ℕ → List ℕ → OutcomesTold → Type 0
TellsFound s old new lengths sizes told = (told ≡ found_told s) × (new ≡ placed (all_texts s) old) × (sizes ≡ placed (all_lengths s) lengths)

-- what the refusal means is written
abbrev pub TellsRefusal : SearchResult → List ℕ → List ℕ → OutcomesTold → Type 0
TellsRefusal r old new told = (told ≡ refused_told r) × (new ≡ placed (meaning_of r.refusal) old)

-- THE RESULT OF A SEARCH: the outcomes that it found, with their answers, the scripts of orders that produce them, and the rules that they
-- break; or why there is no search. There is none either if memory ran out for the texts.
abbrev pub TellsOutcomes : ℕ → PageSize → ℕ → List ℕ → List ℕ → List ℕ → List ℕ → List ℕ → OutcomesTold → Type 0
TellsOutcomes frames size most script old new lengths sizes told =
    ((s : Searched) × IsSearched frames size most script s × TellsFound s old new lengths sizes told)
    ⊎ ((r : SearchResult) × IsUnsearched frames size script r × TellsRefusal r old new told × (sizes ≡ lengths))
