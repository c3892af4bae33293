-- The texts of searches of plans (this profile's own).
use Rattle.std.specs.Prelude.{◌≡◌, ◌⊎◌, ℕ, false, List, ◌++◌, length, nat_eq, if◌then◌else◌}
use Rattle.l4_fpage.specs.declared.sizes.PageSize.{PageSize}
use Rattle.l4_graphs.specs.Drawing.{graph_text}
use Rattle.l4_orders.specs.Rules.{rules_text}
use Rattle.l4_orders.specs.Telling.{orders_text}
use Rattle.l4_orders.specs.declared.telling.OrderStyle.{OrderStyle}
use Rattle.l4_outcomes.specs.Counts.{counts_of}
use Rattle.l4_outcomes.specs.Faults.{search_result}
use Rattle.l4_outcomes.specs.Searching.{IsSearched, IsUnsearched}
use Rattle.l4_outcomes.specs.declared.faults.SearchResult.{SearchResult}
use Rattle.l4_outcomes.specs.declared.searched.Searched.{Searched}
use Rattle.l4_page.specs.declared.outcomes.OutcomesTold.{OutcomesTold}
use Rattle.l4_page.specs.Outcomes.{TellsRefusal}
use Rattle.l4_page.specs.Told.{placed}

-- how a text with this number prints outcomes: without their orders (1) or with the numbers of their lines
abbrev pub style : ℕ → OrderStyle
style kind = record { brief = nat_eq kind 1; explain = false }

-- the text with this number: the graph of the states (2); or the outcomes, without their orders (1) or with them, and the rules that they break
abbrev pub search_text : ℕ → Searched → List ℕ
search_text kind s =
    if nat_eq kind 2 then graph_text s.plan s.explored
    else (orders_text s.plan s.explored (style kind) ++ rules_text s.plan false s.explored.found.items)

abbrev pub text_found : ℕ → Searched → OutcomesTold
text_found kind s = record { result = search_result 0 0 0; counts = counts_of s.explored; length = length (search_text kind s) }

abbrev pub TellsText : ℕ → Searched → List ℕ → List ℕ → OutcomesTold → Type 0
TellsText kind s old new told = (told ≡ text_found kind s) × (new ≡ placed (search_text kind s) old)

-- THE TEXT OF A SEARCH, as `l4 orders` writes it; or why there is no search. There is none either if memory ran out for the text.
abbrev pub TellsSearchText : ℕ → PageSize → ℕ → ℕ → List ℕ → List ℕ → List ℕ → OutcomesTold → Type 0
TellsSearchText frames size most kind script old new told =
    ((s : Searched) × IsSearched frames size most script s × TellsText kind s old new told)
    ⊎ ((r : SearchResult) × IsUnsearched frames size script r × TellsRefusal r old new told)
