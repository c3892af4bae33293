use Rattle.std.proofs.Common.{◌≡◌, ◌+◌, ◌-◌, ℕ, List, get_or, length, sym, ap, subst, ◌∙◌, arith}
use Rattle.l4_merges.specs.declared.exploring.Explored.{Explored}
use Rattle.l4_merges.specs.declared.graph.Seen.{Seen}
use Rattle.l4_merges.specs.Orders.{CountsOrders, Visits}
use Rattle.l4_merges.proofs.Drawing.{drawn}
use Rattle.l4_merges.proofs.Noted.{placed_counts}
use Rattle.l4_merges.proofs.Visiting.{none_indexed, visits_all}
use Rattle.l4_merges.proofs.exploring.explore.Goals as goal

pub search_from-searched-requires-clause-indexed : goal.search_from-searched-requires-clause-indexed
search_from-searched-requires-clause-indexed g c = none_indexed c.new-3.result c.new-2.result.items c.new-3.ensures.table c.new-3.ensures.digests c.new-2.ensures.items

pub returns-clause-graph : goal.returns-clause-graph
returns-clause-graph g c =
    drawn g.M.Machine.enabled g.M.Machine.Turns g.M.Machine.name g.M.Machine.HasOutcome g.M.Machine.HasKey g.M.Machine.Akin g.met.M.Machine.own g.met.M.Machine.stays g.met.M.Machine.one_state
    c.args.state c.search_from-searched.new.search.found.items c.new-2.result.items c.search_from-searched.new.search.seen.items c.in-Ok.start
    c.new-2.ensures.items c.in-Ok.ensures.grows c.in-Ok.ensures.explored c.in-Ok.ensures.place

pub returns-clause-orders : goal.returns-clause-orders
returns-clause-orders g c =
    let placed = c.in-Ok.ensures.place in
    subst (λ (n : ℕ). CountsOrders g.M.Machine.enabled g.M.Machine.Turns c.args.state n)
    (sym (c.in-Ok-orders_from.ensures placed.0 (ap (λ (l : List Seen). get_or l c.in-Ok.start placed.0) c.as_slice.ensures.value ∙ placed.2)))
    (placed_counts g.M.Machine.enabled g.M.Machine.Turns g.M.Machine.name g.M.Machine.HasOutcome g.M.Machine.HasKey (g.M.Machine.Akin c.args.state) c.search_from-searched.new.search.seen.items c.search_from-searched.new.search.found.items
    c.args.state c.in-Ok.start (g.met.M.Machine.own c.args.state) c.in-Ok.ensures.explored placed)

pub returns-clause-visits : goal.returns-clause-visits
returns-clause-visits g c =
    visits_all g.M.Machine.enabled g.M.Machine.Turns g.M.Machine.HasKey c.args.state c.new-2.result.items c.search_from-searched.new.search.seen.items c.saturating_sub-states.result c.new-2.ensures.items c.in-Ok.ensures.grows
    c.in-Ok.ensures.indexed.apart (let b = c.in-Ok.ensures.budget in let none = ap (λ (l : List Seen). length l) c.new-2.ensures.items in omega (arith, b, none, c.saturating_sub-states.ensures))

pub returns-in_default-clause-visits : goal.returns-in_default-clause-visits
returns-in_default-clause-visits g c =
    subst (λ (e : Explored). Visits g.M.Machine.enabled g.M.Machine.Turns g.M.Machine.HasKey c.args.state e.states) (sym c.ended_early-in_default.ensures)
    (visits_all g.M.Machine.enabled g.M.Machine.Turns g.M.Machine.HasKey c.args.state c.new-2.result.items c.search_from-searched.new.search.seen.items c.saturating_sub-states.result c.new-2.ensures.items c.in-Ok.ensures.grows
    c.in-Ok.ensures.indexed.apart (let b = c.in-Ok.ensures.budget in let none = ap (λ (l : List Seen). length l) c.new-2.ensures.items in omega (arith, b, none, c.saturating_sub-states.ensures)))
