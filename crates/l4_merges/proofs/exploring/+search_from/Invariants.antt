use Rattle.std.proofs.Common.{◌≡◌, ℕ, ◌+◌, ◌<◌, length}
use Rattle.l4_merges.specs.Graphs.{AreExplored, Grows, IsPlacedAt}
use Rattle.l4_merges.specs.Inside.Tables.{IsIndexed, IsNotKnown}
use Rattle.l4_merges.specs.Orders.{FindsOn}
use Rattle.l4_merges.proofs.Covering.{FindsFrom}
use Rattle.l4_merges.proofs.Counting.{CountsBelow}
use Rattle.l4_merges.proofs.Drawing.{EdgesBelow}
use Rattle.l4_merges.proofs.exploring.+search_from.Given as goal

abbrev pub decreases-search_from : goal.decreases-search_from
decreases-search_from g l = g.M.Machine.left l.state

abbrev pub invariant-loop-thread : goal.invariant-loop-thread
invariant-loop-thread g l =
    let enabled = g.M.Machine.enabled in
    let Turns = g.M.Machine.Turns in
    let HasOutcome = g.M.Machine.HasOutcome in
    let HasKey = g.M.Machine.HasKey in
    record {
      orders : CountsBelow enabled g.M.Machine.Turns l.state l.thread l.orders;
      path : l.search.path.items ≡ l.fn.search.path.items;
      on : FindsOn enabled Turns HasOutcome l.fn.search.path.items l.state l.fn.search.found.items l.search.found.items;
      explored : AreExplored enabled Turns g.M.Machine.name HasOutcome HasKey (g.M.Machine.Akin l.state) l.search.seen.items l.search.found.items;
      from : (k : ℕ) → k < l.thread → FindsFrom enabled Turns HasOutcome l.state k l.search.found.items;
      edges : EdgesBelow enabled Turns g.M.Machine.name (IsPlacedAt HasKey l.search.seen.items) l.state l.thread l.edges.items;
      grows : Grows enabled Turns HasKey l.state l.fn.search.seen.items l.search.seen.items;
      indexed : IsIndexed l.search.table l.search.seen.items;
      new : IsNotKnown l.search.seen.items l.key.items;
      budget : l.search.budget + length l.search.seen.items + 1 ≡ l.fn.search.budget + length l.fn.search.seen.items;
    }
