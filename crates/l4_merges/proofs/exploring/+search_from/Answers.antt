use Rattle.std.proofs.Common.{◌≡◌, ℕ, true, false, List, [], ◌∷◌, ◌++◌, get_or, Some, None, refl, sym, ap, subst, ◌∙◌, arith, below_more, vec_len}
use Rattle.l4_merges.specs.Graphs.{IsPlacedAt}
use Rattle.l4_merges.specs.Orders.{CountsOrders}
use Rattle.l4_merges.proofs.Covering.{on_same, finds_from, finds_none, from_still, finds_all, finds_over, on_then, on_turned, on_same_found, on_same_path, on_ok, map_ok, all_at, end_of, on_err}
use Rattle.l4_merges.proofs.Noted.{explored_push, explored_still, explored_at, explored_among, noted_is, noted_at, placed_counts}
use Rattle.l4_merges.proofs.Counting.{CountsBelow, none_below, disabled_more, below_turn, counts_all, counts_over}
use Rattle.l4_merges.proofs.Visiting.{visits_none, visits_here, visits_then, visits_after, never_again, still_new, same_known, same_noted, same_new}
use Rattle.l4_merges.proofs.Drawing.{EdgesBelow, no_edges, no_edge, one_edge, all_edges, none_goes_on, some_goes_on, grows_not, grows_turn, grows_push, placed_kept, placed_on, when_empty, when_not, akin_to}
use Rattle.l4_merges.specs.declared.graph.Edge.{Edge}
use Rattle.l4_merges.specs.declared.graph.Seen.{Seen}
use Rattle.l4_merges.proofs.exploring.+search_from.Goals as goal

pub loop-thread-preserved-then-not-enabled : goal.loop-thread-preserved-then-not-enabled
loop-thread-preserved-then-not-enabled g t c =
    let inv = c.loop-thread.invariant in
    let not : g.M.Machine.enabled c.args.state c.loop-thread.thread ≡ false = sym c.enabled.ensures ∙ c.if-not-enabled.true in
    record {
      path = inv.path;
      on = inv.on;
      explored = inv.explored;
      from = below_more _ _ inv.from (finds_none g.M.Machine.enabled g.M.Machine.Turns g.M.Machine.HasOutcome c.args.state c.loop-thread.thread c.loop-thread.search.found.items not);
      orders = disabled_more g.M.Machine.enabled g.M.Machine.Turns c.args.state c.loop-thread.thread c.loop-thread.orders not inv.orders;
      edges = no_edge g.M.Machine.enabled g.M.Machine.Turns g.M.Machine.name (IsPlacedAt g.M.Machine.HasKey c.loop-thread.search.seen.items) c.args.state c.loop-thread.thread c.loop-thread.edges.items not inv.edges;
      grows = inv.grows;
      indexed = inv.indexed;
      new = inv.new;
      budget = inv.budget;
    }

pub loop-thread-init : goal.loop-thread-init
loop-thread-init g t c = record {
  path = λ i. c.args.search.now.path.items;
  on = on_same g.M.Machine.enabled g.M.Machine.Turns g.M.Machine.HasOutcome c.args.search.now.path.items c.args.state c.args.search.now.found.items;
  explored = c.requires.explored;
  from = λ k lt. absurd (omega (arith, lt));
  orders = subst (λ (n : ℕ). CountsBelow g.M.Machine.enabled g.M.Machine.Turns c.args.state 0 n) (sym c.zero-orders.ensures) (none_below g.M.Machine.enabled g.M.Machine.Turns c.args.state);
  edges = subst (λ (l : List Edge). EdgesBelow g.M.Machine.enabled g.M.Machine.Turns g.M.Machine.name (IsPlacedAt g.M.Machine.HasKey c.args.search.now.seen.items) c.args.state 0 l) (sym c.new-edges.ensures.items)
      (no_edges g.M.Machine.enabled g.M.Machine.Turns g.M.Machine.name (IsPlacedAt g.M.Machine.HasKey c.args.search.now.seen.items) c.args.state);
  grows = grows_not g.M.Machine.enabled g.M.Machine.Turns g.M.Machine.HasKey c.args.state c.args.search.now.seen.items;
  indexed = c.requires.indexed;
  new = same_known c.args.search.now.seen.items c.as_slice.result.now c.in-Ok.key.items c.as_slice-2.result.now c.as_slice.ensures.value c.as_slice-2.ensures.value (c.in_default.ensures.new refl);
  budget = omega (arith, c.if-search-eq0.false);
}

pub returns-in-Err-search_from-clause-on : goal.returns-in-Err-search_from-clause-on
returns-in-Err-search_from-clause-on g t c =
    let inv = c.loop-thread.invariant in
    let stepped : c.push_turn.new.path.items ≡ c.args.search.now.path.items ++ c.loop-thread.thread ∷ [] =
    c.push_turn.ensures c.if-not-push_turn.false ∙ ap (λ (w : List ℕ). w ++ c.loop-thread.thread ∷ []) inv.path in
    on_turned g.M.Machine.enabled g.M.Machine.Turns g.M.Machine.HasOutcome c.args.search.now.path.items c.push_turn.new.path.items c.args.state c.loop-thread.thread c.in-Ok-after_turn.next
    c.args.search.now.found.items c.loop-thread.search.found.items c.search_from.new.search.found.items stepped (sym c.enabled.ensures ∙ c.if-not-enabled.false) c.in-Ok-after_turn.ensures inv.on c.search_from.ensures.on

pub returns-then-not-add_edge-clause-on : goal.returns-then-not-add_edge-clause-on
returns-then-not-add_edge-clause-on g t c =
    let inv = c.loop-thread.invariant in
    let stepped : c.push_turn.new.path.items ≡ c.args.search.now.path.items ++ c.loop-thread.thread ∷ [] =
    c.push_turn.ensures c.if-not-push_turn.false ∙ ap (λ (w : List ℕ). w ++ c.loop-thread.thread ∷ []) inv.path in
    on_turned g.M.Machine.enabled g.M.Machine.Turns g.M.Machine.HasOutcome c.args.search.now.path.items c.push_turn.new.path.items c.args.state c.loop-thread.thread c.in-Ok-after_turn.next
    c.args.search.now.found.items c.loop-thread.search.found.items c.search_from.new.search.found.items stepped (sym c.enabled.ensures ∙ c.if-not-enabled.false) c.in-Ok-after_turn.ensures inv.on c.search_from.ensures.on

pub loop-thread-preserved : goal.loop-thread-preserved
loop-thread-preserved g t c =
    let inv = c.loop-thread.invariant in
    let found = c.loop-thread.search.found.items in
    let later = c.search_from.new.search.found.items in
    let edge : Edge = record { thread = c.loop-thread.thread; name = g.M.Machine.name c.args.state c.loop-thread.thread; to = c.in-Ok-search_from.place } in
    let stepped : c.push_turn.new.path.items ≡ c.args.search.now.path.items ++ c.loop-thread.thread ∷ [] =
    c.push_turn.ensures c.if-not-push_turn.false ∙ ap (λ (w : List ℕ). w ++ c.loop-thread.thread ∷ []) inv.path in
    let able : g.M.Machine.enabled c.args.state c.loop-thread.thread ≡ true = sym c.enabled.ensures ∙ c.if-not-enabled.false in
    let on = c.search_from.ensures.on in
    let turns = c.in-Ok-after_turn.ensures in
    let grown = c.in-Ok-search_from.ensures.grows in
    let placed = c.in-Ok-search_from.ensures.place in
    record {
      path = c.step_back.ensures c.args.search.now.path.items c.loop-thread.thread (c.in-Ok-search_from.ensures.path ∙ stepped);
      on = on_turned g.M.Machine.enabled g.M.Machine.Turns g.M.Machine.HasOutcome c.args.search.now.path.items c.push_turn.new.path.items c.args.state c.loop-thread.thread c.in-Ok-after_turn.next
          c.args.search.now.found.items found later stepped able turns inv.on on;
      explored = explored_among g.M.Machine.enabled g.M.Machine.Turns g.M.Machine.name g.M.Machine.HasOutcome g.M.Machine.HasKey (g.M.Machine.Akin c.in-Ok-after_turn.next) (g.M.Machine.Akin c.args.state) c.search_from.new.search.seen.items later
          (λ u. (g.met.M.Machine.stays c.args.state c.loop-thread.thread c.in-Ok-after_turn.next turns u).0) c.in-Ok-search_from.ensures.explored;
      from = below_more _ _ (λ k lt. from_still g.M.Machine.enabled g.M.Machine.Turns g.M.Machine.HasOutcome c.args.state k found later on.still (inv.from k lt))
          (finds_from g.M.Machine.enabled g.M.Machine.Turns g.M.Machine.HasOutcome c.args.state c.loop-thread.thread c.in-Ok-after_turn.next later able turns c.in-Ok-search_from.ensures.all);
      orders = below_turn g.M.Machine.enabled g.M.Machine.Turns c.args.state c.loop-thread.thread c.in-Ok-after_turn.next c.loop-thread.orders placed.0.orders c.add_orders.new.orders able turns
          (placed_counts g.M.Machine.enabled g.M.Machine.Turns g.M.Machine.name g.M.Machine.HasOutcome g.M.Machine.HasKey (g.M.Machine.Akin c.in-Ok-after_turn.next) c.search_from.new.search.seen.items later c.in-Ok-after_turn.next
          c.in-Ok-search_from.place (g.met.M.Machine.own c.in-Ok-after_turn.next) c.in-Ok-search_from.ensures.explored placed)
          (c.add_orders.ensures c.if-not-add_orders.false placed.0 (ap (λ (l : List Seen). get_or l c.in-Ok-search_from.place placed.0) c.as_slice-in-loop-thread.ensures.value ∙ placed.2)) inv.orders;
      edges = one_edge g.M.Machine.enabled g.M.Machine.Turns g.M.Machine.name (IsPlacedAt g.M.Machine.HasKey c.loop-thread.search.seen.items) (IsPlacedAt g.M.Machine.HasKey c.search_from.new.search.seen.items) c.args.state c.loop-thread.thread
          c.loop-thread.edges.items c.add_edge.new.edges.items edge c.in-Ok-after_turn.next (λ u k. placed_on g.M.Machine.enabled g.M.Machine.Turns g.M.Machine.HasKey c.in-Ok-after_turn.next c.loop-thread.search.seen.items c.search_from.new.search.seen.items u k grown)
          (c.add_edge.ensures c.if-not-add_edge.false) refl refl able turns c.in-Ok-search_from.ensures.place inv.edges;
      grows = grows_turn g.M.Machine.enabled g.M.Machine.Turns g.M.Machine.HasKey c.args.state c.loop-thread.thread c.in-Ok-after_turn.next c.args.search.now.seen.items c.loop-thread.search.seen.items c.search_from.new.search.seen.items able turns inv.grows grown;
      indexed = c.in-Ok-search_from.ensures.indexed;
      new = still_new g.M.Machine.enabled g.M.Machine.Turns g.M.Machine.HasKey g.M.Machine.Akin g.M.Machine.left g.met.M.Machine.falls c.args.state c.loop-thread.thread c.in-Ok-after_turn.next c.in-Ok.key.items c.loop-thread.search.seen.items
          c.search_from.new.search.seen.items
          (never_again g.M.Machine.enabled g.M.Machine.Turns g.M.Machine.HasKey g.M.Machine.Akin g.M.Machine.left g.met.M.Machine.falls g.met.M.Machine.one_state c.args.state c.loop-thread.thread c.in-Ok-after_turn.next c.in-Ok.key.items turns c.in-Ok.ensures
          (λ path u run. (g.met.M.Machine.stays c.args.state c.loop-thread.thread c.in-Ok-after_turn.next turns u).1 (akin_to g.M.Machine.enabled g.M.Machine.Turns g.M.Machine.name g.M.Machine.HasOutcome g.M.Machine.HasKey g.M.Machine.Akin
          g.met.M.Machine.own g.met.M.Machine.stays c.in-Ok-after_turn.next path u run)))
          grown inv.new;
      budget = (let a = inv.budget in let b = c.in-Ok-search_from.ensures.budget in omega (arith, a, b));
    }

pub search_from-requires : goal.search_from-requires
search_from-requires g t c κs within =
    let fewer = g.met.M.Machine.falls c.args.state c.loop-thread.thread c.in-Ok-after_turn.next c.in-Ok-after_turn.ensures in (
      omega (arith, fewer),
      (
        within.0,
        (
          within.1,
          (
            explored_among g.M.Machine.enabled g.M.Machine.Turns g.M.Machine.name g.M.Machine.HasOutcome g.M.Machine.HasKey (g.M.Machine.Akin c.args.state) (g.M.Machine.Akin c.in-Ok-after_turn.next)
                c.loop-thread.search.seen.items c.loop-thread.search.found.items
                (λ u. (g.met.M.Machine.stays c.args.state c.loop-thread.thread c.in-Ok-after_turn.next c.in-Ok-after_turn.ensures u).1) c.loop-thread.invariant.explored,
            c.loop-thread.invariant.indexed,
          ),
        ),
      ),
    )

pub returns-in-Some-clause-all : goal.returns-in-Some-clause-all
returns-in-Some-clause-all g t c =
    noted_is g.M.Machine.enabled g.M.Machine.Turns g.M.Machine.name g.M.Machine.HasOutcome g.M.Machine.HasKey (g.M.Machine.Akin c.args.state) c.args.search.now.seen.items c.args.state
    c.in-Ok.key.items c.as_slice-2.result.now c.in-Some.place c.args.search.now.found.items c.as_slice-2.ensures.value (g.met.M.Machine.own c.args.state) c.in-Ok.ensures
    (same_noted c.args.search.now.seen.items c.as_slice.result.now c.as_slice-2.result.now c.in-Some.place c.as_slice.ensures.value c.in-Some.ensures.place) c.requires.explored

pub returns-in-Some-clause-place : goal.returns-in-Some-clause-place
returns-in-Some-clause-place g t c =
    noted_at g.M.Machine.enabled g.M.Machine.Turns g.M.Machine.name g.M.Machine.HasOutcome g.M.Machine.HasKey c.args.search.now.seen.items c.args.state c.in-Ok.key.items c.as_slice-2.result.now c.in-Some.place c.as_slice-2.ensures.value c.in-Ok.ensures
    (same_noted c.args.search.now.seen.items c.as_slice.result.now c.as_slice-2.result.now c.in-Some.place c.as_slice.ensures.value c.in-Some.ensures.place)

pub returns-in-Some-clause-grows : goal.returns-in-Some-clause-grows
returns-in-Some-clause-grows g t c = grows_not g.M.Machine.enabled g.M.Machine.Turns g.M.Machine.HasKey c.args.state c.args.search.now.seen.items

pub end_of-requires : goal.end_of-requires
end_of-requires g t c =
    let inv = c.loop-thread.invariant in
    let edges = all_edges g.M.Machine.enabled g.M.Machine.Turns g.M.Machine.name (IsPlacedAt g.M.Machine.HasKey c.loop-thread.search.seen.items) (g.M.Machine.threads c.args.state) c.loop-thread.thread c.args.state c.loop-thread.edges.items (omega (arith, c.loop-thread-test.false, c.threads-thread-end.ensures)) (g.met.M.Machine.within c.args.state) inv.edges in
    let over = none_goes_on g.M.Machine.enabled g.M.Machine.Turns g.M.Machine.name (IsPlacedAt g.M.Machine.HasKey c.loop-thread.search.seen.items) c.args.state c.loop-thread.edges.items (when_empty c.is_empty.result (vec_len c.loop-thread.edges) _ c.is_empty.ensures (omega (arith, c.loop-thread.edges.ok.0)) c.if-is_empty.true) edges in
    over

pub returns-in-Err-end_of-clause-on : goal.returns-in-Err-end_of-clause-on
returns-in-Err-end_of-clause-on g t c =
    let inv = c.loop-thread.invariant in
    on_then g.M.Machine.enabled g.M.Machine.Turns g.M.Machine.HasOutcome c.args.search.now.path.items c.args.state c.args.search.now.found.items c.loop-thread.search.found.items c.end_of.new.search.found.items inv.on
    (on_same_path g.M.Machine.enabled g.M.Machine.Turns g.M.Machine.HasOutcome c.args.search.now.path.items c.loop-thread.search.path.items c.args.state c.loop-thread.search.found.items c.end_of.new.search.found.items inv.path c.end_of.ensures.on)

pub returns-then-is_empty-clause-all : goal.returns-then-is_empty-clause-all
returns-then-is_empty-clause-all g t c =
    let inv = c.loop-thread.invariant in
    let edges = all_edges g.M.Machine.enabled g.M.Machine.Turns g.M.Machine.name (IsPlacedAt g.M.Machine.HasKey c.loop-thread.search.seen.items) (g.M.Machine.threads c.args.state) c.loop-thread.thread c.args.state c.loop-thread.edges.items (omega (arith, c.loop-thread-test.false, c.threads-thread-end.ensures)) (g.met.M.Machine.within c.args.state) inv.edges in
    let over = none_goes_on g.M.Machine.enabled g.M.Machine.Turns g.M.Machine.name (IsPlacedAt g.M.Machine.HasKey c.loop-thread.search.seen.items) c.args.state c.loop-thread.edges.items (when_empty c.is_empty.result (vec_len c.loop-thread.edges) _ c.is_empty.ensures (omega (arith, c.loop-thread.edges.ok.0)) c.if-is_empty.true) edges in
    on_ok _ c.keep.result
    (all_at g.M.Machine.enabled g.M.Machine.Turns g.M.Machine.HasOutcome c.args.state c.end_of.new.search.found.items c.keep.new.search.found.items c.keep.ensures.found
    (finds_over g.M.Machine.enabled g.M.Machine.Turns g.M.Machine.HasOutcome (g.M.Machine.threads c.args.state) c.args.state c.end_of.new.search.found.items (g.met.M.Machine.within c.args.state)
    (λ k lt. over k) (end_of g.M.Machine.HasOutcome c.args.state c.end_of.new.search.found.items c.in-Ok-end_of.noted.0 c.in-Ok-end_of.ensures.found)))

pub returns-then-is_empty-clause-place : goal.returns-then-is_empty-clause-place
returns-then-is_empty-clause-place g t c =
    let one : Seen = record { key = c.in-Ok.key; orders = c.in-Ok-end_of.noted.1; edges = c.loop-thread.edges; end = Some c.in-Ok-end_of.noted.0 } in
    placed_kept g.M.Machine.HasKey c.keep.result c.end_of.new.search.seen.items c.keep.new.search.seen.items one c.args.state (map_ok _ _ c.keep.result (λ e. e ∙ ap (λ (k : Seen). c.end_of.new.search.seen.items ++ k ∷ []) c.entry.ensures) c.keep.ensures.seen) c.keep.ensures.place c.in-Ok.ensures

pub returns-then-is_empty-clause-grows : goal.returns-then-is_empty-clause-grows
returns-then-is_empty-clause-grows g t c =
    let one : Seen = record { key = c.in-Ok.key; orders = c.in-Ok-end_of.noted.1; edges = c.loop-thread.edges; end = Some c.in-Ok-end_of.noted.0 } in
    let inv = c.loop-thread.invariant in
    map_ok _ _ c.keep.result (λ e. grows_push g.M.Machine.enabled g.M.Machine.Turns g.M.Machine.HasKey c.args.state c.args.search.now.seen.items c.loop-thread.search.seen.items c.keep.new.search.seen.items one (e ∙ ap (λ (k : Seen). c.end_of.new.search.seen.items ++ k ∷ []) c.entry.ensures ∙ ap (λ (l : List Seen). l ++ one ∷ []) c.end_of.ensures.seen) c.in-Ok.ensures inv.grows) c.keep.ensures.seen

pub returns-then-is_empty-clause-explored : goal.returns-then-is_empty-clause-explored
returns-then-is_empty-clause-explored g t c =
    let inv = c.loop-thread.invariant in
    let edges = all_edges g.M.Machine.enabled g.M.Machine.Turns g.M.Machine.name (IsPlacedAt g.M.Machine.HasKey c.loop-thread.search.seen.items) (g.M.Machine.threads c.args.state) c.loop-thread.thread c.args.state c.loop-thread.edges.items (omega (arith, c.loop-thread-test.false, c.threads-thread-end.ensures)) (g.met.M.Machine.within c.args.state) inv.edges in
    let over = none_goes_on g.M.Machine.enabled g.M.Machine.Turns g.M.Machine.name (IsPlacedAt g.M.Machine.HasKey c.loop-thread.search.seen.items) c.args.state c.loop-thread.edges.items (when_empty c.is_empty.result (vec_len c.loop-thread.edges) _ c.is_empty.ensures (omega (arith, c.loop-thread.edges.ok.0)) c.if-is_empty.true) edges in
    let one : Seen = record { key = c.in-Ok.key; orders = c.in-Ok-end_of.noted.1; edges = c.loop-thread.edges; end = Some c.in-Ok-end_of.noted.0 } in
    map_ok _ _ c.keep.result
    (λ e. explored_at g.M.Machine.enabled g.M.Machine.Turns g.M.Machine.name g.M.Machine.HasOutcome g.M.Machine.HasKey (g.M.Machine.Akin c.args.state) (c.loop-thread.search.seen.items ++ one ∷ []) c.keep.new.search.seen.items c.end_of.new.search.found.items c.keep.new.search.found.items
    (e ∙ ap (λ (k : Seen). c.end_of.new.search.seen.items ++ k ∷ []) c.entry.ensures ∙ ap (λ (l : List Seen). l ++ one ∷ []) c.end_of.ensures.seen) c.keep.ensures.found
    (explored_push g.M.Machine.enabled g.M.Machine.Turns g.M.Machine.name g.M.Machine.HasOutcome g.M.Machine.HasKey g.M.Machine.Akin g.met.M.Machine.one_state c.loop-thread.search.seen.items c.args.state one c.end_of.new.search.found.items c.in-Ok.ensures
    (explored_still g.M.Machine.enabled g.M.Machine.Turns g.M.Machine.name g.M.Machine.HasOutcome g.M.Machine.HasKey (g.M.Machine.Akin c.args.state) c.loop-thread.search.seen.items c.loop-thread.search.found.items c.end_of.new.search.found.items c.end_of.ensures.on.still c.end_of.ensures.on.grows inv.explored)
    (finds_over g.M.Machine.enabled g.M.Machine.Turns g.M.Machine.HasOutcome (g.M.Machine.threads c.args.state) c.args.state c.end_of.new.search.found.items (g.met.M.Machine.within c.args.state)
    (λ k lt. over k) (end_of g.M.Machine.HasOutcome c.args.state c.end_of.new.search.found.items c.in-Ok-end_of.noted.0 c.in-Ok-end_of.ensures.found))
    (subst (λ (n : ℕ). CountsOrders g.M.Machine.enabled g.M.Machine.Turns c.args.state n) (sym c.in-Ok-end_of.ensures.one) (counts_over g.M.Machine.enabled g.M.Machine.Turns c.args.state over)) (record { edges = edges; end = (over, c.in-Ok-end_of.ensures.found) })))
    c.keep.ensures.seen

pub returns-then-is_empty-clause-on : goal.returns-then-is_empty-clause-on
returns-then-is_empty-clause-on g t c =
    let inv = c.loop-thread.invariant in
    on_same_found g.M.Machine.enabled g.M.Machine.Turns g.M.Machine.HasOutcome c.args.search.now.path.items c.args.state c.args.search.now.found.items c.end_of.new.search.found.items c.keep.new.search.found.items c.keep.ensures.found
    (on_then g.M.Machine.enabled g.M.Machine.Turns g.M.Machine.HasOutcome c.args.search.now.path.items c.args.state c.args.search.now.found.items c.loop-thread.search.found.items c.end_of.new.search.found.items inv.on
    (on_same_path g.M.Machine.enabled g.M.Machine.Turns g.M.Machine.HasOutcome c.args.search.now.path.items c.loop-thread.search.path.items c.args.state c.loop-thread.search.found.items c.end_of.new.search.found.items inv.path c.end_of.ensures.on))

pub returns-clause-all : goal.returns-clause-all
returns-clause-all g t c =
    let inv = c.loop-thread.invariant in
    let edges = all_edges g.M.Machine.enabled g.M.Machine.Turns g.M.Machine.name (IsPlacedAt g.M.Machine.HasKey c.loop-thread.search.seen.items) (g.M.Machine.threads c.args.state) c.loop-thread.thread c.args.state c.loop-thread.edges.items (omega (arith, c.loop-thread-test.false, c.threads-thread-end.ensures)) (g.met.M.Machine.within c.args.state) inv.edges in
    let some = some_goes_on g.M.Machine.enabled g.M.Machine.Turns g.M.Machine.name (IsPlacedAt g.M.Machine.HasKey c.loop-thread.search.seen.items) c.args.state c.loop-thread.edges.items (when_not c.is_empty.result (vec_len c.loop-thread.edges) _ c.is_empty.ensures (omega (arith, c.loop-thread.edges.ok.0)) c.if-is_empty.false) edges in
    on_ok _ c.keep-2.result
    (all_at g.M.Machine.enabled g.M.Machine.Turns g.M.Machine.HasOutcome c.args.state c.loop-thread.search.found.items c.keep-2.new.search.found.items c.keep-2.ensures.found
    (finds_all g.M.Machine.enabled g.M.Machine.Turns g.M.Machine.HasOutcome (g.M.Machine.threads c.args.state) c.args.state c.loop-thread.search.found.items (g.met.M.Machine.within c.args.state)
    (λ k lt. inv.from k (omega (arith, lt, c.loop-thread-test.false, c.threads-thread-end.ensures))) some))

pub returns-clause-place : goal.returns-clause-place
returns-clause-place g t c =
    let one : Seen = record { key = c.in-Ok.key; orders = c.loop-thread.orders; edges = c.loop-thread.edges; end = None } in
    placed_kept g.M.Machine.HasKey c.keep-2.result c.loop-thread.search.seen.items c.keep-2.new.search.seen.items one c.args.state (map_ok _ _ c.keep-2.result (λ e. e ∙ ap (λ (k : Seen). c.loop-thread.search.seen.items ++ k ∷ []) c.entry-2.ensures) c.keep-2.ensures.seen) c.keep-2.ensures.place c.in-Ok.ensures

pub returns-clause-grows : goal.returns-clause-grows
returns-clause-grows g t c =
    let one : Seen = record { key = c.in-Ok.key; orders = c.loop-thread.orders; edges = c.loop-thread.edges; end = None } in
    let inv = c.loop-thread.invariant in
    map_ok _ _ c.keep-2.result (λ e. grows_push g.M.Machine.enabled g.M.Machine.Turns g.M.Machine.HasKey c.args.state c.args.search.now.seen.items c.loop-thread.search.seen.items c.keep-2.new.search.seen.items one (e ∙ ap (λ (k : Seen). c.loop-thread.search.seen.items ++ k ∷ []) c.entry-2.ensures) c.in-Ok.ensures inv.grows) c.keep-2.ensures.seen

pub returns-clause-explored : goal.returns-clause-explored
returns-clause-explored g t c =
    let inv = c.loop-thread.invariant in
    let edges = all_edges g.M.Machine.enabled g.M.Machine.Turns g.M.Machine.name (IsPlacedAt g.M.Machine.HasKey c.loop-thread.search.seen.items) (g.M.Machine.threads c.args.state) c.loop-thread.thread c.args.state c.loop-thread.edges.items (omega (arith, c.loop-thread-test.false, c.threads-thread-end.ensures)) (g.met.M.Machine.within c.args.state) inv.edges in
    let some = some_goes_on g.M.Machine.enabled g.M.Machine.Turns g.M.Machine.name (IsPlacedAt g.M.Machine.HasKey c.loop-thread.search.seen.items) c.args.state c.loop-thread.edges.items (when_not c.is_empty.result (vec_len c.loop-thread.edges) _ c.is_empty.ensures (omega (arith, c.loop-thread.edges.ok.0)) c.if-is_empty.false) edges in
    let one : Seen = record { key = c.in-Ok.key; orders = c.loop-thread.orders; edges = c.loop-thread.edges; end = None } in
    map_ok _ _ c.keep-2.result
    (λ e. explored_at g.M.Machine.enabled g.M.Machine.Turns g.M.Machine.name g.M.Machine.HasOutcome g.M.Machine.HasKey (g.M.Machine.Akin c.args.state) (c.loop-thread.search.seen.items ++ one ∷ []) c.keep-2.new.search.seen.items c.loop-thread.search.found.items c.keep-2.new.search.found.items
    (e ∙ ap (λ (k : Seen). c.loop-thread.search.seen.items ++ k ∷ []) c.entry-2.ensures) c.keep-2.ensures.found
    (explored_push g.M.Machine.enabled g.M.Machine.Turns g.M.Machine.name g.M.Machine.HasOutcome g.M.Machine.HasKey g.M.Machine.Akin g.met.M.Machine.one_state c.loop-thread.search.seen.items c.args.state one c.loop-thread.search.found.items c.in-Ok.ensures inv.explored
    (finds_all g.M.Machine.enabled g.M.Machine.Turns g.M.Machine.HasOutcome (g.M.Machine.threads c.args.state) c.args.state c.loop-thread.search.found.items (g.met.M.Machine.within c.args.state)
    (λ k lt. inv.from k (omega (arith, lt, c.loop-thread-test.false, c.threads-thread-end.ensures))) some)
    (counts_all g.M.Machine.enabled g.M.Machine.Turns (g.M.Machine.threads c.args.state) c.loop-thread.thread c.args.state c.loop-thread.orders (omega (arith, c.loop-thread-test.false, c.threads-thread-end.ensures))
    (g.met.M.Machine.within c.args.state) some inv.orders) (record { edges = edges; end = some })))
    c.keep-2.ensures.seen

pub returns-in-Some-clause-on : goal.returns-in-Some-clause-on
returns-in-Some-clause-on g t c = on_same g.M.Machine.enabled g.M.Machine.Turns g.M.Machine.HasOutcome c.args.search.now.path.items c.args.state c.args.search.now.found.items

pub returns-then-search-eq0-clause-on : goal.returns-then-search-eq0-clause-on
returns-then-search-eq0-clause-on g t c = on_same g.M.Machine.enabled g.M.Machine.Turns g.M.Machine.HasOutcome c.args.search.now.path.items c.args.state c.args.search.now.found.items

pub returns-in-Err-clause-visits : goal.returns-in-Err-clause-visits
returns-in-Err-clause-visits g t c = visits_none g.M.Machine.enabled g.M.Machine.Turns g.M.Machine.HasKey c.args.state c.args.search.now.seen.items c.args.search.now.budget c.args.search.now.budget refl

pub returns-then-search-eq0-clause-visits : goal.returns-then-search-eq0-clause-visits
returns-then-search-eq0-clause-visits g t c = visits_none g.M.Machine.enabled g.M.Machine.Turns g.M.Machine.HasKey c.args.state c.args.search.now.seen.items c.args.search.now.budget c.args.search.now.budget refl

pub returns-in-Err-after_turn-clause-visits : goal.returns-in-Err-after_turn-clause-visits
returns-in-Err-after_turn-clause-visits g t c =
    let inv = c.loop-thread.invariant in
    visits_here g.M.Machine.enabled g.M.Machine.Turns g.M.Machine.HasKey c.args.state c.in-Ok.key.items c.in-Ok.ensures c.args.search.now.seen.items c.loop-thread.search.seen.items inv.grows inv.indexed.apart inv.new
    c.args.search.now.budget c.loop-thread.search.budget (let b = inv.budget in omega (arith, b))

pub returns-then-not-push_turn-clause-visits : goal.returns-then-not-push_turn-clause-visits
returns-then-not-push_turn-clause-visits g t c =
    let inv = c.loop-thread.invariant in
    visits_here g.M.Machine.enabled g.M.Machine.Turns g.M.Machine.HasKey c.args.state c.in-Ok.key.items c.in-Ok.ensures c.args.search.now.seen.items c.loop-thread.search.seen.items inv.grows inv.indexed.apart inv.new
    c.args.search.now.budget c.loop-thread.search.budget (let b = inv.budget in omega (arith, b))

pub returns-in-Err-search_from-clause-visits : goal.returns-in-Err-search_from-clause-visits
returns-in-Err-search_from-clause-visits g t c =
    let inv = c.loop-thread.invariant in
    visits_then g.M.Machine.enabled g.M.Machine.Turns g.M.Machine.HasKey c.args.state c.in-Ok.key.items c.in-Ok.ensures c.args.search.now.seen.items c.loop-thread.search.seen.items inv.grows inv.indexed.apart inv.new
    c.loop-thread.thread c.in-Ok-after_turn.next c.args.search.now.budget c.loop-thread.search.budget c.search_from.new.search.budget (sym c.enabled.ensures ∙ c.if-not-enabled.false) c.in-Ok-after_turn.ensures c.in-Err-search_from.ensures.visits
    (never_again g.M.Machine.enabled g.M.Machine.Turns g.M.Machine.HasKey g.M.Machine.Akin g.M.Machine.left g.met.M.Machine.falls g.met.M.Machine.one_state c.args.state c.loop-thread.thread c.in-Ok-after_turn.next c.in-Ok.key.items
    c.in-Ok-after_turn.ensures c.in-Ok.ensures
    (λ path u run. (g.met.M.Machine.stays c.args.state c.loop-thread.thread c.in-Ok-after_turn.next c.in-Ok-after_turn.ensures u).1 (akin_to g.M.Machine.enabled g.M.Machine.Turns g.M.Machine.name g.M.Machine.HasOutcome g.M.Machine.HasKey g.M.Machine.Akin
    g.met.M.Machine.own g.met.M.Machine.stays c.in-Ok-after_turn.next path u run)))
    (let b = inv.budget in omega (arith, b))

pub returns-then-not-add_orders-clause-on : goal.returns-then-not-add_orders-clause-on
returns-then-not-add_orders-clause-on g t c =
    let inv = c.loop-thread.invariant in
    let stepped : c.push_turn.new.path.items ≡ c.args.search.now.path.items ++ c.loop-thread.thread ∷ [] =
    c.push_turn.ensures c.if-not-push_turn.false ∙ ap (λ (w : List ℕ). w ++ c.loop-thread.thread ∷ []) inv.path in
    on_turned g.M.Machine.enabled g.M.Machine.Turns g.M.Machine.HasOutcome c.args.search.now.path.items c.push_turn.new.path.items c.args.state c.loop-thread.thread c.in-Ok-after_turn.next
    c.args.search.now.found.items c.loop-thread.search.found.items c.search_from.new.search.found.items stepped (sym c.enabled.ensures ∙ c.if-not-enabled.false) c.in-Ok-after_turn.ensures inv.on c.search_from.ensures.on

pub returns-then-not-add_orders-clause-visits : goal.returns-then-not-add_orders-clause-visits
returns-then-not-add_orders-clause-visits g t c =
    let inv = c.loop-thread.invariant in
    let found = c.in-Ok-search_from.ensures in
    visits_after g.M.Machine.enabled g.M.Machine.Turns g.M.Machine.HasKey g.M.Machine.Akin g.M.Machine.left g.met.M.Machine.falls c.args.state c.loop-thread.thread c.in-Ok-after_turn.next c.in-Ok.key.items c.args.search.now.seen.items
    c.loop-thread.search.seen.items c.search_from.new.search.seen.items c.args.search.now.budget c.loop-thread.search.budget c.search_from.new.search.budget c.in-Ok.ensures (sym c.enabled.ensures ∙ c.if-not-enabled.false) c.in-Ok-after_turn.ensures
    (never_again g.M.Machine.enabled g.M.Machine.Turns g.M.Machine.HasKey g.M.Machine.Akin g.M.Machine.left g.met.M.Machine.falls g.met.M.Machine.one_state c.args.state c.loop-thread.thread c.in-Ok-after_turn.next c.in-Ok.key.items
    c.in-Ok-after_turn.ensures c.in-Ok.ensures
    (λ path u run. (g.met.M.Machine.stays c.args.state c.loop-thread.thread c.in-Ok-after_turn.next c.in-Ok-after_turn.ensures u).1 (akin_to g.M.Machine.enabled g.M.Machine.Turns g.M.Machine.name g.M.Machine.HasOutcome g.M.Machine.HasKey g.M.Machine.Akin
    g.met.M.Machine.own g.met.M.Machine.stays c.in-Ok-after_turn.next path u run)))
    inv.grows found.grows found.indexed.apart inv.new (let b = inv.budget in omega (arith, b)) (let b = found.budget in omega (arith, b))

pub returns-then-not-add_edge-clause-visits : goal.returns-then-not-add_edge-clause-visits
returns-then-not-add_edge-clause-visits g t c =
    let inv = c.loop-thread.invariant in
    let found = c.in-Ok-search_from.ensures in
    visits_after g.M.Machine.enabled g.M.Machine.Turns g.M.Machine.HasKey g.M.Machine.Akin g.M.Machine.left g.met.M.Machine.falls c.args.state c.loop-thread.thread c.in-Ok-after_turn.next c.in-Ok.key.items c.args.search.now.seen.items
    c.loop-thread.search.seen.items c.search_from.new.search.seen.items c.args.search.now.budget c.loop-thread.search.budget c.search_from.new.search.budget c.in-Ok.ensures (sym c.enabled.ensures ∙ c.if-not-enabled.false) c.in-Ok-after_turn.ensures
    (never_again g.M.Machine.enabled g.M.Machine.Turns g.M.Machine.HasKey g.M.Machine.Akin g.M.Machine.left g.met.M.Machine.falls g.met.M.Machine.one_state c.args.state c.loop-thread.thread c.in-Ok-after_turn.next c.in-Ok.key.items
    c.in-Ok-after_turn.ensures c.in-Ok.ensures
    (λ path u run. (g.met.M.Machine.stays c.args.state c.loop-thread.thread c.in-Ok-after_turn.next c.in-Ok-after_turn.ensures u).1 (akin_to g.M.Machine.enabled g.M.Machine.Turns g.M.Machine.name g.M.Machine.HasOutcome g.M.Machine.HasKey g.M.Machine.Akin
    g.met.M.Machine.own g.met.M.Machine.stays c.in-Ok-after_turn.next path u run)))
    inv.grows found.grows found.indexed.apart inv.new (let b = inv.budget in omega (arith, b)) (let b = found.budget in omega (arith, b))

pub returns-in-Err-end_of-clause-visits : goal.returns-in-Err-end_of-clause-visits
returns-in-Err-end_of-clause-visits g t c =
    let inv = c.loop-thread.invariant in
    visits_here g.M.Machine.enabled g.M.Machine.Turns g.M.Machine.HasKey c.args.state c.in-Ok.key.items c.in-Ok.ensures c.args.search.now.seen.items c.loop-thread.search.seen.items inv.grows inv.indexed.apart inv.new
    c.args.search.now.budget c.end_of.new.search.budget (let b = inv.budget in omega (arith, b, c.end_of.ensures.budget))

pub keep-requires-clause-new : goal.keep-requires-clause-new
keep-requires-clause-new g t c =
    let one : Seen = record { key = c.in-Ok.key; orders = c.in-Ok-end_of.noted.1; edges = c.loop-thread.edges; end = Some c.in-Ok-end_of.noted.0 } in
    same_new c.loop-thread.search.seen.items c.end_of.new.search.seen.items c.entry.result one c.end_of.ensures.seen c.entry.ensures c.loop-thread.invariant.new

pub keep-requires-2-clause-new : goal.keep-requires-2-clause-new
keep-requires-2-clause-new g t c =
    let one : Seen = record { key = c.in-Ok.key; orders = c.loop-thread.orders; edges = c.loop-thread.edges; end = None } in
    same_new c.loop-thread.search.seen.items c.loop-thread.search.seen.items c.entry-2.result one refl c.entry-2.ensures c.loop-thread.invariant.new

pub returns-then-is_empty-clause-visits : goal.returns-then-is_empty-clause-visits
returns-then-is_empty-clause-visits g t c =
    let inv = c.loop-thread.invariant in
    on_err _ c.keep.result
    (visits_here g.M.Machine.enabled g.M.Machine.Turns g.M.Machine.HasKey c.args.state c.in-Ok.key.items c.in-Ok.ensures c.args.search.now.seen.items c.loop-thread.search.seen.items inv.grows inv.indexed.apart inv.new
    c.args.search.now.budget c.keep.new.search.budget (let b = inv.budget in omega (arith, b, c.keep.ensures.budget, c.end_of.ensures.budget)))

pub returns-clause-visits : goal.returns-clause-visits
returns-clause-visits g t c =
    let inv = c.loop-thread.invariant in
    on_err _ c.keep-2.result
    (visits_here g.M.Machine.enabled g.M.Machine.Turns g.M.Machine.HasKey c.args.state c.in-Ok.key.items c.in-Ok.ensures c.args.search.now.seen.items c.loop-thread.search.seen.items inv.grows inv.indexed.apart inv.new
    c.args.search.now.budget c.keep-2.new.search.budget (let b = inv.budget in omega (arith, b, c.keep-2.ensures.budget)))
