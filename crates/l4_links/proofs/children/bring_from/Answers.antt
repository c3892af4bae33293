use Rattle.std.proofs.Common.{◌≡◌, ℕ, ◌+◌, ◌/◌, List, Option, slice_set, true, sym, ap, ◌∙◌, subst, arith}
use Rattle.l4_spaces.specs.Tables.{table_pages}
use Rattle.l4_spaces.specs.Rows.{entry, is_made}
use Rattle.l4_spaces.proofs.Rows.{row_was}
use Rattle.l4_nodes.specs.declared.Place.{Place}
use Rattle.l4_nodes.specs.Slots.{Store}
use Rattle.l4_links.specs.Inside.Growing.{SharesNone, CanRun, BringsRow, BringsPages}
use Rattle.l4_links.proofs.PageRuns.{none_shares, place_made, run_both}
use Rattle.l4_links.proofs.TableEntries.{shown_made, made_within}
use Rattle.l4_links.proofs.Writes.{same_some}
use Rattle.l4_links.proofs.children.bring_from.Goals.{After-place_for-place, After-index_mut-target}
use Rattle.l4_links.proofs.children.bring_from.Goals as goal

pub returns-in_default-clause-next : goal.returns-in_default-clause-next
returns-in_default-clause-next c = let before = c.requires.before in (omega arith, omega (arith, before))

pub returns-in_default-clause-brings : goal.returns-in_default-clause-brings
returns-in_default-clause-brings c =
    none_shares c.args.of.now c.args.page (c.args.page + 1) c.args.sources.now.items c.args.targets.now.items c.args.nodes.now
    (λ k other ge lt shows.
    let same : other ≡ c.args.page = omega (arith, ge, lt) in
    let key : k ≡ c.args.key = same_some (sym shows ∙ ap (entry c.args.sources.now.items) same ∙ c.requires.shows) in
    subst (λ (z : ℕ). SharesNone z c.args.of.now.rights c.args.nodes.now.slots) (sym key) c.in_default.ensures) (omega arith)

pub place_for-place-requires-clause-after : goal.place_for-place-requires-clause-after
place_for-place-requires-clause-after c = c.requires.can.from

pub run_at-run-requires-clause-from : goal.run_at-run-requires-clause-from
run_at-run-requires-clause-from c = c.requires.can.from

source_made : (c : After-place_for-place) → is_made c.args.sources.now.items (c.args.page / table_pages) ≡ true
source_made c = shown_made c.args.sources.now.items c.args.page c.args.key c.requires.shows

target_made : (c : After-place_for-place) → is_made c.args.targets.now.items (c.place_for-place.result.page / table_pages) ≡ true
target_made c = subst (λ (p : ℕ). is_made c.args.targets.now.items (p / table_pages) ≡ true) (sym (ap (λ (p : Place). p.page) c.place_for-place.ensures))
    (place_made c.args.of.now c.args.page c.args.sources.now.items c.args.targets.now.items c.args.nodes.now c.requires.can c.args.key c.requires.shows (c.in-Some.field-0, c.in-Some.ensures.0, c.in-Some.ensures.1) c.requires.before)

pub index_mut-source-requires : goal.index_mut-source-requires
index_mut-source-requires c = let lt = made_within c.args.sources.now.items (c.args.page / table_pages) (source_made (goal.at.index_mut-source-requires c).After-place_for-place) in omega (arith, lt)

pub index_mut-target-requires : goal.index_mut-target-requires
index_mut-target-requires c =
    let lt = made_within c.args.targets.now.items (c.place_for-place.result.page / table_pages) (target_made (goal.at.index_mut-target-requires c).After-place_for-place) in omega (arith, lt)

-- the run can begin, and is over
module _ (c : After-index_mut-target) (made_source : is_made c.args.sources.now.items (c.args.page / table_pages) ≡ true) (made : is_made c.args.targets.now.items (c.place_for-place.result.page / table_pages) ≡ true) where
  run : CanRun c.args.of.now c.args.page c.run_at-run.result.from c.run_at-run.result.to c.run_at-run.result.entries c.index_mut-source.result.now c.index_mut-target.result.now c.args.nodes.now
      × ((new_line new_row : List (Option ℕ)) (new : Store) → BringsRow c.args.of.now c.args.page c.run_at-run.result.from c.run_at-run.result.to c.run_at-run.result.entries c.run_at-run.result.entries c.index_mut-source.result.now new_line c.index_mut-target.result.now new_row c.args.nodes.now new
      → BringsPages c.args.of.now c.args.page (c.args.page + c.run_at-run.result.entries) c.args.sources.now.items (slice_set c.args.sources.now.items (c.args.page / table_pages) new_line)
      c.args.targets.now.items (slice_set c.args.targets.now.items (c.place_for-place.result.page / table_pages) new_row) c.args.nodes.now new)
  run =
      run_both c.args.of.now c.args.page c.args.sources.now.items c.args.targets.now.items c.args.nodes.now c.requires.can c.run_at-run.result.from c.run_at-run.result.to c.run_at-run.result.entries c.run_at-run.ensures.source c.run_at-run.ensures.target
      (c.args.page / table_pages) (c.place_for-place.result.page / table_pages) (omega arith) (ap (λ (p : Place). p.page / table_pages) c.place_for-place.ensures) c.index_mut-source.result.now c.index_mut-target.result.now
      (row_was c.args.sources.now.items (c.args.page / table_pages) c.index_mut-source.result.now (made_within c.args.sources.now.items (c.args.page / table_pages) made_source) c.index_mut-source.ensures.value)
      (row_was c.args.targets.now.items (c.place_for-place.result.page / table_pages) c.index_mut-target.result.now (made_within c.args.targets.now.items (c.place_for-place.result.page / table_pages) made) c.index_mut-target.ensures.value)
      made_source made c.run_at-run.ensures.before c.run_at-run.ensures.in_source c.run_at-run.ensures.in_target

pub bring_run-requires-clause-can : goal.bring_run-requires-clause-can
bring_run-requires-clause-can c = let at = goal.at.bring_run-requires-clause-can c in (run at.After-index_mut-target (source_made at.After-place_for-place) (target_made at.After-place_for-place)).0

pub returns-clause-next : goal.returns-clause-next
returns-clause-next c = let some = c.run_at-run.ensures.some in (omega (arith, some), c.run_at-run.ensures.before)

pub returns-clause-brings : goal.returns-clause-brings
returns-clause-brings c = let at = goal.at.returns-clause-brings c in
    (run at.After-index_mut-target (source_made at.After-place_for-place) (target_made at.After-place_for-place)).1 c.bring_run.new.source c.bring_run.new.target c.bring_run.new.nodes c.bring_run.ensures
