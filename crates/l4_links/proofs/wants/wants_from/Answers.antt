use Rattle.std.proofs.Common.{◌≡◌, ◌/◌, true, subst, arith}
use Rattle.l4_spaces.specs.Tables.{table_pages}
use Rattle.l4_spaces.specs.Rows.{row, is_made}
use Rattle.l4_spaces.proofs.Rows.{row_was}
use Rattle.l4_nodes.specs.declared.Place.{Place}
use Rattle.l4_links.specs.Entries.{place_for}
use Rattle.l4_links.proofs.TableEntries.{shown_made, made_within}
use Rattle.l4_links.proofs.Wanting.{page_apart, run_free, run_wants}
use Rattle.l4_links.proofs.wants.wants_from.Goals.{After-index-target}
use Rattle.l4_links.proofs.wants.wants_from.Goals as goal

pub returns-in_default-clause-wants : goal.returns-in_default-clause-wants
returns-in_default-clause-wants c =
    let before = c.requires.before in
    (omega arith, omega (arith, before), page_apart c.args.of.now c.args.sources.now.items c.args.targets.now.items c.args.nodes.now.slots c.args.page c.args.key c.requires.shows c.in_default.ensures)

-- both tables
made : (c : After-index-target) → is_made c.make_ready.new.targets.items ((place_for c.args.of.now c.args.page).page / table_pages) ≡ true
made c = subst (λ (p : Place). is_made c.make_ready.new.targets.items (p.page / table_pages) ≡ true) c.place_for-place.ensures (c.make_ready.ensures.made c.if-not-make_ready.false)

line : (c : After-index-target) → row c.args.sources.now.items (c.args.page / table_pages) ≡ c.index-source.result.now
line c = row_was c.args.sources.now.items (c.args.page / table_pages) c.index-source.result.now
    (made_within c.args.sources.now.items (c.args.page / table_pages) (shown_made c.args.sources.now.items c.args.page c.args.key c.requires.shows)) c.index-source.ensures

target_line : (c : After-index-target) → row c.make_ready.new.targets.items ((place_for c.args.of.now c.args.page).page / table_pages) ≡ c.index-target.result.now
target_line c = subst (λ (p : Place). row c.make_ready.new.targets.items (p.page / table_pages) ≡ c.index-target.result.now) c.place_for-place.ensures
    (row_was c.make_ready.new.targets.items (c.place_for-place.result.page / table_pages) c.index-target.result.now
    (made_within c.make_ready.new.targets.items (c.place_for-place.result.page / table_pages) (c.make_ready.ensures.made c.if-not-make_ready.false)) c.index-target.ensures)

pub returns-then-is_free-clause-wants : goal.returns-then-is_free-clause-wants
returns-then-is_free-clause-wants c =
    let at = (goal.at.returns-then-is_free-clause-wants c).After-index-target in
    let some = c.run_at-run.ensures.some in (
      omega (arith, some),
      c.run_at-run.ensures.before,
      run_free c.args.of.now c.args.sources.now.items c.make_ready.new.targets.items c.args.nodes.now.slots c.args.page c.run_at-run.result.from c.run_at-run.result.to c.run_at-run.result.entries c.requires.from c.run_at-run.ensures.source c.run_at-run.ensures.target c.run_at-run.ensures.in_source c.run_at-run.ensures.in_target (made at) c.index-source.result.now c.index-target.result.now (line at) (target_line at)
          c.if-not-of.true (c.is_free.ensures c.if-is_free.true),
    )

pub returns-clause-wants : goal.returns-clause-wants
returns-clause-wants c =
    let at = (goal.at.returns-clause-wants c).After-index-target in
    let some = c.run_at-run.ensures.some in (
      omega (arith, some),
      c.run_at-run.ensures.before,
      run_wants c.args.of.now c.args.sources.now.items c.make_ready.new.targets.items c.args.nodes.now.slots c.args.page c.run_at-run.result.from c.run_at-run.result.to c.run_at-run.result.entries c.requires.from c.run_at-run.ensures.source c.run_at-run.ensures.target c.run_at-run.ensures.in_source c.run_at-run.ensures.in_target (made at) c.index-source.result.now c.index-target.result.now (line at) (target_line at)
          c.in_ok-wants.wants.slots c.in_ok-wants.wants.changes c.in_ok-wants.ensures,
    )
