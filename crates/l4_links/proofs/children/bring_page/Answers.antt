use Rattle.std.proofs.Common.{◌≡◌, ℕ, length, ◌+◌, ◌-◌, ◌/◌, ◌%◌, Some, None, List, Option, slice_set, slice_index_or, false, true, sym, ap, ◌∙◌, subst, arith}
use Rattle.l4_spaces.specs.Tables.{table_pages}
use Rattle.l4_spaces.specs.Rows.{entry, is_made}
use Rattle.l4_spaces.proofs.Rows.{row_was}
use Rattle.l4_nodes.specs.declared.Place.{Place}
use Rattle.l4_nodes.specs.Slots.{Store}
use Rattle.l4_links.specs.Inside.Growing.{Enters, CanRun, BringsRow, BringsPages}
use Rattle.l4_links.proofs.PageRuns.{pages_passed, none_shares, run_both}
use Rattle.l4_links.proofs.RowSteps.{can_enter, run_one}
use Rattle.l4_links.proofs.TableEntries.{shown_made, made_within}
use Rattle.l4_links.proofs.Writes.{no_some}
use Rattle.l4_links.proofs.children.bring_page.Goals.{After-index_mut-target}
use Rattle.l4_links.proofs.children.bring_page.Goals as goal

pub returns-in_default : goal.returns-in_default
returns-in_default c =
    none_shares c.args.of.now c.args.of.now.source.page c.args.of.now.end c.args.sources.now.items c.args.targets.now.items c.args.nodes.now
    (λ k other ge lt shows.
    let one = c.requires.one in
    let same : c.args.of.now.source.page ≡ other = omega (arith, ge, lt, one) in
    absurd (no_some k (c.in_default.ensures ∙ ap (entry c.args.sources.now.items) same ∙ shows))) (let one = c.requires.one in omega (arith, one))

-- what is due would have its table
pub returns-then-not-is_ready : goal.returns-then-not-is_ready
returns-then-not-is_ready c =
    pages_passed c.args.of.now c.args.of.now.source.page c.args.of.now.end c.args.sources.now.items c.args.targets.now.items c.args.nodes.now
    (λ all lent indexed own e b.
    let one = c.requires.one in
    let ge = b.shared.from in
    let lt = b.shared.before in
    let place : c.place_for-place.result.page ≡ c.args.of.now.source.page - c.args.of.now.source.page + c.args.of.now.target.page = ap (λ (p : Place). p.page) c.place_for-place.ensures in
    let goes : e.place.page ≡ b.shared.entry.place.page - c.args.of.now.source.page + c.args.of.now.target.page = ap (λ (p : Place). p.page) b.place in
    let made : is_made c.args.targets.now.items (c.place_for-place.result.page / table_pages) ≡ true = c.requires.can.made own e b (c.place_for-place.result.page / table_pages) (c.place_for-place.result.page % table_pages) (omega (arith, goes, place, one, ge, lt)) (omega arith) in
    (let z : false ≡ true = sym c.if-not-is_ready.true ∙ c.is_ready.ensures ∙ made in cc)) (let one = c.requires.one in omega (arith, one))

pub index_mut-source-requires : goal.index_mut-source-requires
index_mut-source-requires c = let lt = made_within c.args.sources.now.items (c.args.of.now.source.page / table_pages) (shown_made c.args.sources.now.items c.args.of.now.source.page c.in-Some.field-0 (sym c.in-Some.ensures)) in omega (arith, lt)

pub index_mut-target-requires : goal.index_mut-target-requires
index_mut-target-requires c = let lt = made_within c.args.targets.now.items (c.place_for-place.result.page / table_pages) (sym c.is_ready.ensures ∙ c.if-not-is_ready.false) in omega (arith, lt)

module _ (c : After-index_mut-target) where
  run : CanRun c.args.of.now c.args.of.now.source.page (c.args.of.now.source.page % table_pages) (c.place_for-place.result.page % table_pages) 1 c.index_mut-source.result.now c.index_mut-target.result.now c.args.nodes.now
      × ((new_line new_row : List (Option ℕ)) (new : Store) → BringsRow c.args.of.now c.args.of.now.source.page (c.args.of.now.source.page % table_pages) (c.place_for-place.result.page % table_pages) 1 1 c.index_mut-source.result.now new_line c.index_mut-target.result.now new_row c.args.nodes.now new
      → BringsPages c.args.of.now c.args.of.now.source.page (c.args.of.now.source.page + 1) c.args.sources.now.items (slice_set c.args.sources.now.items (c.args.of.now.source.page / table_pages) new_line)
      c.args.targets.now.items (slice_set c.args.targets.now.items (c.place_for-place.result.page / table_pages) new_row) c.args.nodes.now new)
  run =
      let made_source = shown_made c.args.sources.now.items c.args.of.now.source.page c.in-Some.field-0 (sym c.in-Some.ensures) in
      let made : is_made c.args.targets.now.items (c.place_for-place.result.page / table_pages) ≡ true = sym c.is_ready.ensures ∙ c.if-not-is_ready.false in
      let one = c.requires.one in
      run_both c.args.of.now c.args.of.now.source.page c.args.sources.now.items c.args.targets.now.items c.args.nodes.now c.requires.can (c.args.of.now.source.page % table_pages) (c.place_for-place.result.page % table_pages) 1
      (omega arith) (ap (λ (p : Place). p.page % table_pages) c.place_for-place.ensures) (c.args.of.now.source.page / table_pages) (c.place_for-place.result.page / table_pages) (omega arith) (ap (λ (p : Place). p.page / table_pages) c.place_for-place.ensures)
      c.index_mut-source.result.now c.index_mut-target.result.now
      (row_was c.args.sources.now.items (c.args.of.now.source.page / table_pages) c.index_mut-source.result.now (made_within c.args.sources.now.items (c.args.of.now.source.page / table_pages) made_source) c.index_mut-source.ensures.value)
      (row_was c.args.targets.now.items (c.place_for-place.result.page / table_pages) c.index_mut-target.result.now (made_within c.args.targets.now.items (c.place_for-place.result.page / table_pages) made) c.index_mut-target.ensures.value)
      made_source made (omega (arith, one)) (omega arith) (omega arith)

  pub wholes : (length c.index_mut-source.result.now ≡ table_pages) × (length c.index_mut-target.result.now ≡ table_pages)
  wholes = (run.0.rows.source_row.whole, run.0.rows.target_row.whole)

pub bring_at-requires-clause-from : goal.bring_at-requires-clause-from
bring_at-requires-clause-from c = let whole = (wholes (goal.at.bring_at-requires-clause-from c).After-index_mut-target).0 in omega (arith, whole)

pub bring_at-requires-clause-to : goal.bring_at-requires-clause-to
bring_at-requires-clause-to c = let whole = (wholes (goal.at.bring_at-requires-clause-to c).After-index_mut-target).1 in omega (arith, whole)

pub bring_at-requires-clause-can : goal.bring_at-requires-clause-can
bring_at-requires-clause-can c =
    can_enter c.args.of.now c.args.of.now.source.page (c.args.of.now.source.page % table_pages) (c.place_for-place.result.page % table_pages) c.index_mut-source.result.now c.index_mut-target.result.now c.args.nodes.now
    (run (goal.at.bring_at-requires-clause-can c).After-index_mut-target).0

pub returns : goal.returns
returns c =
    let at = (goal.at.returns c).After-index_mut-target in
    let one = c.requires.one in
    let fits = c.requires.fits in
    subst (λ (p : ℕ). BringsPages c.args.of.now c.args.of.now.source.page p c.args.sources.now.items (slice_set c.args.sources.now.items (c.args.of.now.source.page / table_pages) c.bring_at.new.source)
    c.args.targets.now.items (slice_set c.args.targets.now.items (c.place_for-place.result.page / table_pages) c.bring_at.new.target) c.args.nodes.now c.bring_at.new.nodes) (sym c.requires.one)
    ((run at).1 c.bring_at.new.source c.bring_at.new.target c.bring_at.new.nodes
    (λ can. run_one c.args.of.now c.args.of.now.source.page (c.args.of.now.source.page % table_pages) (c.place_for-place.result.page % table_pages) c.index_mut-source.result.now c.index_mut-target.result.now c.args.nodes.now can
    c.bring_at.new.nodes c.bring_at.new.source c.bring_at.new.target (omega (arith, one, fits))
    (subst (λ (p : Place). Enters c.args.of.now (slice_index_or c.index_mut-source.result.now (c.args.of.now.source.page % table_pages) None) p (c.args.of.now.source.page % table_pages) (c.place_for-place.result.page % table_pages) c.args.nodes.now.slots c.bring_at.new.nodes.slots
    c.index_mut-source.result.now c.bring_at.new.source c.index_mut-target.result.now c.bring_at.new.target) c.place_for-place.ensures c.bring_at.ensures.enters) c.bring_at.ensures.lacked c.bring_at.ensures.room))
