use Rattle.std.proofs.Common.{◌≡◌, Ok, sym, ap, ◌∙◌, length, arith}
use Rattle.l4_fpage.specs.declared.sizes.PageSize.{PageSize}
use Rattle.l4_symbols.specs.Rows.{row_added, row_in}
use Rattle.l4_symbols.proofs.MessageRows.{row_grows}
use Rattle.l4_sinks.specs.Stops.{wrong}
use Rattle.l4_sinks.proofs.Stopping.{row_next, row_wrong, row_over}
use Rattle.l4_sinks.proofs.stops.row_stop.Goals as goal

pub returns-in-Err : goal.returns-in-Err
returns-in-Err c =
    let size = ap (λ (s : PageSize). row_added s c.in-Some.token.now (row_in c.loop-token.message)) (sym c.loop-token.invariant.1) in
    ap (wrong c.loop-token.place c.in-Some.token.now) c.expected_for.ensures
    ∙ row_wrong c.args.begun.message.size _ _ _ _ _ _ _ _ _ c.loop-token.invariant.2 c.in-Some.ensures (size ∙ c.in-Err.ensures.row)

pub loop-token-smaller : goal.loop-token-smaller
loop-token-smaller c = omega (arith, ap length c.in-Some.ensures)

pub loop-token-preserved : goal.loop-token-preserved
loop-token-preserved c =
    let size = ap (λ (s : PageSize). row_added s c.in-Some.token.now (row_in c.loop-token.message)) (sym c.loop-token.invariant.1) in
    let added : row_added c.args.begun.message.size c.in-Some.token.now (row_in c.loop-token.message) ≡ Ok (row_in c.add.new.self) = size ∙ c.in_default-add.ensures.row in (
      omega (arith, c.loop-token.invariant.0, row_grows _ _ _ _ added),
      c.add.ensures.size ∙ c.loop-token.invariant.1,
      row_next c.args.begun.message.size _ _ _ _ _ _ _ _ _ c.loop-token.invariant.2 c.in-Some.ensures added,
    )

pub returns : goal.returns
returns c = row_over c.args.begun.message.size _ _ _ _ _ _ c.loop-token.invariant.2 c.in_default.ensures
