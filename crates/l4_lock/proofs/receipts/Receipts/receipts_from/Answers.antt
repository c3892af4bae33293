use Rattle.std.proofs.Common.{ap, ◌∙◌, arith}
use Rattle.l4_lock.specs.Lists.{ReceiptList, kept_receipts}
use Rattle.l4_lock.proofs.Forgetting.{kept_are}
use Rattle.l4_lock.proofs.receipts.Receipts.receipts_from.Goals as goal

pub returns-clause-receipts : goal.returns-clause-receipts
returns-clause-receipts c =
    let a = c.self.inside in
    c.items_from.ensures.items
    ∙ kept_are a.past.receipts a.receipts.items a.kept_from c.args.number c.saturating_sub.result c.self.invariant.0 (omega (arith, c.saturating_sub.ensures))
    ∙ ap (λ (r : ReceiptList). kept_receipts r c.args.number) c.self.view_is
