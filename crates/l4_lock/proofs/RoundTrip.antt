-- Receipts are read as they were written.
use Rattle.std.proofs.Common.{◌≡◌, ℕ, List, ◌∷◌, ◌++◌, Some, refl}
use Rattle.l4_journal.specs.Codes.{call_tag, call_fields, place_code, CallFits, ReplyFits}
use Rattle.l4_journal.proofs.RoundTrip.{call_again, place_again, reply_again}
use Rattle.l4_lock.specs.declared.entries.Receipt.{Receipt}
use Rattle.l4_lock.specs.Inside.Words.{receipt_code, receipt_at}

pub receipt_again : (receipt : Receipt) → CallFits receipt.call → ReplyFits receipt.reply → receipt_at (receipt_code receipt) ≡ Some receipt
unfolding receipt_at
receipt_again receipt call reply =
    let rest : List ℕ = place_code receipt.start ++ (place_code receipt.end ++ call_tag receipt.call ∷ call_fields receipt.call) in
    rw (reply_again receipt.reply rest reply, place_again receipt.start, place_again receipt.end, call_again receipt.call call) refl
