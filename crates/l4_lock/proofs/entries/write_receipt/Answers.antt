use Rattle.std.proofs.Common.{◌≡◌, ap, ◌∙◌, append_assoc, rules}
use Rattle.l4_lock.specs.declared.entries.Receipt.{Receipt}
use Rattle.l4_lock.specs.Inside.Words.{receipt_code, receipt_at}
use Rattle.l4_lock.proofs.RoundTrip.{receipt_again}
use Rattle.l4_lock.proofs.entries.write_receipt.Goals as goal

pub returns : goal.returns
returns c =
    let receipt : Receipt = record { call = c.args.call.now; start = c.args.start; end = c.args.end; reply = c.args.reply.now } in
    let words : c.put_fields.new.out.items ≡ receipt_code receipt = search (rules, append_assoc) in
    ap receipt_at words ∙ receipt_again receipt c.put_fields.ensures.fits c.put_reply.ensures.fits
