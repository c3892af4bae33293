use Rattle.std.proofs.Common.{◌≡◌, ap, ◌∙◌, append_assoc, rules}
use Rattle.l4_record.specs.Inside.Words.{answered_code, entry_at}
use Rattle.l4_record.proofs.RoundTrip.{answered_again}
use Rattle.l4_record.proofs.words.write_start.Goals as goal

pub returns : goal.returns
returns c =
    let call = c.args.call.now in
    let answer = c.args.answer.now in
    let words : c.put_fields.new.out.items ≡ answered_code c.args.number call answer = search (rules, append_assoc) in
    ap entry_at words ∙ answered_again c.args.number call answer c.put_fields.ensures.fits c.put_answer.ensures.fits
