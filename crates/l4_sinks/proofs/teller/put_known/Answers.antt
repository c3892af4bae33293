use Rattle.std.proofs.Common.{Some}
use Rattle.l4_sinks.specs.Texts.{sentence_text}
use Rattle.l4_sinks.proofs.Reporting.{means_sentence, means_message}
use Rattle.l4_sinks.proofs.teller.put_known.Goals as goal

pub returns-in-None : goal.returns-in-None
returns-in-None g c =
    (sentence_text c.known_says.result.now, means_sentence c.args.size (Some c.args.reply.now) _ c.in-None.ensures c.known_says.ensures.says, c.put_sentence.ensures)

pub returns-in-Some : goal.returns-in-Some
returns-in-Some g c =
    (c.put_received.ensures.0, means_message c.args.size (Some c.args.reply.now) _ _ c.in-Some.ensures c.put_received.ensures.1, c.put_received.ensures.2)
