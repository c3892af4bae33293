use Rattle.std.proofs.Common.{Option, None, Bor, refl, sym, subst}
use Rattle.std.specs.Option.{option_copied}
use Rattle.l4_threads.specs.declared.Reply.{Reply}
use Rattle.l4_sinks.specs.Words.{reply_says}
use Rattle.l4_sinks.specs.Texts.{sentence_text, Means}
use Rattle.l4_sinks.proofs.Reporting.{means_sentence}
use Rattle.l4_sinks.proofs.teller.put_meaning.Goals as goal

pub returns-in-None : goal.returns-in-None
unfolding reply_says
returns-in-None g c = (
  sentence_text c.gone_says.result.now,
  subst (λ (o : Option (Bor Reply)). Means c.args.size (option_copied o) (sentence_text c.gone_says.result.now)) (sym c.in-None.is)
      (means_sentence c.args.size None c.gone_says.result.now refl c.gone_says.ensures.says),
  c.put_sentence.ensures,
)
