use Rattle.std.proofs.Common.{Option, refl, sym, subst}
use Rattle.std.specs.Option.{option_copied}
use Rattle.l4_fpage.specs.declared.sizes.PageSize.{PageSize}
use Rattle.l4_answers.specs.Replies.{reply_text}
use Rattle.l4_answers.specs.Reports.{Ended}
use Rattle.l4_sinks.specs.Texts.{IsAnswerText}
use Rattle.l4_sinks.proofs.Reporting.{told_more}
use Rattle.l4_sinks.proofs.teller.TellerSink.ended.Goals as goal

pub returns-in-None : goal.returns-in-None
returns-in-None g c = λ first told h.
    told_more g.W.Write.contents first _ _ told (Ended c.args.number (option_copied c.args.reply)) _ h refl refl refl refl c.put_reply.ensures
    (subst (λ (e : Option PageSize). IsAnswerText e (Ended c.args.number (option_copied c.args.reply)) (reply_text c.args.number (option_copied c.args.reply))) (sym c.in-None.is) refl)

pub returns-in-Some : goal.returns-in-Some
returns-in-Some g c = λ first told h.
    told_more g.W.Write.contents first _ _ told (Ended c.args.number (option_copied c.args.reply)) _ h refl refl refl refl c.put_explained_reply.ensures.2
    (subst (λ (e : Option PageSize). IsAnswerText e (Ended c.args.number (option_copied c.args.reply)) c.put_explained_reply.ensures.0) (sym c.in-Some.is) c.put_explained_reply.ensures.1)
