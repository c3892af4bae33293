use Rattle.std.proofs.Common.{◌++◌, refl}
use Rattle.std.specs.Option.{option_copied}
use Rattle.l4_text.proofs.Telling.{tells_more}
use Rattle.l4_answers.specs.Replies.{reply_text}
use Rattle.l4_sinks.proofs.teller.put_explained_reply.Goals as goal

pub returns : goal.returns
returns g c = (
  reply_text c.args.number (option_copied c.args.reply) ++ c.put_meaning.ensures.0,
  (c.put_meaning.ensures.0, c.put_meaning.ensures.1, refl),
  tells_more _ _ _ _ _ _ _ _ c.put_reply.ensures c.put_meaning.ensures.2,
)
