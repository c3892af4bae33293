use Rattle.std.proofs.Common.{◌++◌, ap}
use Rattle.std.specs.Option.{option_copied}
use Rattle.l4_text.specs.Texts.{words_text}
use Rattle.l4_text.proofs.Telling.{tells_added, tells_more, tells_is}
use Rattle.l4_answers.specs.Replies.{reply_head, newline}
use Rattle.l4_answers.proofs.replies.put_any_reply.Goals as goal

pub returns : goal.returns
returns g c =
    tells_is _ _ _ _ _ _ (ap (λ ws. reply_head c.args.number (option_copied c.args.reply) ++ words_text ws ++ newline) c.reply_words.ensures)
    (tells_more _ _ _ _ _ _ _ _ (tells_more _ _ _ _ _ _ _ _ (tells_added _ _ _ _ _ _ c.make_room.ensures.told c.add_reply_head.ensures) c.put_words.ensures) c.end_line.ensures)
