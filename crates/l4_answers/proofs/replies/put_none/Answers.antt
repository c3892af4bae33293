use Rattle.std.proofs.Common.{sym, codes}
use Rattle.std.specs.Fmt.{decimal}
use mathlib.Core.List.{append_assoc}
use Rattle.l4_text.proofs.Telling.{tells_added, tells_is}
use Rattle.l4_answers.specs.Replies.{newline}
use Rattle.l4_answers.proofs.replies.put_none.Goals as goal

pub returns : goal.returns
returns g c =
    tells_is _ _ _ _ _ _ (sym (append_assoc (decimal c.args.number) (codes " none") newline))
    (tells_added _ _ _ _ _ _ c.make_room.ensures.told c.add_numbered.ensures.value)
