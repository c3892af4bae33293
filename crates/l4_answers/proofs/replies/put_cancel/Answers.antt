use Rattle.l4_text.proofs.Telling.{tells_added}
use Rattle.l4_answers.proofs.replies.put_cancel.Goals as goal

pub returns : goal.returns
returns g c = tells_added _ _ _ _ _ _ c.make_room.ensures.told c.add_cancel.ensures
