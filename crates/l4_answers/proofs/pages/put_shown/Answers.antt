use Rattle.l4_text.proofs.Telling.{tells_added}
use Rattle.l4_answers.proofs.pages.put_shown.Goals as goal

pub returns : goal.returns
returns g c = tells_added _ _ _ _ _ _ c.make_room.ensures.told c.add_shown.ensures
