use Rattle.l4_text.proofs.Telling.{tells_added, added_more}
use Rattle.l4_step_lines.proofs.asked.put_word.Goals as goal

pub returns : goal.returns
returns g c = tells_added _ _ _ _ _ _ c.make_room.ensures.told (added_more _ _ _ _ _ c.add.ensures.value c.add_word.ensures.value)
