use Rattle.l4_text.proofs.Newlines.{first_is}
use Rattle.l4_text.proofs.lines.first_newline.Goals as goal

pub returns : goal.returns
returns c = first_is _ _ c.memchr.ensures
