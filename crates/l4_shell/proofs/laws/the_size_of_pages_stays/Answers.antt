use Rattle.l4_shell.proofs.SizesKept.{first_sized, lines_sized}
use Rattle.l4_shell.proofs.laws.the_size_of_pages_stays.Goals as goal

pub returns : goal.returns
returns c = (first_sized, lines_sized)
