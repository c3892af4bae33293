use Rattle.l4_ipc.proofs.SizeStays.{size_stays}
use Rattle.l4_ipc.proofs.laws.the_size_of_pages_stays.Goals as goal

pub returns : goal.returns
returns c = size_stays
