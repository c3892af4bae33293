use Rattle.l4_segments.proofs.Same.{file_same}
use Rattle.l4_segments.proofs.laws.files_determine_segments.Goals as goal

pub returns : goal.returns
returns c = file_same
