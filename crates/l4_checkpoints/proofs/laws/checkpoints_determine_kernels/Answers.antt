use Rattle.l4_checkpoints.proofs.Same.{same_checkpoint}
use Rattle.l4_checkpoints.proofs.laws.checkpoints_determine_kernels.Goals as goal

pub returns : goal.returns
returns c = same_checkpoint
