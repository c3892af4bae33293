use Rattle.l4_keys.proofs.Same.{same_kernel}
use Rattle.l4_keys.proofs.laws.words_determine_kernels.Goals as goal

pub returns : goal.returns
returns c = same_kernel
