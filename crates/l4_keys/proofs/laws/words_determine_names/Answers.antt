use Rattle.l4_keys.proofs.Ends.{ends_names}
use Rattle.l4_keys.proofs.laws.words_determine_names.Goals as goal

pub returns : goal.returns
returns c = ends_names
