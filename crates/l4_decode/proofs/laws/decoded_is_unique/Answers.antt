use Rattle.l4_decode.proofs.Same.{one_text}
use Rattle.l4_decode.proofs.laws.decoded_is_unique.Goals as goal

pub returns : goal.returns
returns c = one_text
