use Rattle.l4_decode.specs.Decoded.{words_text}
use Rattle.l4_decode.proofs.Same.{alone}
use Rattle.l4_decode.proofs.decoding.tell.Goals as goal

pub returns-in-Each : goal.returns-in-Each
returns-in-Each g c =
    (words_text c.args.size c.args.reading c.args.words.now, alone c.args.size c.args.reading c.args.words.now c.in-Each.is, c.tell_alone.ensures)
