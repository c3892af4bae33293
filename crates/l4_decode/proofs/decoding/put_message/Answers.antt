use Rattle.std.proofs.Common.{ℕ, List, ◌++◌, ap, refl}
use Rattle.l4_text.proofs.Telling.{tells_more, tells_is}
use Rattle.l4_decode.specs.Decoded.{decoded_text}
use Rattle.l4_decode.proofs.decoding.put_message.Goals as goal

pub returns : goal.returns
unfolding decoded_text
returns g c =
    let meaning = c.meaning_of.result in (
      decoded_text c.args.mark.now c.args.size c.args.words.now meaning,
      (meaning, c.meaning_of.ensures, refl),
      tells_more _ _ _ _ _ _ _ _ c.tell_each.ensures (tells_is _ _ _ _ _ _ (ap (λ (l : List ℕ). c.args.mark.now ++ l) c.meaning_line.ensures) c.put_marked.ensures),
    )
