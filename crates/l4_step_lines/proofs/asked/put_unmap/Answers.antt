use Rattle.std.proofs.Common.{ℕ, List, [], ◌∷◌, ◌++◌, ap, codes}
use Rattle.l4_text.proofs.Telling.{tells_more, tells_is}
use Rattle.l4_step_lines.specs.Steps.{hex_texts}
use Rattle.l4_step_lines.proofs.asked.put_unmap.Goals as goal

pub returns : goal.returns
returns g c =
    tells_is _ _ _ _ _ _ (ap (λ (ws : List ℕ). codes " unmap" ++ hex_texts (c.args.call.now.control ∷ []) ++ hex_texts ws) c.as_slice.ensures.value)
    (tells_more _ _ _ _ _ _ _ _ c.put_kind.ensures c.put_words.ensures)
