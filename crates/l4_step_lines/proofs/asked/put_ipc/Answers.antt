use Rattle.std.proofs.Common.{ℕ, List, [], ◌∷◌, ◌++◌, ap, codes}
use Rattle.l4_text.proofs.Telling.{tells_more, tells_is}
use Rattle.l4_step_lines.specs.Steps.{hex_texts}
use Rattle.l4_step_lines.proofs.asked.put_ipc.Goals as goal

pub returns : goal.returns
returns g c =
    let call = c.args.call.now in
    tells_is _ _ _ _ _ _ (ap (λ (ws : List ℕ). codes " ipc" ++ hex_texts (call.to.0 ∷ call.from.0 ∷ call.timeouts ∷ call.acceptor ∷ []) ++ hex_texts ws) c.as_slice.ensures.value)
    (tells_more _ _ _ _ _ _ _ _ c.put_kind.ensures c.put_words.ensures)
