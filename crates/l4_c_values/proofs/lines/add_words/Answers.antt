use Rattle.std.proofs.Common.{◌++◌, ◌∷◌, ap, ◌∙◌, arith, ℕ, List, get_or}
use mathlib.Core.List.{append_assoc}
use Rattle.l4_text.specs.Texts.{word_text}
use Rattle.l4_text.proofs.Rows.{words_text_more}
use Rattle.l4_c_values.proofs.lines.add_words.Goals as goal

pub loop-word-preserved : goal.loop-word-preserved
loop-word-preserved c = (
  c.add_word.ensures.value
      ∙ ap (λ (l : List ℕ). l ++ 32 ∷ word_text (get_or c.args.words.now c.loop-word.word-index 0)) c.loop-word.invariant.0
      ∙ append_assoc c.args.line.now.items _ _
      ∙ ap (λ (l : List ℕ). c.args.line.now.items ++ l) (words_text_more _ _ c.loop-word-test.true),
  omega (arith, c.loop-word.invariant.1, c.add_word.ensures.len),
)
