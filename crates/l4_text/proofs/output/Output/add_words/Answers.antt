use Rattle.std.proofs.Common.{[], ◌∷◌, ap, ◌∙◌, ◌++◌, arith, ℕ, List}
use mathlib.Core.List.{append_assoc}
use Rattle.l4_text.proofs.Rows.{words_text_more}
use Rattle.l4_text.proofs.Telling.{added_more}
use Rattle.l4_text.proofs.output.Output.add_words.Goals as goal

pub loop-word-preserved : goal.loop-word-preserved
loop-word-preserved c = (
  added_more c.args.self.now c.loop-word.self c.add_spaced_word.new.self _ _ c.loop-word.invariant.0 (c.add_spaced_word.ensures.value ∙ ap (λ (l : List ℕ). (l, c.loop-word.self.1)) (append_assoc c.loop-word.self.0 (32 ∷ []) _))
      ∙ ap (λ (l : List ℕ). (c.args.self.now.0 ++ l, c.args.self.now.1)) (words_text_more _ _ c.loop-word-test.true),
  omega (arith, c.loop-word.invariant.1, c.add_spaced_word.ensures.len),
)
