use Rattle.std.proofs.Common.{List, ℕ, ◌∙◌, sym, ap, arith}
use Rattle.l4_text.specs.Tokens.{tokens_of}
use Rattle.l4_commands.proofs.MessageWords.{words_from, words_whole, words_many, words_next}
use Rattle.l4_commands.proofs.symbols.read_words.Goals as goal

pub returns-in-None : goal.returns-in-None
returns-in-None c = words_whole _ _ _ _ c.loop-count.invariant.1 c.in-None.ensures

pub loop-count-preserved : goal.loop-count-preserved
loop-count-preserved c = (
  omega (arith, c.loop-count.invariant.0, c.push.ensures.len),
  c.loop-count.invariant.1 ∙ ap (words_from c.args.size c.loop-count.words.items) c.in-Some.ensures.1 ∙ words_next _ _ c.in-Some-value.word c.in-Some.ensures.0 _ (omega (arith, c.loop-count.invariant.0, c.loop-count-test.true)) (sym c.in-Some-value.is ∙ c.in-Some.ensures.2) ∙ sym (ap (λ (ws : List ℕ). words_from c.args.size ws (tokens_of c.in-Some.after.now)) c.push.ensures.items),
)

pub returns-in-None-next_token : goal.returns-in-None-next_token
returns-in-None-next_token c = words_whole _ _ _ _ c.loop-count.invariant.1 c.in-None-next_token.ensures

pub returns-in-Some-next_token : goal.returns-in-Some-next_token
returns-in-Some-next_token c =
    words_many _ _ _ _ _ _ c.loop-count.invariant.1 c.in-Some-next_token.ensures (omega (arith, c.loop-count.invariant.0, c.loop-count-test.false, c.loop-count.auto.count-end))
