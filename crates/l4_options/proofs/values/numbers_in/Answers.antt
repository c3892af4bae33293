use Rattle.l4_options.proofs.Words.{all_words, one_word}
use Rattle.l4_options.proofs.values.numbers_in.Goals as goal

pub loop-text-preserved : goal.loop-text-preserved
loop-text-preserved c = one_word c.args.texts.now c.loop-text.text-index _ c.as_bytes.result.now c.loop-text.words.items c.try_push.new.self.items c.in-Some.word c.loop-text-test.true c.loop-text.invariant c.as_bytes.ensures.value c.in-Some.ensures c.in_default-try_push.ensures.ok

pub returns : goal.returns
returns c = all_words c.args.texts.now c.loop-text.text-index c.loop-text.words.items c.loop-text-test.false c.loop-text.invariant
