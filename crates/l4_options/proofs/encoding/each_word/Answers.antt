use Rattle.std.proofs.Common.{◌++◌, List, map, subst, sym, ℕ}
use Rattle.l4_options.specs.Spelled.{AreWords}
use Rattle.l4_options.proofs.Words.{all_kinds, one_kind}
use Rattle.l4_options.proofs.encoding.each_word.Goals as goal

pub loop-token-init : goal.loop-token-init
loop-token-init c rest read = subst (λ (words : List ℕ). AreWords c.args.kind c.args.size (map (λ s. s.now) c.args.tokens.now) (words ++ rest)) (sym c.new-words.ensures) read

pub loop-token-preserved : goal.loop-token-preserved
loop-token-preserved c =
    one_kind c.args.kind c.args.size c.args.tokens.now c.loop-token.token-index _ c.as_bytes.result.now c.loop-token.words.items c.try_push.new.self.items c.in-Ok.word c.loop-token-test.true
    c.as_bytes.ensures.value c.in-Ok.ensures.ok c.in_default.ensures.ok c.loop-token.invariant

pub returns : goal.returns
returns c = all_kinds c.args.kind c.args.size c.args.tokens.now c.loop-token.token-index c.loop-token.words.items c.loop-token-test.false c.loop-token.invariant
