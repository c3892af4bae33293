use Rattle.std.proofs.Common.{◌≢◌, ap, ◌∙◌, arith}
use Rattle.std.proofs.lemmas.Bool.Decides.{nat_tests}
use Rattle.l4_spaces.specs.Inside.Seen.{Space}
use Rattle.l4_spaces.proofs.Finding.{sought_more}
use Rattle.l4_spaces.proofs.index_among.Goals as goal

pub loop-index-preserved : goal.loop-index-preserved
loop-index-preserved c =
    let ne : c.index.result.now.0 ≢ c.args.space = (λ e. let f = c.if-index-space.false in grind (arith, nat_tests)) in
    let o = c.args.spaces.now.ok.0 in
    sought_more c.args.space c.args.spaces.now.items c.loop-index.index c.index.result.now (omega (arith, o, c.loop-index-test.true)) (λ e. ne (ap (λ (s : Space). s.0) c.index.ensures ∙ e)) c.loop-index.invariant
