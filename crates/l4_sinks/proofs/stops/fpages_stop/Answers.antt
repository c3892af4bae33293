use Rattle.std.proofs.Common.{◌≡◌, ◌+◌, ◌-◌, Bool, Some, suc, sym, ap, ◌∙◌, arith}
use Rattle.l4_text.specs.Tokens.{tokens_of}
use Rattle.l4_sinks.proofs.Stopping.{fpages_next}
use Rattle.l4_sinks.specs.Stops.{fpage_wrong}
use Rattle.l4_sinks.proofs.stops.fpages_stop.Goals as goal

pub returns-in-Some-fpage_wrong : goal.returns-in-Some-fpage_wrong
returns-in-Some-fpage_wrong c =
    let more : 64 - c.loop-count.count ≡ suc (64 - (c.loop-count.count + 1)) = omega (arith, c.loop-count-test.true) in
    let fit =
    c.in-Some-fpage_wrong.ensures
    ∙ ap (λ (b : Bool). fpage_wrong c.args.size c.args.names.now b c.loop-count.left c.in-Some.token.now) c.is_symbolic-is_any.ensures in
    sym (fpages_next _ _ c.args.symbolic c.loop-count.is_any c.args.counted c.loop-count.left c.args.first 64 (tokens_of c.args.line.now) (tokens_of c.loop-count.rest.now) (tokens_of c.in-Some.after.now) _ (c.args.first + c.loop-count.count) _ _
    (Some c.in-Some-fpage_wrong.expected) c.loop-count.invariant.1 c.in-Some.ensures more fit)
