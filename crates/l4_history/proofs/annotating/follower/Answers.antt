use Rattle.std.proofs.Common.{Bool, Some, refl, sym, subst}
use Rattle.l4_history.specs.Annotations.{IsFirstFollower}
use Rattle.l4_history.proofs.annotating.follower.Goals as goal

pub returns-in-Some : goal.returns-in-Some
returns-in-Some c =
    subst (λ (moves : Bool). IsFirstFollower c.args.frames c.args.size moves (Some c.in-Some.follower)) (sym c.if-not-moves.false)
    (c.in-Some.follower, refl, c.in-Some.ensures.0, c.in-Some.ensures.1, c.in-Some.ensures.2)
