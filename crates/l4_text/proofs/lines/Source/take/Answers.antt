use Rattle.std.proofs.Common.{◌∙◌, ◌≤◌, ap, sym, subst, length, drop, List, ℕ}
use Rattle.l4_text.proofs.LineSteps.{range_less}
use Rattle.l4_text.proofs.lines.Source.take.Goals as goal

pub returns : goal.returns
returns c =
    let is = c.self.view_is in
    let le = subst (λ (p : List ℕ × ℕ). c.args.count ≤ length p.0) (sym is) c.requires in
    let rest = range_less c.self.inside.chunk c.self.inside.start c.self.inside.end c.args.count le ∙ ap (λ p. drop c.args.count p.0) is in
    λ i. (rest i, (ap (λ p. p.1) is) i)
