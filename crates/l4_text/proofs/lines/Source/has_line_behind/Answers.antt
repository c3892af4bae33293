use Rattle.std.proofs.Common.{◌+◌, ◌∙◌, ◌≤◌, sym, subst, ap, drop, length, List, ℕ, arith}
use Rattle.l4_text.specs.Lines.{NoNewline}
use Rattle.l4_text.proofs.Ended.{line_left, none_left}
use Rattle.l4_text.proofs.LineSteps.{range_less}
use Rattle.l4_text.proofs.lines.Source.has_line_behind.Goals as goal

pub returns-then-self-count : goal.returns-then-self-count
returns-then-self-count c =
    let is = c.self.view_is in
    let le = subst (λ (p : List ℕ × ℕ). c.args.count ≤ length p.0) (sym is) c.requires in
    let rest = range_less c.self.inside.chunk c.self.inside.start c.self.inside.end c.args.count le ∙ ap (λ (p : List ℕ × ℕ). drop c.args.count p.0) is in
    subst (λ (t : List ℕ). NoNewline t → ⊥) rest
    (line_left c.self.inside.chunk (c.self.inside.start + c.args.count) c.self.inside.end c.self.inside.lines c.self.invariant.3 (omega (arith, c.self.invariant.1, c.self.told)) c.if-self-count.true)

pub returns : goal.returns
returns c =
    let is = c.self.view_is in
    let le = subst (λ (p : List ℕ × ℕ). c.args.count ≤ length p.0) (sym is) c.requires in
    let rest = range_less c.self.inside.chunk c.self.inside.start c.self.inside.end c.args.count le ∙ ap (λ (p : List ℕ × ℕ). drop c.args.count p.0) is in
    subst (λ (t : List ℕ). NoNewline t) rest
    (none_left c.self.inside.chunk (c.self.inside.start + c.args.count) c.self.inside.end c.self.inside.lines c.self.invariant.3 (omega (arith, c.self.invariant.1, c.self.told)) c.if-self-count.false)
