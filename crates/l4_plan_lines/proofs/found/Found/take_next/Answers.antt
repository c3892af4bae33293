use Rattle.std.proofs.Common.{ℕ, ◌+◌, refl, ap}
use Rattle.l4_plan_lines.proofs.FoundLemmas.{cut_taken, long_taken, bad_taken, empty_taken, good_taken}
use Rattle.l4_plan_lines.proofs.found.Found.take_next.Goals as goal

pub returns-in-Cut : goal.returns-in-Cut
returns-in-Cut c lines bytes ends h =
    cut_taken _ c.args.line.now c.args.self.now _ lines bytes (c.lines-before.result + 1) c.in-Cut.is c.requires (λ ls i. ap (λ (n : ℕ). n + 1) (c.lines-before.ensures.count ls i)) refl ends h

pub returns-in-Long : goal.returns-in-Long
returns-in-Long c lines bytes ends h =
    long_taken _ c.args.line.now c.args.self.now _ lines bytes (c.lines-before.result + 1) c.in-Long.is c.requires (λ ls i. ap (λ (n : ℕ). n + 1) (c.lines-before.ensures.count ls i)) refl ends h

pub returns-then-add : goal.returns-then-add
returns-then-add c lines bytes ends h = good_taken _ c.args.line.now c.args.self.now _ lines bytes c.in-Whole.is c.requires c.if-add.ensures c.requires ends h

pub returns-then-second : goal.returns-then-second
returns-then-second c lines bytes ends h =
    empty_taken _ c.args.line.now c.args.self.now _ lines bytes c.lines-before.result c.in-Whole.is c.requires c.lines-before.ensures.count c.if-second.ensures refl ends h

pub returns-else-second : goal.returns-else-second
returns-else-second c lines bytes ends h =
    bad_taken _ c.args.line.now c.args.self.now _ lines bytes (c.lines-before.result + 1) c.in-Whole.is c.requires (λ ls i. ap (λ (n : ℕ). n + 1) (c.lines-before.ensures.count ls i)) c.if-add.ensures c.if-second.ensures refl ends h
