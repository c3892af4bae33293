use Rattle.std.proofs.Common.{◌≡◌, ℕ, suc, ◌+◌, ◌-◌, ◌*◌, ◌/◌, ◌%◌, ◌^◌, ◌<◌, ◌≤◌, ◌⊎◌, inl, inr, arith}
use Rattle.std.proofs.Math.Nat.{mul-le-mul_right, suc-mul}
use Rattle.std.proofs.lemmas.Bool.{cases_lt}
use Rattle.std.proofs.lemmas.Nat.{shr_split}
use Rattle.std.specs.Int.Count.{count_trailing_zeros}
use Rattle.l4_fpage.proofs.Powers.{trailing_aligned, aligned_trailing}
use Rattle.l4_msg.specs.Regions.{moved}
use Rattle.l4_plan.proofs.Runs.{run_same}
use Rattle.l4_plan.proofs.splitting.run_of.Goals as goal

more_is : (log m : ℕ) → log < m → log + 1 ≤ m
more_is log m h = omega arith

pub returns-clause-same : goal.returns-clause-same
returns-clause-same c i lt =
    let r = c.args.region.now in
    let page = c.args.page in
    let log = c.args.log in
    let best = c.requires.first in
    let there = moved r page in
    let n : ℕ = count_trailing_zeros 32 page in
    let m : ℕ = count_trailing_zeros 32 there in
    let small : log ≤ 22 = best.allowed.source.small in
    let ln : log ≤ n = aligned_trailing 32 page log (omega arith) best.allowed.source.aligned in
    let lm : log ≤ m = aligned_trailing 32 there log (omega arith) best.allowed.target.aligned in
    let not_both : page % 2 ^ (log + 1) ≡ 0 → there % 2 ^ (log + 1) ≡ 0 → ⊥ = λ a b.
    let x : log + 1 ≤ n = aligned_trailing 32 page (log + 1) (omega arith) a in
    let y : log + 1 ≤ m = aligned_trailing 32 there (log + 1) (omega arith) b in
    omega (arith, c.min.ensures, c.from.ensures, c.if-from-min.false) in
    let one : (page % 2 ^ (log + 1) ≡ 0) ⊎ (there % 2 ^ (log + 1) ≡ 0) =
    elim (cases_lt log n) [
      | inl more ↦ inl (trailing_aligned 32 page (log + 1) (omega arith))
      | inr ge ↦ inr (trailing_aligned 32 there (log + 1) (elim (cases_lt log m) [ inl more ↦ more_is log m more | inr also ↦ absurd (c.if-here-there.false (omega arith)) ]))
    ] in
    let left = r.source + r.count - page in
    let steps : suc i * 2 ^ log ≤ left / 2 ^ log * 2 ^ log = mul-le-mul_right (2 ^ log) (omega arith) in
    run_same r page log i c.requires.space best not_both one (omega (arith, steps, suc-mul i (2 ^ log), shr_split left log, best.allowed.to))
