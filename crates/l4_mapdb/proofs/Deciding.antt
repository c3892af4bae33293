-- What is so or isn't.
use Rattle.std.proofs.Common.{◌≡◌, ◌≢◌, ℕ, ◌<◌, ◌≤◌, ◌==◌, Bool, true, false, not, ◌⊎◌, inl, inr, refl, arith}
use Rattle.std.specs.Bool.{beq}
use Rattle.std.proofs.lemmas.Bool.Decides.{nat_tests}
use Rattle.std.proofs.lemmas.Bool.{cases_lt}
use Rattle.l4_fpage.specs.Rights.{RightsSet, no_rights}

-- two numbers are one or not
pub same_or : (a b : ℕ) → (a ≡ b) ⊎ (a ≢ b)
same_or a b = elim (a == b) as (λ t. (a == b) ≡ t → (a ≡ b) ⊎ (a ≢ b)) [
  | true ↦ λ t. inl (grind (arith, nat_tests))
  | false ↦ λ t. inr (grind (arith, nat_tests))
] refl

-- one number is below another or not
pub less_or : (a b : ℕ) → (a < b) ⊎ (b ≤ a)
less_or a b = cases_lt a b

-- a set of rights is empty or not
pub none_or : (a : RightsSet) → (a ≡ no_rights) ⊎ (a ≢ no_rights)
none_or a = grind arith

-- what a test of two truth values says
pub truths_agree : (a b : Bool) → not (beq a b) ≡ false → a ≡ b
truths_agree true true h = refl
truths_agree true false h = let z : true ≡ false = h in cc
truths_agree false true h = let z : true ≡ false = h in cc
truths_agree false false h = refl

pub truths_differ : (a b : Bool) → not (beq a b) ≡ true → a ≢ b
truths_differ true true h e = let z : false ≡ true = h in cc
truths_differ true false h e = cc
truths_differ false true h e = cc
truths_differ false false h e = let z : false ≡ true = h in cc
