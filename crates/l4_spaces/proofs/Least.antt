-- The least number of a list that is not below another one, found in one pass.
use Rattle.std.proofs.Common.{◌≡◌, ℕ, ◌+◌, ◌<◌, ◌≤◌, nat_lt, if◌then◌else◌, List, slice_get, Option, Some, None, refl, arith}
use Rattle.std.specs.Option.{option_map_or}
use Rattle.std.proofs.lemmas.Bool.Decides.{nat_tests}
use Rattle.l4_spaces.specs.Inside.Leasts.{least_with, Stands, LeastSoFar}

module _ {X : Type 0} where
  -- what holds of the entries before a place and of the one there
  up_to : (P : ℕ → Type 0) (es : List (ℕ × X)) (i : ℕ) (x : ℕ × X) → slice_get es i ≡ Some x → P x.0 → ((k : ℕ) (e : ℕ × X) → k < i → slice_get es k ≡ Some e → P e.0)
      → (k : ℕ) (e : ℕ × X) → k < i + 1 → slice_get es k ≡ Some e → P e.0
  up_to P es i x there here before k e lt at = grind arith

  pub least_next : (from : ℕ) (es : List (ℕ × X)) (i : ℕ) (x : ℕ × X) → slice_get es i ≡ Some x → (o : Option ℕ) → LeastSoFar from es i o → LeastSoFar from es (i + 1) (least_with from o x.0)
  least_next from es i x there o h = grind (arith, nat_tests, skips, takes)
    where
      skips : x.0 < from → (o : Option ℕ) → LeastSoFar from es i o → LeastSoFar from es (i + 1) o
      skips lt None h = up_to (λ n. n < from) es i x there lt h
      skips lt (Some n) h = (h.0, h.1, up_to (λ m. from ≤ m → n ≤ m) es i x there (λ le. omega (arith, le, lt)) h.2)

      here : Stands es x.0
      here = record { at = i; entry = x; there = there; number = refl }

      takes : from ≤ x.0 → (o : Option ℕ) → LeastSoFar from es i o → LeastSoFar from es (i + 1) (Some (option_map_or (λ other. if nat_lt other x.0 then other else x.0) o x.0))
      takes le None h = (here, le, up_to (λ m. from ≤ m → x.0 ≤ m) es i x there (λ _. omega arith) (λ k e lt at other. let far = h k e lt at in omega (arith, far, other)))
      takes le (Some n) h =
          grind (arith, nat_tests, up_to, here)
