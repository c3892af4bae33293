-- A text that is put together piece by piece.
use Rattle.std.proofs.Common.{◌≡◌, ℕ, List, ◌++◌, ap, ◌∙◌}
use mathlib.Core.List.{append_assoc}

pub text_more : (t u v x y : List ℕ) → u ≡ t ++ x → v ≡ u ++ y → v ≡ t ++ (x ++ y)
text_more t u v x y first next = next ∙ ap (λ (l : List ℕ). l ++ y) first ∙ append_assoc t x y
