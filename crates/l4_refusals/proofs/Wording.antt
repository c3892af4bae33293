-- Texts one after another.
use Rattle.std.proofs.Common.{◌≡◌, List, ◌∷◌, ap, ◌∙◌}

-- one text after another
pub both : {X : Type 0} → {x y : X} → {xs ys : List X} → x ≡ y → xs ≡ ys → x ∷ xs ≡ y ∷ ys
both {X} {x} {y} {xs} {ys} e es = ap (λ (z : X). z ∷ xs) e ∙ ap (λ (zs : List X). y ∷ zs) es
