-- What is left of rights.
use Rattle.std.proofs.Common.{◌≡◌, ◌≢◌, Bool, true, false, not, ◌&&◌, IsTrue, refl, ap, ◌↔◌}
use Rattle.l4_fpage.specs.Rights.{RightsSet, Right, has, Read, Write, Execute, without, no_rights, is_none}

and_not : (a b : Bool) → IsTrue (a && not b) ↔ (IsTrue a × ¬ (IsTrue b))
and_not true true = (λ h. (refl, λ _. let k : false ≡ true = h in cc), λ h. absurd (h.1 refl))
and_not true false = (λ h. (refl, λ k. cc), λ h. refl)
and_not false b = (λ h. absurd (let k : false ≡ true = h in cc), λ h. h.0)

-- a right is left of a difference where the first has it and the second lacks it
pub has-without : (a b : RightsSet) (k : Right) → IsTrue (has (without a b) k) ↔ (IsTrue (has a k) × ¬ (IsTrue (has b k)))
has-without a b Read = and_not a.r b.r
has-without a b Write = and_not a.w b.w
has-without a b Execute = and_not a.x b.x

from_rights : (r w x : Bool) → (not (not r && not w && not x) ≡ true → ◌≢◌ {A = RightsSet} (record { r = r; w = w; x = x }) no_rights) × (◌≢◌ {A = RightsSet} (record { r = r; w = w; x = x }) no_rights → not (not r && not w && not x) ≡ true)
from_rights true w x = (λ h e. let k : true ≡ false = ap (λ (a : RightsSet). a.r) e in cc, λ h. refl)
from_rights false true x = (λ h e. let k : true ≡ false = ap (λ (a : RightsSet). a.w) e in cc, λ h. refl)
from_rights false false true = (λ h e. let k : true ≡ false = ap (λ (a : RightsSet). a.x) e in cc, λ h. refl)
from_rights false false false = (λ h. absurd (let k : false ≡ true = h in cc), λ h. absurd (h refl))

pub none_is : (a : RightsSet) → (not (is_none a) ≡ true) ↔ (a ≢ no_rights)
none_is a = from_rights a.r a.w a.x
