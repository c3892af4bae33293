-- The definitions determine the new mappings.
use Rattle.std.proofs.Common.{◌≡◌, Bool, true, false, Some, refl, sym, ap, ◌∙◌, ◌↔◌, IsTrue, unwrap_or}
use Rattle.l4_fpage.specs.Rights.{RightsSet, Right, has, Read, Write, Execute}
use Rattle.l4_mapdb.specs.declared.Place.{Place}
use Rattle.l4_mapdb.specs.declared.Mapping.{Mapping}
use Rattle.l4_mapdb.specs.Mappings.{Mappings, shown}
use Rattle.l4_mapdb.specs.Losing.{IsLeft, LosesRights}
use Rattle.l4_mapdb.proofs.Places.{same_option, same_mappings}

-- what two values hold that are one is one
pub same_value : {X : Type 0} {x y : X} → Some x ≡ Some y → x ≡ y
same_value {x = x} e = ap (λ o. unwrap_or o x) e

same_bool : (a b : Bool) → (IsTrue a → IsTrue b) → (IsTrue b → IsTrue a) → a ≡ b
same_bool true true f g = refl
same_bool true false f g = sym (f refl)
same_bool false true f g = g refl
same_bool false false f g = refl

-- two sets with the same rights are equal
pub same_rights : (a b : RightsSet) → ((right : Right) → IsTrue (has a right) ↔ IsTrue (has b right)) → a ≡ b
same_rights a b h =
    let r : a.r ≡ b.r = same_bool _ _ (h Read).0 (h Read).1 in
    let w : a.w ≡ b.w = same_bool _ _ (h Write).0 (h Write).1 in
    let x : a.x ≡ b.x = same_bool _ _ (h Execute).0 (h Execute).1 in
    λ i. record { r = r i; w = w i; x = x i }

pub loses_unique : (Lost : Place → Right → Type 0) (old a b : Mappings) → LosesRights Lost old a → LosesRights Lost old b → a ≡ b
loses_unique Lost old a b f g =
    same_mappings a b (f.spaces ∙ sym g.spaces)
    (λ p. same_option (λ m. (before : Mapping) × (shown old p ≡ Some before) × IsLeft (Lost p) before m)
    (shown a p) (shown b p) (f.places p) (g.places p))
