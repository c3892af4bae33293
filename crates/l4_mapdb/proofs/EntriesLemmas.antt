-- Tests whether two places are one.
use Rattle.std.proofs.Common.{◌≡◌, Bool, true, false, refl, sym, ap, ◌∙◌, IsTrue}
use Rattle.std.specs.Ordering.{eq_by_cmp, is_eq}
use Rattle.std.specs.Cmp.{tied_itself}
use Rattle.std.specs.declared.cmp.Ordering.{Ordering}
use Rattle.std.specs.declared.cmp.Ordering.TheVariants.{Less, Equal, Greater}
use Rattle.l4_mapdb.specs.declared.Place.{Place}
use Rattle.l4_mapdb.specs.Mappings.{place_cmp}
use Rattle.l4_mapdb.proofs.Places.{places_total, exact_places}

pub tie : (p q : Place) → p ≡ q → eq_by_cmp place_cmp p q ≡ true
tie p q e = ap (λ r. is_eq (place_cmp p r)) (sym e) ∙ ap is_eq (tied_itself places_total p)

pub is_equal : (r : Ordering) → is_eq r ≡ true → r ≡ Equal
is_equal Less h = cc
is_equal Equal h = refl
is_equal Greater h = cc

pub untie : (p q : Place) → eq_by_cmp place_cmp p q ≡ true → p ≡ q
untie p q h = exact_places p q (is_equal (place_cmp p q) h)

-- by cases on a test
pub decided : {A : Type 0} (b : Bool) → (IsTrue b → A) → (¬ (IsTrue b) → A) → A
decided true f g = f refl
decided false f g = g (λ h. let k : false ≡ true = h in cc)
