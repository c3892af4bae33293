-- The list of the largest allowed blocks of a region: what is found at a page, and how lists follow each other.
use Rattle.std.proofs.Common.{◌≡◌, ℕ, zero, suc, ◌+◌, ◌%◌, ◌^◌, ◌<◌, ◌≤◌, Bool, true, false, cond, nat_le, inl, inr, refl, sym, ap, ◌∙◌, subst, arith, List, ◌∷◌, ◌++◌, length}
use Rattle.std.proofs.Math.Nat.{zero-add, suc-add}
use Rattle.std.proofs.lemmas.Bool.{cases_lt}
use Rattle.std.proofs.lemmas.Bool.Decides.{Decides-eqb, Decides-and, nat_tests}
use Rattle.std.specs.Bool.{Decides}
use Rattle.l4_fpage.proofs.PageSizes.{log_low, pages_most}
use Rattle.l4_fpage.specs.declared.sizes.PageSize.{PageSize}
use Rattle.l4_fpage.specs.declared.sizes.PageSize.TheVariants.{Kib1}
use Rattle.l4_msg.specs.Regions.{InSpace, IsAllowed, moved}
use Rattle.l4_msg.specs.declared.regions.Region.{Region}
use Rattle.l4_plan.specs.Inside.Listings.{InLargestSpace}
use Rattle.l4_plan.specs.Largest.{IsLargest}
use Rattle.l4_plan.specs.Inside.Split.{fits, largest_up_to, largest, reached, starts_from}

-- what lies in a space lies in the largest one
pub in_largest : (size : PageSize) (r : Region) → InSpace size r → InLargestSpace r
in_largest size r space = record { source = omega (arith, space.source, pages_most size); target = omega (arith, space.target, pages_most size) }

-- of the logs up to k, j is 0 or fits, and no greater one fits
record Found (r : Region) (page k j : ℕ) : Type 0 where
  low : j ≤ k
  found : 0 < j → fits r page j ≡ true
  greatest : (i : ℕ) → i ≤ k → 0 < i → fits r page i ≡ true → i ≤ j

found_step : (r : Region) (page k j : ℕ) (b : Bool) → fits r page (suc k) ≡ b → Found r page k j → Found r page (suc k) (cond b (suc k) j)
found_step r page k j true e f = record { low = omega arith; found = λ _. e; greatest = λ i le some t. le }
found_step r page k j false e f = record {
  low = omega (arith, f.low);
  found = f.found;
  greatest = λ i le some t. elim (cases_lt k i) [
    | inl lt ↦ let s : i ≡ suc k = omega arith in let u : fits r page (suc k) ≡ true = subst (λ (n : ℕ). fits r page n ≡ true) s t in let v : true ≡ false = sym u ∙ e in absurd (cc)
    | inr ge ↦ f.greatest i ge some t
  ];
}

found_up_to : (r : Region) (page k : ℕ) → Found r page k (largest_up_to r page k)
unfolding largest_up_to
found_up_to r page zero = record { low = omega arith; found = λ h. absurd (omega arith); greatest = λ i le some t. le }
found_up_to r page (suc k) = found_step r page k (largest_up_to r page k) (fits r page (suc k)) refl (found_up_to r page k)

Decides-leb : (a b : ℕ) → Decides (nat_le a b) (a ≤ b)
Decides-leb a b = (λ e. grind (arith, nat_tests), λ h. grind (arith, nat_tests))

fits_when : (r : Region) (page log : ℕ) → IsAllowed r page log → fits r page log ≡ true
fits_when r page log a =
    (Decides-and _ _ (Decides-eqb (page % 2 ^ log) 0) (Decides-and _ _ (Decides-eqb (moved r page % 2 ^ log) 0) (Decides-leb (page + 2 ^ log) (r.source + r.count)))).1 (a.source.aligned, (a.target.aligned, a.to))

allowed_when : (r : Region) (page log : ℕ) → InLargestSpace r → r.source ≤ page → fits r page log ≡ true → IsAllowed r page log
allowed_when r page log space from t =
    let h = (Decides-and _ _ (Decides-eqb (page % 2 ^ log) 0) (Decides-and _ _ (Decides-eqb (moved r page % 2 ^ log) 0) (Decides-leb (page + 2 ^ log) (r.source + r.count)))).0 t in
    let low : log ≤ 22 = log_low Kib1 log (omega (arith, space.source, h.1.1)) in
    record {
      source = record { small = low; aligned = h.0; inside = omega (arith, space.source, h.1.1) };
      target = record { small = low; aligned = h.1.0; inside = omega (arith, space.target, h.1.1) };
      from = from;
      to = h.1.1;
    }

-- the largest allowed block at a page is the one that is found
pub largest_found : (r : Region) (page log : ℕ) → InLargestSpace r → IsLargest r page log → largest r page ≡ log
unfolding largest
largest_found r page log space best =
    let f = found_up_to r page 22 in
    let j = largest_up_to r page 22 in
    let ge : log ≤ j = elim (cases_lt 0 log) [ inl some ↦ f.greatest log best.allowed.source.small some (fits_when r page log best.allowed) | inr none ↦ omega arith ] in
    let le : j ≤ log = elim (cases_lt 0 j) [ inl some ↦ best.greatest j (allowed_when r page j space best.allowed.from (f.found some)) | inr none ↦ omega arith ] in
    omega arith

-- and the one that is found is the largest
pub largest_is : (r : Region) (page : ℕ) → InLargestSpace r → r.source ≤ page → page < r.source + r.count → IsLargest r page (largest r page)
unfolding largest
largest_is r page space from below =
    let f = found_up_to r page 22 in
    let j = largest_up_to r page 22 in
    record {
      allowed = elim (cases_lt 0 j) [
        | inl some ↦ allowed_when r page j space from (f.found some)
        | inr none ↦
            let e : 0 ≡ j = omega arith in
            let one : IsAllowed r page 0 = record {
              source = record { small = omega arith; aligned = omega arith; inside = omega (arith, space.source) };
              target = record { small = omega arith; aligned = omega arith; inside = omega (arith, space.target) };
              from = from;
              to = omega arith;
            } in
            subst (λ (k : ℕ). IsAllowed r page k) e one
      ];
      greatest = λ k a. elim (cases_lt 0 k) [ inl some ↦ f.greatest k a.source.small some (fits_when r page k a) | inr none ↦ omega arith ];
    }

-- ---- lists that follow each other

pub reached_more : (r : Region) (page n m : ℕ) → reached r page (n + m) ≡ reached r (reached r page n) m
reached_more r page zero m = ap (λ (i : ℕ). reached r page i) (zero-add m)
reached_more r page (suc n) m = ap (λ (i : ℕ). reached r page i) (suc-add n m) ∙ reached_more r (page + 2 ^ largest r page) n m

pub starts_more : (r : Region) (page n m : ℕ) → starts_from r page (n + m) ≡ starts_from r page n ++ starts_from r (reached r page n) m
starts_more r page zero m = ap (λ (i : ℕ). starts_from r page i) (zero-add m)
starts_more r page (suc n) m = ap (λ (i : ℕ). starts_from r page i) (suc-add n m) ∙ ap (λ (ps : List ℕ). page ∷ ps) (starts_more r (page + 2 ^ largest r page) n m)

pub length_starts : (r : Region) (page n : ℕ) → length (starts_from r page n) ≡ n
length_starts r page zero = refl
length_starts r page (suc n) = omega (arith, length_starts r (page + 2 ^ largest r page) n)
