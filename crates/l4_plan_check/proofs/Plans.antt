-- A plan passes every test.
use Rattle.std.proofs.Common.{◌≡◌, ℕ, ◌-◌, ◌<◌, ◌≤◌, refl, arith, List, [], ◌∷◌, length, get_or}
use Rattle.std.proofs.lemmas.List.{get_or_default}
use Rattle.std.proofs.lemmas.List.Elements.{All-from_recursion}
use Rattle.std.specs.List.{All, AllZip, AllByRecursion}
use Rattle.l4_fpage.specs.Fpages.{rights_of}
use Rattle.l4_msg.specs.Moves.{IsMap, RegionMoves, fpage_of}
use Rattle.l4_msg.specs.Regions.{IsSound, IsPlan, IsCertificate, StartsAt, moved}
use Rattle.l4_msg.specs.declared.items.Item.{Item}
use Rattle.l4_msg.specs.declared.regions.Region.{Region}
use Rattle.l4_plan_check.specs.Claims.{IsGoodItem, IsInside, HasPair}
use Rattle.l4_plan_check.specs.Inside.Pages.{HasNoGap}
use Rattle.l4_plan_check.specs.Faults.{Holds, LongHolds}
use Rattle.l4_plan_check.specs.declared.faults.Fault.{Fault as AFault}
use Rattle.l4_plan_check.proofs.Claims.{Passed, none_of, long_none_of, rank_below}
use Rattle.l4_fpage.specs.declared.sizes.PageSize.{PageSize}

right_parts : {A B : Type 0} (R : A → B → Type 0) (Q : B → Type 0) → ((x : A) (y : B) → R x y → Q y) → (xs : List A) (ys : List B) → AllZip R xs ys → AllByRecursion Q ys
right_parts R Q f [] [] h = tt
right_parts R Q f [] (y ∷ ys) h = absurd h
right_parts R Q f (x ∷ xs) [] h = absurd h
right_parts R Q f (x ∷ xs) (y ∷ ys) h = (f x y h.0, right_parts R Q f xs ys h.1)

record Fits (r : Region) (item : Item) : Type 0 where
  map : IsMap item
  rights : rights_of (fpage_of item) ≡ r.rights

good_items : (size : PageSize) → (r : Region) (items : List Item) (pages : List ℕ) → IsPlan size r items pages → All (IsGoodItem size r) items
good_items size r items pages p k d lt =
    let fits : All (Fits r) items = All-from_recursion (Fits r) items (right_parts (StartsAt size r) (Fits r) (λ x y s. record { map = s.map; rights = s.rights }) pages items p.starts) in
    let f = fits k d lt in
    record {
      map = f.map;
      rights = f.rights;
      moves = λ s t m. (p.rival.moves s t).0 (k, get_or items k d, lt, get_or_default items k (get_or items k d) d lt, m);
    }

no_gap : (size : PageSize) → (r : Region) (items : List Item) (pages : List ℕ) → IsPlan size r items pages → HasNoGap size r items
no_gap size r items pages p page from below =
    let pair : RegionMoves r page (moved r page) = record { index = page - r.source; within = omega arith; source_is = omega arith; target_is = refl } in
    (moved r page, (p.rival.moves page (moved r page)).1 pair)

inside_of : (r : Region) (pages : List ℕ) → IsCertificate r pages → (k : ℕ) → k < length pages → IsInside r (get_or pages k 0)
inside_of r pages c k lt = let i = c.inside k 0 lt in record { from = i.0; below = i.1 }

no_pair : (r : Region) (pages : List ℕ) → IsCertificate r pages → (i : ℕ) → i < length pages → HasPair r pages i → ⊥
no_pair r pages c i lt (j, less, share) = c.apart j i 0 less lt share

pub plan_has_none : (size : PageSize) → (r : Region) (items : List Item) (pages : List ℕ) → IsSound size r → IsPlan size r items pages → length pages ≡ length items → length items ≤ 1984 → (fault : AFault) → Holds size r items pages fault → ⊥
plan_has_none size r items pages sound p same few fault =
    let passed : Passed size r items pages 6 = record {
      region = λ _. sound;
      good = λ _. good_items size r items pages p;
      gap = λ _. no_gap size r items pages p;
      few = λ _. few;
      count = λ _. same;
      inside = λ _. inside_of r pages p.certificate;
      pair = λ _. no_pair r pages p.certificate;
    } in
    none_of size r items pages 6 passed fault (rank_below fault)

pub long_has_none : (size : PageSize) → (r : Region) (pages : List ℕ) → IsSound size r → IsCertificate r pages → length pages ≡ 1985 → (fault : AFault) → LongHolds size r pages fault → ⊥
long_has_none size r pages sound c many = long_none_of size r pages sound many (inside_of r pages c) (no_pair r pages c)
