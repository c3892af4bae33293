-- The items and the pages that a plan stands for.
use Rattle.std.proofs.Common.{◌≡◌, ℕ, zero, suc, ◌+◌, ◌-◌, ◌*◌, ◌/◌, ◌%◌, ◌^◌, ◌<◌, ◌≤◌, inl, inr, refl, sym, ap, ◌∙◌, subst, arith, min, map, List, [], ◌∷◌, ◌++◌, length, take, drop, Some}
use Rattle.std.proofs.Math.Nat.{zero-mul}
use Rattle.std.proofs.lemmas.Nat.{one_shl}
use Rattle.std.proofs.lemmas.Bool.Decides.{eqb_tells}
use Rattle.std.proofs.lemmas.List.{map-append, take-map, drop-map, take_all}
use Rattle.std.proofs.lemmas.Bool.{cases_lt}
use Rattle.std.proofs.lemmas.List.Elements.{All-map}
use Rattle.std.specs.List.{All}
use Rattle.l4_fpage.proofs.Powers.{aligned_up, whole_down}
use Rattle.l4_fpage.proofs.Known.{same_fpage}
use Rattle.l4_fpage.proofs.PageSizes.{log_low, whole, whole_units}
use Rattle.l4_fpage.specs.Fpages.{Bytes, bytes_of, rights_of}
use Rattle.l4_fpage.specs.Pages.{LiesIn, page_bytes, page_log, space_log}
use Rattle.l4_fpage.specs.Rights.{RightsSet}
use Rattle.l4_fpage.specs.declared.fpages.Fpage.{Fpage}
use Rattle.l4_fpage.specs.declared.sizes.PageSize.{PageSize}
use Rattle.l4_msg.proofs.Covered.{bytes_at}
use Rattle.l4_msg.proofs.Rivals.{certificate_bounds}
use Rattle.l4_msg.specs.Moves.{base_of}
use Rattle.l4_msg.specs.Regions.{InSpace, IsSound, IsAllowed, IsPlan, IsCertificate, StartsAt, moved, part_of_list}
use Rattle.l4_msg.specs.declared.items.Item.{Item}
use Rattle.l4_msg.specs.declared.items.Item.TheVariants.{Map}
use Rattle.l4_msg.specs.declared.regions.Region.{Region}
use Rattle.l4_plan.specs.Inside.Listings.{InLargestSpace, GoesOn, IsAll, listing}
use Rattle.l4_plan.specs.Largest.{IsLargest}
use Rattle.l4_plan.specs.Shortest.{IsShortest, IsTooLong}
use Rattle.l4_plan.specs.Inside.Split.{size_of, block_fpage, largest, reached, starts_from, item_at}
use Rattle.l4_plan.proofs.Progress.{Progress, progress_step, progress_end, progress_none, first_starts}
use Rattle.l4_plan.proofs.Split.{in_largest, largest_is, largest_found, reached_more, starts_more, length_starts}

-- ---- the item at a page

whole_block : (size : PageSize) (page log : ℕ) → LiesIn size page log → log ≡ space_log size → record { base = 0; log = 32 } ≡ bytes_at size page (log + page_log size)
whole_block size page log lies e =
    let p : page ≡ 0 = omega (arith, lies, ap (λ (k : ℕ). 2 ^ k) e) in
    let b : 0 ≡ page * page_bytes size = sym (zero-mul (page_bytes size)) ∙ ap (λ (n : ℕ). n * page_bytes size) (sym p) in
    λ i. record { base = b i; log = (let l : 32 ≡ log + page_log size = omega (arith, e, whole size) in l) i }

part_block : (size : PageSize) (page log : ℕ) → page % 2 ^ log ≡ 0 → log < space_log size → record { base = page * page_bytes size / 2 ^ size_of size log * 2 ^ size_of size log; log = size_of size log } ≡ bytes_at size page (log + page_log size)
part_block size page log aligned lt =
    let k = log + page_log size in
    let first = page * page_bytes size in
    let s : size_of size log ≡ k = omega (arith, whole size) in
    let up : first % 2 ^ k ≡ 0 = aligned_up (page_log size) log page aligned in
    let b : first / 2 ^ size_of size log * 2 ^ size_of size log ≡ first = ap (λ (n : ℕ). first / 2 ^ n * 2 ^ n) s ∙ whole_down k 0 first (rw (let z : 0 + k ≡ k = omega arith in z) up) in
    λ i. record { base = b i; log = s i }

block_bytes : (size : PageSize) (page log : ℕ) (rights : RightsSet) → page % 2 ^ log ≡ 0 → LiesIn size page log → bytes_of (block_fpage size page log rights) ≡ Some (bytes_at size page (log + page_log size))
unfolding block_fpage
block_bytes size page log rights aligned lies =
    elim (eqb_tells log (space_log size)) [
      | inl t ↦ rw t.0 (ap (λ (b : Bytes). Some b) (whole_block size page log lies t.1))
      | inr f ↦ let lt : log < space_log size = omega (arith, log_low size log (omega (arith, lies)), f.1) in rw f.0 (ap (λ (b : Bytes). Some b) (part_block size page log aligned lt))
    ]

block_rights : (size : PageSize) (page log : ℕ) (rights : RightsSet) → rights_of (block_fpage size page log rights) ≡ rights
unfolding block_fpage
block_rights size page log rights = elim (eqb_tells log (space_log size)) [ inl t ↦ rw t.0 refl | inr f ↦ rw f.0 refl ]

allowed_bytes : (size : PageSize) (r : Region) (page log : ℕ) → InSpace size r → IsAllowed r page log → bytes_of (block_fpage size page log r.rights) ≡ Some (bytes_at size page (log + page_log size))
allowed_bytes size r page log space a = block_bytes size page log r.rights a.source.aligned (omega (arith, a.to, space.source))

pub item_starts : (size : PageSize) (r : Region) (page : ℕ) → InSpace size r → IsLargest r page (largest r page) → StartsAt size r page (item_at size r page)
item_starts size r page space best = record {
  map = tt;
  rights = block_rights size page (largest r page) r.rights;
  base = refl;
  log = largest r page + page_log size;
  bytes = allowed_bytes size r page (largest r page) space best.allowed;
}

-- what the code makes is this item
pub item_made : (size : PageSize) (r : Region) (page log base : ℕ) (f : Fpage) → InSpace size r → largest r page ≡ log → IsAllowed r page log → base ≡ moved r page * page_bytes size → bytes_of f ≡ Some (bytes_at size page (log + page_log size)) → rights_of f ≡ r.rights → Map base f ≡ item_at size r page
item_made size r page log base f space found a b bytes rights =
    let g = block_fpage size page log r.rights in
    let same : f ≡ g = same_fpage f g (bytes_at size page (log + page_log size)) bytes (allowed_bytes size r page log space a) (rights ∙ sym (block_rights size page log r.rights)) in
    (λ i. Map (b i) (same i)) ∙ ap (λ (k : ℕ). Map (moved r page * page_bytes size) (block_fpage size page k r.rights)) (sym found)

-- ---- lists of items

pub reached_from : (r : Region) (page n : ℕ) → page ≤ reached r page n
reached_from r page zero = omega arith
reached_from r page (suc n) = omega (arith, reached_from r (page + 2 ^ largest r page) n)

pub listed : (size : PageSize) (r : Region) (n : ℕ) → InSpace size r → ((i : ℕ) → i < n → reached r r.source i < r.source + r.count) → 0 < r.count
    → Progress size r (reached r r.source n) (map (item_at size r) (starts_from r r.source n)) (starts_from r r.source n)
listed size r zero space within some = progress_none size r
listed size r (suc n) space within some =
    let p = reached r r.source n in
    let best : IsLargest r p (largest r p) = largest_is r p (in_largest size r space) (reached_from r r.source n) (within n (omega arith)) in
    let before = listed size r n space (λ i lt. within i (omega arith)) some in
    let e : suc n ≡ n + 1 = omega arith in
    let starts : starts_from r r.source (suc n) ≡ starts_from r r.source n ++ p ∷ [] = ap (λ (k : ℕ). starts_from r r.source k) e ∙ starts_more r r.source n 1 in
    let items : map (item_at size r) (starts_from r r.source (suc n)) ≡ map (item_at size r) (starts_from r r.source n) ++ item_at size r p ∷ [] = ap (map (item_at size r)) starts ∙ map-append (item_at size r) (starts_from r r.source n) (p ∷ []) in
    let page : reached r r.source (suc n) ≡ p + 2 ^ largest r p = ap (λ (k : ℕ). reached r r.source k) e ∙ reached_more r r.source n 1 in
    let bytes = allowed_bytes size r p (largest r p) space best.allowed in
    let next = progress_step size r p (largest r p) _ (item_at size r p) _ space before best (item_starts size r p space best) bytes in
    subst (λ (q : ℕ). Progress size r q (map (item_at size r) (starts_from r r.source (suc n))) (starts_from r r.source (suc n))) (sym page)
    (subst (λ (is : List Item). Progress size r (p + 2 ^ largest r p) is (starts_from r r.source (suc n))) (sym items)
    (subst (λ (ps : List ℕ). Progress size r (p + 2 ^ largest r p) (map (item_at size r) (starts_from r r.source n) ++ item_at size r p ∷ []) ps) (sym starts) next))

pub length_items : (size : PageSize) (r : Region) (page n : ℕ) → length (map (item_at size r) (starts_from r page n)) ≡ n
length_items size r page zero = refl
length_items size r page (suc n) = omega (arith, length_items size r (page + 2 ^ largest r page) n)

pub all_planned : (size : PageSize) (r : Region) (n : ℕ) → IsAll size r n → IsPlan size r (listing size r n).items (listing size r n).pages
all_planned size r n all = progress_end size r _ _ _ (listed size r n all.sound.space all.within all.sound.some) (omega (arith, all.end))

pub all_shortest : (size : PageSize) (r : Region) (n : ℕ) → IsAll size r n → IsShortest size r (listing size r n)
all_shortest size r n all =
    let plan = all_planned size r n all in
    let one : length (listing size r n).pages ≡ length (listing size r n).items = length_starts r r.source n ∙ sym (length_items size r r.source n) in
    record {
      sound = all.sound;
      plan = plan;
      one_each = one;
      few = omega (arith, length_items size r r.source n, all.few);
      starts = first_starts size r _ _ _ (listed size r n all.sound.space all.within all.sound.some);
      shortest = λ rival h. omega (arith, one, certificate_bounds size r (listing size r n).pages rival all.sound.space plan.certificate h);
    }

-- one block more than a plan may have
pub all_too_long : (size : PageSize) (r : Region) (n : ℕ) → IsSound size r → n ≡ 1985 → ((i : ℕ) → i < n → reached r r.source i < r.source + r.count) → IsTooLong size r (starts_from r r.source n)
all_too_long size r n sound many within =
    let h = listed size r n sound.space within sound.some in
    let same : length (starts_from r r.source n) ≡ 1985 = length_starts r r.source n ∙ many in
    let cert : IsCertificate r (starts_from r r.source n) = record { inside = λ k d in_k. let i = h.inside k d in_k in (i.0, omega (arith, i.1, h.to)); apart = h.apart } in
    record {
      sound = sound;
      many = same;
      certificate = cert;
      starts = first_starts size r _ _ _ h;
      none = λ rival g. omega (arith, same, certificate_bounds size r (starts_from r r.source n) rival sound.space cert g);
    }

-- ---- a part of the items

pub only_part : {X : Type 0} (xs : List X) → length xs ≤ 31 → part_of_list xs 0 ≡ xs
only_part xs le = take_all 31 xs le

-- where so many blocks are passed over, all of them are
pub passed_all : (size : PageSize) (r : Region) (n b blocks page : ℕ) → IsAll size r n → b ≤ n → blocks ≤ b → page ≡ reached r r.source blocks → (blocks < b → page ≡ r.source + r.count) → blocks ≡ b
passed_all size r n b blocks page all le few is end = elim (cases_lt blocks b) [ inl lt ↦ absurd (omega (arith, all.within blocks (omega arith), end lt)) | inr ge ↦ omega arith ]

drop_starts : (r : Region) (page b n : ℕ) → drop b (starts_from r page n) ≡ starts_from r (reached r page b) (n - b)
drop_starts r page zero n = let e : n ≡ n - 0 = omega arith in ap (λ (k : ℕ). starts_from r page k) e
drop_starts r page (suc b) zero = let e : 0 ≡ 0 - suc b = omega arith in ap (λ (k : ℕ). starts_from r (reached r page (suc b)) k) e
drop_starts r page (suc b) (suc n) = let e : n - b ≡ suc n - suc b = omega arith in drop_starts r (page + 2 ^ largest r page) b n ∙ ap (λ (k : ℕ). starts_from r (reached r page (suc b)) k) e

take_starts : (r : Region) (page c n : ℕ) → take c (starts_from r page n) ≡ starts_from r page (min n c)
take_starts r page zero n = let e : 0 ≡ min n 0 = omega arith in ap (λ (k : ℕ). starts_from r page k) e
take_starts r page (suc c) zero = let e : 0 ≡ min 0 (suc c) = omega arith in ap (λ (k : ℕ). starts_from r page k) e
take_starts r page (suc c) (suc n) =
    ap (λ (ps : List ℕ). page ∷ ps) (take_starts r (page + 2 ^ largest r page) c n) ∙ ap (λ (k : ℕ). starts_from r page k) (let e : suc (min n c) ≡ min (suc n) (suc c) = omega arith in e)

pub part_is : (size : PageSize) (r : Region) (n k : ℕ) → part_of_list (map (item_at size r) (starts_from r r.source n)) k ≡ map (item_at size r) (starts_from r (reached r r.source (31 * k)) (min (n - 31 * k) 31))
part_is size r n k =
    let f = item_at size r in
    ap (take 31) (drop-map f (31 * k) (starts_from r r.source n)) ∙ take-map f 31 (drop (31 * k) (starts_from r r.source n))
    ∙ ap (map f) (ap (take 31) (drop_starts r r.source (31 * k) n) ∙ take_starts r (reached r r.source (31 * k)) 31 (n - 31 * k))

pub pages_part_is : (r : Region) (n k : ℕ) → part_of_list (starts_from r r.source n) k ≡ starts_from r (reached r r.source (31 * k)) (min (n - 31 * k) 31)
pages_part_is r n k = ap (take 31) (drop_starts r r.source (31 * k) n) ∙ take_starts r (reached r r.source (31 * k)) 31 (n - 31 * k)

pub no_pages_part : (r : Region) (n k : ℕ) → n ≤ 31 * k → [] ≡ part_of_list (starts_from r r.source n) k
no_pages_part r n k le = let e : 0 ≡ min (n - 31 * k) 31 = omega arith in ap (λ (m : ℕ). starts_from r (reached r r.source (31 * k)) m) e ∙ sym (pages_part_is r n k)

-- the pages listed so far
pub record ListedSoFar (r : Region) (first n page : ℕ) (pages : List ℕ) : Type 0 where
  pub page_is : page ≡ reached r first n
  pub pages_are : pages ≡ starts_from r first n

pub listed_step : (r : Region) (first n page log : ℕ) (pages : List ℕ) → InLargestSpace r → ListedSoFar r first n page pages → IsLargest r page log → ListedSoFar r first (n + 1) (page + 1 * 2 ^ log % 2 ^ 32) (pages ++ page ∷ [])
listed_step r first n page log pages space made best =
    let found : largest r page ≡ log = largest_found r page log space best in
    let one : 1 * 2 ^ log % 2 ^ 32 ≡ 2 ^ log = one_shl log 32 (omega (arith, best.allowed.source.small)) in
    record {
      page_is = ap (λ (k : ℕ). page + k) (one ∙ ap (λ (k : ℕ). 2 ^ k) (sym found)) ∙ ap (λ (q : ℕ). q + 2 ^ largest r q) made.page_is ∙ sym (reached_more r first n 1);
      pages_are = (λ i. made.pages_are i ++ made.page_is i ∷ []) ∙ sym (starts_more r first n 1);
    }

-- what is left behind some of the blocks
pub goes_on : (size : PageSize) (r : Region) (n b m : ℕ) → IsAll size r n → b + m ≤ n → GoesOn r (reached r r.source b) m
goes_on size r n b m all le = record {
  space = in_largest size r all.sound.space;
  from = reached_from r r.source b;
  within = λ i lt. rw (← reached_more r r.source b i) (all.within (b + i) (omega arith));
}

-- the items made so far, and the page that is reached
pub record MadeSoFar (size : PageSize) (r : Region) (first n page : ℕ) (items : List Item) : Type 0 where
  pub page_is : page ≡ reached r first n
  pub items_are : items ≡ map (item_at size r) (starts_from r first n)

pub made_step : (size : PageSize) (r : Region) (first n page log base : ℕ) (items : List Item) (f : Fpage) → InSpace size r → MadeSoFar size r first n page items → IsLargest r page log
    → base ≡ moved r page * page_bytes size → bytes_of f ≡ Some (bytes_at size page (log + page_log size)) → rights_of f ≡ r.rights → MadeSoFar size r first (n + 1) (page + 1 * 2 ^ log % 2 ^ 32) (items ++ Map base f ∷ [])
made_step size r first n page log base items f space made best b bytes rights =
    let a = best.allowed in
    let found : largest r page ≡ log = largest_found r page log (in_largest size r space) best in
    let one : 1 * 2 ^ log % 2 ^ 32 ≡ 2 ^ log = one_shl log 32 (omega (arith, a.source.small)) in
    let item : Map base f ≡ item_at size r page = item_made size r page log base f space found a b bytes rights in
    record {
      page_is = ap (λ (k : ℕ). page + k) (one ∙ ap (λ (k : ℕ). 2 ^ k) (sym found)) ∙ ap (λ (q : ℕ). q + 2 ^ largest r q) made.page_is ∙ sym (reached_more r first n 1);
      items_are =
          (λ i. made.items_are i ++ item i ∷ []) ∙ ap (λ (q : ℕ). map (item_at size r) (starts_from r first n) ++ item_at size r q ∷ []) made.page_is
          ∙ sym (map-append (item_at size r) (starts_from r first n) (reached r first n ∷ [])) ∙ ap (map (item_at size r)) (sym (starts_more r first n 1));
    }

-- the send bases are whole
pub bases_whole : (size : PageSize) (r : Region) (pages : List ℕ) → All (λ item. base_of item % 1024 ≡ 0) (map (item_at size r) pages)
bases_whole size r pages = All-map (λ item. base_of item % 1024 ≡ 0) (item_at size r) pages (λ k d lt. whole_units size _)

-- ---- one page on

next_left : (left : ℕ) → 0 < left → suc (left - 1) ≡ left
next_left left some = omega arith

next_page : (r : Region) (page log : ℕ) → InLargestSpace r → IsLargest r page log → page + 1 * 2 ^ log % 4294967296 ≡ page + 2 ^ largest r page
next_page r page log space best =
    let one : 1 * 2 ^ log % 2 ^ 32 ≡ 2 ^ log = one_shl log 32 (omega (arith, best.allowed.source.small)) in
    ap (λ (k : ℕ). page + k) (one ∙ ap (λ (k : ℕ). 2 ^ k) (sym (largest_found r page log space best)))

pub one_on : (r : Region) (page left log : ℕ) → GoesOn r page left → 0 < left → IsLargest r page log → GoesOn r (page + 1 * 2 ^ log % 4294967296) (left - 1)
one_on r page left log goes some best =
    rw (next_page r page log goes.space best) (record {
      space = goes.space;
      from = omega (arith, goes.from);
      within = λ i lt. goes.within (suc i) (omega arith);
    })

pub yields_first : (r : Region) (page left log : ℕ) → InLargestSpace r → 0 < left → IsLargest r page log → starts_from r page left ≡ page ∷ starts_from r (page + 1 * 2 ^ log % 4294967296) (left - 1)
yields_first r page left log space some best =
    ap (λ (k : ℕ). starts_from r page k) (sym (next_left left some)) ∙ ap (λ (q : ℕ). page ∷ starts_from r q (left - 1)) (sym (next_page r page log space best))
