-- Two plans with the same first pages have the same items.
use Rattle.std.proofs.Common.{◌≡◌, ℕ, ◌+◌, ◌^◌, ◌<◌, inl, inr, sym, ap, ◌∙◌, subst, arith, List, length, get_or, Option, Some, None}
use Rattle.std.proofs.lemmas.Bool.{cases_lt}
use Rattle.std.proofs.lemmas.List.{ext_get_or}
use Rattle.std.proofs.lemmas.Nat.{pow_below}
use Rattle.l4_fpage.proofs.Known.{same_fpage}
use Rattle.l4_fpage.specs.Fpages.{Bytes, bytes_of}
use Rattle.l4_fpage.specs.Pages.{InBlock, page_log}
use Rattle.l4_msg.specs.Moves.{IsMap, base_of, fpage_of}
use Rattle.l4_msg.specs.Regions.{InSpace, IsAllowed, IsPlan, StartsAt}
use Rattle.l4_msg.specs.declared.items.Item.{Item}
use Rattle.l4_msg.specs.declared.items.Item.TheVariants.{Map, Grant}
use Rattle.l4_msg.specs.declared.regions.Region.{Region}
use Rattle.l4_plan.specs.Largest.{IsLargest}
use Rattle.l4_msg.proofs.Covered.{bytes_at, no_item, zip_at, zip_length, covered, one_place, first_of_block, share_first}
use Rattle.l4_plan_lines.proofs.LargestBlocks.{one_largest}
use Rattle.l4_fpage.specs.declared.sizes.PageSize.{PageSize}

-- ---- the items of a plan

log_of : Option Bytes → ℕ
log_of None = 0
log_of (Some b) = b.log

same_log : (size : PageSize) → (o : Option Bytes) (p q j k : ℕ) → o ≡ Some (bytes_at size p j) → o ≡ Some (bytes_at size q k) → j ≡ k
unfolding log_of
same_log size o p q j k a b = ap log_of (sym a ∙ b)

-- each item moves the largest allowed block at its page
record MovesLargest (size : PageSize) (r : Region) (items : List Item) (pages : List ℕ) (k : ℕ) : Type 0 where
  log : ℕ
  largest : IsLargest r (get_or pages k 0) log
  bytes : bytes_of (fpage_of (get_or items k no_item)) ≡ Some (bytes_at size (get_or pages k 0) (log + page_log size))

none_larger : (size : PageSize) → (r : Region) (items : List Item) (pages : List ℕ) → InSpace size r → IsPlan size r items pages → (k log : ℕ) → k < length pages → bytes_of (fpage_of (get_or items k no_item)) ≡ Some (bytes_at size (get_or pages k 0) (log + page_log size)) → (j : ℕ) → IsAllowed r (get_or pages k 0) j → log < j → ⊥
none_larger size r items pages space plan k log in_k bytes j a lt =
    let p = get_or pages k 0 in
    let more : 2 ^ log < 2 ^ j = pow_below log j lt in
    let c = covered size r items pages space plan (p + 2 ^ log) (omega (arith, a.from)) (omega (arith, a.to)) in
    let place : c.place < length pages = omega (arith, c.below, zip_length (StartsAt size r) pages items plan.starts) in
    let share = share_first r (get_or pages c.place 0) c.log p j (p + 2 ^ log) c.allowed a c.holds (record { from = omega arith; below = omega arith }) in
    let same : c.place ≡ k = one_place r pages plan.certificate.apart c.place k place in_k share in
    let its : bytes_of (fpage_of (get_or items k no_item)) ≡ Some (bytes_at size (get_or pages k 0) (c.log + page_log size)) = subst (λ (n : ℕ). bytes_of (fpage_of (get_or items n no_item)) ≡ Some (bytes_at size (get_or pages n 0) (c.log + page_log size))) same c.bytes in
    let logs : c.log + page_log size ≡ log + page_log size = same_log size _ _ _ _ _ its bytes in
    let one : c.log ≡ log = omega (arith, logs) in
    let held : InBlock p log (p + 2 ^ log) = subst (λ (n : ℕ). InBlock p n (p + 2 ^ log)) one (subst (λ (n : ℕ). InBlock (get_or pages n 0) c.log (p + 2 ^ log)) same c.holds) in
    omega (arith, held.below)

moves_largest : (size : PageSize) → (r : Region) (items : List Item) (pages : List ℕ) → InSpace size r → IsPlan size r items pages → (k : ℕ) → k < length pages → MovesLargest size r items pages k
moves_largest size r items pages space plan k in_k =
    let p = get_or pages k 0 in
    let i = plan.certificate.inside k 0 in_k in
    let c = covered size r items pages space plan p i.0 i.1 in
    let place : c.place < length pages = omega (arith, c.below, zip_length (StartsAt size r) pages items plan.starts) in
    let same : c.place ≡ k = one_place r pages plan.certificate.apart c.place k place in_k (get_or pages c.place 0, c.log, c.allowed, first_of_block (get_or pages c.place 0) c.log, c.holds) in
    let bytes : bytes_of (fpage_of (get_or items k no_item)) ≡ Some (bytes_at size (get_or pages k 0) (c.log + page_log size)) = subst (λ (n : ℕ). bytes_of (fpage_of (get_or items n no_item)) ≡ Some (bytes_at size (get_or pages n 0) (c.log + page_log size))) same c.bytes in
    record {
      log = c.log;
      largest = record {
        allowed = subst (λ (n : ℕ). IsAllowed r (get_or pages n 0) c.log) same c.allowed;
        greatest = λ j a. elim (cases_lt c.log j) [ inl lt ↦ absurd (none_larger size r items pages space plan k c.log in_k bytes j a lt) | inr ge ↦ ge ];
      };
      bytes = bytes;
    }

-- ---- items with the same fields

same_map : (x y : Item) → IsMap x → IsMap y → base_of x ≡ base_of y → fpage_of x ≡ fpage_of y → x ≡ y
same_map (Map a f) (Map b g) m n e h = λ i. Map (e i) (h i)
same_map (Map a f) (Grant b g) m n e h = absurd n
same_map (Grant a f) y m n e h = absurd m

same_item : (size : PageSize) → (r : Region) (p : ℕ) (x y : Item) (b : Bytes) → StartsAt size r p x → StartsAt size r p y → bytes_of (fpage_of x) ≡ Some b → bytes_of (fpage_of y) ≡ Some b → x ≡ y
same_item size r p x y b s t e f = same_map x y s.map t.map (s.base ∙ sym t.base) (same_fpage (fpage_of x) (fpage_of y) b e f (s.rights ∙ sym t.rights))

pub same_items : (size : PageSize) → (r : Region) (xs ys : List Item) (pages : List ℕ) → InSpace size r → IsPlan size r xs pages → IsPlan size r ys pages → xs ≡ ys
same_items size r xs ys pages space a b =
    let m = zip_length (StartsAt size r) pages xs a.starts in
    let n = zip_length (StartsAt size r) pages ys b.starts in
    ext_get_or no_item xs ys (sym m ∙ n) (λ k lt.
    let in_k : k < length pages = omega (arith, m) in
    let in_y : k < length ys = omega (arith, m, n) in
    let p = moves_largest size r xs pages space a k in_k in
    let q = moves_largest size r ys pages space b k in_k in
    let e : q.log ≡ p.log = one_largest r (get_or pages k 0) q.log p.log q.largest p.largest in
    let bytes : bytes_of (fpage_of (get_or ys k no_item)) ≡ Some (bytes_at size (get_or pages k 0) (p.log + page_log size)) = subst (λ (l : ℕ). bytes_of (fpage_of (get_or ys k no_item)) ≡ Some (bytes_at size (get_or pages k 0) (l + page_log size))) e q.bytes in
    same_item size r (get_or pages k 0) (get_or xs k no_item) (get_or ys k no_item) (bytes_at size (get_or pages k 0) (p.log + page_log size)) (zip_at (StartsAt size r) pages xs k 0 no_item a.starts lt) (zip_at (StartsAt size r) pages ys k 0 no_item b.starts in_y) p.bytes bytes)
