-- Largest allowed blocks of one size that follow each other.
use Rattle.std.proofs.Common.{◌≡◌, ℕ, zero, suc, ◌+◌, ◌-◌, ◌*◌, ◌/◌, ◌%◌, ◌^◌, ◌<◌, ◌≤◌, ◌⊎◌, inl, inr, refl, sym, ap, ◌∙◌, subst, arith}
use Rattle.std.proofs.Math.Nat.{mul_assoc, mul_comm, suc-mul, mul-mod_left, mod-eq_of_lt, zero-mul, one-mul, add-mul}
use Rattle.std.proofs.lemmas.Bool.{cases_lt}
use Rattle.std.proofs.lemmas.Nat.{pow_pos, pow-add}
use Rattle.l4_fpage.proofs.Powers.{aligned_add, aligned_sub, aligned_down}
use Rattle.l4_msg.specs.Regions.{moved}
use Rattle.l4_msg.specs.declared.regions.Region.{Region}
use Rattle.l4_plan.specs.Inside.Listings.{InLargestSpace}
use Rattle.l4_plan.specs.Largest.{IsLargest}
use Rattle.l4_plan.specs.Inside.Split.{largest, reached}
use Rattle.l4_plan.proofs.Split.{largest_found, reached_more}

-- i steps of 2 ^ log, by twos
by_twos : (i log : ℕ) → i * 2 ^ log ≡ i / 2 * 2 ^ (log + 1) + i % 2 * 2 ^ log
by_twos i log =
    let e : i ≡ i / 2 * 2 + i % 2 = omega arith in
    ap (λ (n : ℕ). n * 2 ^ log) e ∙ add-mul (i / 2 * 2) (i % 2) (2 ^ log)
    ∙ ap (λ (n : ℕ). n + i % 2 * 2 ^ log) (mul_assoc (i / 2) 2 (2 ^ log) ∙ ap (λ (n : ℕ). i / 2 * n) (mul_comm 2 (2 ^ log) ∙ sym (pow-add 2 log 1)))

twice : (log : ℕ) → 2 ^ (log + 1) ≡ 2 ^ log + 2 ^ log
twice log = omega (arith, pow-add 2 log 1)

half_not : (log : ℕ) → 2 ^ log % 2 ^ (log + 1) ≡ 0 → ⊥
half_not log h =
    let pos : 0 < 2 ^ log = pow_pos log in
    let e : 2 ^ log % 2 ^ (log + 1) ≡ 2 ^ log = mod-eq_of_lt (omega (arith, twice log)) in
    omega arith

-- where x is no multiple of the next power, and y is one, no step of 2 ^ log makes both multiples of it
never_both : (x y i log : ℕ) → (x % 2 ^ (log + 1) ≡ 0 → y % 2 ^ (log + 1) ≡ 0 → ⊥) → (x % 2 ^ (log + 1) ≡ 0) ⊎ (y % 2 ^ (log + 1) ≡ 0) → (x + i * 2 ^ log) % 2 ^ (log + 1) ≡ 0 → (y + i * 2 ^ log) % 2 ^ (log + 1) ≡ 0 → ⊥
never_both x y i log not_both one hx hy =
    let k = log + 1 in
    let whole : i / 2 * 2 ^ k % 2 ^ k ≡ 0 = mul-mod_left (i / 2) (2 ^ k) in
    let e = by_twos i log in
    elim (cases_lt 0 (i % 2)) [
      | inr even ↦
          let none : i % 2 ≡ 0 = omega arith in
          let z : i % 2 * 2 ^ log ≡ 0 = ap (λ (n : ℕ). n * 2 ^ log) none ∙ zero-mul (2 ^ log) in
          let down = λ (n : ℕ) (h : (n + i * 2 ^ log) % 2 ^ k ≡ 0). let s : n + i * 2 ^ log - i / 2 * 2 ^ k ≡ n = omega arith in subst (λ (v : ℕ). v % 2 ^ k ≡ 0) s (aligned_sub k (n + i * 2 ^ log) (i / 2 * 2 ^ k) h whole) in
          not_both (down x hx) (down y hy)
      | inl odd ↦
          let single : i % 2 ≡ 1 = omega arith in
          let z : i % 2 * 2 ^ log ≡ 2 ^ log = ap (λ (n : ℕ). n * 2 ^ log) single ∙ one-mul (2 ^ log) in
          let up = λ (n : ℕ) (h : (n + i * 2 ^ log) % 2 ^ k ≡ 0). let s : n + i * 2 ^ log - i / 2 * 2 ^ k ≡ n + 2 ^ log = omega arith in subst (λ (v : ℕ). v % 2 ^ k ≡ 0) s (aligned_sub k (n + i * 2 ^ log) (i / 2 * 2 ^ k) h whole) in
          let half = λ (n : ℕ) (h : (n + i * 2 ^ log) % 2 ^ k ≡ 0) (m : n % 2 ^ k ≡ 0). let s : n + 2 ^ log - n ≡ 2 ^ log = omega arith in subst (λ (v : ℕ). v % 2 ^ k ≡ 0) s (aligned_sub k (n + 2 ^ log) n (up n h) m) in
          elim one [ inl m ↦ half_not log (half x hx m) | inr m ↦ half_not log (half y hy m) ]
    ]

-- where source and target are never aligned further together, the next blocks are of the same size
pub run_same : (r : Region) (page log i : ℕ) → InLargestSpace r → IsLargest r page log → (page % 2 ^ (log + 1) ≡ 0 → moved r page % 2 ^ (log + 1) ≡ 0 → ⊥) → (page % 2 ^ (log + 1) ≡ 0) ⊎ (moved r page % 2 ^ (log + 1) ≡ 0)
    → page + i * 2 ^ log + 2 ^ log ≤ r.source + r.count → IsLargest r (page + i * 2 ^ log) log
run_same r page log i space best not_both one inside =
    let step : i * 2 ^ log % 2 ^ log ≡ 0 = mul-mod_left i (2 ^ log) in
    let there : moved r (page + i * 2 ^ log) ≡ moved r page + i * 2 ^ log = omega (arith, best.allowed.from) in
    record {
      allowed = record {
        source = record { small = best.allowed.source.small; aligned = aligned_add log page (i * 2 ^ log) best.allowed.source.aligned step; inside = omega (arith, space.source) };
        target = record { small = best.allowed.source.small; aligned = subst (λ (n : ℕ). n % 2 ^ log ≡ 0) (sym there) (aligned_add log (moved r page) (i * 2 ^ log) best.allowed.target.aligned step); inside = omega (arith, space.target, best.allowed.from) };
        from = omega (arith, best.allowed.from);
        to = inside;
      };
      greatest = λ k a. elim (cases_lt log k) [
        | inr le ↦ le
        | inl lt ↦ absurd (never_both page (moved r page) i log not_both one (aligned_down (log + 1) k _ (omega arith) a.source.aligned)
            (subst (λ (n : ℕ). n % 2 ^ (log + 1) ≡ 0) there (aligned_down (log + 1) k _ (omega arith) a.target.aligned)))
      ];
    }

-- ---- what is passed over

pub run_reached : (r : Region) (page log run : ℕ) → InLargestSpace r → ((i : ℕ) → i < run → IsLargest r (page + i * 2 ^ log) log) → reached r page run ≡ page + run * 2 ^ log
run_reached r page log zero space same = omega (arith, zero-mul (2 ^ log))
run_reached r page log (suc n) space same =
    let here : IsLargest r page log = subst (λ (p : ℕ). IsLargest r p log) (omega (arith, zero-mul (2 ^ log))) (same 0 (omega arith)) in
    let e : largest r page ≡ log = largest_found r page log space here in
    let next = λ (i : ℕ) (lt : i < n). let s : page + suc i * 2 ^ log ≡ page + 2 ^ log + i * 2 ^ log = omega (arith, suc-mul i (2 ^ log)) in subst (λ (p : ℕ). IsLargest r p log) s (same (suc i) (omega arith)) in
    ap (λ (k : ℕ). reached r (page + 2 ^ k) n) e ∙ run_reached r (page + 2 ^ log) log n space next ∙ omega (arith, suc-mul n (2 ^ log))

pub record Passes (r : Region) (page blocks : ℕ) : Type 0 where
  pub page_is : page ≡ reached r r.source blocks
  pub from : r.source ≤ page
  pub to : page ≤ r.source + r.count
  pub within : (i : ℕ) → i < blocks → reached r r.source i < r.source + r.count

pub pass_none : (r : Region) → Passes r r.source 0
pass_none r = record { page_is = refl; from = omega arith; to = omega arith; within = λ i lt. absurd (omega arith) }

pub pass_step : (r : Region) (page blocks log run : ℕ) → InLargestSpace r → 0 < run → ((i : ℕ) → i < run → IsLargest r (page + i * 2 ^ log) log) → Passes r page blocks → Passes r (page + run * 2 ^ log % 2 ^ 32) (blocks + run)
pass_step r page blocks log run space some same p =
    let last = same (run - 1) (omega arith) in
    let s : suc (run - 1) * 2 ^ log ≡ (run - 1) * 2 ^ log + 2 ^ log = suc-mul (run - 1) (2 ^ log) in
    let one : suc (run - 1) ≡ run = omega arith in
    let t : suc (run - 1) * 2 ^ log ≡ run * 2 ^ log = ap (λ (n : ℕ). n * 2 ^ log) one in
    let to : page + run * 2 ^ log ≤ r.source + r.count = omega (arith, last.allowed.to) in
    let e : run * 2 ^ log % 2 ^ 32 ≡ run * 2 ^ log = mod-eq_of_lt (omega (arith, space.source)) in
    rw e (record {
      page_is = sym (run_reached r page log run space same) ∙ ap (λ (q : ℕ). reached r q run) p.page_is ∙ sym (reached_more r r.source blocks run);
      from = omega (arith, p.from);
      to = to;
      within = λ i lt. elim (cases_lt i blocks) [
        | inl before ↦ p.within i before
        | inr from ↦
            let j : i - blocks < run = omega arith in
            let here = same (i - blocks) j in
            let back : i ≡ blocks + (i - blocks) = omega arith in
            let u : reached r r.source i ≡ page + (i - blocks) * 2 ^ log =
            ap (λ (n : ℕ). reached r r.source n) back ∙ reached_more r r.source blocks (i - blocks) ∙ ap (λ (q : ℕ). reached r q (i - blocks)) (sym p.page_is)
            ∙ run_reached r page log (i - blocks) space (λ k lt. same k (omega arith)) in
            omega (arith, here.allowed.to, pow_pos log)
      ];
    })
