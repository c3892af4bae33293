use Rattle.std.proofs.Common.{◌≡◌, ℕ, ◌+◌, ◌-◌, ◌*◌, ◌/◌, ◌%◌, ◌^◌, ◌<◌, ◌≤◌, ap, ◌∙◌, subst, arith, rules}
use Rattle.std.proofs.lemmas.Nat.{pow-add, pow_below}
use Rattle.l4_fpage.specs.declared.sizes.PageSize.{PageSize}
use Rattle.l4_fpage.specs.declared.sizes.PageSize.TheVariants.{Kib4, Kib1}
use Rattle.l4_fpage.specs.Pages.{InBlock, IsBlock, LiesIn, page_log, page_bytes, space_log, space_pages}
use Rattle.l4_fpage.specs.Fpages.{HasPage}
use Rattle.l4_fpage.proofs.Powers.{aligned_under, whole_down, aligned_step, pow_aligned}
use Rattle.l4_fpage.proofs.PageSizes.{space_log_small, whole, below_pages, pages_most}
use Rattle.l4_fpage.proofs.fpages.Fpage.pages.Goals as goal

-- the block of an extent's pages
record IsCut (size : PageSize) (first log : ℕ) : Type 0 where
  block : IsBlock first log
  inside : LiesIn size first log

cut : (size : PageSize) (base log : ℕ) → base < 2 ^ 32 → page_log size ≤ log → log ≤ 31 → base % 2 ^ log ≡ 0 → IsCut size (base / page_bytes size) (log - page_log size)
cut size base log lt le small h =
    let p = page_log size in
    let k = log - p in
    let l : log ≡ k + p = omega (arith, le) in
    let a : base / 2 ^ p % 2 ^ k ≡ 0 = aligned_under p k base (subst (λ (i : ℕ). base % 2 ^ i ≡ 0) l h) in
    let few : k ≤ space_log size = omega (arith, whole size, small) in
    let inside : base / 2 ^ p + 2 ^ k ≤ space_pages size = aligned_step k (base / 2 ^ p) (2 ^ space_log size) a (pow_aligned k (space_log size) few) (below_pages size base lt) in
    record { block = record { small = omega (arith, few, space_log_small size); aligned = a; inside = omega (arith, inside, pages_most size) }; inside = inside }

-- the block of an extent in bytes, where these are pages of 2 ^ p bytes
abbrev Cuts : ℕ → ℕ → ℕ → Type 0
Cuts p base log = (base / 2 ^ p * 2 ^ p ≡ base) × (2 ^ log ≡ 2 ^ (log - p) * 2 ^ p)

cuts : (p base log : ℕ) → p ≤ log → base % 2 ^ log ≡ 0 → Cuts p base log
cuts p base log le h =
    let l : log ≡ (log - p) + p = omega (arith, le) in
    (whole_down p (log - p) base (subst (λ (i : ℕ). base % 2 ^ i ≡ 0) l h), ap (λ (i : ℕ). 2 ^ i) l ∙ pow-add 2 (log - p) p)

abbrev PageByPage : PageSize → ℕ → ℕ → ℕ → Type 0
PageByPage size base log page =
    (InBlock (base / page_bytes size) (log - page_log size) page → HasPage size (record { base = base; log = log }) page)
    × (HasPage size (record { base = base; log = log }) page → InBlock (base / page_bytes size) (log - page_log size) page)

page_by_page : (size : PageSize) (base log page : ℕ) → Cuts (page_log size) base log → PageByPage size base log page
page_by_page Kib4 base log page c = (
  λ i. record { from = omega (arith, i.from, c.0); below = omega (arith, i.below, c.0, c.1) },
  λ i. record { from = omega (arith, i.from, c.0); below = omega (arith, i.below, c.0, c.1) },
)
page_by_page Kib1 base log page c = (
  λ i. record { from = omega (arith, i.from, c.0); below = omega (arith, i.below, c.0, c.1) },
  λ i. record { from = omega (arith, i.from, c.0); below = omega (arith, i.below, c.0, c.1) },
)

no_page : (size : PageSize) (base log page : ℕ) → log < page_log size → ¬ HasPage size (record { base = base; log = log }) page
no_page size base log page lt h = omega (arith, pow_below log (page_log size) lt, h.from, h.below)

pub invariant_of-result-in-Sized : goal.invariant_of-result-in-Sized
invariant_of-result-in-Sized c =
    let e = c.in-Sized.extent in
    let low : page_log c.args.size ≤ e.log = omega (arith, c.if-extent-page_log.false, c.log-page_log.ensures.value) in
    rw c.log-page_log.ensures.value (record { block = (cut c.args.size e.base e.log (search rules) low e.small e.aligned).block })

pub returns-then-extent-page_log-clause-pages : goal.returns-then-extent-page_log-clause-pages
returns-then-extent-page_log-clause-pages c page =
    let e = c.in-Sized.extent in
    rw c.in-Sized.is (λ h. absurd h, λ h. no_page c.args.size e.base e.log page (omega (arith, c.if-extent-page_log.true, c.log-page_log.ensures.value)) h)

pub returns-else-extent-page_log-clause-pages : goal.returns-else-extent-page_log-clause-pages
returns-else-extent-page_log-clause-pages c page =
    let e = c.in-Sized.extent in
    let low : page_log c.args.size ≤ e.log = omega (arith, c.if-extent-page_log.false, c.log-page_log.ensures.value) in
    rw (c.in-Sized.is, c.log-page_log.ensures.value) (page_by_page c.args.size e.base e.log page (cuts (page_log c.args.size) e.base e.log low e.aligned))

pub returns-else-extent-page_log-clause-inside : goal.returns-else-extent-page_log-clause-inside
returns-else-extent-page_log-clause-inside c =
    let e = c.in-Sized.extent in
    let low : page_log c.args.size ≤ e.log = omega (arith, c.if-extent-page_log.false, c.log-page_log.ensures.value) in
    rw c.log-page_log.ensures.value (cut c.args.size e.base e.log (search rules) low e.small e.aligned).inside
