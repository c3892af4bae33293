-- What the items of a plan move: each an allowed block that begins at its page.
use Rattle.std.proofs.Common.{◌≡◌, ℕ, zero, suc, ◌+◌, ◌-◌, ◌*◌, ◌/◌, ◌%◌, ◌^◌, ◌<◌, ◌≤◌, inl, inr, refl, sym, ap, ◌∙◌, subst, arith, zero-add, List, [], ◌∷◌, length, get_or, Option, Some, MatchOption, ◌↔◌}
use Rattle.std.proofs.lemmas.Bool.{cases_lt}
use Rattle.std.proofs.lemmas.List.{get_or_default}
use Rattle.std.proofs.lemmas.Nat.{pow_pos, pow_below, shr_split}
use Rattle.std.proofs.Math.Nat.{mod-eq_of_lt}
use Rattle.std.specs.List.{AllPairs, AllZip}
use Rattle.l4_fpage.proofs.PageSizes.{log_low, whole, below_bytes}
use Rattle.l4_fpage.proofs.Powers.{aligned_under, aligned_up, aligned_step, aligned_down, aligned_add, pow_aligned, aligned_sub}
use Rattle.l4_fpage.specs.Fpages.{Bytes, bytes_of}
use Rattle.l4_fpage.specs.Pages.{IsBlock, InBlock, page_log, page_bytes, space_log, space_pages}
use Rattle.l4_fpage.specs.declared.fpages.Fpage.TheVariants.{Nil}
use Rattle.l4_fpage.specs.declared.sizes.PageSize.{PageSize}
use Rattle.l4_fpage.specs.declared.sizes.PageSize.TheVariants.{Kib4, Kib1}
use Rattle.l4_msg.proofs.Rivals.{IsAligned, bytes_aligned, whole_space, part_of_smaller, item_in_block}
use Rattle.l4_msg.specs.Moves.{Part, part_of, Shifts, Takes, ItemMoves, RegionMoves, base_of, fpage_of, complete, round_down}
use Rattle.l4_msg.specs.Regions.{InSpace, IsAllowed, IsPlan, ShareBlock, StartsAt, moved}
use Rattle.l4_msg.specs.declared.items.Item.{Item}
use Rattle.l4_msg.specs.declared.items.Item.TheVariants.{Map}
use Rattle.l4_msg.specs.declared.regions.Region.{Region}

-- of two blocks that hold one page, the smaller lies in the larger
pub record Nested (inner inner_log outer outer_log : ℕ) : Type 0 where
  pub from : outer ≤ inner
  pub to : inner + 2 ^ inner_log ≤ outer + 2 ^ outer_log

pub nested : (j a f k page : ℕ) → IsBlock j a → IsBlock f k → InBlock j a page → InBlock f k page → a ≤ k → Nested j a f k
nested j a f k page small large in_small in_large le =
    let down : f % 2 ^ a ≡ 0 = aligned_down a k f le large.aligned in
    let end : (f + 2 ^ k) % 2 ^ a ≡ 0 = aligned_add a f (2 ^ k) down (pow_aligned a k le) in
    record {
      from = elim (cases_lt j f) [ inl lt ↦ absurd (omega (arith, aligned_step a j f small.aligned down lt, in_small.below, in_large.from)) | inr ge ↦ ge ];
      to = aligned_step a j (f + 2 ^ k) small.aligned end (omega (arith, in_small.from, in_large.below));
    }

-- a block within an allowed one is allowed
pub allowed_within : (r : Region) (j a f k : ℕ) → IsBlock j a → IsAllowed r f k → a ≤ k → Nested j a f k → IsAllowed r j a
allowed_within r j a f k block allowed le n =
    let step : (j - f) % 2 ^ a ≡ 0 = aligned_sub a j f block.aligned (aligned_down a k f le allowed.source.aligned) in
    let there : (moved r f + (j - f)) % 2 ^ a ≡ 0 = aligned_add a (moved r f) (j - f) (aligned_down a k (moved r f) le allowed.target.aligned) step in
    let same : moved r j ≡ moved r f + (j - f) = omega (arith, allowed.from, n.from) in
    record {
      source = block;
      target = record { small = block.small; aligned = rw same there; inside = omega (arith, allowed.target.inside, n.from, n.to, allowed.from) };
      from = omega (arith, allowed.from, n.from);
      to = omega (arith, allowed.to, n.to);
    }

-- the part of an item that stands for an allowed block
abbrev IsPart : PageSize → ℕ → ℕ → ℕ → Type 0
IsPart size page m log =
    part_of (m * page_bytes size) (record { base = page * page_bytes size; log = log + page_log size }) whole_space
    ≡ record { from = page * page_bytes size; to = m * page_bytes size; log = log + page_log size }

whole_part : (size : PageSize) (page m : ℕ) → m + 2 ^ space_log size ≤ space_pages size → IsPart size page m (space_log size)
whole_part Kib4 page m h = ap (λ (x : ℕ). let p : Part = record { from = page * 4096; to = x; log = 32 } in p) (omega arith)
whole_part Kib1 page m h = ap (λ (x : ℕ). let p : Part = record { from = page * 1024; to = x; log = 32 } in p) (omega arith)

part_is : (size : PageSize) (page m log : ℕ) → log ≤ space_log size → m % 2 ^ log ≡ 0 → m + 2 ^ log ≤ space_pages size → IsPart size page m log
part_is size page m log low aligned inside =
    let b = page_bytes size in
    let p = page_log size in
    elim (cases_lt (log + p) 32) [
      | inl lt ↦
          let small : m * b % 2 ^ 32 ≡ m * b = mod-eq_of_lt (below_bytes size m (omega (arith, inside, pow_pos log))) in
          let up : m * b % 2 ^ (log + p) ≡ 0 = aligned_up p log m aligned in
          let e : round_down (0 + m * b % 2 ^ 32) (log + p) ≡ m * b = ap (λ (x : ℕ). x / 2 ^ (log + p) * 2 ^ (log + p)) (zero-add (m * b % 2 ^ 32) ∙ small) ∙ omega (arith, shr_split (m * b) (log + p), up) in
          part_of_smaller (m * b) (page * b) (log + p) lt ∙ ap (λ (x : ℕ). let q : Part = record { from = page * b; to = x; log = log + p } in q) e
      | inr ge ↦
          let e : space_log size ≡ log = omega (arith, low, ge, whole size) in
          subst (λ (k : ℕ). m + 2 ^ k ≤ space_pages size → IsPart size page m k) e (whole_part size page m) inside
    ]

-- the pages of a part that begins with a page at both ends
back : (size : PageSize) (n : ℕ) → n * page_bytes size / page_bytes size ≡ n
back Kib4 n = omega arith
back Kib1 n = omega arith

takes_is : (size : PageSize) (page m log s t : ℕ) → Takes size (record { from = page * page_bytes size; to = m * page_bytes size; log = log + page_log size }) s t ↔ Shifts page m (2 ^ log) s t
takes_is size page m log s t =
    let e : 2 ^ (log + page_log size - page_log size) ≡ 2 ^ log = ap (λ (i : ℕ). 2 ^ i) (omega arith) in (
      λ h. record { index = h.1.index; within = omega (arith, h.1.within, e); source_is = omega (arith, h.1.source_is, back size page); target_is = omega (arith, h.1.target_is, back size m) },
      λ h. (omega arith, record { index = h.index; within = omega (arith, h.within, e); source_is = omega (arith, h.source_is, back size page); target_is = omega (arith, h.target_is, back size m) }),
    )

-- it moves the block's pages to their places
pub item_moves_is : (size : PageSize) (r : Region) (page log : ℕ) (item : Item) → InSpace size r → IsAllowed r page log → base_of item ≡ moved r page * page_bytes size → bytes_of (fpage_of item) ≡ Some (record { base = page * page_bytes size; log = log + page_log size }) → (s t : ℕ) → ItemMoves size item complete s t ↔ Shifts page (moved r page) (2 ^ log) s t
item_moves_is size r page log item space a base bytes s t =
    let inside : moved r page + 2 ^ log ≤ space_pages size = omega (arith, a.to, a.from, space.target) in
    rw (bytes, base, part_is size page (moved r page) log (log_low size log (omega (arith, inside))) a.target.aligned inside) (takes_is size page (moved r page) log s t)

-- ---- what an item moves that begins at a page

abbrev pub bytes_at : PageSize → ℕ → ℕ → Bytes
bytes_at size page log = record { base = page * page_bytes size; log = log }

record Begins (size : PageSize) (p : Part) (page log : ℕ) : Type 0 where
  from : p.from ≡ page * page_bytes size
  log_is : p.log ≡ log

part_begins : (size : PageSize) → (a page log : ℕ) → log ≤ 32 → Begins size (part_of a (bytes_at size page log) whole_space) page log
part_begins size a page log le =
    elim (cases_lt log 32) [
      | inl lt ↦ rw (part_of_smaller a (page * page_bytes size) log lt) (record { from = refl; log_is = refl })
      | inr ge ↦
          let e : 32 ≡ log = omega arith in
          subst (λ (k : ℕ). Begins size (part_of a (bytes_at size page k) whole_space) page k) e (record { from = refl; log_is = refl })
    ]

first_is : (size : PageSize) (p : Part) (page log : ℕ) → Begins size p page log → p.from / page_bytes size ≡ page
first_is size p page log b = ap (λ (n : ℕ). n / page_bytes size) b.from ∙ back size page

takes_in : (size : PageSize) → (p : Part) (page log s t : ℕ) → Begins size p page log → Takes size p s t → (page_log size ≤ log) × InBlock page (log - page_log size) s
takes_in size p page log s t b h =
    let e : 2 ^ (p.log - page_log size) ≡ 2 ^ (log - page_log size) = ap (λ (n : ℕ). 2 ^ (n - page_log size)) b.log_is in
    (omega (arith, h.0, b.log_is), record { from = omega (arith, h.1.source_is, first_is size p page log b); below = omega (arith, h.1.source_is, h.1.within, first_is size p page log b, e) })

takes_all : (size : PageSize) → (p : Part) (page log s : ℕ) → Begins size p page log → page_log size ≤ log → InBlock page (log - page_log size) s → Takes size p s (p.to / page_bytes size + (s - page))
takes_all size p page log s b le h =
    let e : 2 ^ (p.log - page_log size) ≡ 2 ^ (log - page_log size) = ap (λ (n : ℕ). 2 ^ (n - page_log size)) b.log_is in
    (omega (arith, b.log_is), record { index = s - page; within = omega (arith, e, h.below, h.from, pow_pos (log - page_log size)); source_is = omega (arith, first_is size p page log b, h.from); target_is = refl })

abbrev MovesBy : PageSize → ℕ → Option Bytes → ℕ → ℕ → Type 0
MovesBy size a o s t = MatchOption o ⊥ (λ f. Takes size (part_of a f whole_space) s t)

-- the item moves the pages of this allowed block, the page among them
record Moving (size : PageSize) (r : Region) (page width e : ℕ) : Type 0 where
  log : ℕ
  is : width ≡ log + page_log size
  allowed : IsAllowed r page log
  holds : InBlock page log e

power_le : (j k : ℕ) → 2 ^ j ≤ 2 ^ k → j ≤ k
power_le j k h = elim (cases_lt k j) [ inl lt ↦ absurd (omega (arith, pow_below k j lt)) | inr ge ↦ ge ]

in_allowed : (size : PageSize) → (r : Region) (page log first outer : ℕ) → page * page_bytes size % 2 ^ (log + page_log size) ≡ 0 → IsAllowed r first outer → InBlock first outer page → InBlock first outer (page + (2 ^ log - 1)) → IsAllowed r page log
in_allowed size r page log first outer aligned a start end =
    let pos : 0 < 2 ^ log = pow_pos log in
    let le : log ≤ outer = power_le log outer (omega (arith, start.from, end.below)) in
    let under : page * page_bytes size / page_bytes size % 2 ^ log ≡ 0 = aligned_under (page_log size) log (page * page_bytes size) aligned in
    let same : page * page_bytes size / page_bytes size ≡ page = back size page in
    let block : IsBlock page log = record {
      small = omega (arith, a.source.small);
      aligned = subst (λ (n : ℕ). n % 2 ^ log ≡ 0) same under;
      inside = omega (arith, end.below, a.source.inside);
    } in
    allowed_within r page log first outer block a le (record { from = start.from; to = omega (arith, end.below) })

moving : (size : PageSize) → (r : Region) (page width : ℕ) (item : Item) → InSpace size r → bytes_of (fpage_of item) ≡ Some (bytes_at size page width) → ((s t : ℕ) → ItemMoves size item complete s t → RegionMoves r s t) → (s t : ℕ) → ItemMoves size item complete s t → Moving size r page width s
moving size r page width item space bytes all s t m =
    let aligned : IsAligned (bytes_at size page width) = subst (λ (o : Option Bytes). MatchOption o (Unit {0}) IsAligned) bytes (bytes_aligned (fpage_of item)) in
    let p : Part = part_of (base_of item) (bytes_at size page width) whole_space in
    let b : Begins size p page width = part_begins size (base_of item) page width aligned.low in
    let takes : Takes size p s t = subst (λ (o : Option Bytes). MovesBy size (base_of item) o s t) bytes m in
    let i = takes_in size p page width s t b takes in
    let pos : 0 < 2 ^ (width - page_log size) = pow_pos (width - page_log size) in
    let within = item_in_block size r item space all s t m in
    let reach = λ (x : ℕ) (h : InBlock page (width - page_log size) x). within.3 x (p.to / page_bytes size + (x - page)) (subst (λ (o : Option Bytes). MovesBy size (base_of item) o x (p.to / page_bytes size + (x - page))) (sym bytes) (takes_all size p page width x b i.0 h)) in
    let start = reach page (record { from = omega arith; below = omega arith }) in
    let end = reach (page + (2 ^ (width - page_log size) - 1)) (record { from = omega arith; below = omega arith }) in
    let e : width ≡ width - page_log size + page_log size = omega (arith, i.0) in
    record {
      log = width - page_log size;
      is = e;
      allowed = in_allowed size r page (width - page_log size) within.0 within.1 (subst (λ (n : ℕ). page * page_bytes size % 2 ^ n ≡ 0) e aligned.aligned) within.2 start end;
      holds = i.1;
    }

-- ---- the items of a plan

pub no_item : Item
no_item = Map 0 Nil

pub zip_at : {A B : Type 0} (R : A → B → Type 0) (xs : List A) (ys : List B) (k : ℕ) (d : A) (e : B) → AllZip R xs ys → k < length ys → R (get_or xs k d) (get_or ys k e)
zip_at R [] [] k d e h lt = absurd (omega (arith, lt))
zip_at R [] (y ∷ ys) k d e h lt = absurd h
zip_at R (x ∷ xs) [] k d e h lt = absurd h
zip_at R (x ∷ xs) (y ∷ ys) zero d e h lt = h.0
zip_at R (x ∷ xs) (y ∷ ys) (suc k) d e h lt = zip_at R xs ys k d e h.1 (omega arith)

pub zip_length : {A B : Type 0} (R : A → B → Type 0) (xs : List A) (ys : List B) → AllZip R xs ys → length xs ≡ length ys
zip_length R [] [] h = refl
zip_length R [] (y ∷ ys) h = absurd h
zip_length R (x ∷ xs) [] h = absurd h
zip_length R (x ∷ xs) (y ∷ ys) h = omega (arith, zip_length R xs ys h.1)

-- the item at this place moves the page
pub record CoveredBy (size : PageSize) (r : Region) (items : List Item) (pages : List ℕ) (e : ℕ) : Type 0 where
  pub place : ℕ
  pub below : place < length items
  pub log : ℕ
  pub allowed : IsAllowed r (get_or pages place 0) log
  pub holds : InBlock (get_or pages place 0) log e
  pub bytes : bytes_of (fpage_of (get_or items place no_item)) ≡ Some (bytes_at size (get_or pages place 0) (log + page_log size))

item_bytes : (size : PageSize) → (items : List Item) (k : ℕ) (x : Item) (page width log : ℕ) → get_or items k x ≡ x → k < length items → width ≡ log + page_log size → bytes_of (fpage_of x) ≡ Some (bytes_at size page width) → bytes_of (fpage_of (get_or items k no_item)) ≡ Some (bytes_at size page (log + page_log size))
item_bytes size items k x page width log is lt e h =
    let same : x ≡ get_or items k no_item = sym is ∙ get_or_default items k x no_item lt in
    subst (λ (y : Item). bytes_of (fpage_of y) ≡ Some (bytes_at size page (log + page_log size))) same
    (subst (λ (n : ℕ). bytes_of (fpage_of x) ≡ Some (bytes_at size page n)) e h)

pub covered : (size : PageSize) → (r : Region) (items : List Item) (pages : List ℕ) → InSpace size r → IsPlan size r items pages → (e : ℕ) → r.source ≤ e → e < r.source + r.count → CoveredBy size r items pages e
covered size r items pages space plan e from below =
    let pair : RegionMoves r e (moved r e) = record { index = e - r.source; within = omega arith; source_is = omega arith; target_is = refl } in
    let w = (plan.rival.moves e (moved r e)).1 pair in
    let page = get_or pages w.0 0 in
    let starts : StartsAt size r page w.1 = subst (StartsAt size r page) w.3 (zip_at (StartsAt size r) pages items w.0 0 w.1 plan.starts w.2) in
    let m = moving size r page starts.log w.1 space starts.bytes (λ s t m. (plan.rival.moves s t).0 (w.0, w.1, w.2, w.3, m)) e (moved r e) w.4 in
    record {
      place = w.0;
      below = w.2;
      log = m.log;
      allowed = m.allowed;
      holds = m.holds;
      bytes = item_bytes size items w.0 w.1 page starts.log m.log w.3 w.2 m.is starts.bytes;
    }

pub one_place : (r : Region) (pages : List ℕ) → AllPairs (λ p q. ShareBlock r p q → ⊥) pages → (j k : ℕ) → j < length pages → k < length pages → ShareBlock r (get_or pages j 0) (get_or pages k 0) → j ≡ k
one_place r pages apart j k in_j in_k share =
    elim (cases_lt j k) [
      | inl lt ↦ absurd (apart j k 0 lt in_k share)
      | inr ge ↦ elim (cases_lt k j) [
        | inl gt ↦ absurd (apart k j 0 gt in_j (share.0, share.1, share.2, share.4, share.3))
        | inr le ↦ omega arith
      ]
    ]

pub first_of_block : (page log : ℕ) → InBlock page log page
first_of_block page log = record { from = omega arith; below = omega (arith, pow_pos log) }

-- of two allowed blocks that hold one page, one holds the first pages of both
pub share_first : (r : Region) (p j q k e : ℕ) → IsAllowed r p j → IsAllowed r q k → InBlock p j e → InBlock q k e → ShareBlock r p q
share_first r p j q k e a b in_p in_q =
    elim (cases_lt j k) [
      | inl lt ↦
          let n = nested p j q k e a.source b.source in_p in_q (omega arith) in
          (q, k, b, record { from = n.from; below = omega (arith, n.to, pow_pos j) }, first_of_block q k)
      | inr ge ↦
          let n = nested q k p j e b.source a.source in_q in_p ge in
          (p, j, a, first_of_block p j, record { from = n.from; below = omega (arith, n.to, pow_pos k) })
    ]
