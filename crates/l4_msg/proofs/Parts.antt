-- The parts of a plan: how many messages a list of items needs, and that each message of a plan is a plan of its part of the region.
use Rattle.std.proofs.Common.{◌≡◌, ℕ, zero, suc, ◌+◌, ◌-◌, ◌*◌, ◌^◌, ◌<◌, ◌≤◌, nat_lt, cond, inl, inr, refl, sym, ap, ◌∙◌, subst, arith, min, List, [], ◌∷◌, length, get_or, take, drop, length-append, length-drop, Option, Some, None, ◌↔◌}
use Rattle.std.specs.List.{All, AllPairs, AllZip, Any, flat_map}
use Rattle.std.proofs.lemmas.Bool.{cases_lt}
use Rattle.std.proofs.lemmas.Bool.Decides.{nat_tests}
use Rattle.std.proofs.lemmas.List.{get_or_default, get_or-take, get_or-drop, length-take}
use Rattle.std.proofs.lemmas.List.Elements.{All-take, All-drop}
use Rattle.std.proofs.lemmas.Nat.{pow_pos}
use Rattle.l4_fpage.specs.Pages.{InBlock, IsBlock, page_log, page_bytes}
use Rattle.l4_fpage.specs.declared.sizes.PageSize.{PageSize}
use Rattle.l4_fpage.specs.Fpages.{Bytes, bytes_of}
use Rattle.l4_msg.specs.Moves.{Shifts, ItemMoves, RegionMoves, IsMap, fpage_of, complete}
use Rattle.l4_msg.specs.declared.items.Item.{Item}
use Rattle.l4_msg.specs.declared.regions.Region.{Region}
use Rattle.l4_msg.specs.Regions.{InSpace, IsAllowed, IsPlan, ShareBlock, StartsAt, moved, NeedsAtLeast, NeedsMessages, messages_of, part_of_list, part_of_region, AreWholeInParts}
use Rattle.l4_msg.proofs.Covered.{bytes_at, no_item, zip_at, zip_length, covered, one_place, first_of_block, item_moves_is}

-- messages of at most 31 items hold at most 31 times as many items as they are
few_in_all : (messages : List (List Item)) → All (λ items. length items ≤ 31) messages → length (flat_map (λ items. items) messages) ≤ 31 * length messages
few_in_all [] few = omega arith
few_in_all (m ∷ ms) few =
    let here : length m ≤ 31 = few 0 [] (omega arith) in
    let rest : length (flat_map (λ items. items) ms) ≤ 31 * length ms = few_in_all ms (λ k d lt. few (suc k) d (omega arith)) in
    omega (arith, length-append m (flat_map (λ items. items) ms))

-- where a region needs so many items, it needs the messages that these fill
pub messages_bound : (size : PageSize) (r : Region) (n : ℕ) → NeedsAtLeast size r n → NeedsMessages size r (messages_of n)
messages_bound size r n least messages rival =
    let all : length (flat_map (λ items. items) messages) ≤ 31 * length messages = few_in_all messages rival.few in
    omega (arith, least (flat_map (λ items. items) messages) rival.rival)

-- ---- lists by parts

zip_drop : {A B : Type 0} (R : A → B → Type 0) (n : ℕ) (xs : List A) (ys : List B) → AllZip R xs ys → AllZip R (drop n xs) (drop n ys)
zip_drop R zero xs ys h = h
zip_drop R (suc n) [] [] h = tt
zip_drop R (suc n) [] (y ∷ ys) h = absurd h
zip_drop R (suc n) (x ∷ xs) [] h = absurd h
zip_drop R (suc n) (x ∷ xs) (y ∷ ys) h = zip_drop R n xs ys h.1

zip_take : {A B : Type 0} (R : A → B → Type 0) (n : ℕ) (xs : List A) (ys : List B) → AllZip R xs ys → AllZip R (take n xs) (take n ys)
zip_take R zero xs ys h = tt
zip_take R (suc n) [] [] h = tt
zip_take R (suc n) [] (y ∷ ys) h = absurd h
zip_take R (suc n) (x ∷ xs) [] h = absurd h
zip_take R (suc n) (x ∷ xs) (y ∷ ys) h = (h.0, zip_take R n xs ys h.1)

zip_change : {A B : Type 0} (R S : A → B → Type 0) (P : A → Type 0) → ((x : A) (y : B) → P x → R x y → S x y) → (xs : List A) (ys : List B) → All P xs → AllZip R xs ys → AllZip S xs ys
zip_change R S P f [] [] all h = tt
zip_change R S P f [] (y ∷ ys) all h = absurd h
zip_change R S P f (x ∷ xs) [] all h = absurd h
zip_change R S P f (x ∷ xs) (y ∷ ys) all h = (f x y (all 0 x (omega arith)) h.0, zip_change R S P f xs ys (λ k d lt. all (suc k) d (omega arith)) h.1)

log_of : Option Bytes → ℕ
log_of None = 0
log_of (Some b) = b.log

same_log : (size : PageSize) (o : Option Bytes) (p q j k : ℕ) → o ≡ Some (bytes_at size p (j + page_log size)) → o ≡ Some (bytes_at size q (k + page_log size)) → j ≡ k
unfolding log_of
same_log size o p q j k a b = let e : j + page_log size ≡ k + page_log size = ap log_of (sym a ∙ b) in omega arith

-- ---- what each item of a plan moves

-- the first page of the item at this place, and behind the last one the region's end
abbrev start_at : Region → List ℕ → ℕ → ℕ
start_at r pages k = cond (nat_lt k (length pages)) (get_or pages k 0) (r.source + r.count)

start_within : (r : Region) (pages : List ℕ) (k : ℕ) → k < length pages → start_at r pages k ≡ get_or pages k 0
start_within r pages k lt = grind (arith, nat_tests)

start_behind : (r : Region) (pages : List ℕ) (k : ℕ) → length pages ≤ k → start_at r pages k ≡ r.source + r.count
start_behind r pages k ge = grind (arith, nat_tests)

module _ (size : PageSize) (r : Region) (items : List Item) (pages : List ℕ) (space : InSpace size r) (plan : IsPlan size r items pages) where
  same_length : length pages ≡ length items
  same_length = zip_length (StartsAt size r) pages items plan.starts

  start_low : (k : ℕ) → r.source ≤ start_at r pages k
  start_low k = elim (cases_lt k (length pages)) [
    | inl lt ↦ let i = plan.certificate.inside k 0 lt in omega (arith, start_within r pages k lt, i.0)
    | inr ge ↦ omega (arith, start_behind r pages k ge)
  ]

  start_high : (k : ℕ) → start_at r pages k ≤ r.source + r.count
  start_high k = elim (cases_lt k (length pages)) [
    | inl lt ↦ let i = plan.certificate.inside k 0 lt in omega (arith, start_within r pages k lt, i.1)
    | inr ge ↦ omega (arith, start_behind r pages k ge)
  ]

  -- starts rise
  starts_rise : (j k : ℕ) → j ≤ k → start_at r pages j ≤ start_at r pages k
  starts_rise j k le = elim (cases_lt k (length pages)) [
    | inr ge ↦ omega (arith, start_behind r pages k ge, start_high j)
    | inl lt ↦ elim (cases_lt j k) [
      | inl less ↦ omega (arith, start_within r pages j (omega arith), start_within r pages k lt, plan.rising j k 0 less lt)
      | inr same ↦ let e : j ≡ k = omega arith in omega (arith, ap (start_at r pages) e)
    ]
  ]

  start_less : (k : ℕ) → k < length pages → start_at r pages k < start_at r pages (k + 1)
  start_less k lt = elim (cases_lt (k + 1) (length pages)) [
    | inl more ↦ omega (arith, start_within r pages k lt, start_within r pages (k + 1) more, plan.rising k (k + 1) 0 (omega arith) more)
    | inr last ↦ let i = plan.certificate.inside k 0 lt in omega (arith, start_within r pages k lt, start_behind r pages (k + 1) last, i.1)
  ]

  -- the block of the item at this place
  record BlockAt (k : ℕ) : Type 0 where
    log : ℕ
    allowed : IsAllowed r (get_or pages k 0) log
    bytes : bytes_of (fpage_of (get_or items k no_item)) ≡ Some (bytes_at size (get_or pages k 0) (log + page_log size))

  block_at : (k : ℕ) → k < length pages → BlockAt k
  block_at k in_k =
      let p = get_or pages k 0 in
      let i = plan.certificate.inside k 0 in_k in
      let c = covered size r items pages space plan p i.0 i.1 in
      let place : c.place < length pages = omega (arith, c.below, same_length) in
      let same : c.place ≡ k = one_place r pages plan.certificate.apart c.place k place in_k (get_or pages c.place 0, c.log, c.allowed, first_of_block (get_or pages c.place 0) c.log, c.holds) in
      record {
        log = c.log;
        allowed = subst (λ (n : ℕ). IsAllowed r (get_or pages n 0) c.log) same c.allowed;
        bytes = subst (λ (n : ℕ). bytes_of (fpage_of (get_or items n no_item)) ≡ Some (bytes_at size (get_or pages n 0) (c.log + page_log size))) same c.bytes;
      }

  -- it reaches the next item's first page at least
  block_short : (k : ℕ) (in_k : k < length pages) → get_or pages k 0 + 2 ^ (block_at k in_k).log < start_at r pages (k + 1) → ⊥
  block_short k in_k lt =
      let b = block_at k in_k in
      let p = get_or pages k 0 in
      let e = p + 2 ^ b.log in
      let high : start_at r pages (k + 1) ≤ r.source + r.count = start_high (k + 1) in
      let c = covered size r items pages space plan e (omega (arith, b.allowed.from)) (omega arith) in
      let place : c.place < length pages = omega (arith, c.below, same_length) in
      elim (cases_lt k c.place) [
        | inl later ↦ omega (arith, starts_rise (k + 1) c.place (omega arith), start_within r pages c.place place, c.holds.from)
        | inr upto ↦
            let from : get_or pages c.place 0 ≤ p = omega (arith, starts_rise c.place k upto, start_within r pages c.place place, start_within r pages k in_k) in
            let holds : InBlock (get_or pages c.place 0) c.log p = record { from = from; below = omega (arith, c.holds.below, pow_pos b.log) } in
            let same : c.place ≡ k = one_place r pages plan.certificate.apart c.place k place in_k (get_or pages c.place 0, c.log, c.allowed, first_of_block (get_or pages c.place 0) c.log, holds) in
            let bytes : bytes_of (fpage_of (get_or items k no_item)) ≡ Some (bytes_at size p (c.log + page_log size)) = subst (λ (n : ℕ). bytes_of (fpage_of (get_or items n no_item)) ≡ Some (bytes_at size (get_or pages n 0) (c.log + page_log size))) same c.bytes in
            let logs : c.log ≡ b.log = same_log size _ p p c.log b.log bytes b.bytes in
            let held : InBlock p b.log e = subst (λ (n : ℕ). InBlock p n e) logs (subst (λ (n : ℕ). InBlock (get_or pages n 0) c.log e) same c.holds) in
            omega (arith, held.below)
      ]

  -- and no further
  block_long : (k : ℕ) (in_k : k < length pages) → start_at r pages (k + 1) < get_or pages k 0 + 2 ^ (block_at k in_k).log → ⊥
  block_long k in_k lt =
      let b = block_at k in_k in
      let p = get_or pages k 0 in
      elim (cases_lt (k + 1) (length pages)) [
        | inl more ↦
            let q = get_or pages (k + 1) 0 in
            let at : start_at r pages (k + 1) ≡ q = start_within r pages (k + 1) more in
            let less : p < q = plan.rising k (k + 1) 0 (omega arith) more in
            plan.certificate.apart k (k + 1) 0 (omega arith) more (p, b.log, b.allowed, first_of_block p b.log, record { from = omega arith; below = omega arith })
        | inr last ↦ omega (arith, start_behind r pages (k + 1) last, b.allowed.to)
      ]

  -- the item at this place moves the pages up to the next one's first
  item_moves_between : (k : ℕ) → k < length pages → (s t : ℕ) → ItemMoves size (get_or items k no_item) complete s t ↔ Shifts (start_at r pages k) (moved r (start_at r pages k)) (start_at r pages (k + 1) - start_at r pages k) s t
  item_moves_between k in_k s t =
      let b = block_at k in_k in
      let p = get_or pages k 0 in
      let at : p ≡ start_at r pages k = sym (start_within r pages k in_k) in
      let width : 2 ^ b.log ≡ start_at r pages (k + 1) - start_at r pages k = elim (cases_lt (p + 2 ^ b.log) (start_at r pages (k + 1))) [
        | inl lt ↦ absurd (block_short k in_k lt)
        | inr ge ↦ elim (cases_lt (start_at r pages (k + 1)) (p + 2 ^ b.log)) [ inl gt ↦ absurd (block_long k in_k gt) | inr le ↦ omega arith ]
      ] in
      let starts : StartsAt size r p (get_or items k no_item) = zip_at (StartsAt size r) pages items k 0 no_item plan.starts (omega (arith, same_length)) in
      let is = item_moves_is size r p b.log (get_or items k no_item) space b.allowed starts.base b.bytes s t in
      subst (λ (q : ℕ). ItemMoves size (get_or items k no_item) complete s t ↔ Shifts q (moved r q) (start_at r pages (k + 1) - start_at r pages k) s t) at
      (subst (λ (n : ℕ). ItemMoves size (get_or items k no_item) complete s t ↔ Shifts p (moved r p) n s t) width is)

  -- ---- and what some of them move together

  between : (a n : ℕ) → (s t : ℕ) → Any (λ item. ItemMoves size item complete s t) (take n (drop a items)) ↔ Shifts (start_at r pages a) (moved r (start_at r pages a)) (start_at r pages (a + n) - start_at r pages a) s t
  between a n s t = (
    λ w.
        let j = w.0 in
        let lens : length (take n (drop a items)) ≡ min n (length (drop a items)) = length-take n (drop a items) in
        let in_j : a + j < length pages = omega (arith, w.2, length-drop a items, same_length) in
        let in_n : j < n = omega (arith, w.2) in
        let is : get_or items (a + j) w.1 ≡ w.1 = sym (get_or-drop a items j w.1) ∙ sym (get_or-take n (drop a items) j w.1 in_n) ∙ w.3 in
        let x : w.1 ≡ get_or items (a + j) no_item = sym is ∙ get_or_default items (a + j) w.1 no_item (omega (arith, same_length)) in
        let h = (item_moves_between (a + j) in_j s t).0 (subst (λ (y : Item). ItemMoves size y complete s t) x w.4) in
        let low = starts_rise a (a + j) (omega arith) in
        let high = starts_rise (a + j + 1) (a + n) (omega arith) in
        record {
          index = s - start_at r pages a;
          within = omega (arith, low, high, h.within, h.source_is);
          source_is = omega (arith, low, h.source_is);
          target_is = omega (arith, low, h.source_is, h.target_is, start_low a);
        },
    λ h.
        let pair : RegionMoves r s t = record {
          index = s - r.source;
          within = omega (arith, h.source_is, h.within, start_low a, start_high (a + n));
          source_is = omega (arith, h.source_is, start_low a);
          target_is = omega (arith, h.source_is, h.target_is, start_low a);
        } in
        let w = (plan.rival.moves s t).1 pair in
        let j = w.0 in
        let in_j : j < length pages = omega (arith, w.2, same_length) in
        let x : w.1 ≡ get_or items j no_item = sym w.3 ∙ get_or_default items j w.1 no_item w.2 in
        let m = (item_moves_between j in_j s t).0 (subst (λ (y : Item). ItemMoves size y complete s t) x w.4) in
        let low : a ≤ j = elim (cases_lt j a) [ inl lt ↦ absurd (omega (arith, starts_rise (j + 1) a (omega arith), m.source_is, m.within, h.source_is)) | inr ge ↦ ge ] in
        let high : j < a + n = elim (cases_lt j (a + n)) [ inl lt ↦ lt | inr ge ↦ absurd (omega (arith, starts_rise (a + n) j ge, m.source_is, h.source_is, h.within)) ] in
        let back : a + (j - a) ≡ j = omega arith in
        let lens : length (take n (drop a items)) ≡ min n (length (drop a items)) = length-take n (drop a items) in
        let is : get_or (take n (drop a items)) (j - a) w.1 ≡ w.1 =
        get_or-take n (drop a items) (j - a) w.1 (omega arith) ∙ get_or-drop a items (j - a) w.1 ∙ ap (λ (i : ℕ). get_or items i w.1) back ∙ w.3 in
        (j - a, w.1, omega (arith, w.2, length-drop a items), is, w.4),
  )

  -- ---- the part of a message

  page_between : (k j : ℕ) (d : ℕ) → j < length (take 31 (drop (31 * k) pages)) → (start_at r pages (31 * k) ≤ get_or (take 31 (drop (31 * k) pages)) j d) × (get_or (take 31 (drop (31 * k) pages)) j d < start_at r pages (31 * (k + 1)))
  page_between k j d lt =
      let a = 31 * k in
      let lens : length (take 31 (drop a pages)) ≡ min 31 (length (drop a pages)) = length-take 31 (drop a pages) in
      let in_j : a + j < length pages = omega (arith, length-drop a pages) in
      let is : get_or (take 31 (drop a pages)) j d ≡ get_or pages (a + j) 0 = get_or-take 31 (drop a pages) j d (omega arith) ∙ get_or-drop a pages j d ∙ get_or_default pages (a + j) d 0 in_j in
      let at = start_within r pages (a + j) in_j in
      (omega (arith, starts_rise a (a + j) (omega arith)), omega (arith, start_less (a + j) in_j, starts_rise (a + j + 1) (31 * (k + 1)) (omega arith)))

  pairs_between : (R : ℕ → ℕ → Type 0) (k : ℕ) → AllPairs R pages → AllPairs R (take 31 (drop (31 * k) pages))
  pairs_between R k all i j d less lt =
      let a = 31 * k in
      let lens : length (take 31 (drop a pages)) ≡ min 31 (length (drop a pages)) = length-take 31 (drop a pages) in
      let in_j : a + j < length pages = omega (arith, length-drop a pages) in
      let e : get_or (take 31 (drop a pages)) i d ≡ get_or pages (a + i) d = get_or-take 31 (drop a pages) i d (omega arith) ∙ get_or-drop a pages i d in
      let f : get_or (take 31 (drop a pages)) j d ≡ get_or pages (a + j) d = get_or-take 31 (drop a pages) j d (omega arith) ∙ get_or-drop a pages j d in
      rw (e, f) (all (a + i) (a + j) d (omega arith) in_j)

  -- a block of the part is one of the region
  part_allowed : (k first log : ℕ) → IsAllowed (part_of_region r pages k) first log → IsAllowed r first log
  part_allowed k first log a =
      let e : moved (part_of_region r pages k) first ≡ moved r first = omega (arith, a.from, start_low (31 * k)) in
      record {
        source = a.source;
        target = subst (λ (p : ℕ). IsBlock p log) e a.target;
        from = omega (arith, a.from, start_low (31 * k));
        to = omega (arith, a.from, a.to, start_high (31 * (k + 1)));
      }

  pub part_is_plan : (k : ℕ) → IsPlan size (part_of_region r pages k) (part_of_list items k) (part_of_list pages k)
  part_is_plan k =
      let a = 31 * k in
      let next : a + 31 ≡ 31 * (k + 1) = omega arith in
      record {
        rival = record {
          maps = All-take IsMap 31 (drop a items) (All-drop IsMap a items plan.rival.maps);
          moves = λ s t. subst (λ (b : ℕ). Any (λ item. ItemMoves size item complete s t) (take 31 (drop a items)) ↔ Shifts (start_at r pages a) (moved r (start_at r pages a)) (start_at r pages b - start_at r pages a) s t) next (between a 31 s t);
        };
        starts = zip_change (StartsAt size r) (StartsAt size (part_of_region r pages k)) (λ p. start_at r pages a ≤ p)
            (λ p item from h. record { map = h.map; rights = h.rights; base = h.base ∙ (let e : moved r p * page_bytes size ≡ moved (part_of_region r pages k) p * page_bytes size = ap (λ (n : ℕ). n * page_bytes size) (omega (arith, from, start_low a)) in e); log = h.log; bytes = h.bytes })
            (take 31 (drop a pages)) (take 31 (drop a items)) (λ j d lt. (page_between k j d lt).0) (zip_take (StartsAt size r) 31 (drop a pages) (drop a items) (zip_drop (StartsAt size r) a pages items plan.starts));
        rising = pairs_between ◌<◌ k plan.rising;
        certificate = record {
          inside = λ j d lt. let w = page_between k j d lt in (w.0, omega (arith, w.0, w.1));
          apart = pairs_between (λ p q. ShareBlock (part_of_region r pages k) p q → ⊥) k (λ i j d less lt share. plan.certificate.apart i j d less lt (share.0, share.1, part_allowed k share.0 share.1 share.2, share.3, share.4));
        };
      }

  pub part_in_space : (k : ℕ) → InSpace size (part_of_region r pages k)
  part_in_space k =
      let a = 31 * k in
      let rise = starts_rise a (31 * (k + 1)) (omega arith) in
      record { source = omega (arith, rise, start_high (31 * (k + 1)), space.source); target = omega (arith, rise, start_low a, start_high (31 * (k + 1)), space.target) }

  -- ---- the parts are the whole region

  begins_at_source : 0 < r.count → start_at r pages 0 ≤ r.source
  begins_at_source some =
      let pair : RegionMoves r r.source r.target = record { index = 0; within = some; source_is = omega arith; target_is = omega arith } in
      let w = (plan.rival.moves r.source r.target).1 pair in
      let in_j : w.0 < length pages = omega (arith, w.2, same_length) in
      let x : w.1 ≡ get_or items w.0 no_item = sym w.3 ∙ get_or_default items w.0 w.1 no_item w.2 in
      let m = (item_moves_between w.0 in_j r.source r.target).0 (subst (λ (y : Item). ItemMoves size y complete r.source r.target) x w.4) in
      omega (arith, starts_rise 0 w.0 (omega arith), m.source_is)

  -- one of the first n parts has it, where it lies below the next one
  part_with : (n page : ℕ) → start_at r pages 0 ≤ page → page < start_at r pages (31 * n) → (k : ℕ) × (k < n) × (start_at r pages (31 * k) ≤ page) × (page < start_at r pages (31 * (k + 1)))
  part_with zero page from below = let e : start_at r pages (31 * 0) ≡ start_at r pages 0 = refl in absurd (omega arith)
  part_with (suc n) page from below = elim (cases_lt page (start_at r pages (31 * n))) [
    | inl lt ↦ let w = part_with n page from lt in (w.0, omega (arith, w.1), w.2, w.3)
    | inr ge ↦ let e : suc n ≡ n + 1 = omega arith in (n, omega arith, ge, subst (λ (m : ℕ). page < start_at r pages (31 * m)) e below)
  ]

  pub parts_are_whole : AreWholeInParts r pages (messages_of (length items))
  parts_are_whole page h =
      let n = messages_of (length items) in
      let end : start_at r pages (31 * n) ≡ r.source + r.count = start_behind r pages (31 * n) (omega (arith, same_length)) in
      let w = part_with n page (omega (arith, begins_at_source (omega (arith, h.from, h.below)), h.from)) (omega (arith, end, h.below)) in
      let k = w.0 in (
        k,
        w.1,
        record { from = w.2; below = omega (arith, w.2, w.3) },
        λ j g.
            let low : start_at r pages (31 * j) ≤ page = g.from in
            let high : page < start_at r pages (31 * (j + 1)) = omega (arith, g.from, g.below) in
            elim (cases_lt j k) [
              | inl lt ↦ absurd (omega (arith, starts_rise (31 * (j + 1)) (31 * k) (omega arith), w.2))
              | inr ge ↦ elim (cases_lt k j) [ inl gt ↦ absurd (omega (arith, starts_rise (31 * (k + 1)) (31 * j) (omega arith), w.3)) | inr le ↦ omega arith ]
            ],
      )
