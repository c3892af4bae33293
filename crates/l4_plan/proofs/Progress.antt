-- What holds of a plan that has reached a page.
use Rattle.std.proofs.Common.{◌≡◌, ℕ, ◌+◌, ◌-◌, ◌*◌, ◌%◌, ◌^◌, ◌<◌, ◌≤◌, ◌⊎◌, inl, inr, sym, ◌∙◌, subst, arith, List, [], ◌∷◌, ◌++◌, length, get_or, Some, ◌↔◌}
use Rattle.std.proofs.lemmas.Bool.{cases_lt}
use Rattle.std.proofs.lemmas.List.{get_or_push, length_push}
use Rattle.std.proofs.lemmas.Nat.{pow_pos}
use Rattle.std.proofs.lemmas.List.Elements.{All-nil, All-push}
use Rattle.std.proofs.lemmas.List.Quantifiers.{all_pairs_push, Any-push}
use Rattle.std.proofs.Math.ListN.{get_or-append}
use Rattle.std.specs.List.{All, AllPairs, AllZip, Any}
use Rattle.l4_fpage.specs.Fpages.{bytes_of}
use Rattle.l4_msg.specs.Moves.{Shifts, ItemMoves, IsMap, base_of, fpage_of, complete}
use Rattle.l4_msg.specs.declared.items.Item.{Item}
use Rattle.l4_msg.specs.declared.regions.Region.{Region}
use Rattle.l4_plan.proofs.Greedy.{NoneCrosses, none_crosses_step, apart_from_crosses}
use Rattle.l4_fpage.proofs.Powers.{aligned_step, aligned_down}
use Rattle.l4_fpage.proofs.PageSizes.{whole_units}
use Rattle.l4_fpage.specs.Pages.{page_log, page_bytes}
use Rattle.l4_fpage.specs.declared.sizes.PageSize.{PageSize}
use Rattle.l4_msg.proofs.Covered.{item_moves_is}
use Rattle.l4_msg.specs.Regions.{IsAllowed, IsPlan, ShareBlock, StartsAt, InSpace, moved}
use Rattle.l4_plan.specs.Largest.{IsLargest, BeginsLargest, AreFirstStarts}

-- the largest block at a page that no allowed block crosses is the largest that holds the page
begins_here : (r : Region) (page log : ℕ) → IsLargest r page log → NoneCrosses r page → BeginsLargest r page
begins_here r page log best h = record {
  log = log;
  allowed = best.allowed;
  greatest = λ first k a holds. elim (cases_lt first page) [
    | inl before ↦ absurd (omega (arith, h.ends first k a before, holds.below))
    | inr from ↦ let e : first ≡ page = omega (arith, holds.from) in let b : IsAllowed r page k = rw e at a in best.greatest k b
  ];
}

-- of the pages of a largest block, only at its first one a largest block begins
begins_once : (r : Region) (page log q : ℕ) → IsLargest r page log → BeginsLargest r q → page ≤ q → q < page + 2 ^ log → page ≡ q
begins_once r page log q best b from below = elim (cases_lt page q) [
  | inl after ↦
      let le : log ≤ b.log = b.greatest page log best.allowed (record { from = from; below = below }) in
      absurd (omega (arith, aligned_step log page q best.allowed.source.aligned (aligned_down log b.log q le b.allowed.source.aligned) after))
  | inr same ↦ omega arith
]

-- the items move the pages below this one, and their first pages are a certificate with it
pub record Progress (size : PageSize) (r : Region) (page : ℕ) (items : List Item) (pages : List ℕ) : Type 0 where
  pub from : r.source ≤ page
  pub to : page ≤ r.source + r.count
  pub crosses : NoneCrosses r page
  pub begin : All (BeginsLargest r) pages
  pub rest : (q : ℕ) → BeginsLargest r q → q < page → Any (λ p. p ≡ q) pages
  pub starts : AllZip (StartsAt size r) pages items
  pub maps : All IsMap items
  pub whole : All (λ item. base_of item % 1024 ≡ 0) items
  pub moves : (s t : ℕ) → Any (λ item. ItemMoves size item complete s t) items ↔ Shifts r.source r.target (page - r.source) s t
  pub inside : All (λ p. (r.source ≤ p) × (p < page)) pages
  pub rising : AllPairs ◌<◌ pages
  pub apart : AllPairs (λ p q. ShareBlock r p q → ⊥) pages

-- at the region's first page
pub progress_none : (size : PageSize) (r : Region) → Progress size r r.source [] []
progress_none size r = record {
  from = omega arith;
  to = omega arith;
  crosses = record { ends = λ first log a below. absurd (omega (arith, a.from)) };
  begin = All-nil (BeginsLargest r);
  rest = λ q b lt. absurd (omega (arith, b.allowed.from));
  starts = tt;
  maps = All-nil IsMap;
  whole = All-nil (λ item. base_of item % 1024 ≡ 0);
  moves = λ s t. (λ any. absurd (omega (arith, any.2)), λ h. absurd (omega (arith, h.within)));
  inside = All-nil (λ p. (r.source ≤ p) × (p < r.source));
  rising = λ i j d lt in_j. absurd (omega (arith, in_j));
  apart = λ i j d lt in_j. absurd (omega (arith, in_j));
}

-- the last element or one before it
any_push : {X : Type 0} (P : X → Type 0) (xs : List X) (y : X) → Any P (xs ++ y ∷ []) ↔ (Any P xs ⊎ P y)
any_push P xs y = (
  λ w. elim (cases_lt w.0 (length xs)) [
    | inl lt ↦ inl (w.0, w.1, lt, sym (get_or-append xs (y ∷ []) w.1 w.0 lt) ∙ w.3, w.4)
    | inr ge ↦
        let last : length xs ≡ w.0 = omega (arith, w.2, length_push xs y) in
        inr (subst P (sym w.3 ∙ get_or_push xs y w.1 w.0 last) w.4)
  ],
  λ c. elim c [
    | inl w ↦ (w.0, w.1, omega (arith, w.2, length_push xs y), get_or-append xs (y ∷ []) w.1 w.0 w.2 ∙ w.3, w.4)
    | inr p ↦ Any-push P xs y p
  ],
)

-- std's `AllZip-push` is for two lists of one type
zip_push : {A B : Type 0} (R : A → B → Type 0) (xs : List A) (ys : List B) (x : A) (y : B) → AllZip R xs ys → R x y → AllZip R (xs ++ x ∷ []) (ys ++ y ∷ [])
zip_push R [] [] x y h r = (r, tt)
zip_push R [] (b ∷ ys) x y h r = absurd h
zip_push R (a ∷ xs) [] x y h r = absurd h
zip_push R (a ∷ xs) (b ∷ ys) x y h r = (h.0, zip_push R xs ys x y h.1 r)

-- the page that was reached joins the certificate
pages_push : (size : PageSize) → (r : Region) (page : ℕ) (items : List Item) (pages : List ℕ) → Progress size r page items pages → AllPairs (λ p q. ShareBlock r p q → ⊥) (pages ++ page ∷ [])
pages_push size r page items pages h =
    all_pairs_push (λ p q. ShareBlock r p q → ⊥) pages page h.apart
    (λ k d in_k. let i = h.inside k d in_k in apart_from_crosses r (get_or pages k d) page i.1 h.crosses)

shifts_more : (a b page n s t : ℕ) → a ≤ page → (Shifts a b (page - a) s t ⊎ Shifts page (b + (page - a)) n s t) ↔ Shifts a b (page + n - a) s t
shifts_more a b page n s t from = (
  λ c. elim c [
    | inl h ↦ record { index = h.index; within = omega (arith, h.within); source_is = h.source_is; target_is = h.target_is }
    | inr h ↦ record { index = page - a + h.index; within = omega (arith, h.within); source_is = omega (arith, h.source_is); target_is = omega (arith, h.target_is) }
  ],
  λ h. elim (cases_lt h.index (page - a)) [
    | inl lt ↦ inl (record { index = h.index; within = lt; source_is = h.source_is; target_is = h.target_is })
    | inr ge ↦ inr (record { index = h.index - (page - a); within = omega (arith, h.within); source_is = omega (arith, h.source_is); target_is = omega (arith, h.target_is) })
  ],
)

either : {A B C D : Type 0} → A ↔ B → C ↔ D → (A ⊎ C) ↔ (B ⊎ D)
either f g = (λ c. elim c [ inl a ↦ inl (f.0 a) | inr x ↦ inr (g.0 x) ], λ c. elim c [ inl b ↦ inl (f.1 b) | inr y ↦ inr (g.1 y) ])

chain : {A B C : Type 0} → A ↔ B → B ↔ C → A ↔ C
chain f g = (λ a. g.0 (f.0 a), λ c. f.1 (g.1 c))

moves_push : (size : PageSize) → (r : Region) (page log : ℕ) (items : List Item) (item : Item) (pages : List ℕ) → InSpace size r → Progress size r page items pages → IsAllowed r page log → StartsAt size r page item → bytes_of (fpage_of item) ≡ Some (record { base = page * page_bytes size; log = log + page_log size }) → (s t : ℕ) → Any (λ i. ItemMoves size i complete s t) (items ++ item ∷ []) ↔ Shifts r.source r.target (page + 2 ^ log - r.source) s t
moves_push size r page log items item pages space h a starts bytes s t =
    chain (any_push (λ i. ItemMoves size i complete s t) items item)
    (chain (either (h.moves s t) (item_moves_is size r page log item space a starts.base bytes s t)) (shifts_more r.source r.target page (2 ^ log) s t h.from))

-- one item more
pub progress_step : (size : PageSize) → (r : Region) (page log : ℕ) (items : List Item) (item : Item) (pages : List ℕ) → InSpace size r → Progress size r page items pages → IsLargest r page log → StartsAt size r page item → bytes_of (fpage_of item) ≡ Some (record { base = page * page_bytes size; log = log + page_log size }) → Progress size r (page + 2 ^ log) (items ++ item ∷ []) (pages ++ page ∷ [])
progress_step size r page log items item pages space h best starts bytes = record {
  from = omega (arith, h.from);
  to = omega (arith, best.allowed.to);
  crosses = none_crosses_step r page log best h.crosses;
  begin = All-push (BeginsLargest r) pages page h.begin (begins_here r page log best h.crosses);
  rest = λ q b lt. (any_push (λ p. p ≡ q) pages page).1 (elim (cases_lt q page) [ inl before ↦ inl (h.rest q b before) | inr from ↦ inr (begins_once r page log q best b from lt) ]);
  starts = zip_push (StartsAt size r) pages items page item h.starts starts;
  maps = All-push IsMap items item h.maps starts.map;
  whole = All-push (λ i. base_of i % 1024 ≡ 0) items item h.whole (rw starts.base (whole_units size (moved r page)));
  moves = moves_push size r page log items item pages space h best.allowed starts bytes;
  inside = All-push (λ p. (r.source ≤ p) × (p < page + 2 ^ log)) pages page (λ k d in_k. let i = h.inside k d in_k in (i.0, omega (arith, i.1))) (h.from, omega (arith, pow_pos log));
  rising = all_pairs_push ◌<◌ pages page h.rising (λ k d in_k. (h.inside k d in_k).1);
  apart = pages_push size r page items pages h;
}

pub progress_end : (size : PageSize) → (r : Region) (page : ℕ) (items : List Item) (pages : List ℕ) → Progress size r page items pages → r.source + r.count ≤ page → IsPlan size r items pages
progress_end size r page items pages h done =
    let e : page - r.source ≡ r.count = omega (arith, h.to) in
    record {
      rival = record { maps = h.maps; moves = λ s t. subst (λ (n : ℕ). Any (λ item. ItemMoves size item complete s t) items ↔ Shifts r.source r.target n s t) e (h.moves s t) };
      starts = h.starts;
      rising = h.rising;
      certificate = record { inside = λ k d in_k. let i = h.inside k d in_k in (i.0, omega (arith, i.1, h.to)); apart = h.apart };
    }

pub first_starts : (size : PageSize) → (r : Region) (page : ℕ) (items : List Item) (pages : List ℕ) → Progress size r page items pages → AreFirstStarts r pages
first_starts size r page items pages h = record {
  rising = h.rising;
  begin = h.begin;
  rest = λ q b. elim (cases_lt q page) [ inl lt ↦ inl (h.rest q b lt) | inr ge ↦ inr (λ k d in_k. let i = h.inside k d in_k in omega (arith, i.1)) ];
}
