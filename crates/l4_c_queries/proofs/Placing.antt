-- Items that are put into places, one after another.
use Rattle.std.proofs.Common.{◌≡◌, ℕ, zero, suc, ◌+◌, ◌<◌, ◌≤◌, ap, ◌∙◌, sym, refl, arith, add-one, List, [], ◌∷◌, ◌++◌, length, map, get_or, take, drop, set}
use Rattle.std.proofs.lemmas.List.{at_drop_more}
use Rattle.l4_c_queries.specs.Placed.{placed, placed_behind}

module _ {X : Type 0} where
  set_step : (others out : List X) (item : X) (at : ℕ) → at < length out
      → take (suc at) (set out at item) ++ placed others (drop (suc at) (set out at item)) ≡ take at out ++ placed (item ∷ others) (drop at out)
  set_step others [] item at lt = absurd (omega (arith, lt))
  set_step others (o ∷ os) item zero lt = refl
  set_step others (o ∷ os) item (suc at) lt = ap (λ (l : List X). o ∷ l) (set_step others os item at (omega (arith, lt)))

  -- one item more
  pub placed_more : (left others out whole : List X) (item : X) (at : ℕ) → left ≡ item ∷ others → at < length out → take at out ++ placed left (drop at out) ≡ whole
      → take (at + 1) (set out at item) ++ placed others (drop (at + 1) (set out at item)) ≡ whole
  placed_more left others out whole item at e lt h =
      rw add-one (set_step others out item at lt) ∙ ap (λ (l : List X). take at out ++ placed l (drop at out)) (sym e) ∙ h

  -- no item is left
  none_left : (out : List X) (at : ℕ) → take at out ++ placed [] (drop at out) ≡ out
  none_left [] zero = refl
  none_left [] (suc at) = refl
  none_left (o ∷ os) zero = refl
  none_left (o ∷ os) (suc at) = ap (λ (l : List X). o ∷ l) (none_left os at)

  pub placed_all : (left out whole : List X) (at : ℕ) → left ≡ [] → take at out ++ placed left (drop at out) ≡ whole → out ≡ whole
  placed_all left out whole at e h = sym (none_left out at) ∙ ap (λ (l : List X). take at out ++ placed l (drop at out)) (sym e) ∙ h

  -- no place is left
  no_place : (left : List X) → placed left [] ≡ []
  no_place [] = refl
  no_place (item ∷ items) = refl

  full : (left out : List X) (at : ℕ) → length out ≤ at → take at out ++ placed left (drop at out) ≡ out
  full left [] zero le = no_place left
  full left [] (suc at) le = no_place left
  full left (o ∷ os) zero le = absurd (omega (arith, le))
  full left (o ∷ os) (suc at) le = ap (λ (l : List X). o ∷ l) (full left os at (omega (arith, le)))

  pub placed_full : (left out whole : List X) (at : ℕ) → length out ≤ at → take at out ++ placed left (drop at out) ≡ whole → out ≡ whole
  placed_full left out whole at le h = sym (full left out at le) ∙ h

  pub placed_length : (items places : List X) → length (placed items places) ≡ length places
  placed_length [] places = refl
  placed_length (item ∷ items) [] = refl
  placed_length (item ∷ items) (place ∷ places) = omega (arith, placed_length items places)

  -- one item more of those that a function makes of a list
  pub placed_next : {A : Type 0} (f : A → X) (list : List A) (out whole : List X) (at : ℕ) (d : A) (item : X) → item ≡ f (get_or list at d) → at < length list → at < length out → take at out ++ placed (map f (drop at list)) (drop at out) ≡ whole
      → take (at + 1) (set out at item) ++ placed (map f (drop (at + 1) list)) (drop (at + 1) (set out at item)) ≡ whole
  placed_next f list out whole at d item e lt room h =
      placed_more (map f (drop at list)) (map f (drop (at + 1) list)) out whole item at
      (at_drop_more (λ l. map f l) list at d lt ∙ ap (λ (y : X). y ∷ map f (drop (at + 1) list)) (sym e)) room h

  -- the same for the items of a list themselves
  pub placed_item : (list out whole : List X) (at : ℕ) (d item : X) → item ≡ get_or list at d → at < length list → at < length out → take at out ++ placed (drop at list) (drop at out) ≡ whole
      → take (at + 1) (set out at item) ++ placed (drop (at + 1) list) (drop (at + 1) (set out at item)) ≡ whole
  placed_item list out whole at d item e lt room h =
      placed_more (drop at list) (drop (at + 1) list) out whole item at
      (at_drop_more (λ (l : List X). l) list at d lt ∙ ap (λ (y : X). y ∷ drop (at + 1) list) (sym e)) room h

  -- items that are put behind others
  behind_first : (items others out : List X) → placed_behind (length items) others (placed items out) ≡ placed (items ++ others) out
  behind_first [] others [] = refl
  behind_first [] others (o ∷ os) = refl
  behind_first (x ∷ xs) others [] = no_place others
  behind_first (x ∷ xs) others (o ∷ os) = ap (λ (l : List X). x ∷ l) (behind_first xs others os)

  pub placed_then : (items others old out new : List X) (count : ℕ) → count ≡ length items → out ≡ placed items old → new ≡ placed_behind count others out → new ≡ placed (items ++ others) old
  placed_then items others old out new count number before behind =
      behind ∙ (λ i. placed_behind (number i) others (before i)) ∙ behind_first items others old

  -- nothing is put behind others
  pub placed_none : (out : List X) (at : ℕ) → out ≡ placed_behind at [] out
  placed_none out at = sym (none_left out at)

  -- one item is put behind others, where there is a place, and where there is none
  pub placed_one : (out : List X) (item : X) (at : ℕ) → at < length out → set out at item ≡ placed_behind at (item ∷ []) out
  placed_one [] item at lt = absurd (omega (arith, lt))
  placed_one (o ∷ os) item zero lt = refl
  placed_one (o ∷ os) item (suc at) lt = ap (λ (l : List X). o ∷ l) (placed_one os item at (omega (arith, lt)))

  pub placed_beyond : (out items : List X) (at : ℕ) → length out ≤ at → out ≡ placed_behind at items out
  placed_beyond out items at le = sym (full items out at le)

  -- one item more of a list that is put behind others
  pub placed_item_behind : (list out whole : List X) (behind at : ℕ) (d item : X) → item ≡ get_or list at d → at < length list → behind + at < length out
      → placed_behind (behind + at) (drop at list) out ≡ whole → placed_behind (behind + (at + 1)) (drop (at + 1) list) (set out (behind + at) item) ≡ whole
  placed_item_behind list out whole behind at d item e lt room h =
      let next : behind + (at + 1) ≡ (behind + at) + 1 = omega arith in
      ap (λ (n : ℕ). placed_behind n (drop (at + 1) list) (set out (behind + at) item)) next
      ∙ placed_more (drop at list) (drop (at + 1) list) out whole item (behind + at)
      (at_drop_more (λ (l : List X). l) list at d lt ∙ ap (λ (y : X). y ∷ drop (at + 1) list) (sym e)) room h
