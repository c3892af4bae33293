-- The first token of a line.
use Rattle.std.proofs.Common.{◌≡◌, ℕ, ◌+◌, ◌-◌, ◌==◌, ◌<◌, ◌≤◌, suc, Bool, true, false, not, cond, List, [], ◌∷◌, length, get_or, take, drop, filter, Some, None, unwrap_or, nat_lt, sym, ap, ◌∙◌, refl, arith}
use Rattle.std.specs.List.{slice_split, onto_first, position, position_or_len}
use Rattle.std.proofs.lemmas.List.Sums.{prefix_len-le-length}
use Rattle.std.proofs.lemmas.Bool.Decides.{nat_tests}
use Rattle.std.proofs.lemmas.List.{take_rest}
use Rattle.l4_text.specs.Tokens.{tokens_of, is_space, has_bytes}
use Rattle.l4_text.specs.Inside.Reading.{is_no_space}

-- the place of the first that passes, or the length, is `position` with the length in place of None
pub position_or : (p : ℕ → Bool) (xs : List ℕ) → unwrap_or (position p xs) (length xs) ≡ position_or_len p xs
position_or p xs =
    let k = position_or_len p xs in
    let le : position_or_len p xs ≤ length xs = prefix_len-le-length (λ x. not (p x)) xs in
    elim (nat_lt k (length xs)) as (λ v. nat_lt k (length xs) ≡ v → unwrap_or (cond v (Some k) None) (length xs) ≡ k) [
      | true ↦ λ _. refl
      | false ↦ λ f. grind (arith, nat_tests)
    ] refl

take_one : (n x : ℕ) (xs : List ℕ) → take (1 + n) (x ∷ xs) ≡ x ∷ take n xs
take_one n x xs = let e : 1 + n ≡ suc n = omega arith in ap (λ k. take k (x ∷ xs)) e

drop_one : (n x : ℕ) (xs : List ℕ) → drop (1 + n) (x ∷ xs) ≡ drop n xs
drop_one n x xs = let e : 1 + n ≡ suc n = omega arith in ap (λ k. drop k (x ∷ xs)) e

-- the parts after the first
abbrev others : List ℕ → List (List ℕ)
others [] = []
others (x ∷ xs) = cond (is_space x) (slice_split is_space xs) (others xs)

split_first : (xs : List ℕ) → slice_split is_space xs ≡ take (position_or_len is_space xs) xs ∷ others xs
split_first [] = refl
split_first (x ∷ xs) =
    elim (x == 32) as (λ v. cond v ([] ∷ slice_split is_space xs) (onto_first x (slice_split is_space xs))
    ≡ take (cond (not v) (1 + position_or_len is_space xs) 0) (x ∷ xs) ∷ cond v (slice_split is_space xs) (others xs)) [
      | true ↦ refl
      | false ↦ ap (onto_first x) (split_first xs) ∙ ap (λ t. t ∷ others xs) (sym (take_one (position_or_len is_space xs) x xs))
    ]

others_tokens : (xs : List ℕ) → filter has_bytes (others xs) ≡ tokens_of (drop (position_or_len is_space xs) xs)
unfolding tokens_of
others_tokens [] = refl
others_tokens (x ∷ xs) =
    let n = position_or_len is_space xs in
    elim (x == 32) as (λ v. (x == 32) ≡ v → filter has_bytes (cond v (slice_split is_space xs) (others xs))
    ≡ tokens_of (drop (cond (not v) (1 + n) 0) (x ∷ xs))) [
      | true ↦ λ t. ap (λ b. filter has_bytes (cond b ([] ∷ slice_split is_space xs) (onto_first x (slice_split is_space xs)))) (sym t)
      | false ↦ λ _. others_tokens xs ∙ ap tokens_of (sym (drop_one n x xs))
    ] refl

-- spaces in front are no part of the tokens
pub tokens_skip : (line : List ℕ) → tokens_of line ≡ tokens_of (drop (position_or_len is_no_space line) line)
unfolding tokens_of
tokens_skip [] = refl
tokens_skip (x ∷ xs) =
    let n = position_or_len is_no_space xs in
    elim (x == 32) as (λ v. (x == 32) ≡ v → tokens_of (x ∷ xs) ≡ tokens_of (drop (cond (not (not v)) (1 + n) 0) (x ∷ xs))) [
      | true ↦ λ t. ap (λ b. filter has_bytes (cond b ([] ∷ slice_split is_space xs) (onto_first x (slice_split is_space xs)))) t
          ∙ tokens_skip xs ∙ ap tokens_of (sym (drop_one n x xs))
      | false ↦ λ _. refl
    ] refl

-- what stands after the spaces is nothing, or begins a token
pub none_left : (line : List ℕ) → position_or_len is_space (drop (position_or_len is_no_space line) line) ≡ 0 → drop (position_or_len is_no_space line) line ≡ []
none_left [] h = refl
none_left (x ∷ xs) h =
    let n = position_or_len is_no_space xs in
    elim (x == 32) as (λ v. (x == 32) ≡ v → position_or_len is_space (drop (cond (not (not v)) (1 + n) 0) (x ∷ xs)) ≡ 0
    → drop (cond (not (not v)) (1 + n) 0) (x ∷ xs) ≡ []) [
      | true ↦ λ t e. drop_one n x xs ∙ none_left xs (ap (position_or_len is_space) (sym (drop_one n x xs)) ∙ e)
      | false ↦ λ f e. let g : 1 + position_or_len is_space xs ≡ 0 = ap (λ b. cond (not b) (1 + position_or_len is_space xs) 0) (sym f) ∙ e in absurd (omega arith)
    ] refl h

-- a line that doesn't begin with a space begins with its first token
pub tokens_cut : (rest : List ℕ) → 0 < position_or_len is_space rest
    → tokens_of rest ≡ take (position_or_len is_space rest) rest ∷ tokens_of (drop (position_or_len is_space rest) rest)
unfolding tokens_of
tokens_cut [] h = absurd (omega arith)
tokens_cut (x ∷ xs) h =
    let n = position_or_len is_space xs in
    elim (x == 32) as (λ v. (x == 32) ≡ v → 0 < cond (not v) (1 + n) 0
    → tokens_of (x ∷ xs) ≡ take (cond (not v) (1 + n) 0) (x ∷ xs) ∷ tokens_of (drop (cond (not v) (1 + n) 0) (x ∷ xs))) [
      | true ↦ λ _ e. absurd (omega arith)
      | false ↦ λ f _. ap (λ b. filter has_bytes (cond b ([] ∷ slice_split is_space xs) (onto_first x (slice_split is_space xs)))) f
          ∙ ap (λ parts. filter has_bytes (onto_first x parts)) (split_first xs)
          ∙ ap (λ ts. (x ∷ take n xs) ∷ ts) (others_tokens xs)
          ∙ ap (λ t. t ∷ tokens_of (drop n xs)) (sym (take_one n x xs))
          ∙ ap (λ t. take (1 + n) (x ∷ xs) ∷ tokens_of t) (sym (drop_one n x xs))
    ] refl h

pub tokens_none : tokens_of [] ≡ []
unfolding tokens_of
tokens_none = refl

-- where no token follows the spaces there is none
pub next_none : (line : List ℕ) (start end : ℕ) → start ≡ position_or_len is_no_space line → end ≡ position_or_len is_space (take (length line - start) (drop start line))
    → end ≡ 0 → tokens_of line ≡ []
next_none line start end from to none =
    let rest : take (length line - start) (drop start line) ≡ drop (position_or_len is_no_space line) line = take_rest line start ∙ ap (λ k. drop k line) from in
    tokens_skip line ∙ ap tokens_of (none_left line (ap (position_or_len is_space) (sym rest) ∙ sym to ∙ none)) ∙ tokens_none

-- else the first token and the tokens of what follows it
pub next_some : (line : List ℕ) (start end : ℕ) → start ≡ position_or_len is_no_space line → end ≡ position_or_len is_space (take (length line - start) (drop start line))
    → (end ≡ 0 → ⊥) → tokens_of line ≡ take end (take (length line - start) (drop start line))
    ∷ tokens_of (take (length (take (length line - start) (drop start line)) - end) (drop end (take (length line - start) (drop start line))))
next_some line start end from to some =
    let rest : take (length line - start) (drop start line) ≡ drop (position_or_len is_no_space line) line = take_rest line start ∙ ap (λ k. drop k line) from in
    let r = take (length line - start) (drop start line) in
    let pos : 0 < position_or_len is_space r = omega arith in
    tokens_skip line ∙ ap tokens_of (sym rest) ∙ tokens_cut r pos
    ∙ ap (λ k. take k r ∷ tokens_of (drop k r)) (sym to)
    ∙ ap (λ t. take end r ∷ tokens_of t) (sym (take_rest r end))

split_more : (x : ℕ) (xs ys : List ℕ) → (x == 32) ≡ false → slice_split is_space xs ≡ ys ∷ [] → slice_split is_space (x ∷ xs) ≡ (x ∷ ys) ∷ []
split_more x xs ys f h = ap (λ b. cond b ([] ∷ slice_split is_space xs) (onto_first x (slice_split is_space xs))) f ∙ ap (onto_first x) h

four_bytes : (x y z w : ℕ) → x ≡ 32 → (y == 32) ≡ false → (z == 32) ≡ false → (w == 32) ≡ false → tokens_of (x ∷ y ∷ z ∷ w ∷ []) ≡ (y ∷ z ∷ w ∷ []) ∷ []
unfolding tokens_of
four_bytes x y z w is f g h =
    let parts = slice_split is_space (y ∷ z ∷ w ∷ []) in
    ap (λ k. filter has_bytes (cond (k == 32) ([] ∷ parts) (onto_first k parts))) is
    ∙ ap (λ s. filter has_bytes ([] ∷ s)) (split_more y (z ∷ w ∷ []) (z ∷ w ∷ []) f (split_more z (w ∷ []) (w ∷ []) g (split_more w [] [] h refl)))

-- a token of three bytes after a space
pub three_after : (line : List ℕ) (a b d e : ℕ) → length line ≡ 4 → get_or line 0 a ≡ 32 → (get_or line 1 b == 32) ≡ false → (get_or line 2 d == 32) ≡ false → (get_or line 3 e == 32) ≡ false
    → tokens_of line ≡ take (length line - 1) (drop 1 line) ∷ []
three_after [] a b d e four is f g h = absurd (omega (arith, four))
three_after (x ∷ []) a b d e four is f g h = absurd (omega (arith, four))
three_after (x ∷ y ∷ []) a b d e four is f g h = absurd (omega (arith, four))
three_after (x ∷ y ∷ z ∷ []) a b d e four is f g h = absurd (omega (arith, four))
three_after (x ∷ y ∷ z ∷ w ∷ []) a b d e four is f g h = four_bytes x y z w is f g h ∙ ap (λ t. t ∷ []) (sym (take_rest (x ∷ y ∷ z ∷ w ∷ []) 1))
three_after (x ∷ y ∷ z ∷ w ∷ v ∷ rest) a b d e four is f g h = absurd (omega (arith, four))
