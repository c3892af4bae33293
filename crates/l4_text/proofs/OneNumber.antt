-- The number of a token whose digits were read byte by byte.
use Rattle.std.proofs.Common.{◌≡◌, ℕ, zero, suc, ◌+◌, ◌-◌, ◌*◌, ◌/◌, ◌%◌, ◌^◌, ◌<◌, ◌≤◌, ◌==◌, ◌&&◌, true, false, not, cond, nat_le, nat_lt, List, [], ◌∷◌, length, get_or, take, drop, filter, Option, Some, None, is_some, option_and_then, sym, ap, ◌∙◌, refl, arith, eqb-true, subst}
use Rattle.std.proofs.lemmas.Bool.{false≢true, and_parts, ltb-true}
use Rattle.std.proofs.lemmas.Bool.Decides.{nat_tests}
use Rattle.std.proofs.lemmas.List.{take_rest, length-take-le}
use Rattle.std.specs.List.{position_or_len}
use Rattle.l4_text.specs.Numbers.{digit_of, hex_digit_of, value_from, decimal_of, hex_of, is_hex, below, number_of}
use Rattle.std.specs.List.{slice_split, onto_first}
use Rattle.l4_text.specs.Tokens.{tokens_of, is_space, has_bytes, FirstNumber}
use Rattle.l4_text.specs.Inside.Reading.{HasDigits, HasToken, IsPacked, is_no_space}
use Rattle.l4_text.proofs.Parts.{tokens_cut, tokens_skip, tokens_none}
use Rattle.l4_text.proofs.Spelled.{below_all}

not_some : (w : ℕ) → ◌≡◌ {A = Option ℕ} None (Some w) → ⊥
not_some w h = false≢true (ap is_some h)

-- no space stands among digits
no_space : (base : ℕ) (digit : ℕ → Option ℕ) (v w i : ℕ) (xs : List ℕ) → digit 32 ≡ None → i ≤ length xs → value_from base digit v (take i xs) ≡ Some w
    → position_or_len is_space xs ≡ i + position_or_len is_space (drop i xs)
no_space base digit v w zero xs none le h = omega arith
no_space base digit v w (suc i) [] none le h = absurd (omega (arith, le))
no_space base digit v w (suc i) (x ∷ xs) none le h =
    elim (x == 32) as (λ b. (x == 32) ≡ b → cond (not b) (1 + position_or_len is_space xs) 0 ≡ suc i + position_or_len is_space (drop i xs)) [
      | true ↦ λ t.
          let is : digit x ≡ None = ap digit (eqb-true x 32 t) ∙ none in
          absurd (not_some w (sym (ap (λ (o : Option ℕ). option_and_then (λ d. value_from base digit (v * base + d) (take i xs)) o) is) ∙ h))
      | false ↦ λ _.
          let more : position_or_len is_space xs ≡ i + position_or_len is_space (drop i xs) =
          elim (digit x) as (λ o. option_and_then (λ d. value_from base digit (v * base + d) (take i xs)) o ≡ Some w → position_or_len is_space xs ≡ i + position_or_len is_space (drop i xs)) [
            | None ↦ λ e. absurd (not_some w e)
            | Some d ↦ λ e. no_space base digit (v * base + d) w i xs none (omega (arith, le)) e
          ] h in
          omega (arith, more)
    ] refl

-- digits don't begin with 0x
not_hex : (xs : List ℕ) (w : ℕ) → value_from 10 digit_of 0 xs ≡ Some w → is_hex xs ≡ false
not_hex [] w h = refl
not_hex (a ∷ []) w h = refl
not_hex (a ∷ b ∷ xs) w h =
    elim ((a == 48) && (b == 120)) as (λ v. ((a == 48) && (b == 120)) ≡ v → v ≡ false) [
      | false ↦ λ _. refl
      | true ↦ λ t.
          let parts = and_parts (a == 48) (b == 120) t in
          let first : a ≡ 48 = eqb-true a 48 parts.0 in
          let second : b ≡ 120 = eqb-true b 120 parts.1 in
          absurd (not_some w ((λ i. value_from 10 digit_of 0 (sym first i ∷ sym second i ∷ xs)) ∙ h))
    ] refl

decimal_is : (xs : List ℕ) (w : ℕ) → value_from 10 digit_of 0 xs ≡ Some w → 1 ≤ length xs → length xs ≤ 10 → w < 2 ^ 32 → Some w ≡ number_of xs
unfolding number_of decimal_of
decimal_is xs w h some few small =
    let one : nat_le 1 (length xs) ≡ true = grind (arith, nat_tests) in
    let ten : nat_le (length xs) 10 ≡ true = grind (arith, nat_tests) in
    sym (ap (λ b. below (2 ^ 32) (cond b (hex_of (drop 2 xs)) (decimal_of xs))) (not_hex xs w h)
    ∙ (λ i. below (2 ^ 32) (cond (one i && ten i) (value_from 10 digit_of 0 xs) None)) ∙ ap (below (2 ^ 32)) h ∙ below_all w small)

hex_is : (xs : List ℕ) (w : ℕ) → value_from 16 hex_digit_of 0 xs ≡ Some w → 1 ≤ length xs → length xs ≤ 8 → w < 2 ^ 32 → Some w ≡ number_of (48 ∷ 120 ∷ xs)
unfolding number_of hex_of
hex_is xs w h some few small =
    let one : nat_le 1 (length xs) ≡ true = grind (arith, nat_tests) in
    let eight : nat_le (length xs) 8 ≡ true = grind (arith, nat_tests) in
    sym ((λ i. below (2 ^ 32) (cond (one i && eight i) (value_from 16 hex_digit_of 0 xs) None)) ∙ ap (below (2 ^ 32)) h ∙ below_all w small)

pub decimal_first : (rest : List ℕ) (n w : ℕ) → HasDigits 10 digit_of rest n w → 1 ≤ n → n ≤ 10
    → FirstNumber rest (Some w) (take (length rest - n) (drop n rest))
decimal_first rest n w has some few =
    let long : length (take n rest) ≡ n = length-take-le n rest has.0 in
    let place : position_or_len is_space rest ≡ n = omega (arith, no_space 10 digit_of 0 w n rest refl has.0 has.1, has.2) in
    let pos : 0 < position_or_len is_space rest = omega (arith, place, some) in (
      take n rest,
      tokens_cut rest pos ∙ ap (λ k. take k rest ∷ tokens_of (drop k rest)) place ∙ ap (λ t. take n rest ∷ tokens_of t) (sym (take_rest rest n)),
      decimal_is (take n rest) w has.1 (omega (arith, long, some)) (omega (arith, long, few)) has.3,
    )

hex_cut : (ys : List ℕ) (n w : ℕ) → HasDigits 16 hex_digit_of ys n w → 1 ≤ n → n ≤ 8
    → FirstNumber (48 ∷ 120 ∷ ys) (Some w) (take (length ys - n) (drop n ys))
hex_cut ys n w has some few =
    let long : length (take n ys) ≡ n = length-take-le n ys has.0 in
    let place : position_or_len is_space ys ≡ n = omega (arith, no_space 16 hex_digit_of 0 w n ys refl has.0 has.1, has.2) in
    let there : position_or_len is_space (48 ∷ 120 ∷ ys) ≡ suc (suc n) = omega (arith, place) in
    let pos : 0 < position_or_len is_space (48 ∷ 120 ∷ ys) = omega (arith, there) in (
      48 ∷ 120 ∷ take n ys,
      tokens_cut (48 ∷ 120 ∷ ys) pos ∙ ap (λ k. take k (48 ∷ 120 ∷ ys) ∷ tokens_of (drop k (48 ∷ 120 ∷ ys))) there
          ∙ ap (λ t. (48 ∷ 120 ∷ take n ys) ∷ tokens_of t) (sym (take_rest ys n)),
      hex_is (take n ys) w has.1 (omega (arith, long, some)) (omega (arith, long, few)) has.3,
    )

pub hex_first : (rest : List ℕ) (d e n w : ℕ) → 2 ≤ length rest → get_or rest 0 d ≡ 48 → get_or rest 1 e ≡ 120
    → HasDigits 16 hex_digit_of (take (length rest - 2) (drop 2 rest)) n w → 1 ≤ n → n ≤ 8 → HasToken rest w (n + 2)
hex_first [] d e n w two a b has some few = absurd (omega (arith, two))
hex_first (x ∷ []) d e n w two a b has some few = absurd (omega (arith, two))
hex_first (x ∷ y ∷ ys) d e n w two a b has some few =
    let all : take (length (x ∷ y ∷ ys) - 2) ys ≡ ys = take_rest (x ∷ y ∷ ys) 2 in
    let own : HasDigits 16 hex_digit_of ys n w = subst (λ t. HasDigits 16 hex_digit_of t n w) all has in
    let cut = hex_cut ys n w own some few in
    let more : n + 2 ≡ suc (suc n) = omega arith in
    let there : take (length (x ∷ y ∷ ys) - (n + 2)) (drop (n + 2) (x ∷ y ∷ ys)) ≡ take (length ys - n) (drop n ys) =
    take_rest (x ∷ y ∷ ys) (n + 2) ∙ ap (λ k. drop k (x ∷ y ∷ ys)) more ∙ sym (take_rest ys n) in
    let back : FirstNumber (x ∷ y ∷ ys) (Some w) (take (length ys - n) (drop n ys)) =
    subst (λ t. FirstNumber t (Some w) (take (length ys - n) (drop n ys))) (λ i. sym a i ∷ sym b i ∷ ys) cut in
    (omega (arith, own.0), omega (arith, few), own.3, subst (λ t. FirstNumber (x ∷ y ∷ ys) (Some w) t) (sym there) back)

-- a token ends where the first space stands
ends_at_space : (xs : List ℕ) → position_or_len is_space (drop (position_or_len is_space xs) xs) ≡ 0
ends_at_space [] = refl
ends_at_space (x ∷ xs) =
    elim (x == 32) as (λ b. (x == 32) ≡ b → position_or_len is_space (drop (cond (not b) (1 + position_or_len is_space xs) 0) (x ∷ xs)) ≡ 0) [
      | true ↦ λ t. ap (λ b. cond (not b) (1 + position_or_len is_space xs) 0) t
      | false ↦ λ _. let more : 1 + position_or_len is_space xs ≡ suc (position_or_len is_space xs) = omega arith in
          ap (λ k. position_or_len is_space (drop k (x ∷ xs))) more ∙ ends_at_space xs
    ] refl

abbrev number_in : Option ℕ → ℕ
number_in None = 0
number_in (Some n) = n

below_some : (o : Option ℕ) (w : ℕ) → Some w ≡ below (2 ^ 32) o → (o ≡ Some w) × (w < 2 ^ 32)
below_some None w h = absurd (not_some w (sym h))
below_some (Some n) w h =
    elim (nat_lt n (2 ^ 32)) as (λ b. nat_lt n (2 ^ 32) ≡ b → Some w ≡ cond b (Some n) None → (Some n ≡ Some w) × (w < 2 ^ 32)) [
      | true ↦ λ t e.
          let same : w ≡ n = ap number_in e in
          let less : n < 2 ^ 32 = ltb-true n (2 ^ 32) t in
          (sym e, omega (arith, same, less))
      | false ↦ λ _ e. absurd (not_some w (sym e))
    ] refl h

-- what the digits in front of a space or the end spell
has_hex : (xs : List ℕ) (n w : ℕ) → n ≤ length xs → position_or_len is_space (drop n xs) ≡ 0 → Some w ≡ below (2 ^ 32) (value_from 16 hex_digit_of 0 (take n xs))
    → HasDigits 16 hex_digit_of xs n w
has_hex xs n w le ends is =
    let some = below_some (value_from 16 hex_digit_of 0 (take n xs)) w is in
    (le, some.0, ends, some.1)

pub hex_before : (xs : List ℕ) (n w : ℕ) → n ≤ length xs → n ≡ position_or_len is_space xs → Some w ≡ below (2 ^ 32) (value_from 16 hex_digit_of 0 (take n xs))
    → HasDigits 16 hex_digit_of xs n w
hex_before xs n w le place is = has_hex xs n w le (ap (λ k. position_or_len is_space (drop k xs)) place ∙ ends_at_space xs) is

pub space_front : (x : ℕ) (xs : List ℕ) → x ≡ 32 → tokens_of (x ∷ xs) ≡ tokens_of xs
unfolding tokens_of
space_front x xs is = ap (λ k. filter has_bytes (cond (k == 32) ([] ∷ slice_split is_space xs) (onto_first k (slice_split is_space xs)))) is

-- a word of eight digits after a space
pub whole_word_first : (line : List ℕ) (a b c w : ℕ) → 11 ≤ length line → get_or line 0 a ≡ 32 → get_or line 1 b ≡ 48 → get_or line 2 c ≡ 120
    → position_or_len is_space (take (length line - 11) (drop 11 line)) ≡ 0 → Some w ≡ below (2 ^ 32) (value_from 16 hex_digit_of 0 (take 8 (drop 3 line)))
    → FirstNumber line (Some w) (take (length line - 11) (drop 11 line))
whole_word_first [] a b c w long first second third ends is = absurd (omega (arith, long))
whole_word_first (x ∷ []) a b c w long first second third ends is = absurd (omega (arith, long))
whole_word_first (x ∷ y ∷ []) a b c w long first second third ends is = absurd (omega (arith, long))
whole_word_first (x ∷ y ∷ z ∷ ys) a b c w long first second third ends is =
    let line : List ℕ = x ∷ y ∷ z ∷ ys in
    let there : take (length line - 11) (drop 8 ys) ≡ take (length ys - 8) (drop 8 ys) = take_rest line 11 ∙ sym (take_rest ys 8) in
    let has : HasDigits 16 hex_digit_of ys 8 w =
    has_hex ys 8 w (omega (arith, long)) (ap (λ t. position_or_len is_space t) (sym (take_rest line 11)) ∙ ends) is in
    let cut : FirstNumber (48 ∷ 120 ∷ ys) (Some w) (take (length ys - 8) (drop 8 ys)) = hex_cut ys 8 w has (omega arith) (omega arith) in
    (cut.0, space_front x (y ∷ z ∷ ys) first ∙ (λ i. tokens_of (second i ∷ third i ∷ ys)) ∙ cut.1 ∙ ap (λ t. cut.0 ∷ tokens_of t) (sym there), cut.2)

-- the number of the token after a space
pub packed_after : (line : List ℕ) (a n v : ℕ) → (length line == 0) ≡ false → get_or line 0 a ≡ 32 → HasToken (take (length line - 1) (drop 1 line)) v n
    → IsPacked line ((n + 1) * 2 ^ 32 + v)
packed_after [] a n v some is has = absurd (false≢true (sym some))
packed_after (x ∷ xs) a n v some is has = λ _.
    let packed = (n + 1) * 2 ^ 32 + v in
    let all : take (length (x ∷ xs) - 1) xs ≡ xs = take_rest (x ∷ xs) 1 in
    let own : HasToken xs v n = subst (λ t. HasToken t v n) all has in
    let place : packed / 2 ^ 32 ≡ suc n = omega (arith, own.2) in
    let value : packed % 2 ^ 32 ≡ v = omega (arith, own.2) in
    let there : take (length (x ∷ xs) - packed / 2 ^ 32) (drop (packed / 2 ^ 32) (x ∷ xs)) ≡ take (length xs - n) (drop n xs) =
    take_rest (x ∷ xs) (packed / 2 ^ 32) ∙ ap (λ k. drop k (x ∷ xs)) place ∙ sym (take_rest xs n) in (
      omega (arith, place, own.0),
      (own.3.0, space_front x xs is ∙ own.3.1 ∙ ap (λ t. own.3.0 ∷ tokens_of t) (sym there), ap Some value ∙ own.3.2),
    )

pub no_bytes : (line : List ℕ) → length line ≡ 0 → tokens_of line ≡ []
no_bytes [] h = tokens_none
no_bytes (x ∷ xs) h = absurd (omega (arith, h))

-- what the spaces in front of it leave of a line has the line's first token
pub first_after : (line : List ℕ) (start : ℕ) (number : Option ℕ) (after : List ℕ) → start ≡ position_or_len is_no_space line
    → FirstNumber (take (length line - start) (drop start line)) number after → FirstNumber line number after
first_after line start number after from first =
    let rest : take (length line - start) (drop start line) ≡ drop (position_or_len is_no_space line) line = take_rest line start ∙ ap (λ k. drop k line) from in
    (first.0, tokens_skip line ∙ ap tokens_of (sym rest) ∙ first.1, first.2)

one_space : (x y : ℕ) (rest : List ℕ) (d : ℕ) → x ≡ 32 → digit_of y ≡ Some d → 1 ≡ position_or_len is_no_space (x ∷ y ∷ rest)
one_space x y rest d is h =
    elim (y == 32) as (λ v. (y == 32) ≡ v → 1 ≡ cond (not (not (x == 32))) (1 + cond (not (not v)) (1 + position_or_len is_no_space rest) 0) 0) [
      | true ↦ λ t. absurd (not_some d (sym (ap digit_of (eqb-true y 32 t)) ∙ h))
      | false ↦ λ _. λ i. cond (not (not (sym is i == 32))) 1 0
    ] refl

-- a digit after a space, where the token ends with it, is the line's first token
pub one_digit_first : (line : List ℕ) (a e d : ℕ) → 2 ≤ length line → get_or line 0 a ≡ 32 → position_or_len is_space (take (length line - 2) (drop 2 line)) ≡ 0
    → digit_of (get_or line 1 e) ≡ Some d → d < 2 ^ 32 → FirstNumber line (Some d) (take (length line - 2) (drop 2 line))
one_digit_first [] a e d two first ends h small = absurd (omega (arith, two))
one_digit_first (x ∷ []) a e d two first ends h small = absurd (omega (arith, two))
one_digit_first (x ∷ y ∷ zs) a e d two first ends h small =
    let line : List ℕ = x ∷ y ∷ zs in
    let all : take (length line - 1) (y ∷ zs) ≡ y ∷ zs = take_rest line 1 in
    let after : take (length (y ∷ zs) - 1) zs ≡ take (length line - 2) zs = take_rest (y ∷ zs) 1 ∙ sym (take_rest line 2) in
    let own : 0 * 10 + d ≡ d = omega arith in
    let has : HasDigits 10 digit_of (y ∷ zs) 1 d = (
      omega arith,
      ap (λ (o : Option ℕ). option_and_then (λ w. Some (0 * 10 + w)) o) h ∙ ap Some own,
      ap (λ t. position_or_len is_space t) (sym (take_rest line 2)) ∙ ends,
      small,
    ) in
    let got : FirstNumber (y ∷ zs) (Some d) (take (length line - 2) zs) = subst (λ t. FirstNumber (y ∷ zs) (Some d) t) after (decimal_first (y ∷ zs) 1 d has (omega arith) (omega arith)) in
    first_after line 1 (Some d) (take (length line - 2) zs) (one_space x y zs d first h) (subst (λ t. FirstNumber t (Some d) (take (length line - 2) zs)) (sym all) got)
