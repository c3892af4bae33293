-- The lines of the text of answers, one after another.
use Rattle.std.proofs.Common.{◌≡◌, ◌⊎◌, ℕ, zero, suc, ◌+◌, ◌-◌, ◌==◌, ◌<◌, ◌≤◌, Bool, true, false, cond, not, nat_lt, min, List, [], ◌∷◌, ◌++◌, length, take, drop, inl, inr, refl, sym, ap, ◌∙◌, arith}
use Rattle.std.proofs.lemmas.Bool.Decides.{nat_tests}
use Rattle.std.proofs.lemmas.List.{nil_from_length, take_all, length-drop, length-take}
use Rattle.std.proofs.Math.ListN.{drop_of_length-le}
use Rattle.std.specs.List.{position_or_len}
use Rattle.l4_text.specs.Grammar.{TextLine, lines_of, in_front}

-- the first line of a text that has one, and those behind it
pub record Begins (text : List ℕ) (len : ℕ) : Type 0 where
  pub whole : Bool
  pub lines : lines_of text ≡ record { bytes = take len text; whole = whole } ∷ lines_of (drop (len + 1) text)
  pub piece : take len text ++ cond whole (10 ∷ []) [] ≡ take (len + 1) text

front : ℕ → List ℕ → Bool → TextLine
front k text whole = record { bytes = take k text; whole = whole }

begins_at : (byte : ℕ) (text : List ℕ) (ends : Bool) (n : ℕ) → (byte == 10) ≡ ends → n ≡ cond (not ends) (1 + position_or_len (λ b. b == 10) text) 0
    → ((some : 0 < length text) → Begins text (position_or_len (λ b. b == 10) text)) → Begins (byte ∷ text) n
unfolding front
begins_at byte text true n is n_is later = record {
  whole = true;
  lines =
      ap (λ v. cond v (record { bytes = []; whole = true } ∷ lines_of text) (in_front byte (lines_of text))) is
      ∙ sym (ap (λ k. front k (byte ∷ text) true ∷ lines_of (drop (k + 1) (byte ∷ text))) n_is);
  piece =
      let b : 10 ≡ byte = grind (arith, nat_tests) in
      ap (λ k. take k (byte ∷ text) ++ 10 ∷ []) n_is ∙ ap (λ x. x ∷ []) b ∙ sym (ap (λ k. take (k + 1) (byte ∷ text)) n_is);
}
begins_at byte [] false n is n_is later = record {
  whole = false;
  lines =
      ap (λ v. cond v (record { bytes = []; whole = true } ∷ []) (in_front byte [])) is
      ∙ sym (ap (λ k. front k (byte ∷ []) false ∷ lines_of (drop (k + 1) (byte ∷ []))) n_is);
  piece = ap (λ k. take k (byte ∷ []) ++ []) n_is ∙ sym (ap (λ k. take (k + 1) (byte ∷ [])) n_is);
}
begins_at byte (next ∷ text) false n is n_is later =
    let k = position_or_len (λ b. b == 10) (next ∷ text) in
    let b = later (omega arith) in
    let one : 1 + k ≡ suc k = omega arith in
    let n_suc : n ≡ suc k = n_is ∙ one in
    let more : suc (k + 1) ≡ suc k + 1 = omega arith in
    record {
      whole = b.whole;
      lines =
          ap (λ v. cond v (record { bytes = []; whole = true } ∷ lines_of (next ∷ text)) (in_front byte (lines_of (next ∷ text)))) is
          ∙ ap (in_front byte) b.lines
          ∙ ap (λ j. front (suc k) (byte ∷ next ∷ text) b.whole ∷ lines_of (drop j (byte ∷ next ∷ text))) more
          ∙ sym (ap (λ m. front m (byte ∷ next ∷ text) b.whole ∷ lines_of (drop (m + 1) (byte ∷ next ∷ text))) n_suc);
      piece =
          ap (λ m. take m (byte ∷ next ∷ text) ++ cond b.whole (10 ∷ []) []) n_suc ∙ ap (λ x. byte ∷ x) b.piece
          ∙ ap (λ j. take j (byte ∷ next ∷ text)) more ∙ sym (ap (λ m. take (m + 1) (byte ∷ next ∷ text)) n_suc);
    }

pub begins : (text : List ℕ) → 0 < length text → Begins text (position_or_len (λ b. b == 10) text)
begins [] some = absurd (omega (arith, some))
begins (byte ∷ text) some = begins_at byte text (byte == 10) (position_or_len (λ b. b == 10) (byte ∷ text)) refl refl (begins text)

lower : (a b : ℕ) → (a ≤ b) ⊎ (b ≤ a)
lower a b =
    elim (nat_lt b a) as (λ v. nat_lt b a ≡ v → (a ≤ b) ⊎ (b ≤ a)) [
      | true ↦ λ t. inr (let le : b ≤ a = grind (arith, nat_tests) in le)
      | false ↦ λ f. inl (let le : a ≤ b = grind (arith, nat_tests) in le)
    ] refl

-- what is behind the first line, as a slice
pub behind : (rest : List ℕ) (n m : ℕ) → m ≡ min (n + 1) (length rest) → take (length rest - m) (drop m rest) ≡ drop (n + 1) rest
behind rest n m is = elim (lower (n + 1) (length rest)) [
  | inl within ↦
      let same : m ≡ n + 1 = omega (arith, is, within) in
      let short : length (drop m rest) ≤ length rest - m = omega (arith, length-drop m rest) in
      take_all (length rest - m) (drop m rest) short ∙ ap (λ k. drop k rest) same
  | inr beyond ↦
      let all : length rest ≤ m = omega (arith, is, beyond) in
      let none : length (take (length rest - m) (drop m rest)) ≡ 0 = omega (arith, all, length-take (length rest - m) (drop m rest), length-drop m rest) in
      nil_from_length (take (length rest - m) (drop m rest)) none ∙ sym (drop_of_length-le rest beyond)
]

-- the first line with its newline, as a slice
pub front_piece : (rest : List ℕ) (n m : ℕ) → m ≡ min (n + 1) (length rest) → take m rest ≡ take (n + 1) rest
front_piece rest n m is = elim (lower (n + 1) (length rest)) [
  | inl within ↦ let same : m ≡ n + 1 = omega (arith, is, within) in ap (λ k. take k rest) same
  | inr beyond ↦ let all : length rest ≤ m = omega (arith, is, beyond) in take_all m rest all ∙ sym (take_all (n + 1) rest beyond)
]

-- a text that is not empty has bytes
pub some_left : (count : ℕ) (empty : Bool) → empty ≡ (count == 0) → empty ≡ false → 0 < count
some_left count empty is has = let f : (count == 0) ≡ false = sym is ∙ has in grind (arith, nat_tests)
