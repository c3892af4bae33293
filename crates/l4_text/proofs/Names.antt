-- A name that a text begins with.
use Rattle.std.proofs.Common.{◌≡◌, ℕ, suc, ◌+◌, ◌-◌, ◌≤◌, ◌==◌, true, false, not, cond, List, [], ◌∷◌, ◌++◌, length, get_or, take, drop, sym, ap, ◌∙◌, arith}
use Rattle.std.proofs.lemmas.List.{take-append-drop, take_rest}
use Rattle.std.specs.List.{position_or_len}
use Rattle.l4_text.specs.Tokens.{tokens_of, is_space}
use Rattle.l4_text.proofs.Parts.{tokens_cut}
use Rattle.l4_text.proofs.OneNumber.{space_front}
use Rattle.std.proofs.lemmas.Bool.{false≢true}

-- the first space stands behind the name
name_ends : (name rest : List ℕ) → position_or_len is_space name ≡ length name → position_or_len is_space rest ≡ 0
    → position_or_len is_space (name ++ rest) ≡ length name
name_ends [] rest none ends = ends
name_ends (x ∷ xs) rest none ends =
    elim (x == 32) as (λ b. cond (not b) (1 + position_or_len is_space xs) 0 ≡ suc (length xs)
    → cond (not b) (1 + position_or_len is_space (xs ++ rest)) 0 ≡ suc (length xs)) [
      | true ↦ λ same. absurd (omega (arith, same))
      | false ↦ λ same.
          let own : position_or_len is_space xs ≡ length xs = omega (arith, same) in
          omega (arith, name_ends xs rest own ends)
    ] none

-- the name is the first token
pub after_is : (text name : List ℕ) (n : ℕ) → 1 ≤ n → length name ≡ n → position_or_len is_space name ≡ n → take n text ≡ name
    → position_or_len is_space (take (length text - n) (drop n text)) ≡ 0 → tokens_of text ≡ name ∷ tokens_of (take (length text - n) (drop n text))
after_is text name n some long token front ends =
    let behind : take (length text - n) (drop n text) ≡ drop n text = take_rest text n in
    let whole : text ≡ name ++ drop n text = sym (take-append-drop n text) ∙ ap (λ t. t ++ drop n text) front in
    let place : position_or_len is_space text ≡ n =
    ap (position_or_len is_space) whole ∙ name_ends name (drop n text) (token ∙ sym long) (ap (position_or_len is_space) (sym behind) ∙ ends) ∙ long in
    tokens_cut text (omega (arith, place, some)) ∙ ap (λ k. take k text ∷ tokens_of (drop k text)) place ∙ ap (λ t. t ∷ tokens_of (drop n text)) front
    ∙ ap (λ t. name ∷ tokens_of t) (sym behind)

-- a space in front is no part of the tokens
pub after_space : (line : List ℕ) (a : ℕ) → (length line == 0) ≡ false → get_or line 0 a ≡ 32 → tokens_of line ≡ tokens_of (take (length line - 1) (drop 1 line))
after_space [] a some is = absurd (false≢true (sym some))
after_space (x ∷ xs) a some is = space_front x xs is ∙ ap tokens_of (sym (take_rest (x ∷ xs) 1))
