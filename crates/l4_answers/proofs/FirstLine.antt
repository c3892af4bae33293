-- The first line of the answers that are left.
use Rattle.std.proofs.Common.{◌≡◌, ℕ, suc, ◌+◌, ◌==◌, Bool, true, false, cond, not, ◌&&◌, List, [], ◌∷◌, ◌++◌, length, take, drop, refl, sym, ap, ap₂, ◌∙◌, arith}
use Rattle.std.specs.List.{position_or_len}
use Rattle.std.proofs.lemmas.Bool.{false≢true, true≢false}
use Rattle.std.proofs.lemmas.Slice.Eq.{bytes_eq-Decides}
use Rattle.std.proofs.lemmas.Bool.Decides.{nat_tests}
use Rattle.l4_answers.specs.Lines.{first_line, later_lines, is_next}

and_first : (a b : Bool) → (a && b) ≡ true → a ≡ true
and_first true b h = refl
and_first false b h = h

and_second : (a b : Bool) → (a && b) ≡ true → b ≡ true
and_second true b h = h
and_second false b h = absurd (false≢true h)

not_true : (a : Bool) → not a ≡ true → a ≡ false
not_true true h = absurd (false≢true h)
not_true false h = refl

-- a text with a newline begins with its first line
front_at : (byte : ℕ) (text : List ℕ) (n : ℕ) (ends : Bool) → (byte == 10) ≡ ends → n ≡ cond (not ends) (1 + position_or_len (λ b. b == 10) text) 0
    → ((length (take (position_or_len (λ b. b == 10) text) text) == length text) ≡ false → text ≡ (take (position_or_len (λ b. b == 10) text) text ++ 10 ∷ []) ++ drop (position_or_len (λ b. b == 10) text + 1) text)
    → (length (take n (byte ∷ text)) == length (byte ∷ text)) ≡ false → byte ∷ text ≡ (take n (byte ∷ text) ++ 10 ∷ []) ++ drop (n + 1) (byte ∷ text)
front_at byte text n true is n_is later h =
    let b : byte ≡ 10 = grind (arith, nat_tests) in
    ap (λ x. x ∷ text) b ∙ sym (ap (λ k. (take k (byte ∷ text) ++ 10 ∷ []) ++ drop (k + 1) (byte ∷ text)) n_is)
front_at byte text n false is n_is later h =
    let k = position_or_len (λ b. b == 10) text in
    let one : 1 + k ≡ suc k = omega arith in
    let n_suc : n ≡ suc k = n_is ∙ one in
    let longer : (suc (length (take k text)) == suc (length text)) ≡ false = ap (λ m. length (take m (byte ∷ text)) == length (byte ∷ text)) (sym n_suc) ∙ h in
    let shorter : (length (take k text) == length text) ≡ false = grind (arith, nat_tests) in
    let more : n + 1 ≡ suc (k + 1) = omega (arith, n_suc) in
    ap (λ x. byte ∷ x) (later shorter) ∙ sym (ap₂ (λ (a b : ℕ). (take a (byte ∷ text) ++ 10 ∷ []) ++ drop b (byte ∷ text)) n_suc more)

front_line : (text : List ℕ) → (length (first_line text) == length text) ≡ false → text ≡ (first_line text ++ 10 ∷ []) ++ later_lines text
front_line [] h = absurd (true≢false h)
front_line (byte ∷ text) h = front_at byte text (position_or_len (λ b. b == 10) (byte ∷ text)) (byte == 10) refl refl (front_line text) h

-- the next answer is in front of the others
pub next_in_front : (answer left : List ℕ) → is_next answer left ≡ true → left ≡ (answer ++ 10 ∷ []) ++ later_lines left
next_in_front answer left h =
    let same : answer ≡ first_line left = (bytes_eq-Decides answer (first_line left)).0 (and_second _ _ h) in
    front_line left (not_true _ (and_first _ _ h)) ∙ sym (ap (λ x. (x ++ 10 ∷ []) ++ later_lines left) same)
