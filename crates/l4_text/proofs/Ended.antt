-- Where the last whole line ends that was read.
use Rattle.std.proofs.Common.{◌≡◌, ℕ, zero, suc, ◌+◌, ◌-◌, ◌==◌, ◌<◌, ◌≤◌, true, false, List, [], ◌∷◌, length, get_or, sym, ap, ◌∙◌, arith}
use Rattle.std.specs.List.{slice_range}
use Rattle.std.proofs.lemmas.Bool.{false≢true}
use Rattle.std.proofs.lemmas.List.Edits.{get_or-between, length-between}
use Rattle.l4_text.specs.Lines.{NoNewline}
use Rattle.l4_text.specs.Inside.Reading.{EndsLines}

-- no byte is a newline, place by place
plain_by : (xs : List ℕ) → ((k : ℕ) → k < length xs → (get_or xs k 0 == 10) ≡ false) → NoNewline xs
plain_by [] each = tt
plain_by (x ∷ xs) each = (each 0 (omega arith), plain_by xs (λ k lt. each (suc k) (omega (arith, lt))))

not_plain : (xs : List ℕ) (k : ℕ) → k < length xs → (get_or xs k 0 == 10) ≡ true → NoNewline xs → ⊥
not_plain [] k lt ten plain = absurd (omega (arith, lt))
not_plain (x ∷ xs) zero lt ten plain = false≢true (sym plain.0 ∙ ten)
not_plain (x ∷ xs) (suc k) lt ten plain = not_plain xs k (omega (arith, lt)) ten plain.1

-- what is left of whole lines has a newline
pub line_left : (bytes : List ℕ) (start end lines : ℕ) → EndsLines bytes end lines → end ≤ length bytes → start < lines → NoNewline (slice_range bytes start end) → ⊥
line_left bytes start end lines e few lt =
    let place : ℕ = (lines - 1) - start in
    let within = e.within in
    let long : place < length (slice_range bytes start end) = omega (arith, lt, few, within, length-between bytes start end few) in
    let at : get_or (slice_range bytes start end) place 0 ≡ get_or bytes (start + place) 0 = get_or-between bytes start end place 0 (omega (arith, lt, within)) in
    let there : start + place ≡ lines - 1 = omega (arith, lt) in
    not_plain (slice_range bytes start end) place long (ap (λ (b : ℕ). b == 10) (at ∙ ap (λ (k : ℕ). get_or bytes k 0) there) ∙ e.last (λ none. omega (arith, lt, none)))

-- behind the whole lines there is none
pub none_left : (bytes : List ℕ) (start end lines : ℕ) → EndsLines bytes end lines → end ≤ length bytes → lines ≤ start → NoNewline (slice_range bytes start end)
none_left bytes start end lines e few le = plain_by (slice_range bytes start end) (λ k lt.
    let within : start + k < end = omega (arith, lt, few, length-between bytes start end few) in
    ap (λ (b : ℕ). b == 10) (get_or-between bytes start end k 0 within) ∙ e.after (start + k) (omega (arith, le)) within)

-- the bytes that were read stand in front of others
pub ends_more : (bytes : List ℕ) (end lines : ℕ) → end ≤ length bytes → EndsLines (slice_range bytes 0 end) (length (slice_range bytes 0 end)) lines → EndsLines bytes end lines
ends_more bytes end lines few e =
    let long : length (slice_range bytes 0 end) ≡ end = length-between bytes 0 end few ∙ (let n : end - 0 ≡ end = omega arith in n) in
    let within = e.within in
    let same : (k : ℕ) → k < end → (get_or bytes k 0 == 10) ≡ (get_or (slice_range bytes 0 end) k 0 == 10) = λ k lt.
    ap (λ (b : ℕ). b == 10) (sym (get_or-between bytes 0 end k 0 (omega (arith, lt)) ∙ ap (λ (n : ℕ). get_or bytes n 0) (let n : 0 + k ≡ k = omega arith in n))) in
    record {
      within = omega (arith, within, long);
      last = λ some. same (lines - 1) (omega (arith, within, long, some)) ∙ e.last some;
      after = λ k le lt. same k lt ∙ e.after k le (omega (arith, lt, long));
    }
