-- A table of the hexadecimal digits.
use Rattle.std.proofs.Common.{◌≡◌, ℕ, zero, suc, ◌<◌, ◌==◌, Bool, true, nat_lt, ◌&&◌, List, [], ◌∷◌, Option, Some, None, slice_index_or, sym, ap, ◌∙◌, refl, subst, arith, inl, inr, eqb-true}
use Rattle.std.proofs.lemmas.Bool.{cases_lt, and_parts, ltb-true}
use Rattle.l4_text.specs.Numbers.{hex_digit_of}
use Rattle.l4_text.specs.Inside.Reading.{IsHexDigit}

-- the value of each byte, 2^32 where it is no digit
abbrev pub digit_table : List ℕ
digit_table =
    4294967296 ∷ 4294967296 ∷ 4294967296 ∷ 4294967296 ∷ 4294967296 ∷ 4294967296 ∷ 4294967296 ∷ 4294967296 ∷ 4294967296 ∷ 4294967296 ∷ 4294967296 ∷ 4294967296 ∷ 4294967296 ∷ 4294967296 ∷ 4294967296 ∷ 4294967296
    ∷ 4294967296 ∷ 4294967296 ∷ 4294967296 ∷ 4294967296 ∷ 4294967296 ∷ 4294967296 ∷ 4294967296 ∷ 4294967296 ∷ 4294967296 ∷ 4294967296 ∷ 4294967296 ∷ 4294967296 ∷ 4294967296 ∷ 4294967296 ∷ 4294967296 ∷ 4294967296
    ∷ 4294967296 ∷ 4294967296 ∷ 4294967296 ∷ 4294967296 ∷ 4294967296 ∷ 4294967296 ∷ 4294967296 ∷ 4294967296 ∷ 4294967296 ∷ 4294967296 ∷ 4294967296 ∷ 4294967296 ∷ 4294967296 ∷ 4294967296 ∷ 4294967296 ∷ 4294967296
    ∷ 0 ∷ 1 ∷ 2 ∷ 3 ∷ 4 ∷ 5 ∷ 6 ∷ 7 ∷ 8 ∷ 9 ∷ 4294967296 ∷ 4294967296 ∷ 4294967296 ∷ 4294967296 ∷ 4294967296 ∷ 4294967296
    ∷ 4294967296 ∷ 10 ∷ 11 ∷ 12 ∷ 13 ∷ 14 ∷ 15 ∷ 4294967296 ∷ 4294967296 ∷ 4294967296 ∷ 4294967296 ∷ 4294967296 ∷ 4294967296 ∷ 4294967296 ∷ 4294967296 ∷ 4294967296
    ∷ 4294967296 ∷ 4294967296 ∷ 4294967296 ∷ 4294967296 ∷ 4294967296 ∷ 4294967296 ∷ 4294967296 ∷ 4294967296 ∷ 4294967296 ∷ 4294967296 ∷ 4294967296 ∷ 4294967296 ∷ 4294967296 ∷ 4294967296 ∷ 4294967296 ∷ 4294967296
    ∷ 4294967296 ∷ 10 ∷ 11 ∷ 12 ∷ 13 ∷ 14 ∷ 15 ∷ 4294967296 ∷ 4294967296 ∷ 4294967296 ∷ 4294967296 ∷ 4294967296 ∷ 4294967296 ∷ 4294967296 ∷ 4294967296 ∷ 4294967296
    ∷ 4294967296 ∷ 4294967296 ∷ 4294967296 ∷ 4294967296 ∷ 4294967296 ∷ 4294967296 ∷ 4294967296 ∷ 4294967296 ∷ 4294967296 ∷ 4294967296 ∷ 4294967296 ∷ 4294967296 ∷ 4294967296 ∷ 4294967296 ∷ 4294967296 ∷ 4294967296
    ∷ 4294967296 ∷ 4294967296 ∷ 4294967296 ∷ 4294967296 ∷ 4294967296 ∷ 4294967296 ∷ 4294967296 ∷ 4294967296 ∷ 4294967296 ∷ 4294967296 ∷ 4294967296 ∷ 4294967296 ∷ 4294967296 ∷ 4294967296 ∷ 4294967296 ∷ 4294967296
    ∷ 4294967296 ∷ 4294967296 ∷ 4294967296 ∷ 4294967296 ∷ 4294967296 ∷ 4294967296 ∷ 4294967296 ∷ 4294967296 ∷ 4294967296 ∷ 4294967296 ∷ 4294967296 ∷ 4294967296 ∷ 4294967296 ∷ 4294967296 ∷ 4294967296 ∷ 4294967296
    ∷ 4294967296 ∷ 4294967296 ∷ 4294967296 ∷ 4294967296 ∷ 4294967296 ∷ 4294967296 ∷ 4294967296 ∷ 4294967296 ∷ 4294967296 ∷ 4294967296 ∷ 4294967296 ∷ 4294967296 ∷ 4294967296 ∷ 4294967296 ∷ 4294967296 ∷ 4294967296
    ∷ 4294967296 ∷ 4294967296 ∷ 4294967296 ∷ 4294967296 ∷ 4294967296 ∷ 4294967296 ∷ 4294967296 ∷ 4294967296 ∷ 4294967296 ∷ 4294967296 ∷ 4294967296 ∷ 4294967296 ∷ 4294967296 ∷ 4294967296 ∷ 4294967296 ∷ 4294967296
    ∷ 4294967296 ∷ 4294967296 ∷ 4294967296 ∷ 4294967296 ∷ 4294967296 ∷ 4294967296 ∷ 4294967296 ∷ 4294967296 ∷ 4294967296 ∷ 4294967296 ∷ 4294967296 ∷ 4294967296 ∷ 4294967296 ∷ 4294967296 ∷ 4294967296 ∷ 4294967296
    ∷ 4294967296 ∷ 4294967296 ∷ 4294967296 ∷ 4294967296 ∷ 4294967296 ∷ 4294967296 ∷ 4294967296 ∷ 4294967296 ∷ 4294967296 ∷ 4294967296 ∷ 4294967296 ∷ 4294967296 ∷ 4294967296 ∷ 4294967296 ∷ 4294967296 ∷ 4294967296
    ∷ 4294967296 ∷ 4294967296 ∷ 4294967296 ∷ 4294967296 ∷ 4294967296 ∷ 4294967296 ∷ 4294967296 ∷ 4294967296 ∷ 4294967296 ∷ 4294967296 ∷ 4294967296 ∷ 4294967296 ∷ 4294967296 ∷ 4294967296 ∷ 4294967296 ∷ 4294967296
    ∷ 4294967296 ∷ 4294967296 ∷ 4294967296 ∷ 4294967296 ∷ 4294967296 ∷ 4294967296 ∷ 4294967296 ∷ 4294967296 ∷ 4294967296 ∷ 4294967296 ∷ 4294967296 ∷ 4294967296 ∷ 4294967296 ∷ 4294967296 ∷ 4294967296 ∷ 4294967296 ∷ []

abbrev agrees : ℕ → Option ℕ → Bool
agrees value None = value == 4294967296
agrees value (Some d) = (value == d) && nat_lt d 16

agreed : (value byte : ℕ) (o : Option ℕ) → hex_digit_of byte ≡ o → agrees value o ≡ true → IsHexDigit byte value
agreed value byte None is h = inr (eqb-true value 4294967296 h, is)
agreed value byte (Some d) is h =
    let parts = and_parts (value == d) (nat_lt d 16) h in
    let same : value ≡ d = eqb-true value d parts.0 in
    let small : d < 16 = ltb-true d 16 parts.1 in
    inl (omega (arith, same, small), is ∙ ap Some (sym same))

-- whether the table has the digits of all bytes below a bound
abbrev pub has_digits : List ℕ → ℕ → ℕ → Bool
has_digits table other zero = true
has_digits table other (suc n) = agrees (slice_index_or table n other) (hex_digit_of n) && has_digits table other n

digit_at : (table : List ℕ) (other n byte : ℕ) → has_digits table other n ≡ true → byte < n → IsHexDigit byte (slice_index_or table byte other)
digit_at table other zero byte h less = absurd (omega (arith, less))
digit_at table other (suc n) byte h less =
    let parts = and_parts (agrees (slice_index_or table n other) (hex_digit_of n)) (has_digits table other n) h in
    elim (cases_lt byte n) [
      | inl below ↦ digit_at table other n byte parts.1 below
      | inr last ↦
          let at : n ≡ byte = omega (arith, less, last) in
          subst (λ k. IsHexDigit k (slice_index_or table k other)) at (agreed (slice_index_or table n other) n (hex_digit_of n) refl parts.0)
    ]

pub digit_in_table : (other byte : ℕ) → byte < 256 → IsHexDigit byte (slice_index_or digit_table byte other)
digit_in_table other byte less = digit_at digit_table other 256 byte refl less
