-- A table of the two decimal digits of each number below 100.
use Rattle.std.proofs.Common.{◌≡◌, ℕ, zero, suc, ◌+◌, ◌*◌, ◌/◌, ◌%◌, ◌<◌, List, [], ◌∷◌, get_or, slice_index_or, refl, arith}
use Rattle.std.proofs.lemmas.Nat.{le_bytes_2}
use Rattle.std.specs.Int.{to_le_bytes, w16}
use Rattle.l4_text.proofs.Tables.{entry_in}

-- the digits of each number as one number, the second digit's byte the higher
abbrev pub decimal_table : List ℕ
decimal_table =
    12336 ∷ 12592 ∷ 12848 ∷ 13104 ∷ 13360 ∷ 13616 ∷ 13872 ∷ 14128 ∷ 14384 ∷ 14640 ∷ 12337 ∷ 12593 ∷ 12849 ∷ 13105 ∷ 13361 ∷ 13617 ∷ 13873 ∷ 14129 ∷ 14385 ∷ 14641
    ∷ 12338 ∷ 12594 ∷ 12850 ∷ 13106 ∷ 13362 ∷ 13618 ∷ 13874 ∷ 14130 ∷ 14386 ∷ 14642 ∷ 12339 ∷ 12595 ∷ 12851 ∷ 13107 ∷ 13363 ∷ 13619 ∷ 13875 ∷ 14131 ∷ 14387 ∷ 14643
    ∷ 12340 ∷ 12596 ∷ 12852 ∷ 13108 ∷ 13364 ∷ 13620 ∷ 13876 ∷ 14132 ∷ 14388 ∷ 14644 ∷ 12341 ∷ 12597 ∷ 12853 ∷ 13109 ∷ 13365 ∷ 13621 ∷ 13877 ∷ 14133 ∷ 14389 ∷ 14645
    ∷ 12342 ∷ 12598 ∷ 12854 ∷ 13110 ∷ 13366 ∷ 13622 ∷ 13878 ∷ 14134 ∷ 14390 ∷ 14646 ∷ 12343 ∷ 12599 ∷ 12855 ∷ 13111 ∷ 13367 ∷ 13623 ∷ 13879 ∷ 14135 ∷ 14391 ∷ 14647
    ∷ 12344 ∷ 12600 ∷ 12856 ∷ 13112 ∷ 13368 ∷ 13624 ∷ 13880 ∷ 14136 ∷ 14392 ∷ 14648 ∷ 12345 ∷ 12601 ∷ 12857 ∷ 13113 ∷ 13369 ∷ 13625 ∷ 13881 ∷ 14137 ∷ 14393 ∷ 14649 ∷ []

abbrev pub digits_of : ℕ → ℕ
digits_of number = (48 + number / 10) + 256 * (48 + number % 10)

pub digits_at : (other number : ℕ) → number < 100 → slice_index_or decimal_table number other ≡ digits_of number
digits_at other number less = entry_in digits_of decimal_table other 100 number refl less

two_small : (a b : ℕ) → a < 256 → b < 256 → (i : ℕ) → get_or (a ∷ b ∷ []) i 0 < 256
two_small a b la lb zero = la
two_small a b la lb (suc zero) = lb
two_small a b la lb (suc (suc i)) = omega arith

-- the two bytes of such a number are the digits
pub decimal_bytes : (number n : ℕ) → number < 100 → n ≡ digits_of number → to_le_bytes w16 n ≡ (48 + number / 10) ∷ (48 + number % 10) ∷ []
decimal_bytes number n less is =
    le_bytes_2 ((48 + number / 10) ∷ (48 + number % 10) ∷ []) n refl (two_small (48 + number / 10) (48 + number % 10) (omega (arith, less)) (omega arith)) (omega (arith, is))
