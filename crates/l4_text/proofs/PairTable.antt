-- A table of the two hexadecimal digits of each byte.
use Rattle.std.proofs.Common.{◌≡◌, ℕ, zero, suc, ◌+◌, ◌*◌, ◌/◌, ◌%◌, ◌^◌, ◌<◌, true, false, cond, nat_lt, List, [], ◌∷◌, get_or, slice_index_or, ◌∙◌, refl, arith}
use Rattle.std.proofs.lemmas.Nat.{le_bytes_8}
use Rattle.std.specs.Int.{to_le_bytes, w64}
use Rattle.l4_text.specs.Texts.{hex_digit, word_text}
use Rattle.l4_text.proofs.Tables.{entry_in}

-- the digits of each byte as one number, the second digit's byte the higher
abbrev pub pair_table : List ℕ
pair_table =
    12336 ∷ 12592 ∷ 12848 ∷ 13104 ∷ 13360 ∷ 13616 ∷ 13872 ∷ 14128 ∷ 14384 ∷ 14640 ∷ 24880 ∷ 25136 ∷ 25392 ∷ 25648 ∷ 25904 ∷ 26160
    ∷ 12337 ∷ 12593 ∷ 12849 ∷ 13105 ∷ 13361 ∷ 13617 ∷ 13873 ∷ 14129 ∷ 14385 ∷ 14641 ∷ 24881 ∷ 25137 ∷ 25393 ∷ 25649 ∷ 25905 ∷ 26161
    ∷ 12338 ∷ 12594 ∷ 12850 ∷ 13106 ∷ 13362 ∷ 13618 ∷ 13874 ∷ 14130 ∷ 14386 ∷ 14642 ∷ 24882 ∷ 25138 ∷ 25394 ∷ 25650 ∷ 25906 ∷ 26162
    ∷ 12339 ∷ 12595 ∷ 12851 ∷ 13107 ∷ 13363 ∷ 13619 ∷ 13875 ∷ 14131 ∷ 14387 ∷ 14643 ∷ 24883 ∷ 25139 ∷ 25395 ∷ 25651 ∷ 25907 ∷ 26163
    ∷ 12340 ∷ 12596 ∷ 12852 ∷ 13108 ∷ 13364 ∷ 13620 ∷ 13876 ∷ 14132 ∷ 14388 ∷ 14644 ∷ 24884 ∷ 25140 ∷ 25396 ∷ 25652 ∷ 25908 ∷ 26164
    ∷ 12341 ∷ 12597 ∷ 12853 ∷ 13109 ∷ 13365 ∷ 13621 ∷ 13877 ∷ 14133 ∷ 14389 ∷ 14645 ∷ 24885 ∷ 25141 ∷ 25397 ∷ 25653 ∷ 25909 ∷ 26165
    ∷ 12342 ∷ 12598 ∷ 12854 ∷ 13110 ∷ 13366 ∷ 13622 ∷ 13878 ∷ 14134 ∷ 14390 ∷ 14646 ∷ 24886 ∷ 25142 ∷ 25398 ∷ 25654 ∷ 25910 ∷ 26166
    ∷ 12343 ∷ 12599 ∷ 12855 ∷ 13111 ∷ 13367 ∷ 13623 ∷ 13879 ∷ 14135 ∷ 14391 ∷ 14647 ∷ 24887 ∷ 25143 ∷ 25399 ∷ 25655 ∷ 25911 ∷ 26167
    ∷ 12344 ∷ 12600 ∷ 12856 ∷ 13112 ∷ 13368 ∷ 13624 ∷ 13880 ∷ 14136 ∷ 14392 ∷ 14648 ∷ 24888 ∷ 25144 ∷ 25400 ∷ 25656 ∷ 25912 ∷ 26168
    ∷ 12345 ∷ 12601 ∷ 12857 ∷ 13113 ∷ 13369 ∷ 13625 ∷ 13881 ∷ 14137 ∷ 14393 ∷ 14649 ∷ 24889 ∷ 25145 ∷ 25401 ∷ 25657 ∷ 25913 ∷ 26169
    ∷ 12385 ∷ 12641 ∷ 12897 ∷ 13153 ∷ 13409 ∷ 13665 ∷ 13921 ∷ 14177 ∷ 14433 ∷ 14689 ∷ 24929 ∷ 25185 ∷ 25441 ∷ 25697 ∷ 25953 ∷ 26209
    ∷ 12386 ∷ 12642 ∷ 12898 ∷ 13154 ∷ 13410 ∷ 13666 ∷ 13922 ∷ 14178 ∷ 14434 ∷ 14690 ∷ 24930 ∷ 25186 ∷ 25442 ∷ 25698 ∷ 25954 ∷ 26210
    ∷ 12387 ∷ 12643 ∷ 12899 ∷ 13155 ∷ 13411 ∷ 13667 ∷ 13923 ∷ 14179 ∷ 14435 ∷ 14691 ∷ 24931 ∷ 25187 ∷ 25443 ∷ 25699 ∷ 25955 ∷ 26211
    ∷ 12388 ∷ 12644 ∷ 12900 ∷ 13156 ∷ 13412 ∷ 13668 ∷ 13924 ∷ 14180 ∷ 14436 ∷ 14692 ∷ 24932 ∷ 25188 ∷ 25444 ∷ 25700 ∷ 25956 ∷ 26212
    ∷ 12389 ∷ 12645 ∷ 12901 ∷ 13157 ∷ 13413 ∷ 13669 ∷ 13925 ∷ 14181 ∷ 14437 ∷ 14693 ∷ 24933 ∷ 25189 ∷ 25445 ∷ 25701 ∷ 25957 ∷ 26213
    ∷ 12390 ∷ 12646 ∷ 12902 ∷ 13158 ∷ 13414 ∷ 13670 ∷ 13926 ∷ 14182 ∷ 14438 ∷ 14694 ∷ 24934 ∷ 25190 ∷ 25446 ∷ 25702 ∷ 25958 ∷ 26214 ∷ []

abbrev pub pair_of : ℕ → ℕ
pair_of byte = hex_digit (byte / 16) + 256 * hex_digit (byte % 16)

pub pair_at : (other byte : ℕ) → byte < 256 → slice_index_or pair_table byte other ≡ pair_of byte
pair_at other byte less = entry_in pair_of pair_table other 256 byte refl less

-- ---- the digits of a word

digit_small : (d : ℕ) → d < 16 → hex_digit d < 256
digit_small d less = elim (nat_lt d 10) as (λ b. cond b (48 + d) (87 + d) < 256) [
  | true ↦ omega (arith, less)
  | false ↦ omega (arith, less)
]

all_small : (a b c d e f g h : ℕ) → a < 256 → b < 256 → c < 256 → d < 256 → e < 256 → f < 256 → g < 256 → h < 256
    → (i : ℕ) → get_or (a ∷ b ∷ c ∷ d ∷ e ∷ f ∷ g ∷ h ∷ []) i 0 < 256
all_small a b c d e f g h la lb lc ld le lf lg lh zero = la
all_small a b c d e f g h la lb lc ld le lf lg lh (suc zero) = lb
all_small a b c d e f g h la lb lc ld le lf lg lh (suc (suc zero)) = lc
all_small a b c d e f g h la lb lc ld le lf lg lh (suc (suc (suc zero))) = ld
all_small a b c d e f g h la lb lc ld le lf lg lh (suc (suc (suc (suc zero)))) = le
all_small a b c d e f g h la lb lc ld le lf lg lh (suc (suc (suc (suc (suc zero))))) = lf
all_small a b c d e f g h la lb lc ld le lf lg lh (suc (suc (suc (suc (suc (suc zero)))))) = lg
all_small a b c d e f g h la lb lc ld le lf lg lh (suc (suc (suc (suc (suc (suc (suc zero))))))) = lh
all_small a b c d e f g h la lb lc ld le lf lg lh (suc (suc (suc (suc (suc (suc (suc (suc i)))))))) = omega arith

eight_bytes : (a b c d e f g h n : ℕ) → a < 256 → b < 256 → c < 256 → d < 256 → e < 256 → f < 256 → g < 256 → h < 256
    → n ≡ (a + 256 * b) + (c + 256 * d) * 65536 + (e + 256 * f) * 4294967296 + (g + 256 * h) * 281474976710656
    → to_le_bytes w64 n ≡ a ∷ b ∷ c ∷ d ∷ e ∷ f ∷ g ∷ h ∷ []
eight_bytes a b c d e f g h n la lb lc ld le lf lg lh is =
    le_bytes_8 (a ∷ b ∷ c ∷ d ∷ e ∷ f ∷ g ∷ h ∷ []) n refl (all_small a b c d e f g h la lb lc ld le lf lg lh) (omega (arith, is))

-- the pairs of a word's bytes are its digits
pub word_bytes : (w n : ℕ) → w < 2 ^ 32
    → n ≡ pair_of (w / 16777216) + pair_of (w / 65536 % 256) * 65536 + pair_of (w / 256 % 256) * 4294967296 + pair_of (w % 256) * 281474976710656
    → to_le_bytes w64 n ≡ word_text w
word_bytes w n small is =
    let a : w / 16777216 / 16 ≡ w / 2 ^ 28 % 16 = omega (arith, small) in
    let b : w / 16777216 % 16 ≡ w / 2 ^ 24 % 16 = omega arith in
    let c : w / 65536 % 256 / 16 ≡ w / 2 ^ 20 % 16 = omega arith in
    let d : w / 65536 % 256 % 16 ≡ w / 2 ^ 16 % 16 = omega arith in
    let e : w / 256 % 256 / 16 ≡ w / 2 ^ 12 % 16 = omega arith in
    let f : w / 256 % 256 % 16 ≡ w / 2 ^ 8 % 16 = omega arith in
    let g : w % 256 / 16 ≡ w / 2 ^ 4 % 16 = omega arith in
    let h : w % 256 % 16 ≡ w / 2 ^ 0 % 16 = omega arith in
    eight_bytes (hex_digit (w / 16777216 / 16)) (hex_digit (w / 16777216 % 16)) (hex_digit (w / 65536 % 256 / 16)) (hex_digit (w / 65536 % 256 % 16))
    (hex_digit (w / 256 % 256 / 16)) (hex_digit (w / 256 % 256 % 16)) (hex_digit (w % 256 / 16)) (hex_digit (w % 256 % 16)) n
    (digit_small _ (omega (arith, small))) (digit_small _ (omega arith)) (digit_small _ (omega arith)) (digit_small _ (omega arith))
    (digit_small _ (omega arith)) (digit_small _ (omega arith)) (digit_small _ (omega arith)) (digit_small _ (omega arith)) is
    ∙ (λ i. hex_digit (a i) ∷ hex_digit (b i) ∷ hex_digit (c i) ∷ hex_digit (d i) ∷ hex_digit (e i) ∷ hex_digit (f i) ∷ hex_digit (g i) ∷ hex_digit (h i) ∷ [])
