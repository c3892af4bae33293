-- Words, headings and entries that are read from bytes.
use Rattle.std.proofs.Common.{◌≡◌, ◌≢◌, ℕ, zero, suc, ◌+◌, ◌*◌, ◌^◌, ◌/◌, ◌%◌, ◌<◌, ◌≤◌, List, [], ◌∷◌, ◌++◌, length, drop, get_or, refl, sym, ap, ◌∙◌, subst, arith, Some, None}
use Rattle.std.specs.Int.{w32, to_le_bytes, from_le_bytes}
use Rattle.std.proofs.lemmas.List.{append_assoc, append-nil, length-append, length-drop, drop_more, drop_all}
use Rattle.std.proofs.lemmas.Nat.{le_bytes_4}
use Rattle.std.proofs.lemmas.Option.{same_Some, none-some}
use Rattle.l4_fpage.specs.Pages.{page_bytes}
use Rattle.l4_journal.specs.Codes.{counted, place_code}
use Rattle.l4_record.specs.declared.entries.Entry.{Entry}
use Rattle.l4_segments.specs.declared.files.Heading.{Heading}
use Rattle.l4_segments.specs.Entries.{entry_code, entry_at, AreWords, EntryFits, IsWritable}
use Rattle.l4_segments.specs.Files.{bytes_of, heading_code}
use Rattle.l4_segments.specs.Faults.{HasNoEntry}
use Rattle.l4_segments.specs.Inside.Reading.{ReadsEntry}
use Rattle.l4_segments.proofs.RoundTrip.{entry_again, few_words}
use Rattle.l4_segments.proofs.Bytes.{bytes_append}
use Rattle.l4_segments.proofs.Same.{word_same, words_same}

pub length_bytes : (words : List ℕ) → length (bytes_of words) ≡ 4 * length words
length_bytes [] = refl
length_bytes (w ∷ words) = let more = length_bytes words in omega (arith, more, length-append (to_le_bytes w32 w) (bytes_of words))

-- WORDS

one_more : (bytes : List ℕ) (i j : ℕ) → i < length bytes → j ≡ i + 1 → drop i bytes ≡ get_or bytes i 0 ∷ drop j bytes
one_more bytes i j lt is = drop_more bytes i 0 lt ∙ ap (λ (k : ℕ). get_or bytes i 0 ∷ drop k bytes) (sym is)

four_at : (bytes : List ℕ) (at : ℕ) → at + 4 ≤ length bytes → drop at bytes ≡ get_or bytes at 0 ∷ get_or bytes (at + 1) 0 ∷ get_or bytes (at + 2) 0 ∷ get_or bytes (at + 3) 0 ∷ drop (at + 4) bytes
four_at bytes at within =
    one_more bytes at (at + 1) (omega (arith, within)) (omega arith)
    ∙ ap (λ (l : List ℕ). get_or bytes at 0 ∷ l) (one_more bytes (at + 1) (at + 2) (omega (arith, within)) (omega arith)
    ∙ ap (λ (l : List ℕ). get_or bytes (at + 1) 0 ∷ l) (one_more bytes (at + 2) (at + 3) (omega (arith, within)) (omega arith)
    ∙ ap (λ (l : List ℕ). get_or bytes (at + 2) 0 ∷ l) (one_more bytes (at + 3) (at + 4) (omega (arith, within)) (omega arith))))

four_fit : (a b c d : ℕ) → a < 256 → b < 256 → c < 256 → d < 256 → (i : ℕ) → get_or (a ∷ b ∷ c ∷ d ∷ []) i 0 < 256
four_fit a b c d fa fb fc fd zero = fa
four_fit a b c d fa fb fc fd (suc zero) = fb
four_fit a b c d fa fb fc fd (suc (suc zero)) = fc
four_fit a b c d fa fb fc fd (suc (suc (suc zero))) = fd
four_fit a b c d fa fb fc fd (suc (suc (suc (suc i)))) = omega arith

pub word_is : (bytes : List ℕ) (at word : ℕ) → at + 4 ≤ length bytes → ((i : ℕ) → get_or bytes i 0 < 256)
    → word ≡ from_le_bytes w32 (get_or bytes at 0 ∷ get_or bytes (at + 1) 0 ∷ get_or bytes (at + 2) 0 ∷ get_or bytes (at + 3) 0 ∷ [])
    → drop at bytes ≡ to_le_bytes w32 word ++ drop (at + 4) bytes
word_is bytes at word within fit is =
    let four : List ℕ = get_or bytes at 0 ∷ get_or bytes (at + 1) 0 ∷ get_or bytes (at + 2) 0 ∷ get_or bytes (at + 3) 0 ∷ [] in
    let back : to_le_bytes w32 word ≡ four =
    le_bytes_4 four word refl (four_fit (get_or bytes at 0) (get_or bytes (at + 1) 0) (get_or bytes (at + 2) 0) (get_or bytes (at + 3) 0) (fit at) (fit (at + 1)) (fit (at + 2)) (fit (at + 3))) is in
    four_at bytes at within ∙ ap (λ (l : List ℕ). l ++ drop (at + 4) bytes) (sym back)

-- one word more in a record
pub word_read : (bytes out more : List ℕ) (at i word : ℕ) → drop at bytes ≡ bytes_of out ++ drop (at + 4 * i) bytes
    → drop (at + 4 * i) bytes ≡ to_le_bytes w32 word ++ drop (at + 4 * i + 4) bytes → more ≡ out ++ word ∷ [] → drop at bytes ≡ bytes_of more ++ drop (at + 4 * (i + 1)) bytes
word_read bytes out more at i word so_far here pushed =
    let last : List ℕ = drop (at + 4 * i + 4) bytes in
    let both : bytes_of (out ++ word ∷ []) ≡ bytes_of out ++ to_le_bytes w32 word =
    bytes_append out (word ∷ []) ∙ ap (λ (l : List ℕ). bytes_of out ++ l) (append-nil (to_le_bytes w32 word)) in
    let next : at + 4 * i + 4 ≡ at + 4 * (i + 1) = omega arith in
    so_far ∙ ap (λ (l : List ℕ). bytes_of out ++ l) here ∙ sym (append_assoc (bytes_of out) (to_le_bytes w32 word) last)
    ∙ ap (λ (l : List ℕ). l ++ last) (sym both ∙ ap bytes_of (sym pushed)) ∙ ap (λ (k : ℕ). bytes_of more ++ drop k bytes) next

pub no_words : (bytes : List ℕ) (at : ℕ) → drop at bytes ≡ [] ++ drop (at + 4 * 0) bytes
no_words bytes at = let same : at ≡ at + 4 * 0 = omega arith in ap (λ (k : ℕ). drop k bytes) same

-- HEADINGS

eight : (ws : List ℕ) → length ws ≡ 8
    → ws ≡ get_or ws 0 0 ∷ get_or ws 1 0 ∷ get_or ws 2 0 ∷ get_or ws 3 0 ∷ get_or ws 4 0 ∷ get_or ws 5 0 ∷ get_or ws 6 0 ∷ get_or ws 7 0 ∷ []
eight ws long =
    one_more ws 0 1 (omega (arith, long)) refl
    ∙ ap (λ (l : List ℕ). get_or ws 0 0 ∷ l) (one_more ws 1 2 (omega (arith, long)) refl
    ∙ ap (λ (l : List ℕ). get_or ws 1 0 ∷ l) (one_more ws 2 3 (omega (arith, long)) refl
    ∙ ap (λ (l : List ℕ). get_or ws 2 0 ∷ l) (one_more ws 3 4 (omega (arith, long)) refl
    ∙ ap (λ (l : List ℕ). get_or ws 3 0 ∷ l) (one_more ws 4 5 (omega (arith, long)) refl
    ∙ ap (λ (l : List ℕ). get_or ws 4 0 ∷ l) (one_more ws 5 6 (omega (arith, long)) refl
    ∙ ap (λ (l : List ℕ). get_or ws 5 0 ∷ l) (one_more ws 6 7 (omega (arith, long)) refl
    ∙ ap (λ (l : List ℕ). get_or ws 6 0 ∷ l) (one_more ws 7 8 (omega (arith, long)) refl
    ∙ ap (λ (l : List ℕ). get_or ws 7 0 ∷ l) (drop_all 8 ws (omega (arith, long))))))))))

place_words : (lower upper place : ℕ) → lower < 2 ^ 32 → place ≡ lower + 2 ^ 32 * upper → place_code place ≡ lower ∷ upper ∷ []
place_words lower upper place fits is =
    let low : place % 2 ^ 32 ≡ lower = omega (arith, fits, is) in
    let high : place / 2 ^ 32 ≡ upper = omega (arith, fits, is) in
    λ i. low i ∷ high i ∷ []

pub heading_is : (ws : List ℕ) (h : Heading) → length ws ≡ 8 → ((i : ℕ) → get_or ws i 0 < 2 ^ 32) → get_or ws 0 0 ≡ 877089612 → get_or ws 1 0 ≡ 1
    → h.frames ≡ get_or ws 2 0 → get_or ws 3 0 ≡ page_bytes h.size → h.first ≡ get_or ws 4 0 + 2 ^ 32 * get_or ws 5 0 → h.count ≡ get_or ws 6 0 + 2 ^ 32 * get_or ws 7 0
    → ws ≡ heading_code h
heading_is ws h long fit magic version frames size first count =
    let f : place_code h.first ≡ get_or ws 4 0 ∷ get_or ws 5 0 ∷ [] = place_words (get_or ws 4 0) (get_or ws 5 0) h.first (fit 4) first in
    let n : place_code h.count ≡ get_or ws 6 0 ∷ get_or ws 7 0 ∷ [] = place_words (get_or ws 6 0) (get_or ws 7 0) h.count (fit 6) count in
    eight ws long ∙ (λ i. magic i ∷ version i ∷ sym frames i ∷ size i ∷ (sym f i ++ sym n i))

-- ENTRIES

module _ (bytes : List ℕ) (at count : ℕ) (fits : count < 2 ^ 32) (here : drop at bytes ≡ to_le_bytes w32 count ++ drop (at + 4) bytes) where
  -- an entry at the position has as many words as the first word says
  counts : (entry : Entry) (rest : List ℕ) → IsWritable entry → drop at bytes ≡ bytes_of (counted (entry_code entry)) ++ rest
      → (count ≡ length (entry_code entry)) × (drop (at + 4) bytes ≡ bytes_of (entry_code entry) ++ rest)
  counts entry rest w is =
      let few = few_words entry w.fits in
      word_same count (length (entry_code entry)) (drop (at + 4) bytes) (bytes_of (entry_code entry) ++ rest) fits (omega (arith, few))
      (sym here ∙ is ∙ append_assoc (to_le_bytes w32 (length (entry_code entry))) (bytes_of (entry_code entry)) rest)

  pub too_many : 144 < count → HasNoEntry bytes at
  too_many many = λ entry rest w is. let few = few_words entry w.fits in let same = (counts entry rest w is).0 in absurd (omega (arith, many, few, same))

  pub cut_words : length bytes < at + 4 + 4 * count → HasNoEntry bytes at
  cut_words short = λ entry rest w is.
      let c = counts entry rest w is in
      let same = c.0 in
      let long = ap length c.1 in
      absurd (omega (arith, short, same, long, length-drop (at + 4) bytes, length-append (bytes_of (entry_code entry)) rest, length_bytes (entry_code entry)))

  module _ (words : List ℕ) (all : AreWords words) (long : length words ≡ count) (read : drop (at + 4) bytes ≡ bytes_of words ++ drop (at + 4 + 4 * count) bytes) where
    -- an entry at the position has these words
    has_words : (entry : Entry) (rest : List ℕ) → IsWritable entry → drop at bytes ≡ bytes_of (counted (entry_code entry)) ++ rest → words ≡ entry_code entry
    has_words entry rest w is =
        let c = counts entry rest w is in
        (words_same words (entry_code entry) (drop (at + 4 + 4 * count) bytes) rest (long ∙ c.0) all w.words (sym read ∙ c.1)).0

    pub unread : entry_at words ≡ None → HasNoEntry bytes at
    unread none = λ entry rest w is.
        let same = has_words entry rest w is in
        let two : None ≡ Some entry = sym none ∙ ap entry_at same ∙ entry_again entry w.fits in
        absurd (none-some entry two)

    pub otherwise : (entry : Entry) (again : List ℕ) → entry_at words ≡ Some entry → again ≡ entry_code entry → words ≢ again → HasNoEntry bytes at
    otherwise e again reads written other = λ entry rest w is.
        let same = has_words entry rest w is in
        let one : e ≡ entry = same_Some e entry (sym reads ∙ ap entry_at same ∙ entry_again entry w.fits) in
        absurd (other (same ∙ ap entry_code (sym one) ∙ sym written))

    pub reads : (entry : Entry) (again : List ℕ) → EntryFits entry → entry_at words ≡ Some entry → again ≡ entry_code entry → words ≡ again → at + 4 + 4 * count ≤ length bytes
        → ReadsEntry bytes at words (at + 4 + 4 * count)
    reads entry again ok read_as written same within =
        let code : words ≡ entry_code entry = same ∙ written in
        let next : List ℕ = drop (at + 4 + 4 * count) bytes in record {
          entry = entry;
          writable = record { fits = ok; words = subst AreWords code all };
          words_are = code;
          reads = read_as;
          bytes_are = here ∙ ap (λ (l : List ℕ). to_le_bytes w32 count ++ l) read ∙ sym (append_assoc (to_le_bytes w32 count) (bytes_of words) next)
              ∙ ap (λ (k : ℕ). bytes_of (k ∷ words) ++ next) (sym long) ∙ ap (λ (l : List ℕ). bytes_of (counted l) ++ next) code;
          within = within;
        }

pub cut_count : (bytes : List ℕ) (at : ℕ) → length bytes < at + 4 → HasNoEntry bytes at
cut_count bytes at short = λ entry rest w is.
    let long = ap length is in
    absurd (omega (arith, short, long, length-drop at bytes, length-append (bytes_of (counted (entry_code entry))) rest, length_bytes (counted (entry_code entry))))
