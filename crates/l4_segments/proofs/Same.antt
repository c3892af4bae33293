-- What the same bytes say: the same words, entries and headings.
use Rattle.std.proofs.Common.{◌≡◌, ℕ, ◌+◌, ◌*◌, ◌^◌, ◌/◌, ◌%◌, ◌<◌, ◌≤◌, List, [], ◌∷◌, ◌++◌, length, take, drop, get_or, refl, sym, ap, ◌∙◌, arith}
use Rattle.std.specs.Int.{w32, to_le_bytes, from_le_bytes}
use Rattle.std.specs.List.{All}
use Rattle.std.proofs.lemmas.List.{append_assoc, take_at, drop_at, take-append-drop, length-take-le}
use Rattle.std.proofs.lemmas.List.Elements.{All-nil, All-cons, All-append, All-head, All-tail, All-take}
use Rattle.std.proofs.lemmas.Nat.{from_le_bytes-to_le_bytes_4}
use Rattle.std.proofs.lemmas.Option.{same_Some}
use Rattle.sha2.specs.Sha256.{sha256}
use Rattle.l4_fpage.specs.Pages.{page_bytes}
use Rattle.l4_fpage.specs.declared.sizes.PageSize.{PageSize}
use Rattle.l4_fpage.specs.declared.sizes.PageSize.TheVariants.{Kib4, Kib1}
use Rattle.l4_journal.specs.Codes.{counted}
use Rattle.l4_journal.proofs.RoundTrip.{place_again}
use Rattle.l4_record.specs.declared.entries.Entry.{Entry}
use Rattle.l4_segments.specs.declared.files.Heading.{Heading}
use Rattle.l4_segments.specs.Entries.{entry_code, entry_at, AreWords, IsWritable}
use Rattle.l4_segments.specs.Files.{bytes_of, heading_code, entries_code, body_of, file_of, IsHeading, IsSegment}
use Rattle.l4_segments.proofs.RoundTrip.{entry_again, few_words}
use Rattle.l4_segments.proofs.Bytes.{bytes_append}

four : (x : ℕ) → length (to_le_bytes w32 x) ≡ 4
four x = refl

pub word_same : (x y : ℕ) (r s : List ℕ) → x < 2 ^ 32 → y < 2 ^ 32 → to_le_bytes w32 x ++ r ≡ to_le_bytes w32 y ++ s → (x ≡ y) × (r ≡ s)
word_same x y r s fx fy e =
    let front : to_le_bytes w32 x ≡ to_le_bytes w32 y = sym (take_at (to_le_bytes w32 x) r 4 (four x)) ∙ ap (take 4) e ∙ take_at (to_le_bytes w32 y) s 4 (four y) in
    let rest : r ≡ s = sym (drop_at (to_le_bytes w32 x) r 4 (four x)) ∙ ap (drop 4) e ∙ drop_at (to_le_bytes w32 y) s 4 (four y) in
    (sym (from_le_bytes-to_le_bytes_4 x fx) ∙ ap (from_le_bytes w32) front ∙ from_le_bytes-to_le_bytes_4 y fy, rest)

pub words_same : (xs ys r s : List ℕ) → length xs ≡ length ys → AreWords xs → AreWords ys → bytes_of xs ++ r ≡ bytes_of ys ++ s → (xs ≡ ys) × (r ≡ s)
words_same [] [] r s long fx fy e = (refl, e)
words_same [] (y ∷ ys) r s long fx fy e = absurd (omega (arith, long))
words_same (x ∷ xs) [] r s long fx fy e = absurd (omega (arith, long))
words_same (x ∷ xs) (y ∷ ys) r s long fx fy e =
    let opening : to_le_bytes w32 x ++ (bytes_of xs ++ r) ≡ to_le_bytes w32 y ++ (bytes_of ys ++ s) =
    sym (append_assoc (to_le_bytes w32 x) (bytes_of xs) r) ∙ e ∙ append_assoc (to_le_bytes w32 y) (bytes_of ys) s in
    let first = word_same x y (bytes_of xs ++ r) (bytes_of ys ++ s) (All-head (λ (w : ℕ). w < 2 ^ 32) x xs fx) (All-head (λ (w : ℕ). w < 2 ^ 32) y ys fy) opening in
    let rest = words_same xs ys r s (omega (arith, long)) (All-tail (λ (w : ℕ). w < 2 ^ 32) x xs fx) (All-tail (λ (w : ℕ). w < 2 ^ 32) y ys fy) first.1 in
    ((λ i. first.0 i ∷ rest.0 i), rest.1)

-- lists of words after their lengths
pub counted_same : (xs ys r s : List ℕ) → length xs < 2 ^ 32 → length ys < 2 ^ 32 → AreWords xs → AreWords ys → bytes_of (counted xs) ++ r ≡ bytes_of (counted ys) ++ s → (xs ≡ ys) × (r ≡ s)
counted_same xs ys r s lx ly fx fy e =
    let opening : to_le_bytes w32 (length xs) ++ (bytes_of xs ++ r) ≡ to_le_bytes w32 (length ys) ++ (bytes_of ys ++ s) =
    sym (append_assoc (to_le_bytes w32 (length xs)) (bytes_of xs) r) ∙ e ∙ append_assoc (to_le_bytes w32 (length ys)) (bytes_of ys) s in
    let first = word_same (length xs) (length ys) (bytes_of xs ++ r) (bytes_of ys ++ s) lx ly opening in
    words_same xs ys r s first.0 fx fy first.1

below : (entry : Entry) → IsWritable entry → length (entry_code entry) < 2 ^ 32
below entry w = let few = few_words entry w.fits in omega (arith, few)

pub entry_same : (entry other : Entry) (r s : List ℕ) → IsWritable entry → IsWritable other → bytes_of (counted (entry_code entry)) ++ r ≡ bytes_of (counted (entry_code other)) ++ s → (entry ≡ other) × (r ≡ s)
entry_same entry other r s w v e =
    let same = counted_same (entry_code entry) (entry_code other) r s (below entry w) (below other v) w.words v.words e in
    (same_Some entry other (sym (entry_again entry w.fits) ∙ ap entry_at same.0 ∙ entry_again other v.fits), same.1)

pub one_first : (entry : Entry) (entries : List Entry) (r : List ℕ) → bytes_of (entries_code (entry ∷ entries)) ++ r ≡ bytes_of (counted (entry_code entry)) ++ (bytes_of (entries_code entries) ++ r)
one_first entry entries r =
    ap (λ (l : List ℕ). l ++ r) (bytes_append (counted (entry_code entry)) (entries_code entries)) ∙ append_assoc (bytes_of (counted (entry_code entry))) (bytes_of (entries_code entries)) r

code_append : (entries others : List Entry) → entries_code (entries ++ others) ≡ entries_code entries ++ entries_code others
code_append [] others = refl
code_append (e ∷ entries) others =
    ap (λ (l : List ℕ). counted (entry_code e) ++ l) (code_append entries others) ∙ sym (append_assoc (counted (entry_code e)) (entries_code entries) (entries_code others))

-- entries in two parts
pub entries_split : (entries others : List Entry) (r : List ℕ) → bytes_of (entries_code (entries ++ others)) ++ r ≡ bytes_of (entries_code entries) ++ (bytes_of (entries_code others) ++ r)
entries_split entries others r =
    ap (λ (l : List ℕ). bytes_of l ++ r) (code_append entries others) ∙ ap (λ (l : List ℕ). l ++ r) (bytes_append (entries_code entries) (entries_code others))
    ∙ append_assoc (bytes_of (entries_code entries)) (bytes_of (entries_code others)) r

pub entries_same : (entries others : List Entry) (r s : List ℕ) → length entries ≡ length others → All IsWritable entries → All IsWritable others
    → bytes_of (entries_code entries) ++ r ≡ bytes_of (entries_code others) ++ s → (entries ≡ others) × (r ≡ s)
entries_same [] [] r s long fx fy e = (refl, e)
entries_same [] (y ∷ ys) r s long fx fy e = absurd (omega (arith, long))
entries_same (x ∷ xs) [] r s long fx fy e = absurd (omega (arith, long))
entries_same (x ∷ xs) (y ∷ ys) r s long fx fy e =
    let opening = sym (one_first x xs r) ∙ e ∙ one_first y ys s in
    let first = entry_same x y (bytes_of (entries_code xs) ++ r) (bytes_of (entries_code ys) ++ s) (All-head IsWritable x xs fx) (All-head IsWritable y ys fy) opening in
    let rest = entries_same xs ys r s (omega (arith, long)) (All-tail IsWritable x xs fx) (All-tail IsWritable y ys fy) first.1 in
    ((λ i. first.0 i ∷ rest.0 i), rest.1)

-- HEADINGS

size_same : (size other : PageSize) → page_bytes size ≡ page_bytes other → size ≡ other
size_same Kib4 Kib4 e = refl
size_same Kib4 Kib1 e = absurd (omega (arith, e))
size_same Kib1 Kib4 e = absurd (omega (arith, e))
size_same Kib1 Kib1 e = refl

bytes_word : (size : PageSize) → page_bytes size < 2 ^ 32
bytes_word Kib4 = omega arith
bytes_word Kib1 = omega arith

pub heading_words : (h : Heading) → IsHeading h → AreWords (heading_code h)
heading_words h is =
    let few = is.few in
    let numbers = is.numbers in
    let word : ℕ → Type 0 = λ (w : ℕ). w < 2 ^ 32 in
    let bytes : ℕ = page_bytes h.size in
    let first : List ℕ = h.first % 2 ^ 32 ∷ h.first / 2 ^ 32 ∷ [] in
    let count : List ℕ = h.count % 2 ^ 32 ∷ h.count / 2 ^ 32 ∷ [] in
    let upper_first : h.first / 2 ^ 32 < 2 ^ 32 = omega (arith, numbers) in
    let upper_count : h.count / 2 ^ 32 < 2 ^ 32 = omega (arith, numbers) in
    let firsts : AreWords first = All-cons word (h.first % 2 ^ 32) (h.first / 2 ^ 32 ∷ []) (omega arith) (All-cons word (h.first / 2 ^ 32) [] upper_first (All-nil word)) in
    let counts : AreWords count = All-cons word (h.count % 2 ^ 32) (h.count / 2 ^ 32 ∷ []) (omega arith) (All-cons word (h.count / 2 ^ 32) [] upper_count (All-nil word)) in
    let places : AreWords (first ++ count) = All-append word first count firsts counts in
    All-cons word 877089612 (1 ∷ h.frames ∷ bytes ∷ (first ++ count)) (omega arith)
    (All-cons word 1 (h.frames ∷ bytes ∷ (first ++ count)) (omega arith)
    (All-cons word h.frames (bytes ∷ (first ++ count)) (omega (arith, few))
    (All-cons word bytes (first ++ count) (bytes_word h.size) places)))

pub code_same : (h g : Heading) → heading_code h ≡ heading_code g → h ≡ g
code_same h g e =
    let at : (i : ℕ) → get_or (heading_code h) i 0 ≡ get_or (heading_code g) i 0 = λ i. ap (λ (l : List ℕ). get_or l i 0) e in
    let frames : h.frames ≡ g.frames = at 2 in
    let size : h.size ≡ g.size = size_same h.size g.size (at 3) in
    let first : h.first ≡ g.first = sym (place_again h.first) ∙ (λ i. at 4 i + 2 ^ 32 * at 5 i) ∙ place_again g.first in
    let count : h.count ≡ g.count = sym (place_again h.count) ∙ (λ i. at 6 i + 2 ^ 32 * at 7 i) ∙ place_again g.count in
    λ i. record { frames = frames i; size = size i; first = first i; count = count i }

pub heading_same : (h g : Heading) (r s : List ℕ) → IsHeading h → IsHeading g → bytes_of (heading_code h) ++ r ≡ bytes_of (heading_code g) ++ s → (h ≡ g) × (r ≡ s)
heading_same h g r s is js e =
    let same = words_same (heading_code h) (heading_code g) r s refl (heading_words h is) (heading_words g js) e in
    (code_same h g same.0, same.1)

-- FILES

-- a file, or its beginning
pub opened : (h : Heading) (entries : List Entry) (r : List ℕ) → body_of h entries ++ r ≡ bytes_of (heading_code h) ++ (bytes_of (entries_code entries) ++ r)
opened h entries r = append_assoc (bytes_of (heading_code h)) (bytes_of (entries_code entries)) r

-- the heading of a file is that with which the bytes begin
pub heads_same : (h g : Heading) (entries others : List Entry) (r s : List ℕ) → IsHeading h → IsHeading g → body_of h entries ++ r ≡ body_of g others ++ s → h ≡ g
heads_same h g entries others r s is js e =
    (heading_same h g (bytes_of (entries_code entries) ++ r) (bytes_of (entries_code others) ++ s) is js (sym (opened h entries r) ∙ e ∙ opened g others s)).0

-- the first entries of a file are those with which the bytes begin
pub begin_same : (h g : Heading) (entries others : List Entry) (r s : List ℕ) → IsHeading h → IsHeading g → All IsWritable entries → All IsWritable others → length entries ≤ length others
    → body_of h entries ++ r ≡ body_of g others ++ s
    → (h ≡ g) × (entries ≡ take (length entries) others) × (r ≡ bytes_of (entries_code (drop (length entries) others)) ++ s)
begin_same h g entries others r s is js fx fy few e =
    let front : List Entry = take (length entries) others in
    let back : List Entry = drop (length entries) others in
    let heads = heading_same h g (bytes_of (entries_code entries) ++ r) (bytes_of (entries_code others) ++ s) is js (sym (opened h entries r) ∙ e ∙ opened g others s) in
    let split : bytes_of (entries_code others) ++ s ≡ bytes_of (entries_code front) ++ (bytes_of (entries_code back) ++ s) =
    ap (λ (l : List Entry). bytes_of (entries_code l) ++ s) (sym (take-append-drop (length entries) others)) ∙ entries_split front back s in
    let rest = entries_same entries front r (bytes_of (entries_code back) ++ s) (sym (length-take-le (length entries) others few)) fx (All-take IsWritable (length entries) others fy) (heads.1 ∙ split) in
    (heads.0, rest.0, rest.1)

pub file_same : (h g : Heading) (entries others : List Entry) → IsSegment h entries → IsSegment g others → file_of h entries ≡ file_of g others → (h ≡ g) × (entries ≡ others)
file_same h g entries others is js e =
    let heads = heading_same h g _ _ is.heading js.heading (sym (opened h entries (sha256 (body_of h entries))) ∙ e ∙ opened g others (sha256 (body_of g others))) in
    let many : length entries ≡ length others = is.count ∙ ap (λ (x : Heading). x.count) heads.0 ∙ sym js.count in
    (heads.0, (entries_same entries others _ _ many is.each js.each heads.1).0)

-- a file with which bytes begin
pub front_same : (h g : Heading) (entries others : List Entry) (r s : List ℕ) → IsSegment h entries → IsSegment g others → file_of h entries ++ r ≡ file_of g others ++ s
    → (h ≡ g) × (entries ≡ others) × (r ≡ s)
front_same h g entries others r s is js e =
    let sum : List ℕ = sha256 (body_of h entries) in
    let other : List ℕ = sha256 (body_of g others) in
    let parts : body_of h entries ++ (sum ++ r) ≡ body_of g others ++ (other ++ s) = sym (append_assoc (body_of h entries) sum r) ∙ e ∙ append_assoc (body_of g others) other s in
    let heads = heading_same h g _ _ is.heading js.heading (sym (opened h entries (sum ++ r)) ∙ parts ∙ opened g others (other ++ s)) in
    let many : length entries ≡ length others = is.count ∙ ap (λ (x : Heading). x.count) heads.0 ∙ sym js.count in
    let rest = entries_same entries others (sum ++ r) (other ++ s) many is.each js.each heads.1 in
    let sums : sum ≡ other = λ i. sha256 (body_of (heads.0 i) (rest.0 i)) in
    (heads.0, rest.0, sym (drop_at sum r (length sum) refl) ∙ ap (drop (length sum)) (rest.1 ∙ ap (λ (l : List ℕ). l ++ s) (sym sums)) ∙ drop_at sum s (length sum) refl)
