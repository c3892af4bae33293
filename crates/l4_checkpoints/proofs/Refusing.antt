-- Bytes that are no checkpoint.
use Rattle.std.proofs.Common.{◌≡◌, ◌≢◌, ℕ, ◌+◌, ◌*◌, ◌^◌, ◌/◌, ◌%◌, ◌<◌, ◌≤◌, List, ◌++◌, length, take, drop, get_or, refl, sym, ap, ◌∙◌, arith, inl, inr}
use Rattle.std.proofs.lemmas.List.{length-append, take_all, take_at, drop_at}
use Rattle.sha2.specs.Sha256.{sha256}
use Rattle.sha2.proofs.Facts256.{length-sha256}
use Rattle.l4_fpage.specs.Pages.{max_frames}
use Rattle.l4_fpage.specs.declared.sizes.PageSize.{PageSize}
use Rattle.l4_ipc.specs.Machine.{Machine}
use Rattle.l4_journal.proofs.RoundTrip.{place_again}
use Rattle.l4_record.specs.Sizes.{max_handed_out}
use Rattle.l4_segments.specs.Entries.{AreWords}
use Rattle.l4_segments.specs.Files.{bytes_of}
use Rattle.l4_segments.proofs.Readers.{length_bytes}
use Rattle.l4_segments.proofs.Same.{words_same}
use Rattle.l4_checkpoints.specs.Checkpoints.{heading_words, IsCheckpoint, IsNoCheckpoint}
use Rattle.l4_checkpoints.specs.Inside.Reading.{AreNoHeading, BeginsWith, EndsWrong}
use Rattle.l4_checkpoints.proofs.Same.{heading_fits, parts}

-- the length of a heading, this number of words, and a checksum
long : (head words : List ℕ) → length ((bytes_of head ++ bytes_of words) ++ sha256 (bytes_of head ++ bytes_of words)) ≡ 4 * length head + 4 * length words + 32
long head words =
    let body : List ℕ = bytes_of head ++ bytes_of words in
    omega (arith, length-append body (sha256 body), length-append (bytes_of head) (bytes_of words), length_bytes head, length_bytes words, length-sha256 body)

-- HEADINGS

pub too_short : (bytes : List ℕ) → length bytes < 32 → IsNoCheckpoint bytes
too_short bytes short frames entries m checkpoint =
    let words : List ℕ = checkpoint.written.words in
    let same = ap length checkpoint.written.bytes_are in
    omega (arith, short, same, long (heading_words frames m.size entries (length words)) words)

no_heading : (words : List ℕ) → AreNoHeading words → (frames : ℕ) (size : PageSize) (entries count : ℕ) → 1 ≤ frames → frames ≤ max_frames → entries ≤ max_handed_out
    → words ≢ heading_words frames size entries count
no_heading words wrong frames size entries count some few numbers = λ e.
    let two : get_or words 2 0 ≡ frames = ap (λ (l : List ℕ). get_or l 2 0) e in
    let four : get_or words 4 0 ≡ entries % 2 ^ 32 = ap (λ (l : List ℕ). get_or l 4 0) e in
    let five : get_or words 5 0 ≡ entries / 2 ^ 32 = ap (λ (l : List ℕ). get_or l 5 0) e in
    let again = place_again entries in
    elim wrong [
      | inl magic ↦ magic (ap (λ (l : List ℕ). get_or l 0 0) e)
      | inr (inl version) ↦ version (ap (λ (l : List ℕ). get_or l 1 0) e)
      | inr (inr (inl none)) ↦ omega (arith, none, two, some)
      | inr (inr (inr (inl many))) ↦ omega (arith, many, two, few)
      | inr (inr (inr (inr (inl pages)))) ↦ pages size (ap (λ (l : List ℕ). get_or l 3 0) e)
      | inr (inr (inr (inr (inr more)))) ↦ omega (arith, more, four, five, again, numbers)
    ]

-- the eight words with which a checkpoint begins
begins : (bytes words : List ℕ) → length words ≡ 8 → AreWords words → bytes ≡ bytes_of words ++ drop 32 bytes → (frames entries : ℕ) (m : Machine) → (c : IsCheckpoint frames entries m bytes)
    → words ≡ heading_words frames m.size entries (length c.written.words)
begins bytes words eight fit are frames entries m c =
    let v : List ℕ = c.written.words in
    (words_same words (heading_words frames m.size entries (length v)) _ _ eight fit (heading_fits frames m.size entries (length v) c.few c.numbers c.written.few)
    (sym are ∙ c.written.bytes_are ∙ parts frames m.size entries v)).0

pub other_heading : (bytes words : List ℕ) → length words ≡ 8 → AreWords words → bytes ≡ bytes_of words ++ drop 32 bytes → AreNoHeading words → IsNoCheckpoint bytes
other_heading bytes words eight fit are wrong frames entries m c =
    no_heading words wrong frames m.size entries (length c.written.words) c.some c.few c.numbers (begins bytes words eight fit are frames entries m c)

-- ENDS

pub other_length : (bytes : List ℕ) (count : ℕ) → length bytes ≢ 32 + 4 * count + 32 → EndsWrong bytes count
other_length bytes count other head words eight so_many = λ e.
    let same = ap length e in
    other (omega (arith, same, eight, so_many, long head words))

pub other_sum : (bytes digest : List ℕ) (count : ℕ) → digest ≡ sha256 (take (32 + 4 * count) bytes) → take (length digest) (drop (32 + 4 * count) bytes) ≢ digest → EndsWrong bytes count
other_sum bytes digest count summed other head words eight so_many = λ e.
    let body : List ℕ = bytes_of head ++ bytes_of words in
    let place : length body ≡ 32 + 4 * count = omega (arith, eight, so_many, length-append (bytes_of head) (bytes_of words), length_bytes head, length_bytes words) in
    let front : take (32 + 4 * count) bytes ≡ body = ap (take (32 + 4 * count)) e ∙ take_at body (sha256 body) (32 + 4 * count) place in
    let back : drop (32 + 4 * count) bytes ≡ sha256 body = ap (drop (32 + 4 * count)) e ∙ drop_at body (sha256 body) (32 + 4 * count) place in
    let sum : digest ≡ sha256 body = summed ∙ ap sha256 front in
    other (ap (take (length digest)) back ∙ ap (λ (l : List ℕ). take (length l) (sha256 body)) sum ∙ take_all (length (sha256 body)) (sha256 body) (omega arith) ∙ sym sum)

pub other_end : (bytes : List ℕ) (frames : ℕ) (size : PageSize) (entries count : ℕ) → BeginsWith bytes frames size entries count → EndsWrong bytes count → IsNoCheckpoint bytes
other_end bytes frames size entries count b wrong others more m c =
    let v : List ℕ = c.written.words in
    let head : List ℕ = heading_words others m.size more (length v) in
    let eight : length b.words ≡ 8 = ap length b.heading.words_are in
    let same : heading_words frames size entries count ≡ head = sym b.heading.words_are ∙ begins bytes b.words eight b.are_words b.bytes_are others more m c in
    let at : (i : ℕ) → get_or (heading_words frames size entries count) i 0 ≡ get_or head i 0 = λ i. ap (λ (l : List ℕ). get_or l i 0) same in
    let all : count ≡ length v = sym (place_again count) ∙ (λ i. at 6 i + 2 ^ 32 * at 7 i) ∙ place_again (length v) in
    wrong head v refl (sym all) c.written.bytes_are
