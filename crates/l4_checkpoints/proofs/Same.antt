-- The same bytes are a checkpoint of one machine.
use Rattle.std.proofs.Common.{◌≡◌, ℕ, ◌+◌, ◌*◌, ◌^◌, ◌/◌, ◌%◌, ◌<◌, ◌≤◌, List, [], ◌∷◌, ◌++◌, length, get_or, refl, sym, ap, ◌∙◌, arith}
use Rattle.std.proofs.lemmas.List.{append_assoc}
use Rattle.std.proofs.lemmas.List.Elements.{All-nil, All-cons, All-append}
use Rattle.sha2.specs.Sha256.{sha256}
use Rattle.l4_fpage.specs.Pages.{page_bytes, max_frames}
use Rattle.l4_fpage.specs.declared.sizes.PageSize.{PageSize}
use Rattle.l4_fpage.specs.declared.sizes.PageSize.TheVariants.{Kib4, Kib1}
use Rattle.l4_ipc.specs.Machine.{Machine}
use Rattle.l4_journal.proofs.RoundTrip.{place_again}
use Rattle.l4_keys.proofs.Same.{same_kernel}
use Rattle.l4_record.specs.Sizes.{max_handed_out}
use Rattle.l4_segments.specs.Entries.{AreWords}
use Rattle.l4_segments.specs.Files.{bytes_of}
use Rattle.l4_segments.proofs.Same.{words_same}
use Rattle.l4_checkpoints.specs.Checkpoints.{heading_words, body_of, file_of, IsCheckpoint}

bytes_word : (size : PageSize) → page_bytes size < 2 ^ 32
bytes_word Kib4 = omega arith
bytes_word Kib1 = omega arith

-- the two words of a number
number_words : (n : ℕ) → n < 2 ^ 64 → AreWords (n % 2 ^ 32 ∷ n / 2 ^ 32 ∷ [])
number_words n few =
    let word : ℕ → Type 0 = λ (w : ℕ). w < 2 ^ 32 in
    let upper : n / 2 ^ 32 < 2 ^ 32 = omega (arith, few) in
    All-cons word (n % 2 ^ 32) (n / 2 ^ 32 ∷ []) (omega arith) (All-cons word (n / 2 ^ 32) [] upper (All-nil word))

pub heading_fits : (frames : ℕ) (size : PageSize) (entries count : ℕ) → frames ≤ max_frames → entries ≤ max_handed_out → count < 2 ^ 64 → AreWords (heading_words frames size entries count)
heading_fits frames size entries count few numbers short =
    let word : ℕ → Type 0 = λ (w : ℕ). w < 2 ^ 32 in
    let bytes : ℕ = page_bytes size in
    let first : List ℕ = entries % 2 ^ 32 ∷ entries / 2 ^ 32 ∷ [] in
    let last : List ℕ = count % 2 ^ 32 ∷ count / 2 ^ 32 ∷ [] in
    let places : AreWords (first ++ last) = All-append word first last (number_words entries (omega (arith, numbers))) (number_words count short) in
    All-cons word 877675340 (1 ∷ frames ∷ bytes ∷ (first ++ last)) (omega arith)
    (All-cons word 1 (frames ∷ bytes ∷ (first ++ last)) (omega arith)
    (All-cons word frames (bytes ∷ (first ++ last)) (omega (arith, few))
    (All-cons word bytes (first ++ last) (bytes_word size) places)))

-- the file in its parts
pub parts : (frames : ℕ) (size : PageSize) (entries : ℕ) (words : List ℕ) → file_of frames size entries words ≡ bytes_of (heading_words frames size entries (length words)) ++ (bytes_of words ++ sha256 (body_of frames size entries words))
parts frames size entries words = append_assoc (bytes_of (heading_words frames size entries (length words))) (bytes_of words) (sha256 (body_of frames size entries words))

pub same_checkpoint : (frames entries others more : ℕ) (m n : Machine) (bytes : List ℕ) → IsCheckpoint frames entries m bytes → IsCheckpoint others more n bytes → (frames ≡ others) × (entries ≡ more) × (m ≡ n)
same_checkpoint frames entries others more m n bytes a b =
    let v : List ℕ = a.written.words in
    let w : List ℕ = b.written.words in
    let head : List ℕ = heading_words frames m.size entries (length v) in
    let tops : List ℕ = heading_words others n.size more (length w) in
    let e = sym (parts frames m.size entries v) ∙ sym a.written.bytes_are ∙ b.written.bytes_are ∙ parts others n.size more w in
    let same = words_same head tops _ _ refl (heading_fits frames m.size entries (length v) a.few a.numbers a.written.few) (heading_fits others n.size more (length w) b.few b.numbers b.written.few) e in
    let at : (i : ℕ) → get_or head i 0 ≡ get_or tops i 0 = λ i. ap (λ (l : List ℕ). get_or l i 0) same.0 in
    let first : frames ≡ others = at 2 in
    let number : entries ≡ more = sym (place_again entries) ∙ (λ i. at 4 i + 2 ^ 32 * at 5 i) ∙ place_again more in
    let long : length v ≡ length w = sym (place_again (length v)) ∙ (λ i. at 6 i + 2 ^ 32 * at 7 i) ∙ place_again (length w) in
    let words = words_same v w _ _ long a.written.are_words b.written.are_words same.1 in
    (first, number, (same_kernel m n v w [] [] a.written.are_of_kernel b.written.are_of_kernel (ap (λ (l : List ℕ). l ++ []) words.0)).0)
