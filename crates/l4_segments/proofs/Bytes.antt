-- Words as bytes, one after another.
use Rattle.std.proofs.Common.{◌≡◌, ℕ, ◌+◌, ◌<◌, ◌≤◌, List, [], ◌∷◌, ◌++◌, length, take, drop, get_or, slice_get, Some, refl, sym, ap, ◌∙◌, subst}
use Rattle.std.specs.Int.{w32, to_le_bytes}
use Rattle.std.proofs.lemmas.List.{append_assoc, append-nil, drop_more, drop_all}
use Rattle.std.specs.List.{All}
use Rattle.std.proofs.lemmas.List.Elements.{All-more}
use Rattle.std.proofs.lemmas.Option.{slice_get_within, get_or_from_slice_get}
use Rattle.l4_journal.specs.Codes.{counted}
use Rattle.l4_record.specs.declared.entries.Entry.{Entry}
use Rattle.l4_segments.specs.Entries.{entry_code, EntryFits, AreWords, IsWritable}
use Rattle.sha2.specs.Sha256.{sha256}
use Rattle.l4_segments.specs.declared.files.Heading.{Heading}
use Rattle.l4_segments.specs.Files.{bytes_of, heading_code, entries_code, body_of, file_of}

pub bytes_append : (xs ys : List ℕ) → bytes_of (xs ++ ys) ≡ bytes_of xs ++ bytes_of ys
bytes_append [] ys = refl
bytes_append (x ∷ xs) ys = ap (λ (l : List ℕ). to_le_bytes w32 x ++ l) (bytes_append xs ys) ∙ sym (append_assoc (to_le_bytes w32 x) (bytes_of xs) (bytes_of ys))

-- one word more
pub word_more : (out out' first words : List ℕ) (i w : ℕ) → i < length words → w ≡ get_or words i w → out' ≡ out ++ to_le_bytes w32 w
    → out ++ bytes_of (drop i words) ≡ first → out' ++ bytes_of (drop (i + 1) words) ≡ first
word_more out out' first words i w lt is pushed so_far =
    let split : drop i words ≡ w ∷ drop (i + 1) words = drop_more words i w lt ∙ ap (λ (x : ℕ). x ∷ drop (i + 1) words) (sym is) in
    ap (λ (l : List ℕ). l ++ bytes_of (drop (i + 1) words)) pushed ∙ append_assoc out (to_le_bytes w32 w) (bytes_of (drop (i + 1) words))
    ∙ ap (λ (l : List ℕ). out ++ bytes_of l) (sym split) ∙ so_far

pub words_done : (out first words : List ℕ) (i : ℕ) → length words ≤ i → out ++ bytes_of (drop i words) ≡ first → out ≡ first
words_done out first words i past so_far = sym (append-nil out) ∙ ap (λ (l : List ℕ). out ++ bytes_of l) (sym (drop_all i words past)) ∙ so_far

-- one entry more
pub entry_more : (out out' first : List ℕ) (entries : List Entry) (place : ℕ) (entry : Entry) → slice_get entries place ≡ Some entry → out' ≡ out ++ bytes_of (counted (entry_code entry))
    → out ++ bytes_of (entries_code (drop place entries)) ≡ first → out' ++ bytes_of (entries_code (drop (place + 1) entries)) ≡ first
entry_more out out' first entries place entry at pushed so_far =
    let rest : List Entry = drop (place + 1) entries in
    let split : drop place entries ≡ entry ∷ rest =
    drop_more entries place entry (slice_get_within entries place entry at) ∙ ap (λ (e : Entry). e ∷ rest) (get_or_from_slice_get entries place entry entry at) in
    ap (λ (l : List ℕ). l ++ bytes_of (entries_code rest)) pushed ∙ append_assoc out (bytes_of (counted (entry_code entry))) (bytes_of (entries_code rest))
    ∙ ap (λ (l : List ℕ). out ++ l) (sym (bytes_append (counted (entry_code entry)) (entries_code rest)))
    ∙ ap (λ (l : List Entry). out ++ bytes_of (entries_code l)) (sym split) ∙ so_far

pub entries_done : (out first : List ℕ) (entries : List Entry) (place : ℕ) → length entries ≤ place → out ++ bytes_of (entries_code (drop place entries)) ≡ first → out ≡ first
entries_done out first entries place past so_far = sym (append-nil out) ∙ ap (λ (l : List Entry). out ++ bytes_of (entries_code l)) (sym (drop_all place entries past)) ∙ so_far

-- a list after its length
pub after_count : (out one two words : List ℕ) (count : ℕ) → count ≡ length words → one ≡ out ++ bytes_of (count ∷ []) → two ≡ one ++ bytes_of words → two ≡ out ++ bytes_of (counted words)
after_count out one two words count is first then =
    then ∙ ap (λ (l : List ℕ). l ++ bytes_of words) first ∙ append_assoc out (bytes_of (count ∷ [])) (bytes_of words)
    ∙ ap (λ (l : List ℕ). out ++ l) (sym (bytes_append (count ∷ []) words)) ∙ ap (λ (k : ℕ). out ++ bytes_of (k ∷ words)) is

-- a whole file
pub written : (h g : Heading) (entries : List Entry) (none words first second read digest all : List ℕ) → none ≡ [] → words ≡ heading_code h → first ≡ none ++ bytes_of words
    → second ≡ first ++ bytes_of (entries_code entries) → read ≡ second → digest ≡ sha256 read → all ≡ second ++ digest → h ≡ g → all ≡ file_of g entries
written h g entries none words first second read digest all empty heading begun body same summed done is =
    let start : first ≡ bytes_of (heading_code h) = begun ∙ (λ i. empty i ++ bytes_of (heading i)) in
    let whole : second ≡ body_of h entries = body ∙ ap (λ (l : List ℕ). l ++ bytes_of (entries_code entries)) start in
    done ∙ (λ i. whole i ++ (summed ∙ ap sha256 (same ∙ whole)) i) ∙ ap (λ (x : Heading). file_of x entries) is

-- one entry more that can be written
pub each_more : (entries : List Entry) (place : ℕ) (entry : Entry) → slice_get entries place ≡ Some entry → (words : List ℕ) → words ≡ entry_code entry → EntryFits entry → AreWords words
    → All IsWritable (take place entries) → All IsWritable (take (place + 1) entries)
each_more entries place entry at words code fits all so_far =
    All-more IsWritable entries place entry (slice_get_within entries place entry at) so_far
    (subst IsWritable (sym (get_or_from_slice_get entries place entry entry at)) (record { fits = fits; words = subst AreWords code all }))
