-- Bytes that depart from all files of segments.
use Rattle.std.proofs.Common.{◌≡◌, ◌≢◌, ℕ, ◌+◌, ◌^◌, ◌/◌, ◌%◌, ◌<◌, ◌≤◌, List, [], ◌∷◌, ◌++◌, length, take, drop, get_or, sym, ap, ◌∙◌, subst, arith, inl, inr}
use Rattle.std.specs.List.{All}
use Rattle.std.specs.Option.{option_to_list}
use Rattle.std.proofs.lemmas.List.{append_assoc, append-nil, length-append, length-drop, take_all, drop_all}
use Rattle.std.proofs.lemmas.List.Elements.{All-head, All-nil, All-push, All-drop}
use Rattle.std.proofs.Math.Seq.{take-append_seam}
use Rattle.sha2.specs.Sha256.{sha256}
use Rattle.l4_journal.specs.Codes.{counted}
use Rattle.l4_journal.proofs.RoundTrip.{place_again}
use Rattle.l4_record.specs.declared.entries.Entry.{Entry}
use Rattle.l4_segments.specs.declared.faults.FaultKind.{FaultKind}
use Rattle.l4_segments.specs.declared.faults.FaultKind.TheVariants.{NoMemory, Magic, Version, Frames, Pages, Numbers, Entry as AnEntry, Checksum, Cut, Extra}
use Rattle.l4_segments.specs.declared.faults.FileFault.{FileFault}
use Rattle.l4_segments.specs.declared.files.Heading.{Heading}
use Rattle.l4_segments.specs.Entries.{entry_code, entry_at, IsWritable}
use Rattle.l4_segments.specs.Files.{bytes_of, heading_code, entries_code, body_of, file_of, IsHeading, IsSegment}
use Rattle.l4_segments.specs.Faults.{IsNoFile, IsNotExtra, BeginsNoFile, FieldFails, HeadingFails, HasBegun, HasNoEntry, EntryFails, IsWrongSum, IsWrongEnd, EndFails, Departs}
use Rattle.l4_segments.specs.Inside.Reading.{BeginsWith, ReadsEntry}
use Rattle.l4_segments.proofs.Readers.{length_bytes}
use Rattle.l4_segments.proofs.Same.{words_same, one_first, entries_split, heading_words, heads_same, opened, begin_same}

-- HOW THE READER GOES ON

pub begun_none : (bytes : List ℕ) (h : Heading) (entries : List Entry) → entries ≡ [] → BeginsWith bytes h → HasBegun bytes h entries 32
begun_none bytes h entries empty begins = record {
  heading = begins.heading;
  each = subst (All IsWritable) (sym empty) (All-nil IsWritable);
  bytes_are = begins.bytes_are ∙ ap (λ (l : List ℕ). l ++ drop 32 bytes) (sym (append-nil (bytes_of (heading_code h)))) ∙ ap (λ (l : List Entry). body_of h l ++ drop 32 bytes) (sym empty);
  within = begins.within;
}

pub begun_more : (bytes : List ℕ) (h : Heading) (entries more : List Entry) (at next : ℕ) (words : List ℕ) → HasBegun bytes h entries at → (read : ReadsEntry bytes at words next)
    → more ≡ entries ++ option_to_list (entry_at words) → (length more ≡ length entries + 1) × HasBegun bytes h more next
begun_more bytes h entries more at next words begun read pushed =
    let e : Entry = read.entry in
    let here : List ℕ = bytes_of (counted (entry_code e)) in
    let is : more ≡ entries ++ e ∷ [] = pushed ∙ ap (λ o. entries ++ option_to_list o) read.reads in
    let body : bytes_of (entries_code (entries ++ e ∷ [])) ≡ bytes_of (entries_code entries) ++ here =
    sym (append-nil (bytes_of (entries_code (entries ++ e ∷ [])))) ∙ entries_split entries (e ∷ []) []
    ∙ ap (λ (l : List ℕ). bytes_of (entries_code entries) ++ l) (one_first e [] [] ∙ append-nil here) in
    let whole : body_of h (entries ++ e ∷ []) ≡ body_of h entries ++ here =
    ap (λ (l : List ℕ). bytes_of (heading_code h) ++ l) body ∙ sym (append_assoc (bytes_of (heading_code h)) (bytes_of (entries_code entries)) here) in (
      ap length is ∙ length-append entries (e ∷ []),
      record {
        heading = begun.heading;
        each = subst (All IsWritable) (sym is) (All-push IsWritable entries e begun.each read.writable);
        bytes_are = begun.bytes_are ∙ ap (λ (l : List ℕ). body_of h entries ++ l) read.bytes_are ∙ sym (append_assoc (body_of h entries) here (drop next bytes))
            ∙ ap (λ (l : List ℕ). l ++ drop next bytes) (sym whole ∙ ap (body_of h) (sym is));
        within = read.within;
      },
    )

-- HEADINGS

pub field_fails : (words : List ℕ) (kind : FaultKind) (at : ℕ) → FieldFails words kind at → (h : Heading) → IsHeading h → words ≢ heading_code h
field_fails words Magic at fails h is = λ e. fails.1 (ap (λ (l : List ℕ). get_or l 0 0) e)
field_fails words Version at fails h is = λ e. fails.1 (ap (λ (l : List ℕ). get_or l 1 0) e)
field_fails words Frames at fails h is = λ e.
    let two : get_or words 2 0 ≡ h.frames = ap (λ (l : List ℕ). get_or l 2 0) e in
    let some = is.some in
    let few = is.few in
    elim fails.1 [ inl z ↦ omega (arith, z, two, some) | inr m ↦ omega (arith, m, two, few) ]
field_fails words Pages at fails h is = λ e. fails.1 h.size (ap (λ (l : List ℕ). get_or l 3 0) e)
field_fails words Numbers at fails h is = λ e.
    let four : get_or words 4 0 ≡ h.first % 2 ^ 32 = ap (λ (l : List ℕ). get_or l 4 0) e in
    let five : get_or words 5 0 ≡ h.first / 2 ^ 32 = ap (λ (l : List ℕ). get_or l 5 0) e in
    let six : get_or words 6 0 ≡ h.count % 2 ^ 32 = ap (λ (l : List ℕ). get_or l 6 0) e in
    let seven : get_or words 7 0 ≡ h.count / 2 ^ 32 = ap (λ (l : List ℕ). get_or l 7 0) e in
    let first = place_again h.first in
    let count = place_again h.count in
    let numbers = is.numbers in
    let many = fails.1 in
    omega (arith, four, five, six, seven, first, count, numbers, many)
field_fails words NoMemory at fails h is = absurd fails
field_fails words AnEntry at fails h is = absurd fails
field_fails words Checksum at fails h is = absurd fails
field_fails words Cut at fails h is = absurd fails
field_fails words Extra at fails h is = absurd fails

heading_front : (bytes : List ℕ) (fault : FileFault) → HeadingFails bytes fault → BeginsNoFile bytes
heading_front bytes fault (inl cut) = λ h entries r segment e.
    let sum : List ℕ = sha256 (body_of h entries) in
    let long = ap length (e ∙ append_assoc (body_of h entries) sum r ∙ opened h entries (sum ++ r)) in
    let short = cut.2 in
    absurd (omega (arith, long, short, length-append (bytes_of (heading_code h)) (bytes_of (entries_code entries) ++ (sum ++ r)), length_bytes (heading_code h)))
heading_front bytes fault (inr field) = λ h entries r segment e.
    let words : List ℕ = field.0 in
    let sum : List ℕ = sha256 (body_of h entries) in
    let same = words_same words (heading_code h) (drop 32 bytes) (bytes_of (entries_code entries) ++ (sum ++ r)) field.1 field.2 (heading_words h segment.heading)
    (sym field.3 ∙ e ∙ append_assoc (body_of h entries) sum r ∙ opened h entries (sum ++ r)) in
    field_fails words fault.kind fault.position field.4 h segment.heading same.0

-- ENTRIES

-- the first of some entries, and what follows
first_is : (bytes : List ℕ) (at : ℕ) (entries : List Entry) (r : List ℕ) → 0 < length entries → All IsWritable entries → drop at bytes ≡ bytes_of (entries_code entries) ++ r → HasNoEntry bytes at → ⊥
first_is bytes at [] r some each is none = omega (arith, some)
first_is bytes at (e ∷ entries) r some each is none =
    none e (bytes_of (entries_code entries) ++ r) (All-head IsWritable e entries each) (is ∙ one_first e entries r)

entry_front : (bytes : List ℕ) (fault : FileFault) → EntryFails bytes fault → BeginsNoFile bytes
entry_front bytes fault fails = λ h entries r segment e.
    let many = fails.more in
    let counted_as = segment.count in
    let sum : List ℕ = sha256 (body_of h entries) in
    let read : body_of fails.heading fails.earlier ++ drop fault.position bytes ≡ body_of h entries ++ (sum ++ r) = sym fails.begins.bytes_are ∙ e ∙ append_assoc (body_of h entries) sum r in
    let heads = heads_same fails.heading h fails.earlier entries (drop fault.position bytes) (sum ++ r) fails.begins.heading segment.heading read in
    let count : fails.heading.count ≡ h.count = ap (λ (x : Heading). x.count) heads in
    let same = begin_same fails.heading h fails.earlier entries (drop fault.position bytes) (sum ++ r) fails.begins.heading segment.heading fails.begins.each segment.each
    (omega (arith, many, counted_as, count)) read in
    first_is bytes fault.position (drop (length fails.earlier) entries) (sum ++ r) (omega (arith, many, counted_as, count, length-drop (length fails.earlier) entries))
    (All-drop IsWritable (length fails.earlier) entries segment.each) same.2 fails.none

-- THE CHECKSUM

wrong_sum : (bytes : List ℕ) (at : ℕ) (sum : List ℕ) (kind : FaultKind) (position : ℕ) → at ≤ length bytes → IsWrongSum bytes at sum kind position → drop at bytes ≢ sum
wrong_sum bytes at sum Cut position within wrong = λ e. let short = wrong.1 in let long = ap length e in omega (arith, within, short, long, length-drop at bytes)
wrong_sum bytes at sum Checksum position within wrong = λ e. wrong.1 (ap (take (length sum)) e ∙ take_all (length sum) sum (omega arith))
wrong_sum bytes at sum Extra position within wrong = λ e. let more = wrong.1 in let long = ap length e in omega (arith, more, long, length-drop at bytes)
wrong_sum bytes at sum NoMemory position within wrong = absurd wrong
wrong_sum bytes at sum Magic position within wrong = absurd wrong
wrong_sum bytes at sum Version position within wrong = absurd wrong
wrong_sum bytes at sum Frames position within wrong = absurd wrong
wrong_sum bytes at sum Pages position within wrong = absurd wrong
wrong_sum bytes at sum Numbers position within wrong = absurd wrong
wrong_sum bytes at sum AnEntry position within wrong = absurd wrong

-- the bytes before the position are those of the heading and the entries
pub front : (bytes : List ℕ) (h : Heading) (entries : List Entry) (at : ℕ) → HasBegun bytes h entries at → take at bytes ≡ body_of h entries
front bytes h entries at begun =
    let body : List ℕ = body_of h entries in
    let l = ap length begun.bytes_are in
    let within = begun.within in
    let long : length body ≡ at = omega (arith, l, within, length-append body (drop at bytes), length-drop at bytes) in
    ap (take at) begun.bytes_are ∙ ap (λ (k : ℕ). take k (body ++ drop at bytes)) (sym long) ∙ take-append_seam body (drop at bytes)

-- what follows the entries is the checksum, and what follows the file
end_rest : (bytes : List ℕ) (fault : FileFault) (fails : EndFails bytes fault) (h : Heading) (entries : List Entry) (r : List ℕ) → IsSegment h entries → bytes ≡ file_of h entries ++ r
    → drop fails.at bytes ≡ sha256 (take fails.at bytes) ++ r
end_rest bytes fault fails h entries r segment e =
    let all = fails.all in
    let counted_as = segment.count in
    let sum : List ℕ = sha256 (body_of h entries) in
    let read : body_of fails.heading fails.entries ++ drop fails.at bytes ≡ body_of h entries ++ (sum ++ r) = sym fails.begins.bytes_are ∙ e ∙ append_assoc (body_of h entries) sum r in
    let heads = heads_same fails.heading h fails.entries entries (drop fails.at bytes) (sum ++ r) fails.begins.heading segment.heading read in
    let count : fails.heading.count ≡ h.count = ap (λ (x : Heading). x.count) heads in
    let many : length fails.entries ≡ length entries = all ∙ count ∙ sym counted_as in
    let same = begin_same fails.heading h fails.entries entries (drop fails.at bytes) (sum ++ r) fails.begins.heading segment.heading fails.begins.each segment.each (omega (arith, many)) read in
    let none : drop (length fails.entries) entries ≡ [] = drop_all (length fails.entries) entries (omega (arith, many)) in
    let end : drop fails.at bytes ≡ sum ++ r = same.2 ∙ ap (λ (l : List Entry). bytes_of (entries_code l) ++ (sum ++ r)) none in
    let entries_are : fails.entries ≡ entries = same.1 ∙ take_all (length fails.entries) entries (omega (arith, many)) in
    let summed : sum ≡ sha256 (take fails.at bytes) =
    ap sha256 ((λ i. body_of (sym heads i) (sym entries_are i)) ∙ sym (front bytes fails.heading fails.entries fails.at fails.begins)) in
    end ∙ ap (λ (l : List ℕ). l ++ r) summed

wrong_front : (bytes : List ℕ) (at : ℕ) (sum : List ℕ) (kind : FaultKind) (position : ℕ) (r : List ℕ) → at ≤ length bytes → IsWrongSum bytes at sum kind position → IsNotExtra kind
    → drop at bytes ≢ sum ++ r
wrong_front bytes at sum Cut position r within wrong other = λ e. let short = wrong.1 in let long = ap length e in omega (arith, within, short, long, length-drop at bytes, length-append sum r)
wrong_front bytes at sum Checksum position r within wrong other = λ e. wrong.1 (ap (take (length sum)) e ∙ take-append_seam sum r)
wrong_front bytes at sum Extra position r within wrong other = absurd other
wrong_front bytes at sum NoMemory position r within wrong other = absurd wrong
wrong_front bytes at sum Magic position r within wrong other = absurd wrong
wrong_front bytes at sum Version position r within wrong other = absurd wrong
wrong_front bytes at sum Frames position r within wrong other = absurd wrong
wrong_front bytes at sum Pages position r within wrong other = absurd wrong
wrong_front bytes at sum Numbers position r within wrong other = absurd wrong
wrong_front bytes at sum AnEntry position r within wrong other = absurd wrong

-- NO FILE

pub no_front : (bytes : List ℕ) (fault : FileFault) → Departs bytes fault → IsNotExtra fault.kind → BeginsNoFile bytes
no_front bytes fault (inl heading) other = heading_front bytes fault heading
no_front bytes fault (inr (inl entry)) other = entry_front bytes fault entry
no_front bytes fault (inr (inr end)) other = λ h entries r segment e.
    wrong_front bytes end.at (sha256 (take end.at bytes)) fault.kind fault.position r end.begins.within end.wrong other (end_rest bytes fault end h entries r segment e)

whole_front : (bytes : List ℕ) → BeginsNoFile bytes → IsNoFile bytes
whole_front bytes none = λ h entries segment e. none h entries [] segment (e ∙ sym (append-nil (file_of h entries)))

pub no_file : (bytes : List ℕ) (fault : FileFault) → Departs bytes fault → IsNoFile bytes
no_file bytes fault (inl heading) = whole_front bytes (heading_front bytes fault heading)
no_file bytes fault (inr (inl entry)) = whole_front bytes (entry_front bytes fault entry)
no_file bytes fault (inr (inr end)) = λ h entries segment e.
    let sum : List ℕ = sha256 (take end.at bytes) in
    wrong_sum bytes end.at sum fault.kind fault.position end.begins.within end.wrong (end_rest bytes fault end h entries [] segment (e ∙ sym (append-nil (file_of h entries))) ∙ append-nil sum)

pub end_is : (bytes : List ℕ) (h : Heading) (entries : List Entry) (at : ℕ) (fault : FileFault) → HasBegun bytes h entries at → length entries ≡ h.count → IsWrongEnd bytes at fault → EndFails bytes fault
end_is bytes h entries at fault begun all wrong = record { heading = h; entries = entries; at = at; begins = begun; all = all; wrong = wrong }
