-- Files of segments, one after another.
use Rattle.std.proofs.Common.{◌≡◌, ◌≢◌, ◌⊎◌, Bool, true, false, cond, ℕ, ◌+◌, ◌-◌, ◌<◌, ◌≤◌, List, [], ◌∷◌, ◌++◌, length, take, drop, sym, ap, ◌∙◌, subst, arith, inl, inr}
use Rattle.std.specs.List.{All}
use Rattle.std.proofs.lemmas.List.{append_assoc, append-nil, length-append, length-drop, take-append-drop, drop-drop, take_all, drop_all}
use Rattle.std.proofs.lemmas.List.Elements.{All-nil, All-push, All-head, All-tail}
use Rattle.std.proofs.lemmas.Grind.{flat_map-append}
use Rattle.sha2.specs.Sha256.{sha256}
use Rattle.sha2.proofs.Facts256.{length-sha256}
use Rattle.l4_record.specs.declared.entries.Entry.{Entry}
use Rattle.l4_segments.specs.declared.faults.FaultKind.{FaultKind}
use Rattle.l4_segments.specs.declared.faults.FaultKind.TheVariants.{NoMemory, Magic, Version, Frames, Pages, Numbers, Entry as AnEntry, Checksum, Cut, Extra}
use Rattle.l4_segments.specs.declared.faults.FileFault.{FileFault}
use Rattle.l4_segments.specs.declared.files.Heading.{Heading}
use Rattle.l4_segments.specs.Files.{bytes_of, heading_code, entries_code, body_of, file_of, IsSegment}
use Rattle.l4_segments.specs.Faults.{FieldFails, begins_as_file, HeadingFails, EntryKind, EntryFails, HasBegun, IsWrongSum, EndFails, Departs, IsNotExtra, BeginsNoFile, AreNoFiles, DepartsAfter}
use Rattle.l4_segments.specs.Saved.{Saved, saved_files, AreSegments}
use Rattle.l4_segments.specs.Inside.Reading.{EndsWithSum, ReadsFront}
use Rattle.l4_segments.proofs.Departing.{front, no_front}
use Rattle.l4_segments.proofs.Readers.{length_bytes}
use Rattle.l4_segments.proofs.Same.{front_same}

-- THE CHECKSUM

pub sum_ends : (bytes digest : List ℕ) (at : ℕ) → digest ≡ sha256 (take at bytes) → at + 32 ≤ length bytes → take (length digest) (drop at bytes) ≡ digest → EndsWithSum bytes at (at + 32)
sum_ends bytes digest at is within there =
    let long = length-sha256 (take at bytes) in
    record {
      end_is = omega (arith, long);
      within = within;
      sum = sym (take-append-drop 32 (drop at bytes))
          ∙ ap (λ (l : List ℕ). l ++ drop 32 (drop at bytes)) (ap (λ (n : ℕ). take n (drop at bytes)) (sym (ap length is ∙ long)) ∙ there ∙ is)
          ∙ ap (λ (l : List ℕ). sha256 (take at bytes) ++ l) (drop-drop 32 at bytes ∙ ap (λ (n : ℕ). drop n bytes) (omega arith));
    }

-- ONE FILE

pub front_file : (bytes : List ℕ) (h : Heading) (entries : List Entry) (end : ℕ) → ReadsFront bytes h entries end → bytes ≡ file_of h entries ++ drop end bytes
front_file bytes h entries end r =
    r.begins.bytes_are ∙ ap (λ (l : List ℕ). body_of h entries ++ l) (r.ends.sum ∙ ap (λ (l : List ℕ). sha256 l ++ drop end bytes) (front bytes h entries r.at r.begins))
    ∙ sym (append_assoc (body_of h entries) (sha256 (body_of h entries)) (drop end bytes))

pub front_segment : (bytes : List ℕ) (h : Heading) (entries : List Entry) (end : ℕ) → ReadsFront bytes h entries end → IsSegment h entries
front_segment bytes h entries end r = record { heading = r.begins.heading; count = r.all; each = r.begins.each }

-- nothing follows
pub only_file : (bytes : List ℕ) (s : Saved) (end : ℕ) → ReadsFront bytes s.heading s.entries end → length bytes ≤ end → IsSegment s.heading s.entries × (bytes ≡ file_of s.heading s.entries)
only_file bytes s end r all = (
  front_segment bytes s.heading s.entries end r,
  front_file bytes s.heading s.entries end r ∙ ap (λ (l : List ℕ). file_of s.heading s.entries ++ l) (drop_all end bytes all) ∙ append-nil (file_of s.heading s.entries),
)

-- something follows
pub extra_follows : (bytes : List ℕ) (h : Heading) (entries : List Entry) (end : ℕ) (fault : FileFault) → ReadsFront bytes h entries end → end < length bytes → fault.position ≡ end → fault.kind ≡ Extra → EndFails bytes fault
extra_follows bytes h entries end fault r more position kind =
    let end_is = r.ends.end_is in
    record {
      heading = h;
      entries = entries;
      at = r.at;
      begins = r.begins;
      all = r.all;
      wrong = subst (λ (k : FaultKind). IsWrongSum bytes r.at (sha256 (take r.at bytes)) k fault.position) (sym kind) (omega (arith, position, end_is), omega (arith, more, end_is));
    }

-- it has some bytes
pub front_some : (bytes : List ℕ) (h : Heading) (entries : List Entry) (end : ℕ) → ReadsFront bytes h entries end → 0 < end
front_some bytes h entries end r =
    let l = ap length r.begins.bytes_are in
    let within = r.begins.within in
    let end_is = r.ends.end_is in
    omega (arith, l, within, end_is, length-append (body_of h entries) (drop r.at bytes), length-drop r.at bytes, length-append (bytes_of (heading_code h)) (bytes_of (entries_code entries)), length_bytes (heading_code h))

-- WHERE A FAULT IS

field_within : (words : List ℕ) (kind : FaultKind) (at : ℕ) → FieldFails words kind at → (at ≤ 16) × IsNotExtra kind
field_within words Magic at fails = let is = fails.0 in (omega (arith, is), tt)
field_within words Version at fails = let is = fails.0 in (omega (arith, is), tt)
field_within words Frames at fails = let is = fails.0 in (omega (arith, is), tt)
field_within words Pages at fails = let is = fails.0 in (omega (arith, is), tt)
field_within words Numbers at fails = let is = fails.0 in (omega (arith, is), tt)
field_within words NoMemory at fails = absurd fails
field_within words AnEntry at fails = absurd fails
field_within words Checksum at fails = absurd fails
field_within words Cut at fails = absurd fails
field_within words Extra at fails = absurd fails

-- bytes that end within a heading
short_kind : (begins : Bool) → IsNotExtra (cond begins Cut Magic)
short_kind true = tt
short_kind false = tt

pub heading_within : (bytes : List ℕ) (fault : FileFault) → HeadingFails bytes fault → (fault.position ≤ length bytes) × IsNotExtra fault.kind
heading_within bytes fault (inl cut) = let is = cut.1 in (omega (arith, is), subst IsNotExtra (sym cut.0) (short_kind (begins_as_file bytes)))
heading_within bytes fault (inr field) =
    let at = field_within field.0 fault.kind fault.position field.4 in
    let small = at.0 in
    let eight = field.1 in
    let long = ap length field.3 in
    (omega (arith, small, eight, long, length-append (bytes_of field.0) (drop 32 bytes), length_bytes field.0), at.1)

entry_kind : (bytes : List ℕ) (at : ℕ) (kind : FaultKind) → EntryKind bytes at kind → IsNotExtra kind
entry_kind bytes at Cut is = tt
entry_kind bytes at AnEntry is = tt
entry_kind bytes at NoMemory is = absurd is
entry_kind bytes at Magic is = absurd is
entry_kind bytes at Version is = absurd is
entry_kind bytes at Frames is = absurd is
entry_kind bytes at Pages is = absurd is
entry_kind bytes at Numbers is = absurd is
entry_kind bytes at Checksum is = absurd is
entry_kind bytes at Extra is = absurd is

pub entry_other : (bytes : List ℕ) (fault : FileFault) → EntryFails bytes fault → IsNotExtra fault.kind
entry_other bytes fault fails = entry_kind bytes fault.position fault.kind fails.kind

-- SEVERAL FILES

-- the slice from a position on
pub from_on : (bytes : List ℕ) (at : ℕ) → take (length bytes - at) (drop at bytes) ≡ drop at bytes
from_on bytes at = take_all (length bytes - at) (drop at bytes) (omega (arith, length-drop at bytes))

-- this number of segments was read, and the last one ends at this position
pub record ReadSoFar (bytes : List ℕ) (segments : List Saved) (at : ℕ) : Type 0 where
  pub each : AreSegments segments
  pub begins : bytes ≡ saved_files segments ++ drop at bytes
  pub within : at ≤ length bytes

pub none_read : (bytes : List ℕ) (segments : List Saved) → segments ≡ [] → ReadSoFar bytes segments 0
none_read bytes segments none = record {
  each = subst AreSegments (sym none) (All-nil (λ (s : Saved). IsSegment s.heading s.entries));
  begins = ap (λ (l : List Saved). saved_files l ++ bytes) (sym none);
  within = omega arith;
}

pub one_read : (bytes : List ℕ) (segments more : List Saved) (s : Saved) (at len : ℕ) → ReadSoFar bytes segments at → ReadsFront (drop at bytes) s.heading s.entries len → more ≡ segments ++ s ∷ []
    → ReadSoFar bytes more (at + len)
one_read bytes segments more s at len so_far r is =
    let here = front_file (drop at bytes) s.heading s.entries len r in
    let all : saved_files more ≡ saved_files segments ++ file_of s.heading s.entries =
    ap saved_files is ∙ flat_map-append (λ (x : Saved). file_of x.heading x.entries) segments (s ∷ []) ∙ ap (λ (l : List ℕ). saved_files segments ++ l) (append-nil (file_of s.heading s.entries)) in
    let rest : drop len (drop at bytes) ≡ drop (at + len) bytes = drop-drop len at bytes ∙ ap (λ (n : ℕ). drop n bytes) (omega arith) in
    let within = r.ends.within in
    let before = so_far.within in
    record {
      each = subst AreSegments (sym is) (All-push (λ (x : Saved). IsSegment x.heading x.entries) segments s so_far.each (front_segment (drop at bytes) s.heading s.entries len r));
      begins = so_far.begins ∙ ap (λ (l : List ℕ). saved_files segments ++ l) (here ∙ ap (λ (l : List ℕ). file_of s.heading s.entries ++ l) rest)
          ∙ sym (append_assoc (saved_files segments) (file_of s.heading s.entries) (drop (at + len) bytes))
          ∙ ap (λ (l : List ℕ). l ++ drop (at + len) bytes) (sym all);
      within = omega (arith, within, before, length-drop at bytes);
    }

-- nothing was read yet, or something is left
abbrev pub IsLeft : List ℕ → List Saved → ℕ → Type 0
IsLeft bytes segments at = (segments ≡ []) ⊎ (at < length bytes)

pub all_read : (bytes : List ℕ) (segments : List Saved) (at : ℕ) → ReadSoFar bytes segments at → length bytes ≤ at → AreSegments segments × (bytes ≡ saved_files segments)
all_read bytes segments at so_far end = (
  so_far.each,
  so_far.begins ∙ ap (λ (l : List ℕ). saved_files segments ++ l) (drop_all at bytes end) ∙ append-nil (saved_files segments),
)

left_over : (bytes : List ℕ) (segments : List Saved) (at : ℕ) → IsLeft bytes segments at → (segments ≡ []) ⊎ (0 < length (drop at bytes))
left_over bytes segments at (inl none) = inl none
left_over bytes segments at (inr some) = inr (omega (arith, some, length-drop at bytes))

pub departs_after : (bytes : List ℕ) (segments : List Saved) (at : ℕ) (rest fault : FileFault) → ReadSoFar bytes segments at → IsLeft bytes segments at → Departs (drop at bytes) rest
    → IsNotExtra rest.kind → fault.position ≡ at + rest.position → fault.kind ≡ rest.kind → DepartsAfter bytes fault
departs_after bytes segments at rest fault so_far some departs other position kind =
    let long = ap length so_far.begins in
    let within = so_far.within in
    record {
      earlier = segments;
      each = so_far.each;
      left = drop at bytes;
      some = left_over bytes segments at some;
      bytes_are = so_far.begins;
      rest = rest;
      departs = departs;
      kind_is = kind;
      position_is = omega (arith, long, within, position, length-append (saved_files segments) (drop at bytes), length-drop at bytes);
      not_extra = subst IsNotExtra (sym kind) other;
    }

-- NO FILES

-- what follows some files is not the files of further segments
no_more : (earlier others : List Saved) (left : List ℕ) → AreSegments earlier → AreSegments others → 0 < length left → BeginsNoFile left → saved_files earlier ++ left ≢ saved_files others
no_more [] [] left each all some none = λ e. let l = ap length e in omega (arith, l, some)
no_more [] (t ∷ others) left each all some none = λ e. none t.heading t.entries (saved_files others) (All-head (λ (s : Saved). IsSegment s.heading s.entries) t others all) e
no_more (s ∷ earlier) [] left each all some none = λ e. let l = ap length e in omega (arith, l, some, length-append (saved_files (s ∷ earlier)) left)
no_more (s ∷ earlier) (t ∷ others) left each all some none = λ e.
    let same = front_same s.heading t.heading s.entries t.entries (saved_files earlier ++ left) (saved_files others) (All-head (λ (x : Saved). IsSegment x.heading x.entries) s earlier each)
    (All-head (λ (x : Saved). IsSegment x.heading x.entries) t others all) (sym (append_assoc (file_of s.heading s.entries) (saved_files earlier) left) ∙ e) in
    no_more earlier others left (All-tail (λ (x : Saved). IsSegment x.heading x.entries) s earlier each) (All-tail (λ (x : Saved). IsSegment x.heading x.entries) t others all) some none same.2

at_first : (earlier : List Saved) (left : List ℕ) → (earlier ≡ []) ⊎ (0 < length left) → AreSegments earlier → BeginsNoFile left → AreNoFiles (saved_files earlier ++ left)
at_first earlier left (inl empty) each none = λ first others all e.
    none first.heading first.entries (saved_files others) (All-head (λ (s : Saved). IsSegment s.heading s.entries) first others all)
    (ap (λ (l : List Saved). saved_files l ++ left) (sym empty) ∙ e)
at_first earlier left (inr some) each none = λ first others all. no_more earlier (first ∷ others) left each all some none

pub no_files : (bytes : List ℕ) (fault : FileFault) → DepartsAfter bytes fault → AreNoFiles bytes
no_files bytes fault d = λ first others all e.
    at_first d.earlier d.left d.some d.each (no_front d.left d.rest d.departs (subst IsNotExtra d.kind_is d.not_extra)) first others all (sym d.bytes_are ∙ e)
