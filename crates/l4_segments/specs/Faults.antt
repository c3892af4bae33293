-- Why bytes are not the file of a segment, and where they depart from all such files (this profile's own).
use Rattle.std.specs.Prelude.{◌≡◌, ◌≢◌, ◌≤◌, ◌<◌, ◌==◌, ◌||◌, ◌+◌, ◌*◌, ◌^◌, ◌⊎◌, ⊤, ℕ, Bool, codes, if◌then◌else◌, List, [], ◌∷◌, ◌++◌, length, take, drop, slice_index}
use Rattle.std.specs.List.{All, starts_with}
use Rattle.std.specs.Int.{w32, to_le_bytes}
use Rattle.sha2.specs.Sha256.{sha256}
use Rattle.l4_fpage.specs.Pages.{page_bytes, max_frames}
use Rattle.l4_fpage.specs.declared.sizes.PageSize.{PageSize}
use Rattle.l4_journal.specs.Codes.{counted}
use Rattle.l4_record.specs.Sizes.{max_handed_out}
use Rattle.l4_record.specs.declared.entries.Entry.{Entry}
use Rattle.l4_segments.specs.declared.faults.FaultKind.{FaultKind}
use Rattle.l4_segments.specs.declared.faults.FaultKind.TheVariants.{NoMemory, Magic, Version, Frames, Pages, Numbers, Entry as AnEntry, Checksum, Cut, Extra}
use Rattle.l4_segments.specs.declared.faults.FileFault.{FileFault}
use Rattle.l4_segments.specs.declared.files.Heading.{Heading}
use Rattle.l4_segments.specs.Entries.{entry_code, AreWords, IsWritable}
use Rattle.l4_segments.specs.Saved.{Saved, saved_files, AreSegments}
use Rattle.l4_segments.specs.Files.{bytes_of, body_of, file_of, IsHeading, IsSegment}

-- they are the file of no segment
abbrev pub IsNoFile : List ℕ → Type 0
IsNoFile bytes = (h : Heading) (entries : List Entry) → IsSegment h entries → bytes ≢ file_of h entries

-- the word at this position, of the eight words of a heading, is not one that a heading has there
abbrev pub FieldFails : List ℕ → FaultKind → ℕ → Type 0
FieldFails words Magic at = (at ≡ 0) × (slice_index words 0 ≢ 877089612)
FieldFails words Version at = (at ≡ 4) × (slice_index words 1 ≢ 1)
FieldFails words Frames at = (at ≡ 8) × ((slice_index words 2 ≡ 0) ⊎ (max_frames < slice_index words 2))
FieldFails words Pages at = (at ≡ 12) × ((size : PageSize) → slice_index words 3 ≢ page_bytes size)
FieldFails words Numbers at =
    (at ≡ 16) × (max_handed_out < slice_index words 4 + 2 ^ 32 * slice_index words 5 + (slice_index words 6 + 2 ^ 32 * slice_index words 7))
FieldFails words NoMemory at = ⊥
FieldFails words AnEntry at = ⊥
FieldFails words Checksum at = ⊥
FieldFails words Cut at = ⊥
FieldFails words Extra at = ⊥

-- the bytes begin with "LSG4", or end within it
abbrev pub begins_as_file : List ℕ → Bool
begins_as_file bytes = starts_with ◌==◌ bytes (codes "LSG4") || starts_with ◌==◌ (codes "LSG4") bytes

-- the bytes end within the heading, or one of its words is wrong
abbrev pub HeadingFails : List ℕ → FileFault → Type 0
HeadingFails bytes fault =
    ((fault.kind ≡ (if begins_as_file bytes then Cut else Magic)) × (fault.position ≡ 0) × (length bytes < 32))
    ⊎ ((words : List ℕ) × (length words ≡ 8) × AreWords words × (bytes ≡ bytes_of words ++ drop 32 bytes) × FieldFails words fault.kind fault.position)

-- the bytes begin with the heading and these entries, which end at the position
pub record HasBegun (bytes : List ℕ) (h : Heading) (entries : List Entry) (at : ℕ) : Type 0 where
  pub heading : IsHeading h
  pub each : All IsWritable entries
  pub bytes_are : bytes ≡ body_of h entries ++ drop at bytes
  pub within : at ≤ length bytes

-- no entry is at this position
abbrev pub HasNoEntry : List ℕ → ℕ → Type 0
HasNoEntry bytes at = (entry : Entry) (rest : List ℕ) → IsWritable entry → drop at bytes ≢ bytes_of (counted (entry_code entry)) ++ rest

-- the bytes end before the number of the entry's words, or before the last of these words
abbrev pub EndsWithin : List ℕ → ℕ → Type 0
EndsWithin bytes at =
    (length bytes < at + 4)
    ⊎ ((count : ℕ) × (drop at bytes ≡ to_le_bytes w32 count ++ drop (at + 4) bytes) × (length bytes < at + 4 + 4 * count))

-- how the entry is wrong
abbrev pub EntryKind : List ℕ → ℕ → FaultKind → Type 0
EntryKind bytes at Cut = EndsWithin bytes at
EntryKind bytes at AnEntry = ⊤
EntryKind bytes at NoMemory = ⊥
EntryKind bytes at Magic = ⊥
EntryKind bytes at Version = ⊥
EntryKind bytes at Frames = ⊥
EntryKind bytes at Pages = ⊥
EntryKind bytes at Numbers = ⊥
EntryKind bytes at Checksum = ⊥
EntryKind bytes at Extra = ⊥

-- the bytes begin with a heading and some of its entries; the next entry, at the position, is wrong
pub record EntryFails (bytes : List ℕ) (fault : FileFault) : Type 0 where
  pub heading : Heading
  pub earlier : List Entry
  pub begins : HasBegun bytes heading earlier fault.position
  pub more : length earlier < heading.count
  pub kind : EntryKind bytes fault.position fault.kind
  pub none : HasNoEntry bytes fault.position

-- what is wrong where this checksum should be, and where
abbrev pub IsWrongSum : List ℕ → ℕ → List ℕ → FaultKind → ℕ → Type 0
IsWrongSum bytes at sum Cut position = (position ≡ at) × (length bytes < at + length sum)
IsWrongSum bytes at sum Checksum position = (position ≡ at) × (take (length sum) (drop at bytes) ≢ sum)
IsWrongSum bytes at sum Extra position = (position ≡ at + length sum) × (at + length sum < length bytes)
IsWrongSum bytes at sum NoMemory position = ⊥
IsWrongSum bytes at sum Magic position = ⊥
IsWrongSum bytes at sum Version position = ⊥
IsWrongSum bytes at sum Frames position = ⊥
IsWrongSum bytes at sum Pages position = ⊥
IsWrongSum bytes at sum Numbers position = ⊥
IsWrongSum bytes at sum AnEntry position = ⊥

-- the bytes from this position on are not the checksum of those before it
abbrev pub IsWrongEnd : List ℕ → ℕ → FileFault → Type 0
IsWrongEnd bytes at fault = IsWrongSum bytes at (sha256 (take at bytes)) fault.kind fault.position

-- the bytes begin with a heading and all of its entries; what follows is wrong
pub record EndFails (bytes : List ℕ) (fault : FileFault) : Type 0 where
  pub heading : Heading
  pub entries : List Entry
  pub at : ℕ
  pub begins : HasBegun bytes heading entries at
  pub all : length entries ≡ heading.count
  pub wrong : IsWrongEnd bytes at fault

-- where the bytes depart from all files of segments: in the heading, in an entry, or after the entries
abbrev pub Departs : List ℕ → FileFault → Type 0
Departs bytes fault = HeadingFails bytes fault ⊎ EntryFails bytes fault ⊎ EndFails bytes fault

-- the fault is not that bytes follow
abbrev pub IsNotExtra : FaultKind → Type 0
IsNotExtra Extra = ⊥
IsNotExtra Magic = ⊤
IsNotExtra Version = ⊤
IsNotExtra Frames = ⊤
IsNotExtra Pages = ⊤
IsNotExtra Numbers = ⊤
IsNotExtra AnEntry = ⊤
IsNotExtra Checksum = ⊤
IsNotExtra Cut = ⊤
IsNotExtra NoMemory = ⊤

-- no file of a segment is at the beginning of the bytes
abbrev pub BeginsNoFile : List ℕ → Type 0
BeginsNoFile bytes = (h : Heading) (entries : List Entry) (rest : List ℕ) → IsSegment h entries → bytes ≢ file_of h entries ++ rest

-- they are not the files of one or more segments
abbrev pub AreNoFiles : List ℕ → Type 0
AreNoFiles bytes = (first : Saved) (others : List Saved) → AreSegments (first ∷ others) → bytes ≢ saved_files (first ∷ others)

-- The bytes begin with the files of some segments. Those that follow depart from all files of segments, and are some bytes, unless the files
-- are none.
pub record DepartsAfter (bytes : List ℕ) (fault : FileFault) : Type 0 where
  pub earlier : List Saved
  pub each : AreSegments earlier
  pub left : List ℕ
  pub some : (earlier ≡ []) ⊎ (0 < length left)
  pub bytes_are : bytes ≡ saved_files earlier ++ left
  pub rest : FileFault
  pub departs : Departs left rest
  pub kind_is : fault.kind ≡ rest.kind
  pub position_is : fault.position ≡ length (saved_files earlier) + rest.position
  pub not_extra : IsNotExtra fault.kind
