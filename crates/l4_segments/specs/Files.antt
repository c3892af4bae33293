-- The written form of a segment: words of four bytes, and a checksum (this profile's own).
use Rattle.std.specs.Prelude.{◌≡◌, ◌≤◌, ◌+◌, length, ℕ, List, ◌∷◌, ◌++◌}
use Rattle.std.specs.List.{flat_map, All}
use Rattle.std.specs.Int.{w32, to_le_bytes}
use Rattle.sha2.specs.Sha256.{sha256}
use Rattle.l4_fpage.specs.Pages.{page_bytes, max_frames}
use Rattle.l4_fpage.specs.declared.sizes.PageSize.{PageSize}
use Rattle.l4_journal.specs.Codes.{counted, place_code}
use Rattle.l4_record.specs.Sizes.{max_handed_out}
use Rattle.l4_record.specs.declared.entries.Entry.{Entry}
use Rattle.l4_segments.specs.declared.files.Heading.{Heading}
use Rattle.l4_segments.specs.Entries.{entry_code, IsWritable}

-- words as bytes, the lowest byte of each word first
abbrev pub bytes_of : List ℕ → List ℕ
bytes_of words = flat_map (to_le_bytes w32) words

abbrev pub heading_of : ℕ → PageSize → ℕ → ℕ → Heading
heading_of frames size first count = record { frames = frames; size = size; first = first; count = count }

-- the heading: "LSG4", the version of the form, the frames, the bytes of a page, the number of the first entry, and the number of entries
abbrev pub heading_code : Heading → List ℕ
heading_code h = 877089612 ∷ 1 ∷ h.frames ∷ page_bytes h.size ∷ (place_code h.first ++ place_code h.count)

-- each entry after the number of its words
abbrev pub entries_code : List Entry → List ℕ
entries_code entries = flat_map (λ entry. counted (entry_code entry)) entries

-- everything but the checksum
abbrev pub body_of : Heading → List Entry → List ℕ
body_of h entries = bytes_of (heading_code h) ++ bytes_of (entries_code entries)

-- the whole file: its last 32 bytes are the SHA-256 digest of all bytes before them
abbrev pub file_of : Heading → List Entry → List ℕ
file_of h entries = body_of h entries ++ sha256 (body_of h entries)

-- a kernel can have this number of frames, and recorders hand out entries with such numbers
pub record IsHeading (h : Heading) : Type 0 where
  pub some : 1 ≤ h.frames
  pub few : h.frames ≤ max_frames
  pub numbers : h.first + h.count ≤ max_handed_out

-- a segment: the entries are as many as the heading says, and each can be written
pub record IsSegment (h : Heading) (entries : List Entry) : Type 0 where
  pub heading : IsHeading h
  pub count : length entries ≡ h.count
  pub each : All IsWritable entries
