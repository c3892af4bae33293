-- The file of a segment, as C gets it (this profile's own).
use Rattle.std.specs.Prelude.{◌≡◌, ◌⊎◌, ℕ, List, length, codes, Option, None, Some}
use Rattle.l4_refusals.specs.Texts.{spelled}
use Rattle.l4_segments.specs.Files.{heading_of, file_of}
use Rattle.l4_seated_lock.specs.declared.handed.HandedSegment.{HandedSegment}
use Rattle.l4_c_queries.specs.Placed.{placed}
use Rattle.l4_c_queries.specs.declared.descending.CountResult.{CountResult}

-- the bytes of the segment's file, whose heading has the frames and the page size of its kernel
abbrev pub file_bytes : HandedSegment → List ℕ
file_bytes s = file_of (heading_of s.frames s.size s.segment.first (length s.segment.history.entries)) s.segment.history.entries

-- The file is written up to the length of the array, and all of its bytes are counted. If an allocation failed, nothing is written.
abbrev pub WritesFile : HandedSegment → List ℕ → CountResult → List ℕ → Type 0
WritesFile s old r new =
    ((r ≡ record { refusal = 0; count = length (file_bytes s) }) × (new ≡ placed (file_bytes s) old))
    ⊎ ((r ≡ record { refusal = spelled (codes "NoMemory"); count = 0 }) × (new ≡ old))

-- the same for the segment in a handle; an empty handle is refused (B1)
abbrev pub TellsFile : Option HandedSegment → List ℕ → CountResult → List ℕ → Type 0
TellsFile None old r new = (r ≡ record { refusal = spelled (codes "B1"); count = 0 }) × (new ≡ old)
TellsFile (Some s) old r new = WritesFile s old r new
