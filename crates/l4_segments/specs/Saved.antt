-- A segment that was read from a file (this profile's own).
use Rattle.std.specs.Prelude.{ℕ, List}
use Rattle.std.specs.List.{flat_map, All}
use Rattle.l4_record.specs.declared.entries.Entry.{Entry}
use Rattle.l4_segments.specs.declared.files.Heading.{Heading}
use Rattle.l4_segments.specs.Files.{file_of, IsSegment}

-- what a contract sees of it
pub record Saved : Type 0 where
  pub heading : Heading
  pub entries : List Entry

abbrev pub saved : Heading → List Entry → Saved
saved heading entries = record { heading = heading; entries = entries }

-- the files of segments, one after another
abbrev pub saved_files : List Saved → List ℕ
saved_files segments = flat_map (λ (s : Saved). file_of s.heading s.entries) segments

-- each can be a segment that a recorder handed out
abbrev pub AreSegments : List Saved → Type 0
AreSegments segments = All (λ (s : Saved). IsSegment s.heading s.entries) segments
