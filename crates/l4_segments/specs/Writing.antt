-- Segments that are written one after another (this profile's own).
use Rattle.std.specs.Prelude.{◌≡◌, ℕ, List, [], ◌++◌, length, Option, None}
use Rattle.std.specs.List.{flat_map}
use Rattle.std.specs.Io.KnownBytes.{Appends}
use Rattle.l4_fpage.specs.declared.sizes.PageSize.{PageSize}
use Rattle.l4_record.specs.declared.segments.Segment.{Segment}
use Rattle.l4_segments.specs.Files.{heading_of, file_of}
use Rattle.l4_segments.specs.declared.writing.SegmentWriter.{SegmentWriter}

-- the file of a segment of a kernel with these frames and with pages of this size
abbrev pub segment_file : ℕ → PageSize → Segment → List ℕ
segment_file frames size segment = file_of (heading_of frames size segment.first (length segment.history.entries)) segment.history.entries

-- the files of segments, one after another
abbrev pub files_of : ℕ → PageSize → List Segment → List ℕ
files_of frames size segments = flat_map (segment_file frames size) segments

-- The files of these segments were written, one after another. Other bytes may follow them only after a fault.
pub record HasWritten {W : Type 0} (contents : W → Option (List ℕ)) (first now : SegmentWriter W) (segments : List Segment) : Type 0 where
  pub frames_are : now.frames ≡ first.frames
  pub size_is : now.size ≡ first.size
  pub more : List ℕ
  pub written : Appends (contents first.writer) (contents now.writer) (files_of first.frames first.size segments ++ more)
  pub whole : now.fault ≡ None → more ≡ []
