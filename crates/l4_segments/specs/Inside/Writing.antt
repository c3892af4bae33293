-- Bytes that are written, or some of them.
use Rattle.std.specs.Prelude.{◌≡◌, ℕ, Bool, true, false, List, Option}
use Rattle.std.specs.Option.{is_none}
use Rattle.std.specs.Io.KnownBytes.{Appends}
use Rattle.l4_text.specs.Streams.{WentOut}
use Rattle.l4_record.specs.declared.segments.Segment.{Segment}
use Rattle.l4_segments.specs.Writing.{segment_file}
use Rattle.l4_segments.specs.declared.writing.KeepFault.{KeepFault}
use Rattle.l4_segments.specs.declared.writing.SegmentWriter.{SegmentWriter}

-- all bytes were written, or the first ones
abbrev pub WritesOut : Option (List ℕ) → Option (List ℕ) → List ℕ → Bool → Type 0
WritesOut old new bytes true = Appends old new bytes
WritesOut old new bytes false = WentOut old new bytes

-- the file of the segment was written, or its first bytes and there is a fault
pub record PutsSegment {W : Type 0} (contents : W → Option (List ℕ)) (old new : SegmentWriter W) (segment : Segment) (fault : Option KeepFault) : Type 0 where
  pub frames_are : new.frames ≡ old.frames
  pub size_is : new.size ≡ old.size
  pub writes : WritesOut (contents old.writer) (contents new.writer) (segment_file old.frames old.size segment) (is_none fault)
