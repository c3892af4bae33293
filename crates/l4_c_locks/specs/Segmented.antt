-- Segments of a history that a locked kernel handed out, as C uses them (this profile's own).
use Rattle.std.specs.Prelude.{◌≡◌, ◌⊎◌, ℕ, ◌<◌, length, codes, Option, None, Some}
use Rattle.l4_record.specs.declared.segments.Segment.{Segment}
use Rattle.l4_record.specs.Sizes.{max_handed_out}
use Rattle.l4_lock.specs.Locked.{Lock, HandsOut}
use Rattle.l4_refusals.specs.Texts.{spelled}
use Rattle.l4_c_values.specs.Recorded.{no_entry_result}
use Rattle.l4_c_queries.specs.Recalled.{entry_in}
use Rattle.l4_seated_lock.specs.declared.handed.HandedSegment.{HandedSegment}
use Rattle.l4_c_values.specs.declared.recorded.EntryResult.{EntryResult}
use Rattle.l4_c_queries.specs.declared.descending.CountResult.{CountResult}

-- a segment of the history of this locked kernel
abbrev pub handed_by : Lock → Segment → HandedSegment
handed_by l segment = record { frames = l.frames; size = l.kernel.size; segment = segment }

-- The entries that are kept are handed out to an empty handle, unless an allocation fails or too many entries were recorded (B7). A handle
-- that is not empty is refused (B2). After a refusal nothing has changed.
abbrev pub HandsOutTo : Lock → Option HandedSegment → ℕ → Lock → Option HandedSegment → Type 0
HandsOutTo old (Some held) number new later = (number ≡ spelled (codes "B2")) × (new ≡ old) × (later ≡ Some held)
HandsOutTo old None number new later =
    ((segment : Segment) × HandsOut old new segment × (number ≡ 0) × (later ≡ Some (handed_by old segment)))
    ⊎ ((number ≡ spelled (codes "NoMemory")) × (new ≡ old) × (later ≡ None))
    ⊎ ((max_handed_out < length old.history) × (number ≡ spelled (codes "B7")) × (new ≡ old) × (later ≡ None))

-- the same for a handle's lock; an empty handle is refused (B1)
abbrev pub HandsOutSegment : Option Lock → Option HandedSegment → ℕ → Option Lock → Option HandedSegment → Type 0
HandsOutSegment None held number new later = (number ≡ spelled (codes "B1")) × (new ≡ None) × (later ≡ held)
HandsOutSegment (Some old) held number new later = (after : Lock) × HandsOutTo old held number after later × (new ≡ Some after)

-- the number of the segment's first entry since boot, and the number of its entries; an empty handle is refused (B1)
abbrev pub TellsFirst : Option HandedSegment → CountResult → Type 0
TellsFirst None r = r ≡ record { refusal = spelled (codes "B1"); count = 0 }
TellsFirst (Some s) r = r ≡ record { refusal = 0; count = s.segment.first }

abbrev pub TellsSegmentLength : Option HandedSegment → CountResult → Type 0
TellsSegmentLength None r = r ≡ record { refusal = spelled (codes "B1"); count = 0 }
TellsSegmentLength (Some s) r = r ≡ record { refusal = 0; count = length s.segment.history.entries }

-- the entry with this number since boot, or none if the segment lacks it; an empty handle is refused (B1)
abbrev pub TellsSegmentEntry : Option HandedSegment → ℕ → EntryResult → Type 0
TellsSegmentEntry None number r = r ≡ no_entry_result (spelled (codes "B1"))
TellsSegmentEntry (Some s) number r = r ≡ entry_in s.segment number
