-- Segments that follow each other (this profile's own).
use Rattle.std.specs.Prelude.{◌≡◌, ◌≢◌, ℕ, ◌+◌, List, [], ◌∷◌, ◌++◌, length, Option, Some, None}
use Rattle.std.specs.List.{flat_map}
use Rattle.l4_fpage.specs.declared.sizes.PageSize.{PageSize}
use Rattle.l4_record.specs.declared.entries.Entry.{Entry}
use Rattle.l4_segments.specs.Saved.{Saved}
use Rattle.l4_segments.specs.declared.joining.Misfit.{Misfit}
use Rattle.l4_segments.specs.declared.joining.MisfitKind.{MisfitKind}
use Rattle.l4_segments.specs.declared.joining.MisfitKind.TheVariants.{Frames, Pages, Number}

-- the entries of all segments, in order
abbrev pub all_entries : List Saved → List Entry
all_entries segments = flat_map (λ (s : Saved). s.entries) segments

-- the number of the entry after the last one, where the first entry has this number
abbrev pub end_of : ℕ → List Saved → ℕ
end_of first segments = first + length (all_entries segments)

-- the segment is one of a kernel with these frames and pages, and begins at this number
pub record BeginsAt (frames : ℕ) (size : PageSize) (number : ℕ) (s : Saved) : Type 0 where
  pub frames_are : s.heading.frames ≡ frames
  pub size_is : s.heading.size ≡ size
  pub number_is : s.heading.first ≡ number

-- the first segment begins at this number, and each other one where the segment before it ended; all are of such a kernel
abbrev pub Fit : ℕ → PageSize → ℕ → List Saved → Type 0
Fit frames size first [] = Unit {0}
Fit frames size first (s ∷ segments) = BeginsAt frames size first s × Fit frames size (first + length s.entries) segments

-- what does not fit in a segment
abbrev pub IsMisfit : ℕ → PageSize → ℕ → Saved → MisfitKind → Type 0
IsMisfit frames size number s Frames = s.heading.frames ≢ frames
IsMisfit frames size number s Pages = s.heading.size ≢ size
IsMisfit frames size number s Number = s.heading.first ≢ number

-- the segment fits, or this does not
abbrev pub FitsNext : ℕ → PageSize → ℕ → Saved → Option MisfitKind → Type 0
FitsNext frames size number s None = BeginsAt frames size number s
FitsNext frames size number s (Some kind) = IsMisfit frames size number s kind

-- The segments before this place fit, and the one at the place does not.
pub record Misfits (frames : ℕ) (size : PageSize) (first : ℕ) (segments : List Saved) (misfit : Misfit) : Type 0 where
  pub earlier : List Saved
  pub segment : Saved
  pub later : List Saved
  pub segments_are : segments ≡ earlier ++ segment ∷ later
  pub place : misfit.place ≡ length earlier
  pub fit : Fit frames size first earlier
  pub expected : misfit.expected ≡ end_of first earlier
  pub other : IsMisfit frames size misfit.expected segment misfit.kind

-- what a contract sees of segments that fit: the frames and the page size, the number of the first entry, and all entries
pub record JoinedEntries : Type 0 where
  pub frames : ℕ
  pub size : PageSize
  pub first : ℕ
  pub entries : List Entry

abbrev pub joined : ℕ → PageSize → ℕ → List Saved → JoinedEntries
joined frames size first segments = record { frames = frames; size = size; first = first; entries = all_entries segments }
