-- Segments that were written.
use Rattle.std.proofs.Common.{◌≡◌, ◌≢◌, ℕ, Bool, true, false, not, List, [], ◌∷◌, ◌++◌, Option, Some, None, refl, sym, ap, subst, ◌∙◌}
use Rattle.std.specs.Option.{is_some, is_none}
use Rattle.std.proofs.lemmas.Bool.{false≢true}
use Rattle.std.specs.Io.KnownBytes.{Appends}
use Rattle.std.proofs.lemmas.List.{append-nil}
use Rattle.std.proofs.lemmas.Grind.{flat_map-append}
use mathlib.Core.List.{append_assoc}
use Rattle.l4_fpage.specs.declared.sizes.PageSize.{PageSize}
use Rattle.l4_text.proofs.Gone.{appends_more, appends_same}
use Rattle.l4_record.specs.declared.segments.Segment.{Segment}
use Rattle.l4_record.specs.Segments.{KeepsAll}
use Rattle.l4_segments.specs.declared.writing.KeepFault.{KeepFault}
use Rattle.l4_segments.specs.declared.writing.SegmentWriter.{SegmentWriter}
use Rattle.l4_segments.specs.Writing.{segment_file, files_of, HasWritten}
use Rattle.l4_segments.specs.Inside.Writing.{WritesOut, PutsSegment}

files_more : (frames : ℕ) (size : PageSize) (segments : List Segment) (segment : Segment) → files_of frames size (segments ++ segment ∷ []) ≡ files_of frames size segments ++ segment_file frames size segment
files_more frames size segments segment =
    flat_map-append (segment_file frames size) segments (segment ∷ []) ∙ ap (λ (l : List ℕ). files_of frames size segments ++ l) (append-nil (segment_file frames size segment))

-- whether there is a fault, as it was asked
pub some_by : (fault : Option KeepFault) (is : Bool) → is ≡ is_some fault → is ≡ false → fault ≡ None
some_by None is e h = refl
some_by (Some fault) is e h = absurd (false≢true (sym h ∙ e))

pub none_by : (fault : Option KeepFault) (is : Bool) → is_some fault ≡ not is → is ≡ true → fault ≡ None
none_by None is e h = refl
none_by (Some fault) is e h = absurd (false≢true (sym (e ∙ ap not h)))

pub lost_by : (fault : Option KeepFault) (is : Bool) → is_some fault ≡ not is → is ≡ false → fault ≢ None
lost_by fault is e h none = false≢true (sym (ap is_some none) ∙ e ∙ ap not h)

module _ {W : Type 0} (contents : W → Option (List ℕ)) where
  -- the file of a segment was written
  pub put_kept : (old new : SegmentWriter W) (segment : Segment) (fault : Option KeepFault) → old.fault ≡ None → fault ≡ None → PutsSegment contents old new segment fault
      → KeepsAll (HasWritten contents) old (record new { fault = fault }) (segment ∷ [])
  put_kept old new segment fault fine none puts first earlier h =
      let file : segment_file old.frames old.size segment ≡ segment_file first.frames first.size segment =
      (λ i. segment_file (h.frames_are i) (h.size_is i) segment) in
      let writes : Appends (contents old.writer) (contents new.writer) (segment_file old.frames old.size segment) =
      subst (λ (f : Option KeepFault). WritesOut (contents old.writer) (contents new.writer) (segment_file old.frames old.size segment) (is_none f)) none puts.writes in
      let all : (files_of first.frames first.size earlier ++ h.more) ++ segment_file old.frames old.size segment ≡ files_of first.frames first.size (earlier ++ segment ∷ []) ++ [] =
      ap (λ (l : List ℕ). (files_of first.frames first.size earlier ++ l) ++ segment_file old.frames old.size segment) (h.whole fine)
      ∙ ap (λ (l : List ℕ). l ++ segment_file old.frames old.size segment) (append-nil (files_of first.frames first.size earlier))
      ∙ ap (λ (l : List ℕ). files_of first.frames first.size earlier ++ l) file
      ∙ sym (files_more first.frames first.size earlier segment)
      ∙ sym (append-nil (files_of first.frames first.size (earlier ++ segment ∷ []))) in
      record {
        frames_are = puts.frames_are ∙ h.frames_are;
        size_is = puts.size_is ∙ h.size_is;
        more = [];
        written = subst (λ (l : List ℕ). Appends (contents first.writer) (contents new.writer) l) all
            (appends_more (contents first.writer) (contents old.writer) (contents new.writer) (files_of first.frames first.size earlier ++ h.more) (segment_file old.frames old.size segment) h.written writes);
        whole = λ _. refl;
      }

  -- some bytes were written, all or not
  some_out : (old new : Option (List ℕ)) (bytes : List ℕ) (whole : Bool) → WritesOut old new bytes whole → (front : List ℕ) × Appends old new front
  some_out old new bytes true writes = (bytes, writes)
  some_out old new bytes false writes = (writes.front, writes.out)

  -- there was a fault
  pub put_lost : (old new : SegmentWriter W) (segment : Segment) (fault : Option KeepFault) → fault ≢ None → PutsSegment contents old new segment fault
      → KeepsAll (HasWritten contents) old (record new { fault = fault }) []
  put_lost old new segment fault some puts first earlier h =
      let out = some_out (contents old.writer) (contents new.writer) (segment_file old.frames old.size segment) (is_none fault) puts.writes in
      record {
        frames_are = puts.frames_are ∙ h.frames_are;
        size_is = puts.size_is ∙ h.size_is;
        more = h.more ++ out.0;
        written = subst (λ (l : List ℕ). Appends (contents first.writer) (contents new.writer) l)
            (append_assoc (files_of first.frames first.size earlier) h.more out.0
            ∙ ap (λ (s : List Segment). files_of first.frames first.size s ++ (h.more ++ out.0)) (sym (append-nil earlier)))
            (appends_more (contents first.writer) (contents old.writer) (contents new.writer) (files_of first.frames first.size earlier ++ h.more) out.0 h.written out.1);
        whole = λ none. absurd (some none);
      }

  -- nothing was written
  pub none_kept : (writer : SegmentWriter W) → KeepsAll (HasWritten contents) writer writer []
  none_kept writer first earlier h = subst (λ (s : List Segment). HasWritten contents first writer s) (sym (append-nil earlier)) h
