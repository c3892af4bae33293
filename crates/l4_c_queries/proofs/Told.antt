-- The file of a segment, as it is told.
use Rattle.std.proofs.Common.{◌≡◌, ℕ, List, length, ap, ◌∙◌, inl}
use Rattle.l4_seated_lock.specs.declared.handed.HandedSegment.{HandedSegment}
use Rattle.l4_c_queries.specs.Placed.{placed}
use Rattle.l4_c_queries.specs.Files.{file_bytes, WritesFile}
use Rattle.l4_c_queries.specs.declared.descending.CountResult.{CountResult}

abbrev counted : ℕ → CountResult
counted count = record { refusal = 0; count = count }

pub told_file : (s : HandedSegment) (bytes seen : List ℕ) (count : ℕ) (old new : List ℕ) → bytes ≡ file_bytes s → seen ≡ bytes → count ≡ length bytes → new ≡ placed seen old
    → WritesFile s old (record { refusal = 0; count = count }) new
told_file s bytes seen count old new file same all written =
    inl (ap counted (all ∙ ap (λ (bs : List ℕ). length bs) file), written ∙ ap (λ (bs : List ℕ). placed bs old) (same ∙ file))
