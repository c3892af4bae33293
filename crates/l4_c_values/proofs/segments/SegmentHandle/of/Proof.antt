-- `of` keeps the pointer.
use Rattle.l4_c_values.specs.contracts.segments.SegmentHandle.of.Key.{name}
use Rattle.l4_c_values.proofs.segments.SegmentHandle.of.Statement.{statement}
use Rattle.l4_c_values.proofs.segments.SegmentHandle.of.Code.{unfolded}
use Rattle.l4_c_values.proofs.Forms.{segment}
use Rattle.l4_c_values.proofs.Handles.Of.{makes_of}

pub of_spec : {M : Type 1} → statement M
of_spec 𝓤 𝓛 𝓜 𝓡 wired = makes_of segment 𝓛 𝓜 𝓡 name (unfolded 𝓤 𝓛.H 𝓜 𝓡 wired)
