-- `empty` makes a null pointer.
use Rattle.l4_c_values.specs.contracts.segments.SegmentHandle.empty.Key.{name}
use Rattle.l4_c_values.proofs.segments.SegmentHandle.empty.Statement.{statement}
use Rattle.l4_c_values.proofs.segments.SegmentHandle.empty.Code.{unfolded}
use Rattle.l4_c_values.proofs.Forms.{segment}
use Rattle.l4_c_values.proofs.Handles.Empty.{makes_empty}

pub empty_spec : {M : Type 1} → statement M
empty_spec 𝓤 𝓛 𝓜 𝓡 wired = makes_empty segment 𝓛 𝓜 𝓡 name (unfolded 𝓤 𝓛.H 𝓜 𝓡 wired)
