-- `into_loose` tests the pointer, and has the box where there is one.
use Rattle.l4_c_values.specs.contracts.segments.SegmentHandle.into_loose.Key.{name}
use Rattle.l4_c_values.proofs.segments.SegmentHandle.into_loose.Statement.{statement}
use Rattle.l4_c_values.proofs.segments.SegmentHandle.into_loose.Code.{unfolded}
use Rattle.l4_c_values.proofs.Forms.{segment}
use Rattle.l4_c_values.proofs.Handles.IntoLoose.{makes_into_loose}

pub into_loose_spec : {M : Type 1} → statement M
into_loose_spec 𝓤 𝓛 𝓜 𝓡 wired = makes_into_loose segment 𝓛 𝓜 𝓡 name (unfolded 𝓤 𝓛.H 𝓜 𝓡 wired)
