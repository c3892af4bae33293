-- `into_loose` tests the pointer, and has the box where there is one.
use Rattle.l4_c_values.specs.contracts.sigma0s.Sigma0Handle.into_loose.Key.{name}
use Rattle.l4_c_values.proofs.sigma0s.Sigma0Handle.into_loose.Statement.{statement}
use Rattle.l4_c_values.proofs.sigma0s.Sigma0Handle.into_loose.Code.{unfolded}
use Rattle.l4_c_values.proofs.Forms.{sigma0}
use Rattle.l4_c_values.proofs.Handles.IntoLoose.{makes_into_loose}

pub into_loose_spec : {M : Type 1} → statement M
into_loose_spec 𝓤 𝓛 𝓜 𝓡 wired = makes_into_loose sigma0 𝓛 𝓜 𝓡 name (unfolded 𝓤 𝓛.H 𝓜 𝓡 wired)
