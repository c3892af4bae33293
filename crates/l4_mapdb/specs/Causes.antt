-- The reasons why a message is not delivered (this profile's own).
use Rattle.l4_mapdb.specs.declared.Cause.{Cause}
use Rattle.l4_mapdb.specs.declared.Cause.TheVariants.{Entangled, NoMemory}
use Rattle.l4_mapdb.specs.Mappings.{Mappings}
use Rattle.l4_mapdb.specs.Transfer.{PageMove, IsEntangled, NeedsPlace}

-- The used moves are entangled; or they are not, and one of them has a target that is not present, for which an allocation failed.
abbrev pub HasCause : (PageMove → Type 0) → Mappings → Cause → Type 0
HasCause Used old Entangled = IsEntangled Used old
HasCause Used old NoMemory = ¬ (IsEntangled Used old) × NeedsPlace Used old
