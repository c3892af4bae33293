-- A segment that was handed out under the lock.
use Rattle.std.proofs.Common.{◌≡◌, ◌<◌, Option, Some, None, IfSome, IfNone, MatchOption, length}
use Rattle.l4_record.specs.declared.segments.Segment.{Segment}
use Rattle.l4_record.specs.Sizes.{max_handed_out}
use Rattle.l4_lock.specs.Locked.{Lock, IsKept, HandsOut}
use Rattle.l4_lock.specs.Shared.{IsHandedOut, EndsSegments}

pub is_handed_out : (r : Option Segment) (old new : Lock) → IsKept old → IfSome r (HandsOut old new) → IfNone r ((max_handed_out < length old.history) × (new ≡ old))
    → MatchOption r EndsSegments IsHandedOut
is_handed_out None old new k some none = (old, k, none.0)
is_handed_out (Some segment) old new k some none = (old, new, k, some)
