use Rattle.std.proofs.Common.{◌≡◌, ◌≤◌, ◌+◌, ◌*◌, ◌++◌, length, take}
use Rattle.std.specs.List.{flat_map}
use Rattle.l4_reasons.specs.Quoted.{escaped}
use Rattle.l4_reasons.proofs.quoted.add_all.Given as goal

abbrev pub invariant-loop-byte : goal.invariant-loop-byte
invariant-loop-byte l =
    (l.reason ≡ l.initial.reason ++ flat_map escaped (take l.byte-index l.bytes))
    × (length l.reason ≤ length l.initial.reason + 4 * l.byte-index)
