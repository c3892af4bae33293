-- Steps in which memory does not run out (this profile's own).
use Rattle.std.specs.Prelude.{List, [], ◌∷◌, Ok}
use Rattle.l4_ipc.specs.Following.{Done}
use Rattle.l4_record.specs.Replays.{RanOut}

-- memory did not run out in any of these steps
abbrev pub NoneRanOut : List Done → Type 0
NoneRanOut [] = Unit {0}
NoneRanOut (done ∷ steps) = ¬ (RanOut (Ok done.answer)) × NoneRanOut steps
