-- What a replay has told.
use Rattle.std.specs.Prelude.{ℕ, ◌≡◌, Bool, List}
use Rattle.l4_record.specs.declared.entries.Entry.{Entry}
use Rattle.l4_saved.specs.Inside.Telling.{IsTold, StopsTold}
use Rattle.l4_saved.specs.Stopping.{seat_after}
use Rattle.l4_saved.specs.declared.following.HistoryFault.{HistoryFault}
use Rattle.l4_saved.specs.declared.telling.Replay.{Replay}

abbrev pub HasTold : Bool → Replay → Replay → List Entry → List ℕ → Type 0
HasTold answers old new entries text = IsTold answers old.kernel old.last entries new.kernel text × (new.last ≡ seat_after old.last entries)

abbrev pub HasStopped : Bool → Replay → ℕ → List Entry → HistoryFault → List ℕ → Type 0
HasStopped answers old first entries fault text = StopsTold answers old.kernel old.last first entries fault text
