-- Closed cases of the definitions: what is a legal history, what holds of it, and what is no refusal.
use Rattle.std.proofs.Common.{◌≡◌, ℕ, List, [], ◌∷◌, Option, Some, None, refl, arith}
use Rattle.l4_mapdb.specs.Mappings.{IsForest}
use Rattle.l4_ipc.specs.declared.calls.Call.{Call}
use Rattle.l4_ipc.specs.declared.steps.Answer.{Answer}
use Rattle.l4_ipc.specs.declared.steps.Step.TheVariants.{Start, Transfer}
use Rattle.l4_ipc.specs.Machine.{Machine, IsBoot}
use Rattle.l4_record.specs.declared.entries.Entry.{Entry}
use Rattle.l4_lock.specs.declared.refusals.LockRefusal.TheVariants.{SeatTaken}
use Rattle.l4_record.specs.History.{Replays}
use Rattle.l4_record.specs.Laws.{IsWholeRun}
use Rattle.l4_lock.specs.Shared.{Declines}
use Rattle.l4_record.proofs.Laws.{no_events, whole_run}

-- no entries are legal, and all holds of them that holds of a history
none_is_whole : (frames : ℕ) (m : Machine) → IsBoot frames m → IsForest m.mappings → IsWholeRun frames [] m
none_is_whole frames m b forest = whole_run frames [] m (record { boot = m; boots = b; follows = refl }) (no_events m forest)

-- a history doesn't begin with a transfer
no_transfer_first : (frames seat sender receiver : ℕ) (answer : Answer) (rest : List Entry) (m : Machine)
    → ¬ (Replays frames (record { seat = seat; step = Transfer sender receiver; answer = answer } ∷ rest) m)
no_transfer_first frames seat sender receiver answer rest m r =
    let k : ◌≡◌ {A = Option ℕ} None (Some seat) = r.follows.0.0 in
    cc

-- nor does it have a start by another thread's seat
no_start_for_another : (frames : ℕ) (call : Call) (answer : Answer) (rest : List Entry) (m : Machine)
    → ¬ (Replays frames (record { seat = 3; step = Start 4 call; answer = answer } ∷ rest) m)
no_start_for_another frames call answer rest m r = let k : ◌≡◌ {A = ℕ} 3 4 = r.follows.0 in omega (arith, k)

-- that its seat was given before is no reason why a call is refused
never_taken : (n : ℕ) (call : Call) → ¬ (Declines n call SeatTaken)
never_taken n call d = d.2
