-- The links of a letter are those of its step; and the faults of a replay.
use Rattle.std.proofs.Common.{◌≡◌, ℕ, Option, Some, None, List, Result, Ok, Err, IfOk, IfErr, MatchOption, MatchResult}
use Rattle.l4_fpage.specs.declared.fpages.Fpage.{Fpage}
use Rattle.l4_fpage.specs.declared.sizes.PageSize.{PageSize}
use Rattle.l4_msg.specs.declared.items.Item.{Item}
use Rattle.l4_mapdb.specs.declared.Place.{Place}
use Rattle.l4_ipc.specs.declared.steps.Step.{Step}
use Rattle.l4_ipc.specs.Machine.{Machine}
use Rattle.l4_record.specs.declared.entries.Entry.{Entry}
use Rattle.l4_record.specs.declared.faults.ReplayFault.{ReplayFault}
use Rattle.l4_record.specs.declared.faults.ReplayFault.TheVariants.{BadFrames, NoMemory, OtherAnswer}
use Rattle.l4_record.specs.declared.links.ChainLink.{ChainLink}
use Rattle.l4_record.specs.Replays.{IsBootWith, StopsIn, IsNotReplayed}
use Rattle.l4_record.proofs.Replayed.{stops_by_step}
use Rattle.l4_record.specs.Inside.Carrying.{AreParties, AnyCarries, AnyWrites, IsCarried, IsWritten}
use Rattle.l4_record.proofs.Written.{any_written, carried_any}
use Rattle.l4_provenance.specs.Inside.Arrivals.{Arrived}
use Rattle.l4_provenance.specs.declared.replaying.Arrival.{Arrival}

pub of_letter : (m : Machine) (step : Step) (from to : ℕ) (items : List Item) (window : Fpage) (number : ℕ) (place : Place) → AreParties m step from to items window → (r : Option ChainLink)
    → MatchOption r (¬ (AnyWrites m.size m.mappings from to items window place)) (λ l. AnyCarries m.size m.mappings from to items window l × (l.target ≡ place) × (l.entry ≡ number))
    → MatchOption r (¬ (IsWritten m step place)) (λ l. IsCarried m step l × (l.target ≡ place) × (l.entry ≡ number))
of_letter m step from to items window number place p None h = λ w. h (any_written m step from to items window p place w)
of_letter m step from to items window number place p (Some l) h = (carried_any m step from to items window p l h.0, h.1, h.2)

module _ (frames : ℕ) (size : PageSize) (boot now : Machine) (history : List Entry) (count : ℕ) (place : Place) (boots : IsBootWith frames size boot) where
  pub came : (r : Result Arrival ReplayFault) → IfOk r (Arrived boot history count place now) → IfErr r (StopsIn boot history now)
      → MatchResult r (λ a. (b : Machine) × IsBootWith frames size b × ((n : Machine) × Arrived b history count place n a)) (IsNotReplayed frames size history)
  came (Ok a) f e = (boot, boots, (now, f))
  came (Err BadFrames) f e = absurd (stops_by_step boot history now e)
  came (Err NoMemory) f e = (boots.0.some, boots.0.few)
  came (Err (OtherAnswer n)) f e = (boot, boots, (now, e))
