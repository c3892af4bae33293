-- The result of following the links is the clause of the check.
use Rattle.std.proofs.Common.{◌≡◌, ℕ, ◌≤◌, ◌↔◌, Bool, List, Result, Ok, Err, IsTrue, IfOk, IfErr, MatchResult}
use Rattle.l4_fpage.specs.declared.sizes.PageSize.{PageSize}
use Rattle.l4_mapdb.specs.declared.Place.{Place}
use Rattle.l4_ipc.specs.Machine.{Machine, IsBoot}
use Rattle.l4_ipc.specs.Runs.{Run}
use Rattle.l4_record.specs.declared.entries.Entry.{Entry}
use Rattle.l4_record.specs.History.{steps_of, answers_of}
use Rattle.l4_record.specs.declared.faults.ReplayFault.{ReplayFault}
use Rattle.l4_record.specs.declared.faults.ReplayFault.TheVariants.{BadFrames, NoMemory, OtherAnswer}
use Rattle.l4_record.specs.declared.links.ChainLink.{ChainLink}
use Rattle.l4_record.specs.Chains.{IsProvenance}
use Rattle.l4_record.specs.Replays.{IsBootWith, IsReplayed, IsNotReplayed, StopsIn}
use Rattle.l4_record.specs.Inside.Walking.{IsWalked}
use Rattle.l4_record.proofs.Replayed.{stops_by_step}
use Rattle.l4_record.proofs.Walked.{is_provenance, of_provenance}
use Rattle.l4_provenance_check.specs.Inside.Following.{Walked}

module _ (frames : ℕ) (size : PageSize) (boot now : Machine) (history : List Entry) (place : Place) (links : List ChainLink)
    (boots : IsBootWith frames size boot) where
  pub judged : (r : Result Bool ReplayFault) → IfOk r (λ said. IsTrue said → Walked boot history place links) → IfOk r (λ said. IsWalked boot history place links → IsTrue said)
      → IfOk r (λ _. Run boot (steps_of history) (answers_of history) now) → IfErr r (StopsIn boot history now)
      → MatchResult r (λ said. (b : Machine) × IsBootWith frames size b × IsReplayed b history × (IsTrue said ↔ IsProvenance b history place links)) (IsNotReplayed frames size history)
  judged (Ok said) f g run e = (
    boot,
    boots,
    (now, run),
    (
      λ h. let w = f h in is_provenance frames boot history place links boots.0 w.walked w.events,
      λ p. g (of_provenance boot history place links p),
    ),
  )
  judged (Err BadFrames) f g run e = absurd (stops_by_step boot history now e)
  judged (Err NoMemory) f g run e = (boots.0.some, boots.0.few)
  judged (Err (OtherAnswer n)) f g run e = (boot, boots, (now, e))
