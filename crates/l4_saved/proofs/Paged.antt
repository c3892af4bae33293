-- How a page got to its place in segments.
use Rattle.std.proofs.Common.{◌≡◌, ℕ, ◌≤◌, false, List, Option, None, Result, Ok, Err, IfOk, OnOk, sym, subst, arith}
use Rattle.l4_fpage.specs.Pages.{max_frames}
use Rattle.l4_fpage.specs.declared.sizes.PageSize.{PageSize}
use Rattle.l4_ipc.specs.Machine.{Machine}
use Rattle.l4_record.specs.Replays.{IsBootWith}
use Rattle.l4_record.specs.History.{Follows}
use Rattle.l4_history.specs.Telling.{TellsPage}
use Rattle.l4_history.specs.declared.asking.Presence.{Presence}
use Rattle.l4_history.specs.declared.asking.ThreadPage.{ThreadPage}
use Rattle.l4_segments.specs.Joining.{JoinedEntries}
use Rattle.l4_text.specs.declared.faults.RunFault.{RunFault}
use Rattle.l4_text.specs.declared.faults.RunFault.TheVariants.{Read, Write, Memory}
use Rattle.l4_saved.specs.Inside.Paging.{page_fault}
use Rattle.l4_saved.specs.Inside.Telling.{StopsTold}
use Rattle.l4_saved.specs.Pages.{IsLegalSaved, IsRefused, TellsSegmentsPage}
use Rattle.l4_saved.specs.declared.following.HistoryFault.{HistoryFault}
use Rattle.l4_saved.specs.declared.following.HistoryFault.TheVariants.{Memory as LacksMemory, Write as WriteFailed, NotNext, OtherAnswer}
use Rattle.l4_saved.proofs.Written.{stops_at}

module _ (j : JoinedEntries) (boot : Machine) (boots : IsBootWith j.frames j.size boot) where
  pub all_legal : (now : Machine) (r : Result (Unit {0}) HistoryFault) → IfOk r (λ _. Follows boot None j.entries now) → OnOk r (IsLegalSaved j)
  all_legal now (Ok done) follows = record { boot = boot; boots = boots; now = now; follows = follows }
  all_legal now (Err fault) follows = tt

  pub is_refused : (fault : HistoryFault) → (text : List ℕ) × StopsTold false boot None j.first j.entries fault text → IsRefused j fault
  is_refused (NotNext n) stop = (stop.0, stops_at false j boot boots (NotNext n) stop.0 stop.1)
  is_refused (OtherAnswer n) stop = (stop.0, stops_at false j boot boots (OtherAnswer n) stop.0 stop.1)
  is_refused LacksMemory stop = tt
  is_refused WriteFailed stop = absurd stop.1.fails

module _ (j : JoinedEntries) (asked : ThreadPage) (written now : Option (List ℕ)) where
  pub refused_told : (fault : HistoryFault) → IsRefused j fault → now ≡ written → TellsSegmentsPage asked j written now (Err fault)
  refused_told (NotNext n) refused same = (refused, same)
  refused_told (OtherAnswer n) refused same = (refused, same)
  refused_told LacksMemory refused same = same
  refused_told WriteFailed refused same = absurd refused

  module _ (legal : IsLegalSaved j) (frames : ℕ) (size : PageSize) (frames_is : frames ≡ j.frames) (size_is : size ≡ j.size) where
    pub some_frames : 1 ≤ frames
    some_frames = let some : 1 ≤ j.frames = legal.boots.0.some in omega (arith, some, frames_is)

    pub few_frames : frames ≤ max_frames
    few_frames = let few : j.frames ≤ max_frames = legal.boots.0.few in omega (arith, few, frames_is)

    alike : (r : Result Presence RunFault) → TellsPage frames size j.entries asked written now r → TellsPage j.frames j.size j.entries asked written now r
    alike r told =
        subst (λ (f : ℕ). TellsPage f j.size j.entries asked written now r) frames_is (subst (λ (s : PageSize). TellsPage frames s j.entries asked written now r) size_is told)

    pub page_told : (found : Presence) → TellsPage frames size j.entries asked written now (Ok found) → TellsSegmentsPage asked j written now (Ok found)
    page_told found told = let it = alike (Ok found) told in (it.0, record { legal = legal; is_why = it.1 }, it.2)

    stopped : (fault : RunFault) → TellsPage j.frames j.size j.entries asked written now (Err fault) → TellsSegmentsPage asked j written now (Err (page_fault fault))
    stopped Write told = (told.0, told.1, record { legal = legal; is_why = told.2 }, told.3)
    stopped Memory told = told
    stopped Read told = absurd told

    pub page_stopped : (fault : RunFault) (told_as : HistoryFault) → told_as ≡ page_fault fault → TellsPage frames size j.entries asked written now (Err fault)
        → TellsSegmentsPage asked j written now (Err told_as)
    page_stopped fault told_as is told = subst (λ (f : HistoryFault). TellsSegmentsPage asked j written now (Err f)) (sym is) (stopped fault (alike (Err fault) told))
