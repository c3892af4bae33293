-- What is found of a page, and what is told of it.
use Rattle.std.proofs.Common.{◌≡◌, ℕ, List, Option, Some, None, IfSome, Result, Ok, Err, IsTrue, is_some, refl, sym, ◌∙◌, subst}
use Rattle.std.proofs.lemmas.Bool.{false≢true}
use Rattle.std.specs.Global.{Vec}
use Rattle.std.specs.Io.KnownBytes.{Appends}
use Rattle.l4_fpage.specs.declared.sizes.PageSize.{PageSize}
use Rattle.l4_mapdb.specs.declared.Mapping.{Mapping}
use Rattle.l4_mapdb.specs.declared.Place.{Place}
use Rattle.l4_mapdb.specs.Mappings.{shown}
use Rattle.l4_threads.specs.declared.Thread.{Thread}
use Rattle.l4_threads.specs.Threads.{thread_at}
use Rattle.l4_ipc.specs.Machine.{Machine, IsBoot}
use Rattle.l4_ipc.specs.Runs.{Run}
use Rattle.l4_record.specs.declared.entries.Entry.{Entry}
use Rattle.l4_record.specs.History.{steps_of, answers_of}
use Rattle.l4_record.specs.declared.links.ChainLink.{ChainLink}
use Rattle.l4_record.specs.Chains.{IsProvenance, IsAbsent}
use Rattle.l4_record.specs.Replays.{IsBootWith}
use Rattle.l4_provenance.specs.Removals.{IsRemoval}
use Rattle.l4_provenance.specs.declared.removing.Removal.{Removal}
use Rattle.l4_provenance.proofs.Back.{one_boot}
use Rattle.l4_sinks.specs.Scripts.{RecordsScript}
use Rattle.l4_sinks.specs.declared.scripts.Ended.{Ended}
use Rattle.l4_text.specs.Streams.{WentOut}
use Rattle.l4_text.specs.declared.faults.RunFault.{RunFault}
use Rattle.l4_text.specs.declared.faults.RunFault.TheVariants.{Read, Write, Memory}
use Rattle.l4_history.specs.Telling.{IsWhy, HasWhy, IsGone, TellsPage, TellsWhy, IsThreadText, IsPlaceText}
use Rattle.l4_history.specs.Inside.Finding.{presence, answer_text, Holds, IsAnswer, IsLookedBack, IsOfThread}
use Rattle.l4_history.specs.declared.asking.ThreadPage.{ThreadPage}
use Rattle.l4_history.specs.declared.asking.Question.{Question}
use Rattle.l4_history.specs.declared.asking.WhyResult.TheVariants.{Told, Refused}
use Rattle.l4_history.specs.declared.asking.Presence.{Presence}
use Rattle.l4_history.specs.declared.asking.Answer.{Answer}
use Rattle.l4_history.specs.declared.asking.Answer.TheVariants.{Unknown, Absent, Chain}

-- WHAT IS FOUND

of_thread : (boot now : Machine) (history : List Entry) (asked : ThreadPage) (place : Place) (found : Presence) (text : List ℕ) → IsOfThread now asked place
    → IsPlaceText boot now history place found text → IsThreadText boot now history (thread_at now.threads asked.thread) asked.page found text
of_thread boot now history asked place found text of is =
    subst (λ (o : Option Thread). IsThreadText boot now history o asked.page found text) (sym of.1) (subst (λ (p : Place). IsPlaceText boot now history p found text) of.2 is)

text_of : (boot now : Machine) (history : List Entry) (asked : ThreadPage) (answer : Answer) → Holds boot now history asked answer
    → IsThreadText boot now history (thread_at now.threads asked.thread) asked.page (presence answer) (answer_text history answer)
text_of boot now history asked Unknown h =
    subst (λ (o : Option Thread). IsThreadText boot now history o asked.page (presence Unknown) (answer_text history Unknown)) (sym h) (refl, refl)
text_of boot now history asked (Absent removed) h =
    of_thread boot now history asked h.0 (presence (Absent removed)) (answer_text history (Absent removed)) h.1
    (record { absent = h.2; removed = removed; gone = h.3; is_text = refl })
text_of boot now history asked (Chain place links shows) h =
    of_thread boot now history asked place (presence (Chain place links shows)) (answer_text history (Chain place links shows)) h.0
    (record { links = links.items; provenance = h.1; shows = shows; at = h.2; is_text = refl })

why_of : (frames : ℕ) (size : PageSize) (history : List Entry) (asked : ThreadPage) (answer : Answer) → IsAnswer frames size history asked answer
    → IsWhy frames size history asked (presence answer) (answer_text history answer)
why_of frames size history asked answer h =
    record { boot = h.boot; boots = h.boots; size_is = h.size_is; now = h.now; run = h.run; is_text = text_of h.boot h.now history asked answer h.holds }

-- ON KERNELS OF ONE'S OWN

-- a kernel of one's own has done the history
pub record HasEnded (frames : ℕ) (size : PageSize) (history : List Entry) (now : Machine) : Type 0 where
  pub boot : Machine
  pub boots : IsBoot frames boot
  pub size_is : boot.size ≡ size
  pub run : Run boot (steps_of history) (answers_of history) now

-- what was found of a removal, in the form in which a pattern names it
pub removal_is : (frames : ℕ) (size : PageSize) (history : List Entry) (place : Place) (r s : Removal) → r ≡ s → (b : Machine) × IsBootWith frames size b × IsRemoval b history place r
    → (b : Machine) × IsBootWith frames size b × IsRemoval b history place s
removal_is frames size history place r s e h = subst (λ (x : Removal). (b : Machine) × IsBootWith frames size b × IsRemoval b history place x) e h

module _ (frames : ℕ) (size : PageSize) (history : List Entry) (now : Machine) (asked : ThreadPage) (e : HasEnded frames size history now) where
  answered : (answer : Answer) → Holds e.boot now history asked answer → IsAnswer frames size history asked answer
  answered answer holds = record { boot = e.boot; boots = e.boots; size_is = e.size_is; now = now; run = e.run; holds = holds }

  pub is_unknown : thread_at now.threads asked.thread ≡ None → IsAnswer frames size history asked Unknown
  is_unknown none = answered Unknown none

  -- of another kernel that booted alike
  same_boot : (P : Machine → Type 0) → (b : Machine) × IsBootWith frames size b × P b → P e.boot
  same_boot P other = subst P (one_boot frames other.0 e.boot other.1.0 e.boots (other.1.1 ∙ sym e.size_is)) other.2

  module _ (thread : Thread) (at : thread_at now.threads asked.thread ≡ Some thread) where
    abbrev pub place : Place
    place = record { space = thread.space; page = asked.page }

    -- of a page that is not present, with what was found by looking back
    is_gone : IsAbsent e.boot history place → (answer : Answer) → IsLookedBack frames size history place answer → IsAnswer frames size history asked answer
    is_gone absent (Absent removed) back = answered (Absent removed) (place, (thread, at, refl), absent, same_boot (λ b. IsGone b history place removed) back)
    is_gone absent Unknown back = absurd back
    is_gone absent (Chain other links shows) back = absurd back

    all_gone : IsAbsent e.boot history place → (r : Option Answer) → IfSome r (IsLookedBack frames size history place) → IfSome r (IsAnswer frames size history asked)
    all_gone absent (Some answer) back = is_gone absent answer back
    all_gone absent None back = tt

    pub is_absent : shown now.mappings place ≡ None → (r : Option Answer) → IfSome r (IsLookedBack frames size history place) → IfSome r (IsAnswer frames size history asked)
    is_absent none r back = all_gone (record { now = now; run = e.run; absent = subst (λ (o : Option Mapping). ¬ (IsTrue (is_some o))) (sym none) (λ h. false≢true h) }) r back

    pub is_found_absent : (b : Machine) × IsBootWith frames size b × IsAbsent b history place → (r : Option Answer) → IfSome r (IsLookedBack frames size history place)
        → IfSome r (IsAnswer frames size history asked)
    is_found_absent other r back = all_gone (same_boot (λ b. IsAbsent b history place) other) r back

    pub is_chain : (links : Vec ChainLink) (shows : Mapping) → (b : Machine) × IsBootWith frames size b × IsProvenance b history place links.items → shown now.mappings place ≡ Some shows
        → IsAnswer frames size history asked (Chain place links shows)
    is_chain links shows other is = answered (Chain place links shows) ((thread, at, refl), same_boot (λ b. IsProvenance b history place links.items) other, is)

-- WHAT GOES OUT

module _ (frames : ℕ) (size : PageSize) (history : List Entry) (asked : ThreadPage) (written now : Option (List ℕ)) (answer : Answer) (holds : IsAnswer frames size history asked answer) where
  -- all that is told of an answer
  pub page_told : (found : Presence) → found ≡ presence answer → Appends written now (answer_text history answer) → TellsPage frames size history asked written now (Ok found)
  page_told found is out =
      subst (λ (p : Presence). TellsPage frames size history asked written now (Ok p)) (sym is) (answer_text history answer, why_of frames size history asked answer holds, out)

  -- a beginning of it
  pub page_begun : WentOut written now (answer_text history answer) → TellsPage frames size history asked written now (Err Write)
  page_begun out = (presence answer, answer_text history answer, why_of frames size history asked answer holds, out)

module _ (frames : ℕ) (size : PageSize) (question : Question) (old new written now : Option (List ℕ)) (read : Result Ended RunFault) (history : List Entry)
    (records : RecordsScript frames size question.strict old new history read) where
  -- what a result of the run says of its history
  recorded : (r : Result Ended RunFault) → read ≡ r → RecordsScript frames size question.strict old new history r
  recorded r is = subst (λ (x : Result Ended RunFault). RecordsScript frames size question.strict old new history x) is records

  -- the script was read to its end
  module _ (ended : Ended) (whole : read ≡ Ok ended) where
    module _ (to_end : ended.refused ≡ None) where
      has_why : (found : Presence) (text : List ℕ) → IsWhy frames size history question.page found text → HasWhy frames size question old new found text
      has_why found text is = record { history = history; ended = ended; records = recorded (Ok ended) whole; to_end = to_end; is_why = is }

      -- the text about the page was written
      pub all_told : (found : Presence) → TellsPage frames size history question.page written now (Ok found) → TellsWhy frames size question old new written now (Ok (Told found))
      all_told found told = (told.0, has_why found told.0 told.1, told.2)

      -- it was not, or only a beginning of it
      pub some_told : (fault : RunFault) → TellsPage frames size history question.page written now (Err fault) → TellsWhy frames size question old new written now (Err fault)
      some_told Read told = absurd told
      some_told Write told = record { found = told.0; text = told.1; has_why = has_why told.0 told.1 told.2; out = told.3 }
      some_told Memory told = told

    -- a refused line ended it
    pub refused_told : (reason : List ℕ) → ended.refused ≡ Some reason → now ≡ written → TellsWhy frames size question old new written now (Ok (Refused reason))
    refused_told reason is same = record { history = history; ended = ended; records = recorded (Ok ended) whole; refused = is; unwritten = same }

  -- it was not, and nothing was written
  pub none_told : (fault : RunFault) → read ≡ Err fault → now ≡ written → TellsWhy frames size question old new written now (Err fault)
  none_told Read is same = record { history = history; records = recorded (Err Read) is; unwritten = same }
  none_told Write is same = absurd (recorded (Err Write) is)
  none_told Memory is same = same
