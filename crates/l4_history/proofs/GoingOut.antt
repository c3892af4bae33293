-- The text of a history goes out.
use Rattle.std.proofs.Common.{◌≡◌, ◌≢◌, ℕ, Bool, true, inr, List, [], ◌++◌, Option, Result, Ok, Err, refl, sym, ◌∙◌, subst}
use Rattle.std.proofs.lemmas.List.{append-nil}
use Rattle.std.specs.Io.KnownBytes.{Appends}
use Rattle.l4_fpage.specs.declared.sizes.PageSize.{PageSize}
use Rattle.l4_ipc.specs.Machine.{Machine, IsBoot}
use Rattle.l4_record.specs.declared.entries.Entry.{Entry}
use Rattle.l4_sinks.specs.Scripts.{RecordsScript}
use Rattle.l4_sinks.specs.declared.scripts.Ended.{Ended}
use Rattle.l4_text.specs.Streams.{WentOut}
use Rattle.l4_text.specs.declared.faults.RunFault.{RunFault}
use Rattle.l4_text.specs.declared.faults.RunFault.TheVariants.{Read, Write, Memory}
use Rattle.l4_history.specs.Histories.{IsHistoryText, HasPart, HasText, TellsHistory}
use Rattle.l4_history.specs.Inside.Telling.{TellsUpTo}

has_text : (frames : ℕ) (size : PageSize) (strict answers : Bool) (old new : Option (List ℕ)) (result : Result Ended RunFault) (history : List Entry) (text : List ℕ)
    → RecordsScript frames size strict old new history result → IsHistoryText frames size answers history text → HasText frames size strict answers old new result text
has_text frames size strict answers old new result history text records is =
    record { told = history; records = subst (λ (es : List Entry). RecordsScript frames size strict old new es result) (sym (append-nil history)) records; is_text = is }

-- all of it
pub goes_out : (frames : ℕ) (size : PageSize) (strict answers : Bool) (old new written now : Option (List ℕ)) (result : Result Ended RunFault) (history : List Entry) (text : List ℕ)
    → RecordsScript frames size strict old new history result → IsHistoryText frames size answers history text → Appends written now text
    → TellsHistory frames size strict answers old new written now result
goes_out frames size strict answers old new written now (Ok ended) history text records is out = (text, has_text frames size strict answers old new (Ok ended) history text records is, out)
goes_out frames size strict answers old new written now (Err Read) history text records is out = (text, has_text frames size strict answers old new (Err Read) history text records is, out)
goes_out frames size strict answers old new written now (Err Write) history text records is out = absurd records
goes_out frames size strict answers old new written now (Err Memory) history text records is out = absurd records

-- a beginning of it
pub begins_to : (frames : ℕ) (size : PageSize) (strict answers : Bool) (old new written now : Option (List ℕ)) (result : Result Ended RunFault) (history : List Entry) (text : List ℕ)
    → RecordsScript frames size strict old new history result → IsHistoryText frames size answers history text → WentOut written now text
    → TellsHistory frames size strict answers old new written now (Err Write)
begins_to frames size strict answers old new written now result history text records is out = (result, [], text, has_text frames size strict answers old new result history text records is, out)

-- WITH ANSWERS

module _ (frames : ℕ) (size : PageSize) (strict : Bool) (old new written now : Option (List ℕ)) (result : Result Ended RunFault) (boot : Machine) (boots : IsBoot frames boot) (size_is : boot.size ≡ size)
    (history left : List Entry) (text : List ℕ) (records : RecordsScript frames size strict old new history result) (up_to : TellsUpTo boot history left text) where
  has_part : HasPart frames size strict true old new result left text
  has_part = record { told = up_to.0; records = subst (λ (es : List Entry). RecordsScript frames size strict old new es result) up_to.1 records; is_text = (boot, boots, size_is, up_to.2) }

  pub all_answered : left ≡ [] → Appends written now text → TellsHistory frames size strict true old new written now result
  all_answered none out =
      let whole : history ≡ up_to.0 = up_to.1 ∙ (λ i. up_to.0 ++ none i) ∙ append-nil up_to.0 in
      goes_out frames size strict true old new written now result up_to.0 text (subst (λ (es : List Entry). RecordsScript frames size strict old new es result) whole records) (boot, boots, size_is, up_to.2) out

  pub some_answered : WentOut written now text → TellsHistory frames size strict true old new written now (Err Write)
  some_answered out = (result, left, text, has_part, out)

  pub stopped : left ≢ [] → Appends written now text → TellsHistory frames size strict true old new written now (Err Memory)
  stopped some out = inr (refl, result, left, some, text, has_part, out)
