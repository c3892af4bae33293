-- Answers reported to a silent sink, and a script whose history is kept.
use Rattle.std.proofs.Common.{◌≡◌, ◌⊎◌, ℕ, Bool, true, false, cond, List, [], ◌∷◌, ◌++◌, length, Option, Some, None, is_some, option_map, ◌||◌, Result, Ok, Err, inl, inr, refl, sym, ap, subst, ◌∙◌}
use Rattle.l4_fpage.specs.declared.sizes.PageSize.{PageSize}
use Rattle.l4_record.specs.declared.entries.Entry.{Entry}
use Rattle.l4_text.specs.declared.faults.RunFault.{RunFault}
use Rattle.l4_text.specs.declared.faults.RunFault.TheVariants.{Read, Write, Memory}
use Rattle.l4_answers.specs.Reports.{Report, refused_line, has_refusal}
use Rattle.l4_shell.specs.Histories.{Records}
use Rattle.l4_shell.specs.Scripts.{WasOpen, AnswersFirst as RunsFirst}
use Rattle.l4_shell.proofs.OneAnswer.{none_more}
use Rattle.l4_sinks.specs.declared.scripts.Ended.{Ended}
use Rattle.l4_sinks.specs.declared.silent.Silent.{Silent}
use Rattle.l4_sinks.specs.declared.reasons.LineRefusal.{LineRefusal}
use Rattle.l4_sinks.specs.Texts.{last_refusal, last_refused, why_refused}
use Rattle.l4_sinks.specs.Inside.Silents.{HasHeard, is_stopped}
use Rattle.l4_sinks.specs.Scripts.{StopsAtRefusal, AnswersFirst, FindsRefusal, RecordsScript}
use Rattle.l4_sinks.proofs.Reporting.{keeps_none}
use Rattle.l4_sinks.proofs.Running.{one_of_both}

-- the last refusal, with one answer more
refused_more : (before : Option LineRefusal) (told : List Report) (report : Report) → last_refused before (told ++ report ∷ []) ≡ cond (is_some (refused_line report)) (Some (why_refused report)) (last_refused before told)
refused_more before [] report = refl
refused_more before (first ∷ told) report = refused_more (cond (is_some (refused_line first)) (Some (why_refused first)) before) told report

-- an answer that is no line's refusal
pub heard_other : (first now : Silent) (told : List Report) (report : Report) → is_some (refused_line report) ≡ false → HasHeard first now told → HasHeard first now (told ++ report ∷ [])
heard_other first now told report none h =
    let had : last_refused None (told ++ report ∷ []) ≡ last_refused None told = refused_more None told report ∙ ap (λ b. cond b (Some (why_refused report)) (last_refused None told)) none in
    record { strict = h.strict; refused = h.refused ∙ ap (λ (o : Option LineRefusal). cond first.strict o None) (sym had) }

-- a line's refusal
pub heard_refusal : (first old new : Silent) (told : List Report) (report : Report) → is_some (refused_line report) ≡ true → new.strict ≡ old.strict → new.refused ≡ cond old.strict (Some (why_refused report)) old.refused
    → HasHeard first old told → HasHeard first new (told ++ report ∷ [])
heard_refusal first old new told report one strict refused h =
    let had : last_refused None (told ++ report ∷ []) ≡ Some (why_refused report) = refused_more None told report ∙ ap (λ b. cond b (Some (why_refused report)) (last_refused None told)) one in
    record {
      strict = strict ∙ h.strict;
      refused =
          refused
          ∙ ap (λ b. cond b (Some (why_refused report)) old.refused) h.strict
          ∙ ap (λ (o : Option LineRefusal). cond first.strict (Some (why_refused report)) o) h.refused
          ∙ keeps_none first.strict (Some (why_refused report)) (last_refused None told)
          ∙ ap (λ (o : Option LineRefusal). cond first.strict o None) (sym had);
    }

-- in a strict run
pub heard_kept : (first old new : Silent) (told : List Report) (report : Report) → is_some (refused_line report) ≡ true → old.strict ≡ true → new.strict ≡ old.strict → new.refused ≡ Some (why_refused report)
    → HasHeard first old told → HasHeard first new (told ++ report ∷ [])
heard_kept first old new told report one is strict refused h =
    heard_refusal first old new told report one strict (refused ∙ sym (ap (λ b. cond b (Some (why_refused report)) old.refused) is)) h

-- in any other
pub heard_plainly : (first old : Silent) (told : List Report) (report : Report) → is_some (refused_line report) ≡ true → old.strict ≡ false
    → HasHeard first old told → HasHeard first old (told ++ report ∷ [])
heard_plainly first old told report one is h =
    heard_refusal first old old told report one refl (sym (ap (λ b. cond b (Some (why_refused report)) old.refused) is)) h

-- what a strict run keeps is of a refused line
some_more : (b : Bool) (before : Option LineRefusal) (kept : LineRefusal) (more : Bool) → (is_some (cond b (Some kept) before) || more) ≡ (is_some before || (b || more))
some_more true None kept more = refl
some_more true (Some had) kept more = refl
some_more false before kept more = refl

or_none : (b : Bool) → b ≡ (b || false)
or_none true = refl
or_none false = refl

some_kept : (before : Option LineRefusal) (told : List Report) → is_some (last_refused before told) ≡ (is_some before || has_refusal told)
some_kept before [] = or_none (is_some before)
some_kept before (report ∷ told) =
    some_kept (cond (is_some (refused_line report)) (Some (why_refused report)) before) told ∙ some_more (is_some (refused_line report)) before (why_refused report) (has_refusal told)

-- the text of a refusal
abbrev reason_in : Option LineRefusal → Option (List ℕ)
reason_in refused = option_map (λ (r : LineRefusal). r.reason) refused

reason_if : (b : Bool) (x y : Option LineRefusal) → reason_in (cond b x y) ≡ cond b (reason_in x) (reason_in y)
reason_if true x y = refl
reason_if false x y = refl

some_reason : (refused : Option LineRefusal) → is_some (reason_in refused) ≡ is_some refused
some_reason None = refl
some_reason (Some refusal) = refl

-- that of the last refusal is what it says
reason_told : (before : Option LineRefusal) (told : List Report) → reason_in (last_refused before told) ≡ last_refusal (reason_in before) told
reason_told before [] = refl
reason_told before (report ∷ told) =
    reason_told (cond (is_some (refused_line report)) (Some (why_refused report)) before) told
    ∙ ap (λ (o : Option (List ℕ)). last_refusal o told) (reason_if (is_some (refused_line report)) (Some (why_refused report)) before)

-- THE SCRIPT

-- a silent sink to which nothing was reported
pub record IsNewSilent (silent : Silent) (strict : Bool) : Type 0 where
  pub strict_is : silent.strict ≡ strict
  pub refused_is : silent.refused ≡ None

nothing_heard : (s : Silent) (strict : Bool) → IsNewSilent s strict → HasHeard s s []
nothing_heard s strict is = record { strict = refl; refused = is.refused_is ∙ sym (one_of_both s.strict None) }

-- an open strict sink has taken no refusal
open_heard_none : (first now : Silent) (told : List Report) → HasHeard first now told → is_stopped now ≡ false → first.strict ≡ true → has_refusal told ≡ false
open_heard_none first now told h opened strict =
    sym (some_kept None told) ∙ ap (λ b. is_some (cond b (last_refused None told) None)) (sym strict) ∙ sym (ap is_some h.refused) ∙ opened

stops_there : (s : Silent) (strict : Bool) (count : ℕ) (told : List Report) → IsNewSilent s strict → strict ≡ true → (told ≡ []) ⊎ WasOpen HasHeard is_stopped s count told
    → StopsAtRefusal count told
stops_there s strict count told is on opened = elim opened [
  | inl none ↦ inl (ap has_refusal none)
  | inr w ↦
      let e : has_refusal w.earlier ≡ false = open_heard_none s w.between w.earlier (w.adds s [] (nothing_heard s strict is)) w.opened (is.strict_is ∙ on) in
      elim w.one [
        | inl none ↦ inl (ap has_refusal w.parts ∙ none_more w.earlier w.last e none)
        | inr one ↦ inr (w.earlier, one.0, one.1, e, w.parts ∙ ap (λ (l : List Report). w.earlier ++ l) one.2)
      ]
]

first_heard : (frames : ℕ) (size : PageSize) (strict : Bool) (old new : Option (List ℕ)) (s : Silent) → IsNewSilent s strict
    → RunsFirst false frames size old new HasHeard is_stopped s → AnswersFirst false frames size strict old new
first_heard frames size strict old new s is a = record {
  read = a.read;
  «from» = a.from;
  lines = a.lines;
  later = a.later;
  parts = a.parts;
  sure = a.sure;
  told = a.told;
  is_answered = a.is_answered;
  stops = λ on. stops_there s strict (length a.lines) a.told is on a.was_open;
}

pub records_ok : (frames : ℕ) (size : PageSize) (strict : Bool) (old new : Option (List ℕ)) (s after : Silent) (history : List Entry) (ended : Ended) (answered : Result ℕ RunFault)
    → IsNewSilent s strict → answered ≡ Ok ended.lines → ended.refused ≡ reason_in after.refused
    → Records frames size old new HasHeard is_stopped s after history answered → RecordsScript frames size strict old new history (Ok ended)
unfolding first_heard
records_ok frames size strict old new s after history ended answered is ok same records =
    let r = subst (λ (x : Result ℕ RunFault). Records frames size old new HasHeard is_stopped s after history x) ok records in
    let h : HasHeard s after r.0.first.told = r.0.adds s [] (nothing_heard s strict is) in (
      first_heard frames size strict old new s is r.0.first,
      r.0.is_history,
      r.1,
      same
          ∙ ap reason_in (h.refused ∙ ap (λ b. cond b (last_refused None r.0.first.told) None) is.strict_is)
          ∙ reason_if strict (last_refused None r.0.first.told) None
          ∙ ap (λ (o : Option (List ℕ)). cond strict o None) (reason_told None r.0.first.told),
      elim r.2 [ inl whole ↦ inl whole | inr over ↦ inr (ap is_some same ∙ some_reason after.refused ∙ over) ],
    )

pub records_err : (frames : ℕ) (size : PageSize) (strict : Bool) (old new : Option (List ℕ)) (s after : Silent) (history : List Entry) (answered : Result ℕ RunFault) (fault : RunFault)
    → IsNewSilent s strict → answered ≡ Err fault
    → Records frames size old new HasHeard is_stopped s after history answered → RecordsScript frames size strict old new history (Err fault)
unfolding first_heard
records_err frames size strict old new s after history answered Read is err records =
    let r = subst (λ (x : Result ℕ RunFault). Records frames size old new HasHeard is_stopped s after history x) err records in
    (first_heard frames size strict old new s is r.0.first, r.0.is_history, r.1)
records_err frames size strict old new s after history answered Write is err records =
    absurd (subst (λ (x : Result ℕ RunFault). Records frames size old new HasHeard is_stopped s after history x) err records)
records_err frames size strict old new s after history answered Memory is err records =
    absurd (subst (λ (x : Result ℕ RunFault). Records frames size old new HasHeard is_stopped s after history x) err records)

-- THE FIRST REFUSED LINE

pub finds_ok : (frames : ℕ) (size : PageSize) (old new : Option (List ℕ)) (s after : Silent) (history : List Entry) (found : Option LineRefusal) (answered : Result ℕ RunFault) (lines : ℕ)
    → IsNewSilent s true → answered ≡ Ok lines → found ≡ after.refused
    → Records frames size old new HasHeard is_stopped s after history answered → FindsRefusal frames size old new (Ok found)
unfolding first_heard
finds_ok frames size old new s after history found answered lines is ok same records =
    let r = subst (λ (x : Result ℕ RunFault). Records frames size old new HasHeard is_stopped s after history x) ok records in
    let h : HasHeard s after r.0.first.told = r.0.adds s [] (nothing_heard s true is) in (
      first_heard frames size true old new s is r.0.first,
      same ∙ h.refused ∙ ap (λ b. cond b (last_refused None r.0.first.told) None) is.strict_is,
      elim r.2 [ inl whole ↦ inl whole | inr over ↦ inr (ap is_some same ∙ over) ],
    )

pub finds_err : (frames : ℕ) (size : PageSize) (old new : Option (List ℕ)) (s after : Silent) (history : List Entry) (answered : Result ℕ RunFault) (fault : RunFault)
    → IsNewSilent s true → answered ≡ Err fault
    → Records frames size old new HasHeard is_stopped s after history answered → FindsRefusal frames size old new (Err fault)
unfolding first_heard
finds_err frames size old new s after history answered Read is err records =
    let r = subst (λ (x : Result ℕ RunFault). Records frames size old new HasHeard is_stopped s after history x) err records in
    (first_heard frames size true old new s is r.0.first, r.1)
finds_err frames size old new s after history answered Write is err records =
    absurd (subst (λ (x : Result ℕ RunFault). Records frames size old new HasHeard is_stopped s after history x) err records)
finds_err frames size old new s after history answered Memory is err records =
    absurd (subst (λ (x : Result ℕ RunFault). Records frames size old new HasHeard is_stopped s after history x) err records)
