-- A run of a script to a teller.
use Rattle.std.proofs.Common.{◌≡◌, ◌⊎◌, ℕ, Bool, true, false, cond, ◌||◌, List, [], ◌∷◌, ◌++◌, length, Option, Some, None, is_some, Result, Ok, Err, inl, inr, refl, sym, ap, subst, ◌∙◌}
use Rattle.std.proofs.lemmas.Bool.{false≢true}
use Rattle.std.proofs.lemmas.List.{append-nil}
use Rattle.std.specs.Io.KnownBytes.{Appends}
use Rattle.l4_fpage.specs.declared.sizes.PageSize.{PageSize}
use Rattle.l4_text.specs.Streams.{WentOut, HasTold}
use Rattle.l4_text.specs.declared.faults.RunFault.{RunFault}
use Rattle.l4_text.specs.declared.faults.RunFault.TheVariants.{Read, Write, Memory}
use Rattle.l4_text.proofs.Gone.{appends_same}
use Rattle.l4_answers.specs.Reports.{Report, AddsAll, refused_line, has_refusal}
use Rattle.l4_record.specs.declared.segments.Segment.{Segment}
use Rattle.l4_shell.specs.Scripts.{WasOpen, AnswersFirst as RunsFirst, AddsOut, Runs}
use Rattle.l4_shell.proofs.OneAnswer.{none_more}
use Rattle.l4_sinks.specs.declared.scripts.Ended.{Ended}
use Rattle.l4_sinks.specs.declared.teller.Teller.{Teller}
use Rattle.l4_sinks.specs.Words.{says}
use Rattle.l4_sinks.specs.Texts.{AreAnswerTexts, last_refusal}
use Rattle.l4_sinks.specs.Tellers.{HasReported, HasWritten, is_over}
use Rattle.l4_sinks.specs.Scripts.{explains_by, StopsAtRefusal, AnswersFirst, IsWritten, IsBegun, RunsScript}

-- a teller to which nothing was reported
pub record IsNew {W : Type 0} (teller : Teller W) (writer : W) (strict : Bool) (explains : Option PageSize) : Type 0 where
  pub writer_is : teller.writer ≡ writer
  pub out_is : teller.out ≡ ([], false)
  pub explains_is : teller.explains ≡ explains
  pub strict_is : teller.strict ≡ strict
  pub refused_is : teller.refused ≡ None

pub one_of_both : {A : Type 0} (b : Bool) (x : A) → cond b x x ≡ x
one_of_both true x = refl
one_of_both false x = refl

pub nothing_reported : {W : Type 0} (contents : W → Option (List ℕ)) (t : Teller W) (writer : W) (strict : Bool) (explains : Option PageSize) → IsNew t writer strict explains → HasReported contents t t []
nothing_reported contents t writer strict explains is = (
  record { explains = refl; strict = refl; refused = is.refused_is ∙ sym (one_of_both t.strict None) },
  ([], refl, subst (λ (o : List ℕ × Bool). HasTold (contents t.writer) (contents t.writer) o.0 o.1 []) (sym is.out_is) ([], refl, appends_same (contents t.writer))),
)

over_not : (a b : Bool) → (a || b) ≡ false → b ≡ false
over_not true b h = absurd (false≢true (sym h))
over_not false b h = h

or_false : (b : Bool) → b ≡ (b || false)
or_false true = refl
or_false false = refl

some_step : (b : Bool) (before : Option (List ℕ)) (words : List ℕ) (more : Bool) → (is_some (cond b (Some words) before) || more) ≡ (is_some before || (b || more))
some_step true None words more = refl
some_step true (Some said) words more = refl
some_step false before words more = refl

-- something was said where a line was refused
pub some_said : (before : Option (List ℕ)) (told : List Report) → is_some (last_refusal before told) ≡ (is_some before || has_refusal told)
some_said before [] = or_false (is_some before)
some_said before (report ∷ told) = some_said (cond (is_some (refused_line report)) (Some (says report)) before) told ∙ some_step (is_some (refused_line report)) before (says report) (has_refusal told)

-- an open strict teller has taken no refusal
open_refused_none : {W : Type 0} (contents : W → Option (List ℕ)) (first now : Teller W) (told : List Report) → HasReported contents first now told → is_over now ≡ false → first.strict ≡ true
    → has_refusal told ≡ false
open_refused_none contents first now told h opened strict =
    sym (some_said None told) ∙ ap (λ b. is_some (cond b (last_refusal None told) None)) (sym strict) ∙ sym (ap is_some h.0.refused) ∙ over_not now.out.1 (is_some now.refused) opened

-- a strict run ends at a refusal
stops_at : {W : Type 0} (contents : W → Option (List ℕ)) (t : Teller W) (count : ℕ) (told : List Report) → HasReported contents t t [] → t.strict ≡ true
    → (told ≡ []) ⊎ WasOpen (HasReported contents) is_over t count told → StopsAtRefusal count told
stops_at contents t count told fresh strict opened = elim opened [
  | inl none ↦ inl (ap has_refusal none)
  | inr w ↦
      let e : has_refusal w.earlier ≡ false = open_refused_none contents t w.between w.earlier (w.adds t [] fresh) w.opened strict in
      elim w.one [
        | inl none ↦ inl (ap has_refusal w.parts ∙ none_more w.earlier w.last e none)
        | inr one ↦ inr (w.earlier, one.0, one.1, e, w.parts ∙ ap (λ (l : List Report). w.earlier ++ l) one.2)
      ]
]

first_of : {W : Type 0} (contents : W → Option (List ℕ)) (hands_out : Bool) (frames : ℕ) (size : PageSize) (strict : Bool) (explains : Option PageSize) (old new : Option (List ℕ)) (t : Teller W) (writer : W) → IsNew t writer strict explains
    → RunsFirst hands_out frames size old new (HasReported contents) is_over t → AnswersFirst hands_out frames size strict old new
first_of contents hands_out frames size strict explains old new t writer is a = record {
  read = a.read;
  «from» = a.from;
  lines = a.lines;
  later = a.later;
  parts = a.parts;
  sure = a.sure;
  told = a.told;
  is_answered = a.is_answered;
  stops = λ s. stops_at contents t (length a.lines) a.told (nothing_reported contents t writer strict explains is) (is.strict_is ∙ s) a.was_open;
}

-- WHAT IS WRITTEN

same_texts : {W : Type 0} (t : Teller W) (writer : W) (strict : Bool) (explains : Option PageSize) (told : List Report) (text : List ℕ) → IsNew t writer strict explains
    → AreAnswerTexts t.explains told text → AreAnswerTexts explains told text
same_texts t writer strict explains told text is texts = subst (λ (e : Option PageSize). AreAnswerTexts e told text) is.explains_is texts

is_written : {W : Type 0} (contents : W → Option (List ℕ)) (t sent : Teller W) (writer : W) (strict : Bool) (explains : Option PageSize) (told : List Report) → IsNew t writer strict explains
    → HasWritten contents t sent told → IsWritten explains told (contents writer) (contents sent.writer)
is_written {W = W} contents t sent writer strict explains told is h =
    let out = h.1 in
    (out.0, same_texts t writer strict explains told out.0 is out.1, subst (λ (w : W). Appends (contents w) (contents sent.writer) out.0) is.writer_is out.2)

some_out : (start now : Option (List ℕ)) (held : List ℕ) (failed : Bool) (text : List ℕ) → HasTold start now held failed text → WentOut start now text
some_out start now held false text h = record { front = h.0; rest = held; whole = h.1; out = h.2 }
some_out start now held true text h = h

is_begun : {W : Type 0} (contents : W → Option (List ℕ)) (t sent : Teller W) (writer : W) (strict : Bool) (explains : Option PageSize) (told : List Report) → IsNew t writer strict explains
    → HasReported contents t sent told → IsBegun explains told (contents writer) (contents sent.writer)
is_begun {W = W} contents t sent writer strict explains told is h =
    let out = h.1 in (
      out.0,
      same_texts t writer strict explains told out.0 is out.1,
      subst (λ (w : W). WentOut (contents w) (contents sent.writer) out.0) is.writer_is (some_out (contents t.writer) (contents sent.writer) sent.out.0 sent.out.1 out.0 out.2),
    )

-- a whole text is a beginning of it
whole_begun : (explains : Option PageSize) (told : List Report) (written now : Option (List ℕ)) → IsWritten explains told written now → IsBegun explains told written now
whole_begun explains told written now w = (w.0, w.1, record { front = w.0; rest = []; whole = sym (append-nil w.0); out = w.2 })

-- a write failed, or a segment was lost once the text was written
some_begun : {W : Type 0} (contents : W → Option (List ℕ)) (t sent : Teller W) (writer : W) (strict : Bool) (explains : Option PageSize) (told : List Report) → IsNew t writer strict explains
    → AddsAll (HasReported contents) t sent told ⊎ AddsOut (HasReported contents) (HasWritten contents) t sent told → IsBegun explains told (contents writer) (contents sent.writer)
some_begun contents t sent writer strict explains told is either = elim either [
  | inl adds ↦ is_begun contents t sent writer strict explains told is (adds t [] (nothing_reported contents t writer strict explains is))
  | inr out ↦
      whole_begun explains told (contents writer) (contents sent.writer)
      (is_written contents t sent writer strict explains told is (out t [] (nothing_reported contents t writer strict explains is)))
]

-- THE RUN

over_is : (failed refused : Bool) → (failed || refused) ≡ true → failed ≡ false → refused ≡ true
over_is true refused h fine = absurd (false≢true (sym fine))
over_is false refused h fine = h

ok_out : {W K : Type 0} (contents : W → Option (List ℕ)) (hands_out : Bool) (has_kept : K → K → List Segment → Type 0) (had has : K) (frames : ℕ) (size : PageSize) (strict explain : Bool) (old new : Option (List ℕ)) (t sent : Teller W) (writer : W) (ended : Ended) (answered : Result ℕ RunFault)
    → IsNew t writer strict (explains_by explain size) → answered ≡ Ok ended.lines → ended.refused ≡ sent.refused
    → Runs hands_out frames size old new (HasReported contents) (HasWritten contents) is_over t sent has_kept had has answered
    → RunsScript hands_out frames size strict explain old new (contents writer) (contents sent.writer) has_kept had has (Ok ended)
unfolding first_of
ok_out contents hands_out has_kept had has frames size strict explain old new t sent writer ended answered is ok same runs =
    let r = subst (λ (x : Result ℕ RunFault). Runs hands_out frames size old new (HasReported contents) (HasWritten contents) is_over t sent has_kept had has x) ok runs in
    let h : HasWritten contents t sent r.0.told = r.2 t [] (nothing_reported contents t writer strict (explains_by explain size) is) in (
      first_of contents hands_out frames size strict (explains_by explain size) old new t writer is r.0,
      is_written contents t sent writer strict (explains_by explain size) r.0.told is h,
      r.1,
      same ∙ h.0.refused ∙ ap (λ b. cond b (last_refusal None r.0.told) None) is.strict_is,
      elim r.3 [ inl whole ↦ inl whole | inr over ↦ inr (ap is_some same ∙ over_is sent.out.1 (is_some sent.refused) over h.2) ],
      r.4,
    )

err_out : {W K : Type 0} (contents : W → Option (List ℕ)) (hands_out : Bool) (has_kept : K → K → List Segment → Type 0) (had has : K) (frames : ℕ) (size : PageSize) (strict explain : Bool) (old new : Option (List ℕ)) (t sent : Teller W) (writer : W) (answered : Result ℕ RunFault) (fault : RunFault)
    → IsNew t writer strict (explains_by explain size) → answered ≡ Err fault
    → Runs hands_out frames size old new (HasReported contents) (HasWritten contents) is_over t sent has_kept had has answered
    → RunsScript hands_out frames size strict explain old new (contents writer) (contents sent.writer) has_kept had has (Err fault)
unfolding first_of
err_out contents hands_out has_kept had has frames size strict explain old new t sent writer answered Read is err runs =
    let r = subst (λ (x : Result ℕ RunFault). Runs hands_out frames size old new (HasReported contents) (HasWritten contents) is_over t sent has_kept had has x) err runs in
    let h : HasWritten contents t sent r.0.told = r.2 t [] (nothing_reported contents t writer strict (explains_by explain size) is) in (
      first_of contents hands_out frames size strict (explains_by explain size) old new t writer is r.0,
      r.1,
      is_written contents t sent writer strict (explains_by explain size) r.0.told is h,
      r.3,
    )
err_out contents hands_out has_kept had has frames size strict explain old new t sent writer answered Write is err runs =
    let r = subst (λ (x : Result ℕ RunFault). Runs hands_out frames size old new (HasReported contents) (HasWritten contents) is_over t sent has_kept had has x) err runs in (
      first_of contents hands_out frames size strict (explains_by explain size) old new t writer is r.0,
      some_begun contents t sent writer strict (explains_by explain size) r.0.told is r.1,
      r.2,
    )
err_out contents hands_out has_kept had has frames size strict explain old new t sent writer answered Memory is err runs =
    let r = subst (λ (x : Result ℕ RunFault). Runs hands_out frames size old new (HasReported contents) (HasWritten contents) is_over t sent has_kept had has x) err runs in
    (r.0, ap (λ x. contents x.writer) r.1 ∙ ap contents is.writer_is, r.2)

-- the writer is handed back
pub runs_ok : {W K : Type 0} (contents : W → Option (List ℕ)) (hands_out : Bool) (has_kept : K → K → List Segment → Type 0) (had has : K) (frames : ℕ) (size : PageSize) (strict explain : Bool) (old new : Option (List ℕ)) (t sent : Teller W) (writer back : W) (ended : Ended) (answered : Result ℕ RunFault)
    → IsNew t writer strict (explains_by explain size) → answered ≡ Ok ended.lines → ended.refused ≡ sent.refused → back ≡ sent.writer
    → Runs hands_out frames size old new (HasReported contents) (HasWritten contents) is_over t sent has_kept had has answered
    → RunsScript hands_out frames size strict explain old new (contents writer) (contents back) has_kept had has (Ok ended)
runs_ok {W = W} contents hands_out has_kept had has frames size strict explain old new t sent writer back ended answered is ok same given runs =
    subst (λ (w : W). RunsScript hands_out frames size strict explain old new (contents writer) (contents w) has_kept had has (Ok ended)) (sym given)
    (ok_out contents hands_out has_kept had has frames size strict explain old new t sent writer ended answered is ok same runs)

pub runs_err : {W K : Type 0} (contents : W → Option (List ℕ)) (hands_out : Bool) (has_kept : K → K → List Segment → Type 0) (had has : K) (frames : ℕ) (size : PageSize) (strict explain : Bool) (old new : Option (List ℕ)) (t sent : Teller W) (writer back : W) (answered : Result ℕ RunFault) (fault : RunFault)
    → IsNew t writer strict (explains_by explain size) → answered ≡ Err fault → back ≡ sent.writer
    → Runs hands_out frames size old new (HasReported contents) (HasWritten contents) is_over t sent has_kept had has answered
    → RunsScript hands_out frames size strict explain old new (contents writer) (contents back) has_kept had has (Err fault)
runs_err {W = W} contents hands_out has_kept had has frames size strict explain old new t sent writer back answered fault is err given runs =
    subst (λ (w : W). RunsScript hands_out frames size strict explain old new (contents writer) (contents w) has_kept had has (Err fault)) (sym given)
    (err_out contents hands_out has_kept had has frames size strict explain old new t sent writer answered fault is err runs)
