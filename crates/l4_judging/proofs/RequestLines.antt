-- The requests of a list, line by line.
use Rattle.std.proofs.Common.{◌≡◌, ℕ, ◌+◌, ◌<◌, ◌⊎◌, inl, inr, Bool, true, false, List, [], ◌∷◌, ◌++◌, length, take, Option, Some, None, Result, Ok, Err, sym, ap, subst, ◌∙◌, refl, arith}
use Rattle.std.specs.Io.KnownBytes.{Consumes, IsAtEnd}
use Rattle.std.proofs.lemmas.List.{append-nil}
use mathlib.Core.List.{append_assoc}
use Rattle.l4_answers.proofs.Taking.{Taken, taken_none, taken_more, taken_with, rest_is, line_of_more, ending_whole, ending_long, nothing_kept, something_kept}
use Rattle.l4_text.specs.Grammar.{TextLine, lines_of, ending_of}
use Rattle.l4_text.specs.Lines.{TakesLine, GivesLine}
use Rattle.l4_text.specs.declared.faults.RunFault.{RunFault}
use Rattle.l4_text.specs.declared.faults.RunFault.TheVariants.{Read, Memory}
use Rattle.l4_text.specs.declared.lines.Ending.{Ending}
use Rattle.l4_text.specs.declared.lines.Ending.TheVariants.{Whole}
use Rattle.l4_text.proofs.Grammar.{cut_line, none_whole}
use Rattle.l4_step_lines.specs.declared.running.Fault.{Fault}
use Rattle.l4_step_lines.specs.declared.running.Fault.TheVariants.{Stopped, Cut, Long}
use Rattle.l4_judging.specs.Inside.Judged.{EndsBy, KeepsLine}
use Rattle.l4_judging.specs.Requests.{request_text, requests_text, AreWhole, ReadsWhole, FailsAt, ReadsRequests}

-- ONE LINE MORE

whole_more : (lines : List TextLine) (line : TextLine) → AreWhole lines → ending_of line ≡ Whole → AreWhole (lines ++ line ∷ [])
whole_more [] line are is = (is, tt)
whole_more (first ∷ lines) line are is = (are.0, whole_more lines line are.1 is)

requests_more : (lines : List TextLine) (line : TextLine) → requests_text (lines ++ line ∷ []) ≡ requests_text lines ++ request_text line.bytes
requests_more [] line = append-nil (request_text line.bytes)
requests_more (first ∷ lines) line = ap (λ text. request_text first.bytes ++ text) (requests_more lines line) ∙ sym (append_assoc (request_text first.bytes) (requests_text lines) (request_text line.bytes))

-- THE LOOP

-- the lines so far, before the one of this number, and their requests
pub record Kept (old new : Option (List ℕ)) (now : List ℕ × ℕ) (number : ℕ) (text : List ℕ) : Type 0 where
  pub lines : List TextLine
  pub taken : Taken old new now number lines
  pub whole : AreWhole lines
  pub text_is : text ≡ requests_text lines

pub kept_none : (a : Option (List ℕ)) (now : List ℕ × ℕ) (text : List ℕ) → now ≡ ([], 0) → text ≡ [] → Kept a a now 1 text
kept_none a now text is empty = record {
  lines = [];
  taken = taken_none a now is;
  whole = tt;
  text_is = empty;
}

kept_more : (old mid new : Option (List ℕ)) (now after : List ℕ × ℕ) (kept : List ℕ × Bool) (number : ℕ) (text more : List ℕ) → Kept old mid now number text → TakesLine mid new now after kept → kept.1 ≡ false → KeepsLine text kept.0 more true
    → Kept old new after (number + 1) more
kept_more old mid new now after kept number text more k l short keeps =
    let line : TextLine = record { bytes = l.bytes; whole = true } in
    let e = ending_whole l.bytes kept l.kept_is short in
    record {
      lines = k.lines ++ line ∷ [];
      taken = taken_more old mid new now after kept number k.lines k.taken l;
      whole = whole_more k.lines line k.whole e.0;
      text_is = keeps ∙ ap (λ t. t ++ request_text kept.0) k.text_is ∙ ap (λ b. requests_text k.lines ++ request_text b) e.1 ∙ sym (requests_more k.lines line);
    }

pub kept_on : (old mid new : Option (List ℕ)) (now after : List ℕ × ℕ) (kept : List ℕ × Bool) (number : ℕ) (text more bytes : List ℕ) (r : Option Ending) (ending : Ending) (ok : Bool) → Kept old mid now number text → GivesLine mid new now after kept (Ok r) → r ≡ Some ending → ending ≡ Whole
    → bytes ≡ kept.0 → ok ≡ true → KeepsLine text bytes more ok → Kept old new after (number + 1) more
kept_on old mid new now after kept number text more bytes r ending ok k gives is whole same ok_is keeps =
    let g = subst (λ (o : Option Ending). GivesLine mid new now after kept (Ok o)) (is ∙ ap Some whole) gives in
    kept_more old mid new now after kept number text more k g.0 g.1 (subst (λ (b : List ℕ). KeepsLine text b more true) same (subst (λ (b : Bool). KeepsLine text bytes more b) ok_is keeps))

-- HOW IT ENDS

whole_with : (old mid new : Option (List ℕ)) (now : List ℕ × ℕ) (number : ℕ) (text read taken : List ℕ) (later : List TextLine) → Kept old mid now number text → Consumes mid new read → now.0 ++ read ≡ taken → lines_of taken ≡ later → ReadsWhole old new
whole_with old mid new now number text read taken later k more same is =
    let w = taken_with old mid new now number k.lines read taken k.taken more same in
    record {
      read = k.taken.read ++ read;
      «from» = w.0;
      lines = k.lines;
      later = later;
      parts = w.1 ∙ ap (λ ls. k.lines ++ ls) is;
      whole = k.whole;
    }

-- a read failed
pub kept_unread : (old mid new : Option (List ℕ)) (now after : List ℕ × ℕ) (kept : List ℕ × Bool) (number : ℕ) (text : List ℕ) (e : RunFault) → Kept old mid now number text → GivesLine mid new now after kept (Err e) → ReadsRequests old new (Err (Stopped Read))
unfolding whole_with
kept_unread old mid new now after kept number text e k gives =
    let l = gives.0 in
    (whole_with old mid new now number text l.takes.read l.bytes (lines_of l.bytes) k l.takes.from (rest_is mid new now after kept l) refl, none_whole l.bytes l.plain)

-- the list ended
pub kept_all : (old mid new : Option (List ℕ)) (now after : List ℕ × ℕ) (kept : List ℕ × Bool) (number : ℕ) (text requests : List ℕ) (r : Option Ending) → Kept old mid now number text → GivesLine mid new now after kept (Ok r) → r ≡ None → requests ≡ text → ReadsRequests old new (Ok requests)
unfolding whole_with
kept_all old mid new now after kept number text requests r k gives is same =
    let g = subst (λ (o : Option Ending). GivesLine mid new now after kept (Ok o)) is gives in
    let l = g.0 in
    let none : l.bytes ≡ [] = nothing_kept l.bytes (sym (ap (λ x. x.0) l.kept_is) ∙ g.2) in
    (whole_with old mid new now number text l.takes.read l.bytes [] k l.takes.from (rest_is mid new now after kept l) (ap lines_of none), refl, g.1, same ∙ k.text_is)

-- the ending of a line ended it
pub kept_by : (old mid new : Option (List ℕ)) (now after : List ℕ × ℕ) (kept : List ℕ × Bool) (number : ℕ) (text : List ℕ) (r : Option Ending) (ending : Ending) (fault : Fault) → Kept old mid now number text → GivesLine mid new now after kept (Ok r) → r ≡ Some ending → EndsBy number ending (Err fault)
    → ReadsRequests old new (Err fault)
unfolding whole_with
kept_by old mid new now after kept number text r ending fault k gives is (inl by) =
    let g = subst (λ (o : Option Ending). GivesLine mid new now after kept (Ok o)) (is ∙ ap Some by.0) gives in
    let l = g.0 in
    let line : TextLine = record { bytes = l.bytes; whole = true } in
    subst (λ (f : Fault). ReadsRequests old new (Err f)) (sym by.1)
    (whole_with old mid new now number text l.takes.read ((l.bytes ++ 10 ∷ []) ++ after.0) (line ∷ lines_of after.0) k l.takes.from l.takes.same (line_of_more mid new now after kept l), inr (ending_long l.bytes kept l.kept_is g.1, ap Long k.taken.number_is))
kept_by old mid new now after kept number text r ending fault k gives is (inr by) =
    let g = subst (λ (o : Option Ending). GivesLine mid new now after kept (Ok o)) (is ∙ ap Some by.0) gives in
    let l = g.0 in
    let some : 0 < length (take 4096 l.bytes) = omega (arith, g.2, ap (λ x. length x.0) l.kept_is) in
    let line : TextLine = record { bytes = l.bytes; whole = false } in
    subst (λ (f : Fault). ReadsRequests old new (Err f)) (sym by.1)
    (whole_with old mid new now number text l.takes.read l.bytes (line ∷ []) k l.takes.from (rest_is mid new now after kept l) (cut_line l.bytes l.plain (something_kept l.bytes some)), inl (refl, g.1, ap Cut k.taken.number_is))

-- memory ran out at a line
pub kept_full : (old mid new : Option (List ℕ)) (now after : List ℕ × ℕ) (kept : List ℕ × Bool) (number : ℕ) (text : List ℕ) (r : Option Ending) (ending : Ending) → Kept old mid now number text → GivesLine mid new now after kept (Ok r) → r ≡ Some ending → ending ≡ Whole
    → ReadsRequests old new (Err (Stopped Memory))
kept_full old mid new now after kept number text r ending k gives is whole =
    let g = subst (λ (o : Option Ending). GivesLine mid new now after kept (Ok o)) (is ∙ ap Some whole) gives in
    let l = g.0 in
    whole_with old mid new now number text l.takes.read ((l.bytes ++ 10 ∷ []) ++ after.0) (record { bytes = l.bytes; whole = true } ∷ lines_of after.0) k l.takes.from l.takes.same (line_of_more mid new now after kept l)
