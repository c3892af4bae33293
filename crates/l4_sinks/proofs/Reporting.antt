-- Answers reported to a teller one after another.
use Rattle.std.proofs.Common.{◌≡◌, ℕ, Bool, true, false, cond, ◌||◌, List, [], ◌∷◌, ◌++◌, Option, Some, None, is_some, refl, sym, ap, subst, ◌∙◌}
use Rattle.std.specs.Prelude.{MatchOption}
use Rattle.std.proofs.lemmas.Bool.{false≢true}
use Rattle.std.proofs.lemmas.List.{append-nil}
use mathlib.Core.List.{append_assoc}
use Rattle.l4_fpage.specs.declared.sizes.PageSize.{PageSize}
use Rattle.std.specs.Io.KnownBytes.{Appends}
use Rattle.l4_text.specs.Streams.{WentOut, HasTold, Tells}
use Rattle.l4_answers.specs.Reports.{Report, refused_line, report_text}
use Rattle.l4_sinks.specs.declared.teller.Teller.{Teller}
use Rattle.l4_decode.specs.Decoded.{IsMessageText}
use Rattle.l4_threads.specs.declared.Reply.{Reply}
use Rattle.l4_sinks.specs.Words.{says, received, reply_says}
use Rattle.l4_sinks.specs.Texts.{mark, said, Means, Explains, IsAnswerText, AreAnswerTexts, last_refusal, sentence_text}
use Rattle.l4_sinks.specs.Tellers.{HasReported, HasWritten}

-- one answer more
texts_more : (explains : Option PageSize) (told : List Report) (text : List ℕ) (report : Report) (last : List ℕ) → AreAnswerTexts explains told text → IsAnswerText explains report last
    → AreAnswerTexts explains (told ++ report ∷ []) (text ++ last)
texts_more explains [] text report last are is = (last, [], is, refl, ap (λ t. t ++ last) are ∙ sym (append-nil last))
texts_more explains (first ∷ told) text report last are is = (
  are.0,
  are.1 ++ last,
  are.2,
  texts_more explains told are.1 report last are.3 is,
  ap (λ t. t ++ last) are.4 ∙ append_assoc are.0 are.1 last,
)

-- what the last refusal says, with one answer more
pub refusal_more : (before : Option (List ℕ)) (told : List Report) (report : Report) → last_refusal before (told ++ report ∷ []) ≡ cond (is_some (refused_line report)) (Some (says report)) (last_refusal before told)
refusal_more before [] report = refl
refusal_more before (first ∷ told) report = refusal_more (cond (is_some (refused_line first)) (Some (says first)) before) told report

pub keeps_none : {A : Type 0} (b : Bool) (x y : Option A) → cond b x (cond b y None) ≡ cond b x None
keeps_none true x y = refl
keeps_none false x y = refl

-- ANSWERS

reported : {W : Type 0} (contents : W → Option (List ℕ)) (first old new : Teller W) (told : List Report) (report : Report) (text : List ℕ) → HasReported contents first old told
    → new.explains ≡ old.explains → new.strict ≡ old.strict → new.refused ≡ cond first.strict (last_refusal None (told ++ report ∷ [])) None
    → Tells (contents old.writer) (contents new.writer) old.out new.out text → IsAnswerText old.explains report text → HasReported contents first new (told ++ report ∷ [])
reported contents first old new told report text h explains strict refused tells is =
    let same = h.0 in (
      record { explains = explains ∙ same.explains; strict = strict ∙ same.strict; refused = refused },
      (
        h.1.0 ++ text,
        texts_more first.explains told h.1.0 report text h.1.1 (subst (λ (e : Option PageSize). IsAnswerText e report text) same.explains is),
        tells (contents first.writer) h.1.0 h.1.2,
      ),
    )

-- an answer that is no line's refusal
pub told_more : {W : Type 0} (contents : W → Option (List ℕ)) (first old new : Teller W) (told : List Report) (report : Report) (text : List ℕ) → HasReported contents first old told
    → is_some (refused_line report) ≡ false → new.explains ≡ old.explains → new.strict ≡ old.strict → new.refused ≡ old.refused
    → Tells (contents old.writer) (contents new.writer) old.out new.out text → IsAnswerText old.explains report text → HasReported contents first new (told ++ report ∷ [])
told_more contents first old new told report text h none explains strict refused tells is =
    let had : last_refusal None (told ++ report ∷ []) ≡ last_refusal None told = refusal_more None told report ∙ ap (λ b. cond b (Some (says report)) (last_refusal None told)) none in
    reported contents first old new told report text h explains strict (refused ∙ h.0.refused ∙ ap (λ (o : Option (List ℕ)). cond first.strict o None) (sym had)) tells is

-- a line's refusal
pub told_refusal : {W : Type 0} (contents : W → Option (List ℕ)) (first old new : Teller W) (told : List Report) (report : Report) (text : List ℕ) → HasReported contents first old told
    → is_some (refused_line report) ≡ true → new.explains ≡ old.explains → new.strict ≡ old.strict → new.refused ≡ cond old.strict (Some (says report)) old.refused
    → Tells (contents old.writer) (contents new.writer) old.out new.out text → IsAnswerText old.explains report text → HasReported contents first new (told ++ report ∷ [])
told_refusal contents first old new told report text h one explains strict refused tells is =
    let had : last_refusal None (told ++ report ∷ []) ≡ Some (says report) = refusal_more None told report ∙ ap (λ b. cond b (Some (says report)) (last_refusal None told)) one in
    reported contents first old new told report text h explains strict
    (
    refused
    ∙ ap (λ b. cond b (Some (says report)) old.refused) h.0.strict
    ∙ ap (λ (o : Option (List ℕ)). cond first.strict (Some (says report)) o) h.0.refused
    ∙ keeps_none first.strict (Some (says report)) (last_refusal None told)
    ∙ ap (λ (o : Option (List ℕ)). cond first.strict o None) (sym had)
    ) tells is

unwanted : (strict : Bool) (explains : Option PageSize) → false ≡ (strict || is_some explains) → (strict ≡ false) × (explains ≡ None)
unwanted true explains is = absurd (false≢true is)
unwanted false None is = (refl, refl)
unwanted false (Some size) is = absurd (false≢true is)

-- a line's refusal whose reason is not wanted
pub told_plainly : {W : Type 0} (contents : W → Option (List ℕ)) (first old new : Teller W) (told : List Report) (report : Report) → HasReported contents first old told
    → is_some (refused_line report) ≡ true → false ≡ (old.strict || is_some old.explains) → new.explains ≡ old.explains → new.strict ≡ old.strict → new.refused ≡ old.refused
    → Tells (contents old.writer) (contents new.writer) old.out new.out (report_text report) → HasReported contents first new (told ++ report ∷ [])
told_plainly contents first old new told report h one not explains strict refused tells =
    let no = unwanted old.strict old.explains not in
    told_refusal contents first old new told report (report_text report) h one explains strict (refused ∙ sym (ap (λ b. cond b (Some (says report)) old.refused) no.0)) tells
    (subst (λ (e : Option PageSize). IsAnswerText e report (report_text report)) (sym no.1) refl)

-- the line of an answer, and what is said of it
pub line_said : (explains : Option PageSize) (report : Report) (words : List ℕ) → ((size : PageSize) → Explains size report (sentence_text words))
    → IsAnswerText explains report (report_text report ++ said explains words)
line_said None report words is = append-nil (report_text report)
line_said (Some size) report words is = (sentence_text words, is size, refl)

-- WHAT IS HELD BACK

-- what is held back was written, or some of it
pub told_still : {W : Type 0} (contents : W → Option (List ℕ)) (first old new : Teller W) (told : List Report) → HasReported contents first old told
    → new.explains ≡ old.explains → new.strict ≡ old.strict → new.refused ≡ old.refused
    → Tells (contents old.writer) (contents new.writer) old.out new.out [] → HasReported contents first new told
told_still contents first old new told h explains strict refused tells =
    let same = h.0 in (
      record { explains = explains ∙ same.explains; strict = strict ∙ same.strict; refused = refused ∙ same.refused },
      (
        h.1.0,
        h.1.1,
        subst (λ (t : List ℕ). HasTold (contents first.writer) (contents new.writer) new.out.0 new.out.1 t) (append-nil h.1.0) (tells (contents first.writer) h.1.0 h.1.2),
      ),
    )

-- all that is held back was written
pub told_out : {W : Type 0} (contents : W → Option (List ℕ)) (first old new : Teller W) (told : List Report) → HasReported contents first old told
    → new.explains ≡ old.explains → new.strict ≡ old.strict → new.refused ≡ old.refused → new.out.1 ≡ false
    → ((start : Option (List ℕ)) (text : List ℕ) → HasTold start (contents old.writer) old.out.0 old.out.1 text → Appends start (contents new.writer) text) → HasWritten contents first new told
told_out contents first old new told h explains strict refused fine sent =
    let same = h.0 in (
      record { explains = explains ∙ same.explains; strict = strict ∙ same.strict; refused = refused ∙ same.refused },
      (h.1.0, h.1.1, sent (contents first.writer) h.1.0 h.1.2),
      fine,
    )

-- writing it failed
pub told_lost : {W : Type 0} (contents : W → Option (List ℕ)) (first old new : Teller W) (told : List Report) → HasReported contents first old told
    → new.explains ≡ old.explains → new.strict ≡ old.strict → new.refused ≡ old.refused → new.out.1 ≡ true
    → ((start : Option (List ℕ)) (text : List ℕ) → HasTold start (contents old.writer) old.out.0 old.out.1 text → WentOut start (contents new.writer) text) → HasReported contents first new told
told_lost contents first old new told h explains strict refused failed sent =
    let same = h.0 in (
      record { explains = explains ∙ same.explains; strict = strict ∙ same.strict; refused = refused ∙ same.refused },
      (
        h.1.0,
        h.1.1,
        subst (λ (b : Bool). HasTold (contents first.writer) (contents new.writer) new.out.0 b h.1.0) (sym failed) (sent (contents first.writer) h.1.0 h.1.2),
      ),
    )

-- REPLIES

pub means_sentence : (size : PageSize) (reply : Option Reply) (words : List ℕ) → None ≡ received reply → words ≡ reply_says reply → Means size reply (sentence_text words)
means_sentence size reply words none is =
    subst (λ (o : Option (List ℕ)). MatchOption o (sentence_text words ≡ sentence_text (reply_says reply)) (λ message. IsMessageText mark size message (sentence_text words))) none (ap sentence_text is)

pub means_message : (size : PageSize) (reply : Option Reply) (message words : List ℕ) → Some message ≡ received reply → IsMessageText mark size message words → Means size reply words
means_message size reply message words some is =
    subst (λ (o : Option (List ℕ)). MatchOption o (words ≡ sentence_text (reply_says reply)) (λ m. IsMessageText mark size m words)) some is
