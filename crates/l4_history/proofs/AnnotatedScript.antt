-- A script that is answered with annotations, line by line.
use Rattle.std.proofs.Common.{◌≡◌, ◌⊎◌, ℕ, ◌+◌, ◌-◌, ◌<◌, Bool, true, false, cond, List, [], ◌∷◌, ◌++◌, length, length-append, take, filter, Option, Some, None, is_some, Result, Ok, Err, inl, inr, refl, sym, ap, subst, ◌∙◌, arith}
use Rattle.std.proofs.lemmas.Bool.{false≢true}
use Rattle.std.proofs.lemmas.List.{append-nil}
use Rattle.std.proofs.lemmas.List.Elements.{All-push}
use Rattle.std.specs.Io.KnownBytes.{Consumes, Appends, IsAtEnd}
use Rattle.std.specs.List.{All}
use mathlib.Core.List.{append_assoc}
use denote.Enum.Bare.{sameb}
use Rattle.l4_fpage.specs.declared.sizes.PageSize.{PageSize}
use Rattle.l4_answers.specs.Reports.{Report, refused_line, has_refusal}
use Rattle.l4_text.specs.Grammar.{TextLine, lines_of}
use Rattle.l4_text.specs.Lines.{TakesLine, TakesRest, GivesLine}
use Rattle.l4_text.specs.Streams.{WentOut, HasTold, Tells}
use Rattle.l4_text.specs.declared.faults.RunFault.{RunFault}
use Rattle.l4_text.specs.declared.faults.RunFault.TheVariants.{Read, Write, Memory}
use Rattle.l4_text.specs.declared.lines.Ending.{Ending}
use Rattle.l4_text.specs.declared.lines.Ending.TheVariants.{Whole, Long, Cut}
use Rattle.l4_text.specs.contracts.lines.Ending.{the_type}
use Rattle.l4_text.proofs.Grammar.{cut_line, none_whole}
use Rattle.l4_text.proofs.LineSteps.{consumes_same}
use Rattle.l4_text.proofs.Telling.{tells_none, tells_more, tells_is, all_out, some_out}
use Rattle.l4_commands.specs.Requests.{asked_at, asked_of}
use Rattle.l4_shell.specs.Scripts.{IsOneAnswer}
use Rattle.l4_shell.specs.ByLines.{state_of, IsFirst}
use Rattle.l4_shell.specs.Sessions.{State, first_state, AnswersLine}
use Rattle.l4_shell.proofs.OneAnswer.{none_more, one_answer}
use Rattle.l4_shell.proofs.Scripting.{whole_front, asked_whole, asked_long}
use Rattle.l4_sinks.specs.Scripts.{explains_by, StopsAtRefusal}
use Rattle.l4_sinks.specs.Texts.{last_refusal}
use Rattle.l4_sinks.specs.Words.{says}
use Rattle.l4_sinks.specs.declared.scripts.Ended.{Ended}
use Rattle.l4_sinks.proofs.Running.{some_said}
use Rattle.l4_answers.proofs.Taking.{Taken, taken_none, taken_more, taken_parts, taken_with, something_kept, nothing_kept, line_of_more}
use Rattle.l4_history.specs.Annotations.{AnnotatesLine, AnnotatesLines, IsFirstFollower, AnnotatesFirst, AnnotatesSome, IsNextPart, IsTextBefore, AnnotatesScript}
use Rattle.l4_history.specs.Inside.Annotating.{refusal_of, TellsLine, TellsSome, RanOut, TellsFirst, TellsLines}
use Rattle.l4_history.specs.declared.annotating.Annotated.{Annotated}
use Rattle.l4_history.specs.declared.annotating.Annotations.{Annotations}
use Rattle.l4_history.specs.declared.moves.Follower.{Follower}

-- ---- lines and refusals

-- the last refusal of answers and of more
last_more : (before : Option (List ℕ)) (told more : List Report) → last_refusal before (told ++ more) ≡ last_refusal (last_refusal before told) more
last_more before [] more = refl
last_more before (report ∷ told) more = last_more (cond (is_some (refused_line report)) (Some (says report)) before) told more

pub none_is : (o : Option (List ℕ)) → is_some o ≡ false → o ≡ None
none_is None h = refl
none_is (Some x) h = absurd (false≢true (sym h))

-- answers without a refusal
quiet : (told : List Report) → has_refusal told ≡ false → last_refusal None told ≡ None
quiet told none = none_is (last_refusal None told) (some_said None told ∙ none)

-- no line was refused that would end the script
abbrev pub IsQuiet : Bool → List Report → Type 0
IsQuiet strict told = strict ≡ true → has_refusal told ≡ false

refusal_more : (strict : Bool) (told more : List Report) → IsQuiet strict told → refusal_of strict (told ++ more) ≡ refusal_of strict more
refusal_more false told more h = refl
refusal_more true told more h = last_more None told more ∙ ap (λ o. last_refusal o more) (quiet told (h refl))

quiet_refusal : (strict : Bool) (told : List Report) → IsQuiet strict told → refusal_of strict told ≡ None
quiet_refusal false told h = refl
quiet_refusal true told h = quiet told (h refl)

quiet_more : (strict : Bool) (told more : List Report) → IsQuiet strict told → refusal_of strict more ≡ None → IsQuiet strict (told ++ more)
quiet_more false told more h none is = absurd (false≢true is)
quiet_more true told more h none is = none_more told more (h refl) (sym (some_said None more) ∙ ap is_some none)

stops_more : (strict : Bool) (told more : List Report) (number count : ℕ) → IsQuiet strict told → IsOneAnswer number more → number ≡ count → strict ≡ true → StopsAtRefusal count (told ++ more)
stops_more strict told more number count h (inl none) same is = inl (none_more told more (h is) none)
stops_more strict told more number count h (inr one) same is = inr (told, one.0, one.1 ∙ ap Some same, h is, ap (λ (l : List Report). told ++ l) one.2)

-- ---- one line more

annotates_more : (explains : Option PageSize) (numbers : Bool) (m n next : State) (number : ℕ) (first after then' : Option Follower) (lines : List TextLine) (line : TextLine) (told more : List Report) (text one : List ℕ)
    → AnnotatesLines explains numbers m number first lines told text n after → AnnotatesLine explains numbers n (number + length lines) after line more one next then'
    → AnnotatesLines explains numbers m number first (lines ++ line ∷ []) (told ++ more) (text ++ one) next then'
annotates_more explains numbers m n next number first after then' [] line told more text one are is = (
  more,
  [],
  one,
  [],
  next,
  then',
  subst (λ (f : Option Follower). AnnotatesLine explains numbers m number f line more one next then') are.3
      (subst (λ (s : State). AnnotatesLine explains numbers s number after line more one next then') are.2
      (subst (λ (k : ℕ). AnnotatesLine explains numbers n k after line more one next then') (omega arith) is)),
  (refl, refl, refl, refl),
  ap (λ t. t ++ more) are.0 ∙ sym (append-nil more),
  ap (λ t. t ++ one) are.1 ∙ sym (append-nil one),
)
annotates_more explains numbers m n next number first after then' (l ∷ lines) line told more text one are is =
    let at : number + length (l ∷ lines) ≡ (number + 1) + length lines = omega arith in (
      are.0,
      are.1 ++ more,
      are.2,
      are.3 ++ one,
      are.4,
      are.5,
      are.6,
      annotates_more explains numbers are.4 n next (number + 1) are.5 after then' lines line are.1 more are.3 one are.7 (subst (λ (k : ℕ). AnnotatesLine explains numbers n k after line more one next then') at is),
      ap (λ t. t ++ more) are.8 ∙ append_assoc are.0 are.1 more,
      ap (λ t. t ++ one) are.9 ∙ append_assoc are.2 are.3 one,
    )

module _ (explains : Option PageSize) (strict numbers : Bool) (m : State) (first : Option Follower) (old : Option (List ℕ)) (written : Option (List ℕ)) (before : List ℕ × Bool) where
  -- the lines before the one of this number were answered, and none of them ended the script
  pub record LinesSoFar (mid : Option (List ℕ)) (now : List ℕ × ℕ) (number : ℕ) (n : State) (after : Option Follower) (v : Option (List ℕ)) (s : List ℕ × Bool) : Type 0 where
    pub lines : List TextLine
    pub taken : Taken old mid now number lines
    pub whole : All (λ line. line.whole ≡ true) lines
    pub told : List Report
    pub text : List ℕ
    pub annotates : AnnotatesLines explains numbers m 1 first lines told text n after
    pub quiet : IsQuiet strict told
    pub tells : Tells written v before s text

  -- what was held back went out
  pub lines_sent : (mid : Option (List ℕ)) (now : List ℕ × ℕ) (number : ℕ) (n : State) (after : Option Follower) (v u : Option (List ℕ)) (s t : List ℕ × Bool) → LinesSoFar mid now number n after v s → Tells v u s t [] → LinesSoFar mid now number n after u t
  lines_sent mid now number n after v u s t a sent = record {
    lines = a.lines;
    taken = a.taken;
    whole = a.whole;
    told = a.told;
    text = a.text;
    annotates = a.annotates;
    quiet = a.quiet;
    tells = tells_is written u before t (a.text ++ []) a.text (append-nil a.text) (tells_more written v u before s t a.text [] a.tells sent);
  }

  module _ (mid new : Option (List ℕ)) (now later : List ℕ × ℕ) (kept : List ℕ × Bool) (number : ℕ) (n : State) (after : Option Follower) (v : Option (List ℕ)) (s : List ℕ × Bool) (a : LinesSoFar mid now number n after v s) where
    -- the lines so far, where more was read, whose lines these are
    some_with : (read taken : List ℕ) (rest : List TextLine) → Consumes mid new read → now.0 ++ read ≡ taken → lines_of taken ≡ rest → TellsFirst explains strict numbers m n first after old new
    some_with read taken rest more same is =
        let w = taken_with old mid new now number a.lines read taken a.taken more same in
        record {
          read = a.taken.read ++ read;
          «from» = w.0;
          lines = a.lines;
          later = rest;
          parts = w.1 ∙ ap (λ ls. a.lines ++ ls) is;
          sure = inl a.whole;
          told = a.told;
          text = a.text;
          annotates = a.annotates;
          stops = λ is'. inl (a.quiet is');
        }

    rest_is : (l : TakesRest mid new now later kept) → now.0 ++ l.takes.read ≡ l.bytes
    rest_is l = l.takes.same ∙ ap (λ x. l.bytes ++ x) l.empty ∙ append-nil l.bytes

    -- a read failed
    pub lines_read : (e : RunFault) → GivesLine mid new now later kept (Err e) → TellsLines explains strict numbers m first old new written v before s (Err Read)
    unfolding some_with
    lines_read e gives =
        let l = gives.0 in
        let w = taken_with old mid new now number a.lines l.takes.read l.bytes a.taken l.takes.from (rest_is l) in (
          (n, after, some_with l.takes.read l.bytes (lines_of l.bytes) l.takes.from (rest_is l) refl),
          a.tells,
          whole_front a.lines (lines_of l.bytes) a.whole (none_whole l.bytes l.plain) ∙ sym (ap (λ ls. filter (λ (line : TextLine). line.whole) ls) w.1),
        )

    -- the script ended
    pub lines_end : (r : Option Ending) (ended : Ended) → GivesLine mid new now later kept (Ok r) → r ≡ None → ended.lines ≡ number - 1 → ended.refused ≡ None → TellsLines explains strict numbers m first old new written v before s (Ok ended)
    unfolding some_with
    lines_end r ended gives is count none =
        let g = subst (λ (o : Option Ending). GivesLine mid new now later kept (Ok o)) is gives in
        let l = g.0 in
        let empty : l.bytes ≡ [] = nothing_kept l.bytes (sym (ap (λ k. k.0) l.kept_is) ∙ g.2) in
        let w = taken_with old mid new now number a.lines l.takes.read l.bytes a.taken l.takes.from (rest_is l) in
        let all : lines_of (a.taken.read ++ l.takes.read) ≡ a.lines = w.1 ∙ ap (λ b. a.lines ++ lines_of b) empty ∙ append-nil a.lines in (
          (n, after, some_with l.takes.read l.bytes [] l.takes.from (rest_is l) (ap lines_of empty)),
          a.tells,
          (let at = a.taken.number_is in omega (arith, count, at)),
          none ∙ sym (quiet_refusal strict a.told a.quiet),
          inl (g.1, sym all),
        )

    -- a line, however it ended, and what was told of it
    module _ (next : State) (then' : Option Follower) (u : Option (List ℕ)) (t : List ℕ × Bool) (refused : Option (List ℕ)) where
      line_of : (ending : Ending) (line : TextLine) → asked_at n.session.machine.size n.names ending kept.0 ≡ asked_of n.session.machine.size n.names line → (h : TellsLine explains strict numbers n number ending kept.0 after refused next then' v u s t)
          → AnnotatesLine explains numbers n number after line h.answered.told h.text next then'
      line_of ending line asks h = record {
        answers = subst (λ q. AnswersLine n number q h.answered.told next) asks h.answered.answers;
        plain = h.plain;
        is_plain = h.answered.texts;
        annotated = h.annotated;
      }

      -- the lines so far, with this one
      with_line : (ending : Ending) (line : TextLine) → asked_at n.session.machine.size n.names ending kept.0 ≡ asked_of n.session.machine.size n.names line → (h : TellsLine explains strict numbers n number ending kept.0 after refused next then' v u s t)
          → AnnotatesLines explains numbers m 1 first (a.lines ++ line ∷ []) (a.told ++ h.answered.told) (a.text ++ h.text) next then'
      unfolding line_of
      with_line ending line asks h =
          annotates_more explains numbers m n next 1 first after then' a.lines line a.told h.answered.told a.text h.text a.annotates
          (subst (λ (k : ℕ). AnnotatesLine explains numbers n k after line h.answered.told h.text next then') a.taken.number_is (line_of ending line asks h))

      -- a whole line that does not end the script
      line_on : (ending : Ending) (l : TakesLine mid new now later kept) → asked_at n.session.machine.size n.names ending kept.0 ≡ asked_of n.session.machine.size n.names (record { bytes = l.bytes; whole = true })
          → TellsLine explains strict numbers n number ending kept.0 after refused next then' v u s t → refused ≡ None → LinesSoFar new later (number + 1) next then' u t
      unfolding with_line
      line_on ending l asks h none =
          let line : TextLine = record { bytes = l.bytes; whole = true } in
          record {
            lines = a.lines ++ line ∷ [];
            taken = taken_more old mid new now later kept number a.lines a.taken l;
            whole = All-push (λ (x : TextLine). x.whole ≡ true) a.lines line a.whole refl;
            told = a.told ++ h.answered.told;
            text = a.text ++ h.text;
            annotates = with_line ending line asks h;
            quiet = quiet_more strict a.told h.answered.told a.quiet (sym h.answered.refused_is ∙ none);
            tells = tells_more written v u before s t a.text h.text a.tells h.tells;
          }

      pub lines_on : (ending : Ending) (r : Option Ending) → GivesLine mid new now later kept (Ok r) → r ≡ Some ending → TellsLine explains strict numbers n number ending kept.0 after refused next then' v u s t
          → refused ≡ None → false ≡ sameb the_type ending Cut → LinesSoFar new later (number + 1) next then' u t
      unfolding line_on
      lines_on Whole r gives is h none uncut =
          let g = subst (λ (o : Option Ending). GivesLine mid new now later kept (Ok o)) is gives in
          line_on Whole g.0 (asked_whole n.session.machine.size n.names g.0.bytes kept g.0.kept_is g.1) h none
      lines_on Long r gives is h none uncut =
          let g = subst (λ (o : Option Ending). GivesLine mid new now later kept (Ok o)) is gives in
          line_on Long g.0 (asked_long n.session.machine.size n.names g.0.bytes kept g.0.kept_is g.1) h none
      lines_on Cut r gives is h none uncut = absurd (false≢true uncut)

      -- the refusal of this line, if it ends the script
      stops_with : (line : TextLine) (ending : Ending) (h : TellsLine explains strict numbers n number ending kept.0 after refused next then' v u s t) → strict ≡ true
          → StopsAtRefusal (length (a.lines ++ line ∷ [])) (a.told ++ h.answered.told)
      stops_with line ending h is =
          let at : number ≡ length (a.lines ++ line ∷ []) = let k = a.taken.number_is in omega (arith, k, length-append a.lines (line ∷ [])) in
          stops_more strict a.told h.answered.told number (length (a.lines ++ line ∷ [])) a.quiet (one_answer n number (asked_at n.session.machine.size n.names ending kept.0) h.answered.told next h.answered.answers) at is

      -- a refused line ended the script
      line_over : (ending : Ending) (l : TakesLine mid new now later kept) (ended : Ended) → asked_at n.session.machine.size n.names ending kept.0 ≡ asked_of n.session.machine.size n.names (record { bytes = l.bytes; whole = true })
          → TellsLine explains strict numbers n number ending kept.0 after refused next then' v u s t → ended.lines ≡ number → ended.refused ≡ refused → is_some refused ≡ true
          → TellsLines explains strict numbers m first old new written u before t (Ok ended)
      unfolding with_line stops_with
      line_over ending l ended asks h count why is =
          let line : TextLine = record { bytes = l.bytes; whole = true } in
          let taken = taken_more old mid new now later kept number a.lines a.taken l in (
            (
              next,
              then',
              record {
                read = taken.read;
                «from» = taken.«from»;
                lines = a.lines ++ line ∷ [];
                later = lines_of later.0;
                parts = taken_parts old new later (number + 1) (a.lines ++ line ∷ []) taken;
                sure = inl (All-push (λ (x : TextLine). x.whole ≡ true) a.lines line a.whole refl);
                told = a.told ++ h.answered.told;
                text = a.text ++ h.text;
                annotates = with_line ending line asks h;
                stops = stops_with line ending h;
              },
            ),
            tells_more written v u before s t a.text h.text a.tells h.tells,
            (let k = a.taken.number_is in omega (arith, count, k, length-append a.lines (line ∷ []))),
            why ∙ h.answered.refused_is ∙ sym (refusal_more strict a.told h.answered.told a.quiet),
            inr (ap is_some why ∙ is),
          )

      pub lines_over : (ending : Ending) (r : Option Ending) (ended : Ended) → GivesLine mid new now later kept (Ok r) → r ≡ Some ending → TellsLine explains strict numbers n number ending kept.0 after refused next then' v u s t
          → ended.lines ≡ number → ended.refused ≡ refused → (is_some refused ≡ true) ⊎ (true ≡ sameb the_type ending Cut) → TellsLines explains strict numbers m first old new written u before t (Ok ended)
      unfolding line_over with_line stops_with rest_is
      lines_over Whole r ended gives is h count why over =
          let g = subst (λ (o : Option Ending). GivesLine mid new now later kept (Ok o)) is gives in
          line_over Whole g.0 ended (asked_whole n.session.machine.size n.names g.0.bytes kept g.0.kept_is g.1) h count why (elim over [ inl some ↦ some | inr cut ↦ absurd (false≢true (sym cut)) ])
      lines_over Long r ended gives is h count why over =
          let g = subst (λ (o : Option Ending). GivesLine mid new now later kept (Ok o)) is gives in
          line_over Long g.0 ended (asked_long n.session.machine.size n.names g.0.bytes kept g.0.kept_is g.1) h count why (elim over [ inl some ↦ some | inr cut ↦ absurd (false≢true (sym cut)) ])
      lines_over Cut r ended gives is h count why over =
          let g = subst (λ (o : Option Ending). GivesLine mid new now later kept (Ok o)) is gives in
          let l = g.0 in
          let some : 0 < length (take 4096 l.bytes) = omega (arith, g.2, ap (λ k. length k.0) l.kept_is) in
          let line : TextLine = record { bytes = l.bytes; whole = false } in
          let w = taken_with old mid new now number a.lines l.takes.read l.bytes a.taken l.takes.from (rest_is l) in
          let all : lines_of (a.taken.read ++ l.takes.read) ≡ a.lines ++ line ∷ [] = w.1 ∙ ap (λ ls. a.lines ++ ls) (cut_line l.bytes l.plain (something_kept l.bytes some)) in (
            (
              next,
              then',
              record {
                read = a.taken.read ++ l.takes.read;
                «from» = w.0;
                lines = a.lines ++ line ∷ [];
                later = [];
                parts = all ∙ sym (append-nil (a.lines ++ line ∷ []));
                sure = inr g.1;
                told = a.told ++ h.answered.told;
                text = a.text ++ h.text;
                annotates = with_line Cut line refl h;
                stops = stops_with line Cut h;
              },
            ),
            tells_more written v u before s t a.text h.text a.tells h.tells,
            (let k = a.taken.number_is in omega (arith, count, k, length-append a.lines (line ∷ []))),
            why ∙ h.answered.refused_is ∙ sym (refusal_more strict a.told h.answered.told a.quiet),
            inl (g.1, sym all),
          )

    -- memory ran out in this line
    module _ (u : Option (List ℕ)) (t : List ℕ × Bool) (fault : RunFault) (ending : Ending) (line : TextLine) where
      next_part : (rest : List TextLine) (text : List ℕ) → (line.whole ≡ true) ⊎ IsAtEnd new → asked_at n.session.machine.size n.names ending kept.0 ≡ asked_of n.session.machine.size n.names line
          → (text ≡ []) ⊎ TellsSome explains strict numbers n number ending kept.0 after text → IsNextPart explains strict numbers n after a.lines (line ∷ rest) a.told new text
      next_part rest text sure asks (inl none) = inl none
      next_part rest text sure asks (inr h) =
          let at : number ≡ length a.lines + 1 = let k = a.taken.number_is in omega (arith, k) in
          let some : AnnotatesSome explains numbers n number after line text = record {
            told = h.answered.told;
            new = h.n;
            answers = subst (λ q. AnswersLine n number q h.answered.told h.n) asks h.answered.answers;
            plain = h.plain;
            is_plain = h.answered.texts;
            part = h.part;
          } in
          inr (line, rest, refl, sure, a.quiet, subst (λ (k : ℕ). AnnotatesSome explains numbers n k after line text) at some)

      ran_out : (read taken : List ℕ) (rest : List TextLine) → Consumes mid new read → now.0 ++ read ≡ taken → lines_of taken ≡ line ∷ rest → (line.whole ≡ true) ⊎ IsAtEnd new
          → asked_at n.session.machine.size n.names ending kept.0 ≡ asked_of n.session.machine.size n.names line → RanOut explains strict numbers n number ending kept.0 after v u s t fault
          → TellsLines explains strict numbers m first old new written u before t (Err fault)
      unfolding some_with
      ran_out read taken rest more same is sure asks h =
          subst (λ (f : RunFault). TellsLines explains strict numbers m first old new written u before t (Err f)) (sym h.0)
          ((n, after, some_with read taken (line ∷ rest) more same is), h.1.0, next_part rest h.1.0 sure asks h.1.1, tells_more written v u before s t a.text h.1.0 a.tells h.1.2)

    pub lines_ran_out : (ending : Ending) (r : Option Ending) (u : Option (List ℕ)) (t : List ℕ × Bool) (fault : RunFault) → GivesLine mid new now later kept (Ok r) → r ≡ Some ending
        → RanOut explains strict numbers n number ending kept.0 after v u s t fault → TellsLines explains strict numbers m first old new written u before t (Err fault)
    unfolding rest_is
    lines_ran_out Whole r u t fault gives is h =
        let g = subst (λ (o : Option Ending). GivesLine mid new now later kept (Ok o)) is gives in
        let l = g.0 in
        ran_out u t fault Whole (record { bytes = l.bytes; whole = true }) l.takes.read ((l.bytes ++ 10 ∷ []) ++ later.0) (lines_of later.0) l.takes.from l.takes.same
        (line_of_more mid new now later kept l) (inl refl) (asked_whole n.session.machine.size n.names l.bytes kept l.kept_is g.1) h
    lines_ran_out Long r u t fault gives is h =
        let g = subst (λ (o : Option Ending). GivesLine mid new now later kept (Ok o)) is gives in
        let l = g.0 in
        ran_out u t fault Long (record { bytes = l.bytes; whole = true }) l.takes.read ((l.bytes ++ 10 ∷ []) ++ later.0) (lines_of later.0) l.takes.from l.takes.same
        (line_of_more mid new now later kept l) (inl refl) (asked_long n.session.machine.size n.names l.bytes kept l.kept_is g.1) h
    lines_ran_out Cut r u t fault gives is h =
        let g = subst (λ (o : Option Ending). GivesLine mid new now later kept (Ok o)) is gives in
        let l = g.0 in
        let some : 0 < length (take 4096 l.bytes) = omega (arith, g.2, ap (λ k. length k.0) l.kept_is) in
        ran_out u t fault Cut (record { bytes = l.bytes; whole = false }) l.takes.read l.bytes [] l.takes.from (rest_is l) (cut_line l.bytes l.plain (something_kept l.bytes some)) (inr g.1) refl h

  -- a write failed
  pub lines_failed : (mid : Option (List ℕ)) (now : List ℕ × ℕ) (number : ℕ) (n : State) (after : Option Follower) (v : Option (List ℕ)) (s : List ℕ × Bool) → LinesSoFar mid now number n after v s → s.1 ≡ true
      → TellsLines explains strict numbers m first old mid written v before s (Err Write)
  unfolding some_with
  lines_failed mid now number n after v s a failed =
      ((n, after, some_with mid mid now now ([], false) number n after v s a [] now.0 (lines_of now.0) (consumes_same mid) (append-nil now.0) refl), a.tells, failed)

-- at the start
pub lines_none : (explains : Option PageSize) (strict numbers : Bool) (m : State) (first : Option Follower) (old : Option (List ℕ)) (written : Option (List ℕ)) (s : List ℕ × Bool) (now : List ℕ × ℕ) → now ≡ ([], 0)
    → LinesSoFar explains strict numbers m first old written s old now 1 m first written s
lines_none explains strict numbers m first old written s now is = record {
  lines = [];
  taken = taken_none old now is;
  whole = λ k d lt. absurd (omega arith);
  told = [];
  text = [];
  annotates = (refl, refl, refl, refl);
  quiet = λ is'. refl;
  tells = tells_none written s;
}

-- the modes stay what they were at the start
pub tells_modes : (first now : Annotated) (m n : State) (line : ℕ) (ending : Ending) (bytes kept : List ℕ) (follower after : Option Follower) (refused : Option (List ℕ)) (w v : Option (List ℕ)) (s t : List ℕ × Bool)
    → now ≡ record first { run = now.run; follower = now.follower } → bytes ≡ kept → TellsLine now.explains now.strict now.number m line ending bytes follower refused n after w v s t
    → TellsLine first.explains first.strict first.number m line ending kept follower refused n after w v s t
tells_modes first now m n line ending bytes kept follower after refused w v s t was same h =
    subst (λ (b : List ℕ). TellsLine first.explains first.strict first.number m line ending b follower refused n after w v s t) same
    (subst (λ (a : Annotated). TellsLine a.explains a.strict a.number m line ending bytes follower refused n after w v s t) was h)

pub ran_modes : (first now : Annotated) (m : State) (line : ℕ) (ending : Ending) (bytes kept : List ℕ) (follower : Option Follower) (fault : RunFault) (w v : Option (List ℕ)) (s t : List ℕ × Bool)
    → now ≡ record first { run = now.run; follower = now.follower } → bytes ≡ kept → RanOut now.explains now.strict now.number m line ending bytes follower w v s t fault
    → RanOut first.explains first.strict first.number m line ending kept follower w v s t fault
ran_modes first now m line ending bytes kept follower fault w v s t was same h =
    subst (λ (b : List ℕ). RanOut first.explains first.strict first.number m line ending b follower w v s t fault) same
    (subst (λ (a : Annotated). RanOut a.explains a.strict a.number m line ending bytes follower w v s t fault) was h)

pub kept_modes : (first now new : Annotated) → now ≡ record first { run = now.run; follower = now.follower } → new ≡ record now { run = new.run; follower = new.follower } → new ≡ record first { run = new.run; follower = new.follower }
kept_modes first now new was is = is ∙ ap (λ (a : Annotated). record a { run = new.run; follower = new.follower }) was

-- ---- the script

-- the kernel of a script as it boots, in these modes
abbrev pub Starts : ℕ → PageSize → Annotations → Annotated → Type 0
Starts frames size notes a =
    IsFirst frames size a.run × (a.explains ≡ explains_by notes.style.explain size) × (a.strict ≡ notes.style.strict) × (a.number ≡ notes.number)
    × IsFirstFollower frames size notes.moves a.follower

first_of : (frames : ℕ) (size : PageSize) (notes : Annotations) (a : Annotated) (n : State) (after : Option Follower) (old new : Option (List ℕ)) → Starts frames size notes a
    → TellsFirst a.explains a.strict a.number (state_of a.run) n a.follower after old new → AnnotatesFirst frames size notes old new
first_of frames size notes a n after old new b s = record {
  read = s.read;
  «from» = s.«from»;
  lines = s.lines;
  later = s.later;
  parts = s.parts;
  sure = s.sure;
  boot = b.0.0;
  boots = b.0.1;
  sized = b.0.2;
  follower = a.follower;
  follows = b.4;
  told = s.told;
  text = s.text;
  last = n;
  after = after;
  annotates =
      subst (λ (e : Option PageSize). AnnotatesLines e notes.number (first_state frames b.0.0) 1 a.follower s.lines s.told s.text n after) b.1
      (subst (λ (k : Bool). AnnotatesLines a.explains k (first_state frames b.0.0) 1 a.follower s.lines s.told s.text n after) b.3
      (subst (λ (m : State). AnnotatesLines a.explains a.number m 1 a.follower s.lines s.told s.text n after) b.0.3 s.annotates));
  stops = λ is. s.stops (b.2 ∙ is);
}

-- the text where memory ran out
text_before : (frames : ℕ) (size : PageSize) (notes : Annotations) (a : Annotated) (n : State) (after : Option Follower) (old new : Option (List ℕ)) (b : Starts frames size notes a)
    (f : TellsFirst a.explains a.strict a.number (state_of a.run) n a.follower after old new) (more : List ℕ) → IsNextPart a.explains a.strict a.number n after f.lines f.later f.told new more
    → IsTextBefore frames size notes old new (first_of frames size notes a n after old new b f) (f.text ++ more)
unfolding first_of
text_before frames size notes a n after old new b f more part = (
  more,
  subst (λ (e : Option PageSize). IsNextPart e notes.style.strict notes.number n after f.lines f.later f.told new more) b.1
      (subst (λ (k : Bool). IsNextPart a.explains k notes.number n after f.lines f.later f.told new more) b.2
      (subst (λ (k : Bool). IsNextPart a.explains a.strict k n after f.lines f.later f.told new more) b.3 part)),
  refl,
)

-- all of the text of the first lines
text_whole : (frames : ℕ) (size : PageSize) (notes : Annotations) (old new : Option (List ℕ)) (f : AnnotatesFirst frames size notes old new) → IsTextBefore frames size notes old new f f.text
text_whole frames size notes old new f = ([], inl refl, sym (append-nil f.text))

module _ (frames : ℕ) (size : PageSize) (notes : Annotations) (a : Annotated) (old new written v now : Option (List ℕ)) (before s : List ℕ × Bool) (b : Starts frames size notes a) (empty : before ≡ ([], false)) where
  -- all that was told went out
  pub script_out : (result : Result Ended RunFault) → TellsLines a.explains a.strict a.number (state_of a.run) a.follower old new written v before s result → s.1 ≡ false
      → ((start : Option (List ℕ)) (told : List ℕ) → HasTold start v s.0 s.1 told → Appends start now told) → AnnotatesScript frames size notes old new written now result
  unfolding first_of
  script_out (Ok ended) h whole sent = (
    first_of frames size notes a h.0.0 h.0.1 old new b h.0.2,
    all_out written v now before s h.0.2.text empty h.1 sent,
    h.2,
    h.3 ∙ ap (λ (k : Bool). refusal_of k h.0.2.told) b.2,
    h.4,
  )
  script_out (Err Read) h whole sent = (first_of frames size notes a h.0.0 h.0.1 old new b h.0.2, h.2, all_out written v now before s h.0.2.text empty h.1 sent)
  script_out (Err Write) h whole sent = absurd (false≢true (sym whole ∙ h.2))
  script_out (Err Memory) h whole sent =
      inr (first_of frames size notes a h.0.0 h.0.1 old new b h.0.2, h.0.2.text ++ h.1, text_before frames size notes a h.0.0 h.0.1 old new b h.0.2 h.1 h.2, all_out written v now before s (h.0.2.text ++ h.1) empty h.3 sent)

  -- a write failed
  lost_whole : (n : State) (after : Option Follower) (f : TellsFirst a.explains a.strict a.number (state_of a.run) n a.follower after old new) → Tells written v before s f.text
      → ((start : Option (List ℕ)) (told : List ℕ) → HasTold start v s.0 s.1 told → WentOut start now told) → AnnotatesScript frames size notes old new written now (Err Write)
  unfolding first_of
  lost_whole n after f tells lost =
      let g = first_of frames size notes a n after old new b f in (g, f.text, text_whole frames size notes old new g, some_out written v now before s f.text empty tells lost)

  pub script_lost : (result : Result Ended RunFault) → TellsLines a.explains a.strict a.number (state_of a.run) a.follower old new written v before s result
      → ((start : Option (List ℕ)) (told : List ℕ) → HasTold start v s.0 s.1 told → WentOut start now told) → AnnotatesScript frames size notes old new written now (Err Write)
  script_lost (Ok ended) h lost = lost_whole h.0.0 h.0.1 h.0.2 h.1 lost
  script_lost (Err Read) h lost = lost_whole h.0.0 h.0.1 h.0.2 h.1 lost
  script_lost (Err Write) h lost = lost_whole h.0.0 h.0.1 h.0.2 h.1 lost
  script_lost (Err Memory) h lost =
      (first_of frames size notes a h.0.0 h.0.1 old new b h.0.2, h.0.2.text ++ h.1, text_before frames size notes a h.0.0 h.0.1 old new b h.0.2 h.1 h.2, some_out written v now before s (h.0.2.text ++ h.1) empty h.3 lost)
