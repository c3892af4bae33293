-- The lines of a list, answered one by one.
use Rattle.std.proofs.Common.{◌≡◌, ℕ, ◌+◌, ◌<◌, ◌≤◌, Bool, true, false, cond, nat_lt, List, [], ◌∷◌, ◌++◌, length, take, Option, Some, None, option_map, ok_or, Result, Ok, Err, sym, ap, subst, ◌∙◌, refl, arith}
use Rattle.std.specs.Io.KnownBytes.{Consumes, IsAtEnd, Appends}
use Rattle.std.proofs.lemmas.List.{append-nil, take_all}
use Rattle.std.proofs.lemmas.Bool.Decides.{nat_tests}
use mathlib.Core.List.{append_assoc}
use Rattle.l4_fpage.specs.declared.sizes.PageSize.{PageSize}
use Rattle.l4_ipc.specs.Machine.{Machine, IsBoot}
use Rattle.l4_text.specs.Grammar.{TextLine, lines_of, ending_of, is_silent}
use Rattle.l4_text.specs.Lines.{kept_of, TakesLine, GivesLine}
use Rattle.l4_text.specs.Streams.{WentOut, HasTold, Tells}
use Rattle.l4_text.specs.Tokens.{tokens_of}
use Rattle.l4_text.specs.declared.lines.Ending.{Ending}
use Rattle.l4_text.specs.declared.lines.Ending.TheVariants.{Whole, Long as TooLong, Cut as IsCut}
use Rattle.l4_text.specs.declared.faults.RunFault.{RunFault}
use Rattle.l4_text.specs.declared.faults.RunFault.TheVariants.{Read, Write, Memory}
use Rattle.l4_text.proofs.Grammar.{cut_line, none_whole}
use Rattle.l4_text.proofs.Telling.{nothing_told, tells_none, tells_more, tells_is}
use Rattle.l4_answers.proofs.Taking.{Taken, taken_none, taken_more, taken_parts, taken_with, rest_is, line_of_more, ending_whole, ending_long, nothing_kept, something_kept}
use Rattle.l4_step_lines.specs.declared.requests.Request.{Request}
use Rattle.l4_step_lines.specs.declared.running.Fault.{Fault}
use Rattle.l4_step_lines.specs.declared.running.Fault.TheVariants.{Stopped, Cut, Long, Unread}
use Rattle.l4_step_lines.specs.Requests.{request_of}
use Rattle.l4_step_lines.specs.Stops.{unread_says}
use Rattle.l4_step_lines.specs.Lists.{asked_at, asked_of, AnswersAsked, AnswersLines, Reads, EndsWith, Runs}
use Rattle.l4_step_lines.specs.Inside.Telling.{TellsLine, TellsFirst, TellsList}

-- ANSWERS

-- the answer to one line more
answers_more : (old between new : Machine) (number : ℕ) (lines : List TextLine) (text : List ℕ) (line : TextLine) (last : List ℕ) → AnswersLines old number lines text between
    → AnswersAsked between (asked_of (number + length lines) line) last new → AnswersLines old number (lines ++ line ∷ []) (text ++ last) new
answers_more old between new number [] text line last are is = (
  last,
  [],
  new,
  subst (λ (m : Machine). AnswersAsked m (asked_of number line) last new) are.1 (subst (λ (n : ℕ). AnswersAsked between (asked_of n line) last new) (omega arith) is),
  (refl, refl),
  ap (λ t. t ++ last) are.0 ∙ sym (append-nil last),
)
answers_more old between new number (first ∷ lines) text line last are is =
    let n : number + length (first ∷ lines) ≡ (number + 1) + length lines = omega arith in (
      are.0,
      are.1 ++ last,
      are.2,
      are.3,
      answers_more are.2 between new (number + 1) lines are.1 line last are.4 (subst (λ (k : ℕ). AnswersAsked between (asked_of k line) last new) n is),
      ap (λ t. t ++ last) are.5 ∙ append_assoc are.0 are.1 last,
    )

-- what is kept of a line says what the line asks for
pub asked_whole : (number : ℕ) (bytes : List ℕ) (kept : List ℕ × Bool) → kept ≡ kept_of bytes → kept.1 ≡ false → asked_at number Whole kept.0 ≡ asked_of number (record { bytes = bytes; whole = true })
asked_whole number bytes kept is short =
    let f : nat_lt 4096 (length bytes) ≡ false = sym (ap (λ k. k.1) is) ∙ short in
    let le : length bytes ≤ 4096 = grind (arith, nat_tests) in
    ap (asked_at number Whole) (ap (λ k. k.0) is ∙ take_all 4096 bytes le) ∙ sym (ap (λ v. asked_at number (cond v TooLong Whole) bytes) f)

asked_long : (number : ℕ) (bytes : List ℕ) (kept : List ℕ × Bool) → kept ≡ kept_of bytes → kept.1 ≡ true → asked_at number TooLong kept.0 ≡ asked_of number (record { bytes = bytes; whole = true })
asked_long number bytes kept is long =
    let t : nat_lt 4096 (length bytes) ≡ true = sym (ap (λ k. k.1) is) ∙ long in
    sym (ap (λ v. asked_at number (cond v TooLong Whole) bytes) t)

-- THE LOOP

-- the lines that were answered so far, before the one of this number
pub record Answered (m : Machine) (old new : Option (List ℕ)) (now : List ℕ × ℕ) (number : ℕ) (last : Machine) (written out : Option (List ℕ)) (before after : List ℕ × Bool) : Type 0 where
  pub lines : List TextLine
  pub taken : Taken old new now number lines
  pub text : List ℕ
  pub answers : AnswersLines m 1 lines text last
  pub tells : Tells written out before after text

pub answered_none : (m : Machine) (a w : Option (List ℕ)) (now : List ℕ × ℕ) (s : List ℕ × Bool) → now ≡ ([], 0) → Answered m a a now 1 m w w s s
answered_none m a w now s is = record {
  lines = [];
  taken = taken_none a now is;
  text = [];
  answers = (refl, refl);
  tells = tells_none w s;
}

-- one whole line more
answered_more : (m last next : Machine) (old mid new : Option (List ℕ)) (now after : List ℕ × ℕ) (kept : List ℕ × Bool) (number : ℕ) (written out out' : Option (List ℕ))
    (before s t : List ℕ × Bool) → Answered m old mid now number last written out before s → (l : TakesLine mid new now after kept) → kept.1 ≡ false
    → TellsLine last next (asked_at number Whole kept.0) out out' s t (Ok tt)
    → Answered m old new after (number + 1) next written out' before t
answered_more m last next old mid new now after kept number written out out' before s t a l short is =
    let line : TextLine = record { bytes = l.bytes; whole = true } in
    record {
      lines = a.lines ++ line ∷ [];
      taken = taken_more old mid new now after kept number a.lines a.taken l;
      text = a.text ++ is.0;
      answers = answers_more m last next 1 a.lines a.text line is.0 a.answers
          (subst (λ (n : ℕ). AnswersAsked last (asked_of n line) is.0 next) a.taken.number_is (subst (λ (q : Result (Option Request) Fault). AnswersAsked last q is.0 next) (asked_whole number l.bytes kept l.kept_is short) is.1));
      tells = tells_more written out out' before s t _ _ a.tells is.2;
    }

-- what was held back went out
pub answered_sent : (m last : Machine) (old new : Option (List ℕ)) (now : List ℕ × ℕ) (number : ℕ) (written out out' : Option (List ℕ)) (before s t : List ℕ × Bool)
    → Answered m old new now number last written out before s → Tells out out' s t [] → Answered m old new now number last written out' before t
answered_sent m last old new now number written out out' before s t a sent = record {
  lines = a.lines;
  taken = a.taken;
  text = a.text;
  answers = a.answers;
  tells = tells_is written out' before t (a.text ++ []) a.text (append-nil a.text) (tells_more written out out' before s t a.text [] a.tells sent);
}

-- the lines so far, as lines of what was read
pub first_of : (m last : Machine) (old new : Option (List ℕ)) (now : List ℕ × ℕ) (number : ℕ) (written out : Option (List ℕ)) (before after : List ℕ × Bool)
    → Answered m old new now number last written out before after → TellsFirst m last old new written out before after
first_of m last old new now number written out before after a = record {
  read = a.taken.read;
  «from» = a.taken.from;
  lines = a.lines;
  later = lines_of now.0;
  parts = taken_parts old new now number a.lines a.taken;
  text = a.text;
  answers = a.answers;
  tells = a.tells;
}

-- the lines so far, where more was read and none of it taken into them
first_with : (m last : Machine) (old mid new : Option (List ℕ)) (now after : List ℕ × ℕ) (number : ℕ) (written out : Option (List ℕ)) (before s : List ℕ × Bool) (read taken : List ℕ) (later : List TextLine)
    → Answered m old mid now number last written out before s → Consumes mid new read → now.0 ++ read ≡ taken → lines_of taken ≡ later → TellsFirst m last old new written out before s
first_with m last old mid new now after number written out before s read taken later a more same is =
    let w = taken_with old mid new now number a.lines read taken a.taken more same in
    record {
      read = a.taken.read ++ read;
      «from» = w.0;
      lines = a.lines;
      later = later;
      parts = w.1 ∙ ap (λ ls. a.lines ++ ls) is;
      text = a.text;
      answers = a.answers;
      tells = a.tells;
    }

-- reading failed
pub answered_read : (m last : Machine) (old mid new : Option (List ℕ)) (now after : List ℕ × ℕ) (kept : List ℕ × Bool) (number : ℕ) (written out : Option (List ℕ)) (before s : List ℕ × Bool)
    (e : RunFault) → Answered m old mid now number last written out before s → GivesLine mid new now after kept (Err e) → TellsList m last old new written out before s (Err (Stopped Read))
unfolding first_with
answered_read m last old mid new now after kept number written out before s e a gives =
    let l = gives.0 in
    (first_with m last old mid new now after number written out before s l.takes.read l.bytes (lines_of l.bytes) a l.takes.from (rest_is mid new now after kept l) refl, none_whole l.bytes l.plain)

-- at the end no line is left
pub answered_end : (m last : Machine) (old mid new : Option (List ℕ)) (now after : List ℕ × ℕ) (kept : List ℕ × Bool) (number : ℕ) (written out : Option (List ℕ)) (before s : List ℕ × Bool)
    (r : Option Ending) → Answered m old mid now number last written out before s → GivesLine mid new now after kept (Ok r) → r ≡ None
    → TellsList m last old new written out before s (Ok tt)
unfolding first_with
answered_end m last old mid new now after kept number written out before s r a gives is =
    let g = subst (λ (o : Option Ending). GivesLine mid new now after kept (Ok o)) is gives in
    let l = g.0 in
    let none : l.bytes ≡ [] = nothing_kept l.bytes (sym (ap (λ k. k.0) l.kept_is) ∙ g.2) in
    (first_with m last old mid new now after number written out before s l.takes.read l.bytes [] a l.takes.from (rest_is mid new now after kept l) (ap lines_of none), refl, g.1)

-- a line was answered, and the list goes on
pub answered_on : (ending : Ending) (m last next : Machine) (old mid new : Option (List ℕ)) (now after : List ℕ × ℕ) (kept : List ℕ × Bool) (number : ℕ) (written out out' : Option (List ℕ))
    (before s t : List ℕ × Bool) (r : Option Ending) (bytes : List ℕ) → Answered m old mid now number last written out before s → GivesLine mid new now after kept (Ok r) → r ≡ Some ending → bytes ≡ kept.0
    → TellsLine last next (asked_at number ending bytes) out out' s t (Ok tt)
    → Answered m old new after (number + 1) next written out' before t
answered_on Whole m last next old mid new now after kept number written out out' before s t r bytes a gives is same told =
    let g = subst (λ (o : Option Ending). GivesLine mid new now after kept (Ok o)) is gives in
    answered_more m last next old mid new now after kept number written out out' before s t a g.0 g.1
    (subst (λ (b : List ℕ). TellsLine last next (asked_at number Whole b) out out' s t (Ok tt)) same told)
answered_on TooLong m last next old mid new now after kept number written out out' before s t r bytes a gives is same told = absurd told.1
answered_on IsCut m last next old mid new now after kept number written out out' before s t r bytes a gives is same told = absurd told.1

-- only a line that has a number ends a list
abbrev Names : Result (Option Request) Fault → Type 0
Names (Err (Stopped r)) = ⊥
Names asked = Unit {0}

names_at : (number : ℕ) (ending : Ending) (bytes : List ℕ) → Names (asked_at number ending bytes)
names_at number IsCut bytes = tt
names_at number TooLong bytes = tt
names_at number Whole bytes =
    elim (is_silent bytes) as (λ b. Names (cond b (Ok None) (ok_or (option_map Some (request_of (tokens_of bytes))) (Unread number (unread_says number (tokens_of bytes)))))) [
      | true ↦ tt
      | false ↦ elim (request_of (tokens_of bytes)) as (λ o. Names (ok_or (option_map Some o) (Unread number (unread_says number (tokens_of bytes))))) [ None ↦ tt | Some request ↦ tt ]
    ]

-- a line ends the list
ends_list : (fault : Fault) (m last : Machine) (old new written out : Option (List ℕ)) (before after : List ℕ × Bool) → Names (Err fault)
    → (t : TellsFirst m last old new written out before after) → EndsWith (1 + length t.lines) t.later new fault → TellsList m last old new written out before after (Err fault)
ends_list (Stopped r) m last old new written out before after named t ends = absurd named
ends_list (Cut n) m last old new written out before after named t ends = (t, ends)
ends_list (Long n) m last old new written out before after named t ends = (t, ends)
ends_list (Unread n reason) m last old new written out before after named t ends = (t, ends)

-- the line that is last in what was read ends the list, as it asks for this
ended_at : (ending : Ending) (number : ℕ) (bytes : List ℕ) (fault : Fault) → asked_at number ending bytes ≡ Err fault → Names (Err fault)
ended_at ending number bytes fault is = subst (λ (q : Result (Option Request) Fault). Names q) is (names_at number ending bytes)

-- a line of another ending is not cut
abbrev pub IsNoCut : Ending → Type 0
IsNoCut Whole = Unit {0}
IsNoCut TooLong = Unit {0}
IsNoCut IsCut = ⊥

pub not_cut : (A : Type 0) (ending other : Ending) → IsNoCut other → ending ≡ other → ending ≡ IsCut → A
not_cut A ending other whole is cut = absurd (subst IsNoCut (sym is ∙ cut) whole)

pub answered_stop : (ending : Ending) (m last next : Machine) (old mid new : Option (List ℕ)) (now after : List ℕ × ℕ) (kept : List ℕ × Bool) (number : ℕ) (written out out' : Option (List ℕ))
    (before s t : List ℕ × Bool) (r : Option Ending) (bytes : List ℕ) (fault : Fault) → Answered m old mid now number last written out before s → GivesLine mid new now after kept (Ok r) → r ≡ Some ending → bytes ≡ kept.0
    → TellsLine last next (asked_at number ending bytes) out out' s t (Err fault)
    → TellsList m next old new written out' before t (Err fault)
unfolding first_with answered_sent
answered_stop Whole m last next old mid new now after kept number written out out' before s t r bytes fault a gives is same told =
    let g = subst (λ (o : Option Ending). GivesLine mid new now after kept (Ok o)) is gives in
    let l = g.0 in
    let line : TextLine = record { bytes = l.bytes; whole = true } in
    let b = answered_sent m last old mid now number written out out' before s t a told.2 in
    subst (λ (x : Machine). TellsList m x old new written out' before t (Err fault)) (sym told.1)
    (ends_list fault m last old new written out' before t (ended_at Whole number bytes fault told.0)
    (first_with m last old mid new now after number written out' before t l.takes.read ((l.bytes ++ 10 ∷ []) ++ after.0) (line ∷ lines_of after.0) b l.takes.from l.takes.same (line_of_more mid new now after kept l))
    (ap (λ n. asked_of n line) (sym a.taken.number_is) ∙ sym (asked_whole number l.bytes kept l.kept_is g.1) ∙ ap (asked_at number Whole) (sym same) ∙ told.0, not_cut (IsAtEnd new) (ending_of line) Whole tt (ending_whole l.bytes kept l.kept_is g.1).0))
answered_stop TooLong m last next old mid new now after kept number written out out' before s t r bytes fault a gives is same told =
    let g = subst (λ (o : Option Ending). GivesLine mid new now after kept (Ok o)) is gives in
    let l = g.0 in
    let line : TextLine = record { bytes = l.bytes; whole = true } in
    let b = answered_sent m last old mid now number written out out' before s t a told.2 in
    subst (λ (x : Machine). TellsList m x old new written out' before t (Err fault)) (sym told.1)
    (ends_list fault m last old new written out' before t (ended_at TooLong number bytes fault told.0)
    (first_with m last old mid new now after number written out' before t l.takes.read ((l.bytes ++ 10 ∷ []) ++ after.0) (line ∷ lines_of after.0) b l.takes.from l.takes.same (line_of_more mid new now after kept l))
    (ap (λ n. asked_of n line) (sym a.taken.number_is) ∙ sym (asked_long number l.bytes kept l.kept_is g.1) ∙ told.0, not_cut (IsAtEnd new) (ending_of line) TooLong tt (ending_long l.bytes kept l.kept_is g.1)))
answered_stop IsCut m last next old mid new now after kept number written out out' before s t r bytes fault a gives is same told =
    let g = subst (λ (o : Option Ending). GivesLine mid new now after kept (Ok o)) is gives in
    let l = g.0 in
    let some : 0 < length (take 4096 l.bytes) = omega (arith, g.2, ap (λ k. length k.0) l.kept_is) in
    let line : TextLine = record { bytes = l.bytes; whole = false } in
    let b = answered_sent m last old mid now number written out out' before s t a told.2 in
    subst (λ (x : Machine). TellsList m x old new written out' before t (Err fault)) (sym told.1)
    (ends_list fault m last old new written out' before t (ended_at IsCut number bytes fault told.0)
    (first_with m last old mid new now after number written out' before t l.takes.read l.bytes (line ∷ []) b l.takes.from (rest_is mid new now after kept l) (cut_line l.bytes l.plain (something_kept l.bytes some)))
    (ap (λ n. asked_of n line) (sym a.taken.number_is) ∙ told.0, λ _. g.1))

-- THE RUN

-- the lines that were answered, as a list's
reads_of : (frames : ℕ) (size : PageSize) (m last : Machine) (old new written out : Option (List ℕ)) (before after : List ℕ × Bool) → IsBoot frames m → m.size ≡ size
    → (t : TellsFirst m last old new written out before after) → Reads frames size old new t.later t.text
reads_of frames size m last old new written out before after boots sized t = record {
  read = t.read;
  «from» = t.from;
  lines = t.lines;
  parts = t.parts;
  is_text = record { boot = m; boots = boots; sized = sized; last = last; answers = t.answers };
}

-- all that was told went out
pub runs_on : (frames : ℕ) (size : PageSize) (m last : Machine) (old new written out now : Option (List ℕ)) (before after : List ℕ × Bool) (result : Result (Unit {0}) Fault) → IsBoot frames m → m.size ≡ size → before ≡ ([], false)
    → TellsList m last old new written out before after result
    → ((start : Option (List ℕ)) (told : List ℕ) → HasTold start out after.0 after.1 told → Appends start now told) → Runs frames size old new written now result
unfolding reads_of
runs_on frames size m last old new written out now before after (Ok u) boots sized is t sent =
    (t.0.text, subst (λ (ls : List TextLine). Reads frames size old new ls t.0.text) t.1 (reads_of frames size m last old new written out before after boots sized t.0), t.2, sent written t.0.text (t.0.tells written [] (nothing_told written before is)))
runs_on frames size m last old new written out now before after (Err (Stopped Read)) boots sized is t sent =
    (t.0.later, t.0.text, reads_of frames size m last old new written out before after boots sized t.0, t.1, sent written t.0.text (t.0.tells written [] (nothing_told written before is)))
runs_on frames size m last old new written out now before after (Err (Stopped Write)) boots sized is t sent =
    (t.later, t.text, reads_of frames size m last old new written out before after boots sized t, record { front = t.text; rest = []; whole = sym (append-nil t.text); out = sent written t.text (t.tells written [] (nothing_told written before is)) })
runs_on frames size m last old new written out now before after (Err (Stopped Memory)) boots sized is t sent = absurd t
runs_on frames size m last old new written out now before after (Err (Cut n)) boots sized is t sent =
    (t.0.later, t.0.text, reads_of frames size m last old new written out before after boots sized t.0, t.1, sent written t.0.text (t.0.tells written [] (nothing_told written before is)))
runs_on frames size m last old new written out now before after (Err (Long n)) boots sized is t sent =
    (t.0.later, t.0.text, reads_of frames size m last old new written out before after boots sized t.0, t.1, sent written t.0.text (t.0.tells written [] (nothing_told written before is)))
runs_on frames size m last old new written out now before after (Err (Unread n reason)) boots sized is t sent =
    (t.0.later, t.0.text, reads_of frames size m last old new written out before after boots sized t.0, t.1, sent written t.0.text (t.0.tells written [] (nothing_told written before is)))

-- the lines that were answered, whatever then came
some_told : (m last : Machine) (old new written out : Option (List ℕ)) (before after : List ℕ × Bool) (result : Result (Unit {0}) Fault) → TellsList m last old new written out before after result
    → TellsFirst m last old new written out before after
some_told m last old new written out before after (Ok u) t = t.0
some_told m last old new written out before after (Err (Stopped Read)) t = t.0
some_told m last old new written out before after (Err (Stopped Write)) t = t
some_told m last old new written out before after (Err (Stopped Memory)) t = absurd t
some_told m last old new written out before after (Err (Cut n)) t = t.0
some_told m last old new written out before after (Err (Long n)) t = t.0
some_told m last old new written out before after (Err (Unread n reason)) t = t.0

-- a write failed
pub runs_not : (frames : ℕ) (size : PageSize) (m last : Machine) (old new written out now : Option (List ℕ)) (before after : List ℕ × Bool) (result : Result (Unit {0}) Fault) → IsBoot frames m → m.size ≡ size → before ≡ ([], false)
    → TellsList m last old new written out before after result
    → ((start : Option (List ℕ)) (told : List ℕ) → HasTold start out after.0 after.1 told → WentOut start now told) → Runs frames size old new written now (Err (Stopped Write))
runs_not frames size m last old new written out now before after result boots sized is tells sent =
    let t = some_told m last old new written out before after result tells in
    (t.later, t.text, reads_of frames size m last old new written out before after boots sized t, sent written t.text (t.tells written [] (nothing_told written before is)))
