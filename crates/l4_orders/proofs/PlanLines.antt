-- The lines of a plan's file that were read so far.
use Rattle.std.proofs.Common.{◌≡◌, ◌⊎◌, inl, inr, ℕ, ◌+◌, ◌<◌, Bool, true, false, List, [], ◌∷◌, ◌++◌, length, take, Option, Some, None, Result, Ok, Err, is_ok, refl, sym, ap, subst, ◌∙◌, arith}
use Rattle.std.specs.Io.KnownBytes.{Consumes}
use Rattle.std.proofs.lemmas.Bool.{false≢true}
use Rattle.std.proofs.lemmas.List.{append-nil}
use Rattle.l4_fpage.specs.declared.sizes.PageSize.{PageSize}
use Rattle.l4_text.proofs.Grammar.{cut_line, none_whole}
use Rattle.l4_text.specs.Grammar.{TextLine, lines_of, ending_of}
use Rattle.l4_text.specs.Lines.{GivesLine}
use Rattle.l4_text.specs.declared.faults.RunFault.{RunFault}
use Rattle.l4_text.specs.declared.faults.RunFault.TheVariants.{Read, Write, Memory}
use Rattle.l4_text.specs.declared.lines.Ending.{Ending}
use Rattle.l4_text.specs.declared.lines.Ending.TheVariants.{Whole, Long as TooLong, Cut as IsCut}
use Rattle.l4_answers.proofs.Taking.{Taken, taken_none, taken_more, taken_with, rest_is, line_of_more, ending_whole, ending_long, something_kept, nothing_kept}
use Rattle.l4_orders.specs.declared.parts.LineFault.{LineFault}
use Rattle.l4_orders.specs.declared.parts.LineFault.TheVariants.{Long, Cut}
use Rattle.l4_orders.specs.declared.parts.PlanFault.{PlanFault}
use Rattle.l4_orders.specs.declared.parts.PlanFault.TheVariants.{Stopped, Malformed, NoUnordered}
use Rattle.l4_orders.specs.Reading.{Parts, no_parts, take_line, AreRead}
use Rattle.l4_orders.specs.Files.{ReadsFirst, FailsNext}
use Rattle.l4_orders.specs.Inside.Parts.{Takes}
use Rattle.l4_orders.specs.Inside.Taking.{FailsFirst, ReadsLines}

-- the lines before the one of this number have these parts
pub record SoFar (size : PageSize) (old new : Option (List ℕ)) (now : List ℕ × ℕ) (number : ℕ) (p : Parts) : Type 0 where
  pub lines : List TextLine
  pub taken : Taken old new now number lines
  pub are : AreRead size 1 no_parts lines p

pub so_far_none : (size : PageSize) (a : Option (List ℕ)) (now : List ℕ × ℕ) (p : Parts) → p ≡ no_parts → now ≡ ([], 0) → SoFar size a a now 1 p
so_far_none size a now p new is = record { lines = []; taken = taken_none a now is; are = new }

-- ONE LINE MORE

read_more : (size : PageSize) (number n : ℕ) (p q r : Parts) (lines : List TextLine) (line : TextLine) → AreRead size number p lines q → n ≡ number + length lines
    → take_line size q n (ending_of line) line.bytes ≡ Ok r → AreRead size number p (lines ++ line ∷ []) r
read_more size number n p q r [] line a is t =
    let same : number ≡ n = omega (arith, is) in
    (r, ap (λ (x : Parts). take_line size x number (ending_of line) line.bytes) (sym a) ∙ ap (λ (k : ℕ). take_line size q k (ending_of line) line.bytes) same ∙ t, refl)
read_more size number n p q r (l ∷ lines) line a is t =
    (a.0, a.1, read_more size (number + 1) n a.0 q r lines line a.2 (omega (arith, is)) t)

refused_not : (fault : LineFault) (q : Parts) → ◌≡◌ {A = Result Parts LineFault} (Err fault) (Ok q) → ⊥
refused_not fault q e = false≢true (ap is_ok e)

pub so_far_on : (ending : Ending) (size : PageSize) (old mid new : Option (List ℕ)) (now after : List ℕ × ℕ) (kept : List ℕ × Bool) (number : ℕ) (p q : Parts) (r : Option Ending) (bytes : List ℕ)
    → SoFar size old mid now number p → GivesLine mid new now after kept (Ok r) → r ≡ Some ending → bytes ≡ kept.0 → take_line size p number ending bytes ≡ Ok q → SoFar size old new after (number + 1) q
so_far_on Whole size old mid new now after kept number p q r bytes a gives is same t =
    let g = subst (λ (o : Option Ending). GivesLine mid new now after kept (Ok o)) is gives in
    let l = g.0 in
    let line : TextLine = record { bytes = l.bytes; whole = true } in
    let e = ending_whole l.bytes kept l.kept_is g.1 in
    let due = ap (λ (x : Ending). take_line size p number x l.bytes) e.0 ∙ ap (λ (b : List ℕ). take_line size p number Whole b) (sym (same ∙ e.1)) ∙ t in
    record {
      lines = a.lines ++ line ∷ [];
      taken = taken_more old mid new now after kept number a.lines a.taken l;
      are = read_more size 1 number no_parts p q a.lines line a.are a.taken.number_is due;
    }
so_far_on TooLong size old mid new now after kept number p q r bytes a gives is same t = absurd (refused_not Long q t)
so_far_on IsCut size old mid new now after kept number p q r bytes a gives is same t = absurd (refused_not Cut q t)

-- HOW THE LOOP ENDS

-- the lines so far, where more was read, whose lines these are
first_with : (size : PageSize) (old mid new : Option (List ℕ)) (now : List ℕ × ℕ) (number : ℕ) (p : Parts) (read taken : List ℕ) (later : List TextLine)
    → SoFar size old mid now number p → Consumes mid new read → now.0 ++ read ≡ taken → lines_of taken ≡ later → ReadsFirst size old new
first_with size old mid new now number p read taken later a more same is =
    let w = taken_with old mid new now number a.lines read taken a.taken more same in
    record { read = a.taken.read ++ read; «from» = w.0; lines = a.lines; later = later; parts_are = w.1 ∙ ap (λ ls. a.lines ++ ls) is; parts = p; are = a.are }

-- a read failed
pub stops_read : (size : PageSize) (old mid new : Option (List ℕ)) (now after : List ℕ × ℕ) (kept : List ℕ × Bool) (number : ℕ) (p last : Parts) (e : RunFault)
    → SoFar size old mid now number p → GivesLine mid new now after kept (Err e) → ReadsLines size old new last (Err (Stopped Read))
unfolding first_with
stops_read size old mid new now after kept number p last e a gives =
    let l = gives.0 in
    (first_with size old mid new now number p l.takes.read l.bytes (lines_of l.bytes) a l.takes.from (rest_is mid new now after kept l) refl, none_whole l.bytes l.plain)

-- the file ended
pub ends_all : (size : PageSize) (old mid new : Option (List ℕ)) (now after : List ℕ × ℕ) (kept : List ℕ × Bool) (number : ℕ) (p : Parts) (r : Option Ending)
    → SoFar size old mid now number p → GivesLine mid new now after kept (Ok r) → r ≡ None → ReadsLines size old new p (Ok tt)
ends_all size old mid new now after kept number p r a gives is =
    let g = subst (λ (o : Option Ending). GivesLine mid new now after kept (Ok o)) is gives in
    let l = g.0 in
    let none : l.bytes ≡ [] = nothing_kept l.bytes (sym (ap (λ k. k.0) l.kept_is) ∙ g.2) in
    let w = taken_with old mid new now number a.lines l.takes.read l.bytes a.taken l.takes.from (rest_is mid new now after kept l) in
    let all : lines_of (a.taken.read ++ l.takes.read) ≡ a.lines = w.1 ∙ ap (λ b. a.lines ++ lines_of b) none ∙ append-nil a.lines in
    (record { read = a.taken.read ++ l.takes.read; «from» = w.0; ended = g.1; parts = p; are = subst (λ (ls : List TextLine). AreRead size 1 no_parts ls p) (sym all) a.are }, refl)

-- the lines so far, and how the next one fails
record Next (size : PageSize) (old new : Option (List ℕ)) (number : ℕ) (p : Parts) (ending : Ending) (bytes : List ℕ) : Type 0 where
  pub first : ReadsFirst size old new
  pub number_is : number ≡ 1 + length first.lines
  pub fails : (fault : LineFault) → take_line size p number ending bytes ≡ Err fault → FailsNext size new first.parts number first.later fault

-- a line that ends with a newline is not cut
not_cut : (ending : Ending) → (ending ≡ Whole) ⊎ (ending ≡ TooLong) → ending ≡ IsCut → ⊥
not_cut ending with_newline cut = subst IsNotCut cut (elim with_newline [ inl e ↦ subst IsNotCut (sym e) tt | inr e ↦ subst IsNotCut (sym e) tt ]) where
  IsNotCut : Ending → Type 0
  IsNotCut Whole = Unit {0}
  IsNotCut TooLong = Unit {0}
  IsNotCut IsCut = ⊥

next_of : (ending : Ending) (size : PageSize) (old mid new : Option (List ℕ)) (now after : List ℕ × ℕ) (kept : List ℕ × Bool) (number : ℕ) (p : Parts) (r : Option Ending) (bytes : List ℕ)
    → SoFar size old mid now number p → GivesLine mid new now after kept (Ok r) → r ≡ Some ending → bytes ≡ kept.0 → Next size old new number p ending bytes
unfolding first_with
next_of Whole size old mid new now after kept number p r bytes a gives is same =
    let g = subst (λ (o : Option Ending). GivesLine mid new now after kept (Ok o)) is gives in
    let l = g.0 in
    let line : TextLine = record { bytes = l.bytes; whole = true } in
    let e = ending_whole l.bytes kept l.kept_is g.1 in
    record {
      first = first_with size old mid new now number p l.takes.read ((l.bytes ++ 10 ∷ []) ++ after.0) (line ∷ lines_of after.0) a l.takes.from l.takes.same (line_of_more mid new now after kept l);
      number_is = a.taken.number_is;
      fails = λ fault h. (
        ap (λ (x : Ending). take_line size p number x l.bytes) e.0 ∙ ap (λ (b : List ℕ). take_line size p number Whole b) (sym (same ∙ e.1)) ∙ h,
        λ cut. absurd (not_cut (ending_of line) (inl e.0) cut),
      );
    }
next_of TooLong size old mid new now after kept number p r bytes a gives is same =
    let g = subst (λ (o : Option Ending). GivesLine mid new now after kept (Ok o)) is gives in
    let l = g.0 in
    let line : TextLine = record { bytes = l.bytes; whole = true } in
    let e = ending_long l.bytes kept l.kept_is g.1 in
    record {
      first = first_with size old mid new now number p l.takes.read ((l.bytes ++ 10 ∷ []) ++ after.0) (line ∷ lines_of after.0) a l.takes.from l.takes.same (line_of_more mid new now after kept l);
      number_is = a.taken.number_is;
      fails = λ fault h. (ap (λ (x : Ending). take_line size p number x l.bytes) e ∙ h, λ cut. absurd (not_cut (ending_of line) (inr e) cut));
    }
next_of IsCut size old mid new now after kept number p r bytes a gives is same =
    let g = subst (λ (o : Option Ending). GivesLine mid new now after kept (Ok o)) is gives in
    let l = g.0 in
    let some : 0 < length (take 4096 l.bytes) = omega (arith, g.2, ap (λ k. length k.0) l.kept_is) in
    let line : TextLine = record { bytes = l.bytes; whole = false } in
    record {
      first = first_with size old mid new now number p l.takes.read l.bytes (line ∷ []) a l.takes.from (rest_is mid new now after kept l) (cut_line l.bytes l.plain (something_kept l.bytes some));
      number_is = a.taken.number_is;
      fails = λ fault h. (h, λ cut. g.1);
    }

fails_by : (fault : PlanFault) (size : PageSize) (old new : Option (List ℕ)) (number : ℕ) (p q last : Parts) (ending : Ending) (bytes : List ℕ) → Next size old new number p ending bytes
    → Takes (take_line size p number ending bytes) q number (Err fault) → ReadsLines size old new last (Err fault)
fails_by (Stopped Read) size old new number p q last ending bytes n t = absurd (let k = t in not_memory k) where
  tells : RunFault → Type 0
  tells Read = ⊥
  tells Write = ⊥
  tells Memory = Unit {0}

  not_memory : Read ≡ Memory → ⊥
  not_memory e = subst tells (sym e) tt
fails_by (Stopped Write) size old new number p q last ending bytes n t = absurd (not_memory t) where
  tells : RunFault → Type 0
  tells Read = ⊥
  tells Write = ⊥
  tells Memory = Unit {0}

  not_memory : Write ≡ Memory → ⊥
  not_memory e = subst tells (sym e) tt
fails_by (Stopped Memory) size old new number p q last ending bytes n t = n.first
fails_by (Malformed k fault) size old new number p q last ending bytes n t =
    subst (λ (m : ℕ). FailsFirst size old new m fault) (sym t.0) (n.first, n.number_is, n.fails fault t.1)
fails_by NoUnordered size old new number p q last ending bytes n t = absurd t

-- the next line is not part of a plan, or memory ran out
pub fails_at : (ending : Ending) (size : PageSize) (old mid new : Option (List ℕ)) (now after : List ℕ × ℕ) (kept : List ℕ × Bool) (number : ℕ) (p q last : Parts) (r : Option Ending) (bytes : List ℕ) (fault : PlanFault)
    → SoFar size old mid now number p → GivesLine mid new now after kept (Ok r) → r ≡ Some ending → bytes ≡ kept.0 → Takes (take_line size p number ending bytes) q number (Err fault)
    → ReadsLines size old new last (Err fault)
unfolding next_of
fails_at ending size old mid new now after kept number p q last r bytes fault a gives is same t =
    fails_by fault size old new number p q last ending bytes (next_of ending size old mid new now after kept number p r bytes a gives is same) t
