-- The lines of a script or a list that were taken so far, whatever was done with them.
use Rattle.std.proofs.Common.{◌≡◌, ℕ, ◌+◌, ◌<◌, ◌≤◌, Bool, true, false, nat_lt, cond, List, [], ◌∷◌, ◌++◌, length, length-append, length-take, take, Option, sym, ap, ◌∙◌, refl, arith}
use Rattle.std.specs.Io.KnownBytes.{Consumes}
use Rattle.std.proofs.lemmas.List.{append-nil, take_all}
use Rattle.std.proofs.lemmas.Bool.Decides.{nat_tests}
use mathlib.Core.List.{append_assoc}
use Rattle.l4_text.specs.Lines.{kept_of, TakesLine, TakesRest, left_of}
use Rattle.l4_text.specs.declared.lines.Ending.TheVariants.{Whole, Long}
use Rattle.l4_text.proofs.LineSteps.{consumes_more, consumes_same, empty_list}
use Rattle.l4_text.specs.Grammar.{TextLine, lines_of, ending_of}
use Rattle.l4_text.proofs.Grammar.{lines_more}

-- these lines were taken, and the next one has this number
pub record Taken (old new : Option (List ℕ)) (now : List ℕ × ℕ) (number : ℕ) (lines : List TextLine) : Type 0 where
  pub read : List ℕ
  pub done : List ℕ
  pub from : Consumes old new read
  pub same : read ≡ done ++ now.0
  pub front : (more : List ℕ) → lines_of (done ++ more) ≡ lines ++ lines_of more
  pub number_is : number ≡ 1 + length lines
  pub bound : left_of now + number ≤ 68736253953
  pub few : now.1 ≤ 16777216

pub taken_none : (a : Option (List ℕ)) (now : List ℕ × ℕ) → now ≡ ([], 0) → Taken a a now 1 []
taken_none a now is = record {
  read = [];
  done = [];
  «from» = consumes_same a;
  same = sym (ap (λ x. x.0) is);
  front = λ more. refl;
  number_is = refl;
  bound = omega (arith, ap left_of is);
  few = omega (arith, ap (λ x. x.1) is);
}

-- one whole line more
pub taken_more : (old mid new : Option (List ℕ)) (now after : List ℕ × ℕ) (kept : List ℕ × Bool) (number : ℕ) (lines : List TextLine) → Taken old mid now number lines → (l : TakesLine mid new now after kept)
    → Taken old new after (number + 1) (lines ++ record { bytes = l.bytes; whole = true } ∷ [])
taken_more old mid new now after kept number lines a l =
    let line : TextLine = record { bytes = l.bytes; whole = true } in
    record {
      read = a.read ++ l.takes.read;
      done = a.done ++ (l.bytes ++ (10 ∷ []));
      «from» = consumes_more old mid new a.read l.takes.read a.from l.takes.from;
      same = ap (λ x. x ++ l.takes.read) a.same ∙ append_assoc a.done now.0 l.takes.read ∙ ap (λ x. a.done ++ x) l.takes.same ∙ sym (append_assoc a.done (l.bytes ++ (10 ∷ [])) after.0);
      front = λ more.
          ap lines_of (append_assoc a.done (l.bytes ++ (10 ∷ [])) more ∙ ap (λ x. a.done ++ x) (append_assoc l.bytes (10 ∷ []) more))
          ∙ a.front (l.bytes ++ (10 ∷ more)) ∙ ap (λ x. lines ++ x) (lines_more l.bytes more l.plain) ∙ sym (append_assoc lines (line ∷ []) (lines_of more));
      number_is = omega (arith, a.number_is, length-append lines (line ∷ []));
      bound = omega (arith, a.bound, l.shorter);
      few = l.few;
    }

-- the same where more was read, and none of it taken into the lines
pub taken_with : (old mid new : Option (List ℕ)) (now : List ℕ × ℕ) (number : ℕ) (lines : List TextLine) (read taken : List ℕ) → (a : Taken old mid now number lines) → Consumes mid new read → now.0 ++ read ≡ taken
    → Consumes old new (a.read ++ read) × (lines_of (a.read ++ read) ≡ lines ++ lines_of taken)
taken_with old mid new now number lines read taken a more same = (
  consumes_more old mid new a.read read a.from more,
  ap lines_of (ap (λ x. x ++ read) a.same ∙ append_assoc a.done now.0 read ∙ ap (λ x. a.done ++ x) same) ∙ a.front taken,
)

-- the lines of what was read
pub taken_parts : (old new : Option (List ℕ)) (now : List ℕ × ℕ) (number : ℕ) (lines : List TextLine) → (a : Taken old new now number lines) → lines_of a.read ≡ lines ++ lines_of now.0
taken_parts old new now number lines a = ap lines_of a.same ∙ a.front now.0

-- the bytes behind the last newline
pub rest_is : (mid new : Option (List ℕ)) (now after : List ℕ × ℕ) (kept : List ℕ × Bool) (l : TakesRest mid new now after kept) → now.0 ++ l.takes.read ≡ l.bytes
rest_is mid new now after kept l = l.takes.same ∙ ap (λ x. l.bytes ++ x) l.empty ∙ append-nil l.bytes

pub line_of_more : (mid new : Option (List ℕ)) (now after : List ℕ × ℕ) (kept : List ℕ × Bool) (l : TakesLine mid new now after kept) → lines_of ((l.bytes ++ 10 ∷ []) ++ after.0) ≡ record { bytes = l.bytes; whole = true } ∷ lines_of after.0
line_of_more mid new now after kept l = ap lines_of (append_assoc l.bytes (10 ∷ []) after.0) ∙ lines_more l.bytes after.0 l.plain

-- what is kept of a whole line is the line
pub ending_whole : (bytes : List ℕ) (kept : List ℕ × Bool) → kept ≡ kept_of bytes → kept.1 ≡ false → (ending_of (record { bytes = bytes; whole = true }) ≡ Whole) × (kept.0 ≡ bytes)
ending_whole bytes kept is short =
    let f : nat_lt 4096 (length bytes) ≡ false = sym (ap (λ k. k.1) is) ∙ short in
    let le : length bytes ≤ 4096 = grind (arith, nat_tests) in
    (ap (λ v. cond v Long Whole) f, ap (λ k. k.0) is ∙ take_all 4096 bytes le)

pub ending_long : (bytes : List ℕ) (kept : List ℕ × Bool) → kept ≡ kept_of bytes → kept.1 ≡ true → ending_of (record { bytes = bytes; whole = true }) ≡ Long
ending_long bytes kept is long = ap (λ v. cond v Long Whole) (sym (ap (λ k. k.1) is) ∙ long)

-- where nothing is kept of a line there is nothing of it
pub nothing_kept : (bytes : List ℕ) → take 4096 bytes ≡ [] → bytes ≡ []
nothing_kept bytes h = empty_list bytes (omega (arith, ap length h, length-take 4096 bytes))

pub something_kept : (bytes : List ℕ) → 0 < length (take 4096 bytes) → 0 < length bytes
something_kept bytes h = omega (arith, h, length-take 4096 bytes)
