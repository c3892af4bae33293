-- Lines that are read and not judged.
use Rattle.std.proofs.Common.{◌≡◌, ℕ, ◌⊎◌, inl, inr, Bool, true, false, List, [], ◌++◌, Option, Some, None, Result, Ok, Err, subst, refl}
use Rattle.std.specs.Io.KnownBytes.{Consumes, IsAtEnd}
use Rattle.l4_text.specs.Lines.{GivesLine}
use Rattle.l4_text.specs.Streams.{Tells}
use Rattle.l4_text.specs.declared.faults.RunFault.{RunFault}
use Rattle.l4_text.specs.declared.faults.RunFault.TheVariants.{Read}
use Rattle.l4_text.specs.declared.lines.Ending.{Ending}
use Rattle.l4_text.specs.declared.lines.Ending.TheVariants.{Whole, Long, Cut}
use Rattle.l4_text.proofs.LineSteps.{consumes_more, consumes_same}
use Rattle.l4_step_lines.specs.declared.running.Fault.TheVariants.{Stopped}
use Rattle.l4_judging.specs.declared.judging.JudgeFault.{JudgeFault}
use Rattle.l4_judging.specs.declared.judging.JudgeFault.TheVariants.{List as OfList}
use Rattle.l4_judging.specs.Inside.Judged.{SkipsRest, EndsEarly}

-- some bytes were read
abbrev pub Reads : Option (List ℕ) → Option (List ℕ) → Type 0
Reads old new = (read : List ℕ) × Consumes old new read

pub reads_none : (a : Option (List ℕ)) → Reads a a
reads_none a = ([], consumes_same a)

reads_more : (old mid new : Option (List ℕ)) → Reads old mid → Reads mid new → Reads old new
reads_more old mid new a b = (a.0 ++ b.0, consumes_more old mid new a.0 b.0 a.1 b.1)

line_reads : (r : Result (Option Ending) RunFault) (old new : Option (List ℕ)) (before after : List ℕ × ℕ) (kept : List ℕ × Bool) → GivesLine old new before after kept r → Reads old new
line_reads (Ok (Some Whole)) old new before after kept g = (g.0.takes.read, g.0.takes.from)
line_reads (Ok (Some Long)) old new before after kept g = (g.0.takes.read, g.0.takes.from)
line_reads (Ok (Some Cut)) old new before after kept g = (g.0.takes.read, g.0.takes.from)
line_reads (Ok None) old new before after kept g = (g.0.takes.read, g.0.takes.from)
line_reads (Err e) old new before after kept g = (g.0.takes.read, g.0.takes.from)

-- one line more
pub reads_line : (r : Option Ending) (old mid new : Option (List ℕ)) (before after : List ℕ × ℕ) (kept : List ℕ × Bool) → Reads old mid → GivesLine mid new before after kept (Ok r) → Reads old new
reads_line r old mid new before after kept a g = reads_more old mid new a (line_reads (Ok r) mid new before after kept g)

-- a read failed
pub reads_some : (e : RunFault) (old mid new : Option (List ℕ)) (before after : List ℕ × ℕ) (kept : List ℕ × Bool) → Reads old mid → GivesLine mid new before after kept (Err e) → Reads old new
reads_some e old mid new before after kept a g = reads_more old mid new a (line_reads (Err e) mid new before after kept g)

-- the end was reached
pub reads_all : (r : Option Ending) (old mid new : Option (List ℕ)) (before after : List ℕ × ℕ) (kept : List ℕ × Bool) → Reads old mid → GivesLine mid new before after kept (Ok r) → r ≡ None → SkipsRest old new true
reads_all r old mid new before after kept a g is =
    let end = subst (λ (o : Option Ending). GivesLine mid new before after kept (Ok o)) is g in
    let all = reads_more old mid new a (end.0.takes.read, end.0.takes.from) in
    (all.0, all.1, end.1)

pub ends_read : (old new written out : Option (List ℕ)) (s t : List ℕ × Bool) (rest : Bool) → rest ≡ true → SkipsRest old new rest → Tells written out s t [] → EndsEarly old new written out s t (Ok false)
ends_read old new written out s t rest is skips told =
    let all = subst (λ (b : Bool). SkipsRest old new b) is skips in
    (all.0, all.1, inl (refl, all.2), told)

pub ends_unread : (old new written out : Option (List ℕ)) (s t : List ℕ × Bool) (rest : Bool) → rest ≡ false → SkipsRest old new rest → Tells written out s t [] → EndsEarly old new written out s t (Err (OfList (Stopped Read)))
ends_unread old new written out s t rest is skips told =
    let some = subst (λ (b : Bool). SkipsRest old new b) is skips in
    (some.0, some.1, inr refl, told)
