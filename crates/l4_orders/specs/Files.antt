-- Reading a plan from a file (this profile's own).
use Rattle.std.specs.Prelude.{◌≡◌, ℕ, ◌+◌, false, List, [], ◌∷◌, ◌++◌, length, filter, Option, Result, Ok, Err}
use Rattle.std.specs.Io.KnownBytes.{Consumes, IsAtEnd}
use Rattle.l4_fpage.specs.declared.sizes.PageSize.{PageSize}
use Rattle.l4_text.specs.Grammar.{TextLine, lines_of, ending_of}
use Rattle.l4_text.specs.declared.faults.RunFault.TheVariants.{Read, Write, Memory}
use Rattle.l4_text.specs.declared.lines.Ending.TheVariants.{Cut as IsCut}
use Rattle.l4_orders.specs.declared.parts.LineFault.{LineFault}
use Rattle.l4_orders.specs.declared.parts.LineFault.TheVariants.{NoThread, NoAnswer}
use Rattle.l4_orders.specs.declared.parts.PlanFault.{PlanFault}
use Rattle.l4_orders.specs.declared.parts.PlanFault.TheVariants.{Stopped, Malformed, NoUnordered}
use Rattle.l4_orders.specs.declared.plans.Plan.{Plan}
use Rattle.l4_orders.specs.Reading.{Group, Parts, no_parts, take_line, is_known, AreKnown, AreRead, HasBegun, first_number}
use Rattle.l4_orders.specs.Whole.{HasParts, IsImpossible, IsPlanOf}

-- of the lines that were read, the first ones have these parts, and others follow
pub record ReadsFirst (size : PageSize) (old new : Option (List ℕ)) : Type 0 where
  pub read : List ℕ
  pub from : Consumes old new read
  pub lines : List TextLine
  pub later : List TextLine
  pub parts_are : lines_of read ≡ lines ++ later
  pub parts : Parts
  pub are : AreRead size 1 no_parts lines parts

-- the whole file was read, and has these parts
pub record ReadsAll (size : PageSize) (old new : Option (List ℕ)) : Type 0 where
  pub read : List ℕ
  pub from : Consumes old new read
  pub ended : IsAtEnd new
  pub parts : Parts
  pub are : AreRead size 1 no_parts (lines_of read) parts

-- the next line cannot be part of a plan; and if it does not end with a newline, it is the file's last one
abbrev pub FailsNext : PageSize → Option (List ℕ) → Parts → ℕ → List TextLine → LineFault → Type 0
FailsNext size new p number [] fault = ⊥
FailsNext size new p number (line ∷ later) fault =
    (take_line size p number (ending_of line) line.bytes ≡ Err fault) × (ending_of line ≡ IsCut → IsAtEnd new)

-- the first group whose thread neither is there at boot nor is created
pub record IsUnknown (created : List ℕ) (groups : List Group) (number thread : ℕ) : Type 0 where
  pub before : List Group
  pub group : Group
  pub after : List Group
  pub parts : groups ≡ before ++ group ∷ after
  pub known : AreKnown created before
  pub unknown : is_known created group.thread ≡ false
  pub number_is : number ≡ first_number group.lines
  pub thread_is : thread ≡ group.thread

-- why a file with these lines is not a plan: its first line that cannot be part of one; or no line is `unordered`; or the first line of a
-- thread that neither is there at boot nor is created; or the first rule that names an answer that no outcome can have
abbrev pub FailsPlan : PageSize → Option (List ℕ) → Option (List ℕ) → PlanFault → Type 0
FailsPlan size old new (Malformed number (NoThread thread)) = (a : ReadsAll size old new) × HasBegun a.parts.part × IsUnknown a.parts.created a.parts.groups number thread
FailsPlan size old new (Malformed number NoAnswer) = (a : ReadsAll size old new) × (plan : Plan) × HasParts size a.parts plan × IsImpossible size a.parts plan number
FailsPlan size old new (Malformed number fault) =
    (a : ReadsFirst size old new) × (number ≡ 1 + length a.lines) × FailsNext size new a.parts number a.later fault
FailsPlan size old new NoUnordered = (a : ReadsAll size old new) × (HasBegun a.parts.part → ⊥)
FailsPlan size old new (Stopped Read) = (a : ReadsFirst size old new) × (filter (λ line. line.whole) a.later ≡ [])
FailsPlan size old new (Stopped Write) = ⊥
FailsPlan size old new (Stopped Memory) = ReadsFirst size old new

-- a plan is read to its end, or the reason why none is read
abbrev pub ReadsPlan : PageSize → Option (List ℕ) → Option (List ℕ) → Result Plan PlanFault → Type 0
ReadsPlan size old new (Ok plan) = (a : ReadsAll size old new) × IsPlanOf size (lines_of a.read) plan
ReadsPlan size old new (Err fault) = FailsPlan size old new fault
