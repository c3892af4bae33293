-- What a file says as a plan (this profile's own).
use Rattle.std.specs.Prelude.{◌≡◌, ℕ, ◌+◌, ◌==◌, ◌&&◌, ◌||◌, Bool, true, false, if◌then◌else◌, is_some, Option, Some, None, List, [], ◌∷◌, ◌++◌, map, Result, Ok, Err}
use Rattle.std.specs.Bool.{beq}
use Rattle.std.specs.List.{list_any}
use Rattle.std.specs.Option.{option_map_or}
use Rattle.l4_fpage.specs.declared.sizes.PageSize.{PageSize}
use Rattle.l4_names.specs.Names.{Names, given}
use Rattle.l4_text.specs.Grammar.{TextLine, ending_of}
use Rattle.l4_text.specs.declared.lines.Ending.{Ending}
use Rattle.l4_text.specs.declared.lines.Ending.TheVariants.{Whole, Long, Cut}
use Rattle.l4_commands.specs.Calls.{root}
use Rattle.l4_commands.specs.LineKinds.{kind_of, names_by}
use Rattle.l4_commands.specs.Requests.{asked_at, Unread as AnUnread}
use Rattle.l4_commands.specs.declared.commands.ScriptFault.{ScriptFault}
use Rattle.l4_commands.specs.declared.commands.ScriptFault.TheVariants.{UnknownCommand}
use Rattle.l4_commands.specs.declared.requests.Request.{Request}
use Rattle.l4_commands.specs.declared.requests.Request.TheVariants.{GiveName}
use Rattle.l4_expectations.specs.Expectations.{is_marked}
use Rattle.l4_commands.specs.declared.line_kinds.LineKind.{LineKind}
use Rattle.l4_commands.specs.declared.line_kinds.LineKind.TheVariants.{Silent, Unread, OfThread, Cancels, Creates, Names as GivesName, Query, Steps, Unordered, Finally}
use Rattle.l4_orders.specs.declared.plans.Block.{Block}
use Rattle.l4_orders.specs.declared.plans.Plan.{Plan}
use Rattle.l4_orders.specs.declared.plans.PlanLine.{PlanLine}
use Rattle.l4_orders.specs.declared.parts.LineFault.{LineFault}
use Rattle.l4_orders.specs.declared.parts.LineFault.TheVariants.{Long as TooLong, Cut as CutOff, Unknown, Unread as NotRead, NamesFull, Repeated, OfNoThread, NoQuery, Steps as AsksSteps, Expectation}
use Rattle.l4_orders.specs.declared.parts.Part.{Part}
use Rattle.l4_orders.specs.declared.parts.Part.TheVariants.{First, Unordered as Free, Finally as Last}

-- a line with its number in the file
pub record Line : Type 0 where
  pub number : ℕ
  pub bytes : List ℕ

-- the lines of a thread, or with `cancels` those that end its waits (`timeout` and `cancel`)
pub record Group : Type 0 where
  pub thread : ℕ
  pub cancels : Bool
  pub lines : List Line

-- the parts so far, the part that the next line is in, the threads that the lines create, and the names that they give
pub record Parts : Type 0 where
  pub first : List Line
  pub groups : List Group
  pub queries : List Line
  pub part : Part
  pub created : List ℕ
  pub names : Names

abbrev pub no_parts : Parts
no_parts = record { first = []; groups = []; queries = []; part = First; created = []; names = [] }

-- ONE LINE

-- these are the lines of the thread, or with `cancels` those that end its waits
abbrev pub is_group : ℕ → Bool → Group → Bool
is_group thread cancels group = (group.thread == thread) && beq group.cancels cancels

-- the line is the last one of its thread, or of those that end waits of the thread
abbrev pub with_line : List Group → ℕ → Bool → Line → List Group
with_line [] thread cancels line = record { thread = thread; cancels = cancels; lines = line ∷ [] } ∷ []
with_line (group ∷ groups) thread cancels line =
    if is_group thread cancels group then (record { thread = group.thread; cancels = group.cancels; lines = group.lines ++ line ∷ [] } ∷ groups)
    else (group ∷ with_line groups thread cancels line)

-- the line is the last one of the beginning
abbrev pub with_first : Parts → Line → Parts
with_first p line = record p { first = p.first ++ line ∷ [] }

-- a line of a thread, or one that ends a wait of the thread: before `unordered` it keeps its place, and from there on its place among the
-- lines of its thread, or among those that end waits of the thread
abbrev pub add_call : Part → Parts → ℕ → Bool → Line → Result Parts LineFault
add_call First p thread cancels line = Ok (with_first p line)
add_call Free p thread cancels line = Ok (record p { groups = with_line p.groups thread cancels line })
add_call Last p thread cancels line = Err NoQuery

-- a line that gives a name is allowed only before `unordered`
abbrev pub add_naming : Part → Parts → Line → Result Parts LineFault
add_naming First p line = Ok (with_first p line)
add_naming Free p line = Err OfNoThread
add_naming Last p line = Err NoQuery

-- a query is allowed only after `finally`
abbrev pub add_query : Part → Parts → Line → Result Parts LineFault
add_query First p line = Err OfNoThread
add_query Free p line = Err OfNoThread
add_query Last p line = Ok (record p { queries = p.queries ++ line ∷ [] })

-- `unordered` ends the beginning, and `finally` the lines of threads
abbrev pub begin_free : Part → Parts → Result Parts LineFault
begin_free First p = Ok (record p { part = Free })
begin_free Free p = Err Repeated
begin_free Last p = Err Repeated

abbrev pub begin_last : Part → Parts → Result Parts LineFault
begin_last First p = Err Repeated
begin_last Free p = Ok (record p { part = Last })
begin_last Last p = Err Repeated

-- the parts with one line more, or what is wrong with the line
abbrev pub add_line : LineKind → Parts → Line → Result Parts LineFault
add_line Silent p line = Ok p
add_line Unread p line = Err NotRead
add_line (OfThread thread) p line = add_call p.part p thread false line
add_line (Cancels thread) p line = add_call p.part p thread true line
add_line (Creates number) p line = add_call p.part (record p { created = p.created ++ number ∷ [] }) root false line
add_line GivesName p line = add_naming p.part p line
add_line Query p line = add_query p.part p line
add_line Steps p line = Err AsksSteps
add_line Unordered p line = begin_free p.part p
add_line Finally p line = begin_last p.part p

-- a name may be given while there are fewer than 64, or again
abbrev pub fault_in : Names → Request → Option LineFault
fault_in names (GiveName name number) = if is_some (given names name number) then None else Some NamesFull
fault_in names request = None

-- why a line that asks for this can be part of no test, whatever lines are around it
abbrev pub unread_fault : ScriptFault → LineFault
unread_fault UnknownCommand = Unknown
unread_fault fault = NotRead

abbrev pub asked_fault : Names → Result (Option Request) AnUnread → Option LineFault
asked_fault names (Ok None) = None
asked_fault names (Ok (Some request)) = fault_in names request
asked_fault names (Err unread) = Some (unread_fault unread.fault)

-- an expectation (`#=`) has no place in a test
abbrev pub early_fault : PageSize → Names → List ℕ → Option LineFault
early_fault size names bytes = if is_marked bytes then Some Expectation else asked_fault names (asked_at size names Whole bytes)

-- the parts with one line more, by what the line asks for, where threads have the names so far
abbrev pub take_asked : PageSize → Parts → Line → Result Parts LineFault
take_asked size p line =
    add_line (kind_of (asked_at size p.names Whole line.bytes)) (record p { names = names_by p.names (asked_at size p.names Whole line.bytes) }) line

abbrev pub take_whole : PageSize → Parts → Line → Result Parts LineFault
take_whole size p line = option_map_or (λ fault. Err fault) (early_fault size p.names line.bytes) (take_asked size p line)

abbrev pub take_line : PageSize → Parts → ℕ → Ending → List ℕ → Result Parts LineFault
take_line size p number Whole bytes = take_whole size p (record { number = number; bytes = bytes })
take_line size p number Long bytes = Err TooLong
take_line size p number Cut bytes = Err CutOff

-- ALL LINES

-- the lines as parts; the first line has this number
abbrev pub AreRead : PageSize → ℕ → Parts → List TextLine → Parts → Type 0
AreRead size number p [] q = q ≡ p
AreRead size number p (line ∷ lines) q =
    (between : Parts) × (take_line size p number (ending_of line) line.bytes ≡ Ok between) × AreRead size (number + 1) between lines q

-- the thread is there at boot, or a line creates it
abbrev pub is_known : List ℕ → ℕ → Bool
is_known created thread = (thread == 1) || ((thread == 2) || list_any (λ n. n == thread) created)

-- each group of lines is that of a thread that is there at boot or that a line creates
abbrev pub AreKnown : List ℕ → List Group → Type 0
AreKnown created [] = Unit {0}
AreKnown created (group ∷ groups) = (is_known created group.thread ≡ true) × AreKnown created groups

-- the number of a group's first line
abbrev pub first_number : List Line → ℕ
first_number [] = 0
first_number (line ∷ lines) = line.number

-- the part has begun with which the lines of threads end
abbrev pub HasBegun : Part → Type 0
HasBegun First = ⊥
HasBegun Free = Unit {0}
HasBegun Last = Unit {0}

-- the lines of a plan with their numbers
abbrev pub line_in : PlanLine → Line
line_in line = record { number = line.number; bytes = line.bytes.items }

abbrev pub lines_in : List PlanLine → List Line
lines_in lines = map line_in lines

abbrev pub group_in : Block → Group
group_in block = record { thread = block.thread; cancels = block.cancels; lines = lines_in block.lines.items }

abbrev pub groups_in : List Block → List Group
groups_in blocks = map group_in blocks
