-- A file as a plan, or why it is none.
use Rattle.std.proofs.Common.{◌≡◌, ℕ, Bool, true, false, cond, is_some, List, [], ◌∷◌, Option, Some, None, Result, Ok, Err, sym, subst}
use Rattle.std.specs.Option.{option_map_or}
use Rattle.l4_fpage.specs.declared.sizes.PageSize.{PageSize}
use Rattle.std.proofs.lemmas.List.{append-nil}
use Rattle.l4_text.specs.Grammar.{TextLine, lines_of, ending_of}
use Rattle.l4_text.specs.declared.faults.RunFault.TheVariants.{Read, Write, Memory}
use Rattle.l4_text.specs.declared.lines.Ending.{Ending}
use Rattle.l4_text.specs.declared.lines.Ending.TheVariants.{Whole, Long as TooLong, Cut as IsCut}
use Rattle.l4_commands.specs.Calls.{root}
use Rattle.l4_commands.specs.LineKinds.{kind_of}
use Rattle.l4_commands.specs.Requests.{asked_at, Unread as AnUnread}
use Rattle.l4_commands.specs.declared.commands.ScriptFault.{ScriptFault}
use Rattle.l4_commands.specs.declared.commands.ScriptFault.TheVariants.{UnknownCommand, BadTokens, LineTooLong, CutLine}
use Rattle.l4_commands.specs.declared.requests.Request.{Request}
use Rattle.l4_commands.specs.declared.requests.Request.TheVariants.{Enter, CreateThread, EndThread, SendPlan, ListPages, TellParent, AddRegion, ServeThread, GiveName, TellReply, CancelWait, TellSteps, BeginUnordered, BeginFinally, StateRule}
use Rattle.l4_expectations.specs.Expectations.{is_marked}
use Rattle.l4_names.specs.Names.{Names, given}
use Rattle.l4_commands.specs.declared.line_kinds.LineKind.{LineKind}
use Rattle.l4_commands.specs.declared.line_kinds.LineKind.TheVariants.{Silent, Unread as CannotRead, OfThread, Cancels, Creates, Names as GivesName, Query, Steps as AsksSteps, Unordered, Finally}
use Rattle.l4_orders.specs.declared.parts.LineFault.{LineFault}
use Rattle.l4_orders.specs.declared.parts.LineFault.TheVariants.{Long, Cut, Unknown, Unread, NamesFull, Repeated, OfNoThread, NoQuery, Steps, NoThread, NoAnswer, Expectation}
use Rattle.l4_orders.specs.declared.parts.Part.{Part}
use Rattle.l4_orders.specs.declared.parts.Part.TheVariants.{First, Unordered as Free, Finally as Last}
use Rattle.l4_orders.specs.declared.parts.PlanFault.{PlanFault}
use Rattle.l4_orders.specs.declared.parts.PlanFault.TheVariants.{Stopped, Malformed, NoUnordered}
use Rattle.l4_orders.specs.declared.plans.Plan.{Plan}
use Rattle.l4_orders.specs.Reading.{Line, Parts, add_call, add_naming, add_query, begin_free, begin_last, add_line, take_asked, take_whole, take_line, fault_in, unread_fault, asked_fault, early_fault, HasBegun}
use Rattle.l4_orders.specs.Files.{ReadsAll, FailsNext, ReadsPlan}
use Rattle.l4_orders.specs.Inside.Parts.{Finishes}
use Rattle.l4_orders.specs.Inside.Taking.{ReadsLines}

-- NO LINE BY ITSELF IS OF AN UNKNOWN THREAD

abbrev IsOther : Result Parts LineFault → Type 0
IsOther (Ok p) = Unit {0}
IsOther (Err Long) = Unit {0}
IsOther (Err Cut) = Unit {0}
IsOther (Err Unknown) = Unit {0}
IsOther (Err Unread) = Unit {0}
IsOther (Err NamesFull) = Unit {0}
IsOther (Err Repeated) = Unit {0}
IsOther (Err OfNoThread) = Unit {0}
IsOther (Err NoQuery) = Unit {0}
IsOther (Err Steps) = Unit {0}
IsOther (Err (NoThread thread)) = ⊥
IsOther (Err NoAnswer) = ⊥
IsOther (Err Expectation) = Unit {0}

other_call : (part : Part) (p : Parts) (thread : ℕ) (cancels : Bool) (line : Line) → IsOther (add_call part p thread cancels line)
other_call First p thread cancels line = tt
other_call Free p thread cancels line = tt
other_call Last p thread cancels line = tt

other_naming : (part : Part) (p : Parts) (line : Line) → IsOther (add_naming part p line)
other_naming First p line = tt
other_naming Free p line = tt
other_naming Last p line = tt

other_query : (part : Part) (p : Parts) (line : Line) → IsOther (add_query part p line)
other_query First p line = tt
other_query Free p line = tt
other_query Last p line = tt

other_free : (part : Part) (p : Parts) → IsOther (begin_free part p)
other_free First p = tt
other_free Free p = tt
other_free Last p = tt

other_last : (part : Part) (p : Parts) → IsOther (begin_last part p)
other_last First p = tt
other_last Free p = tt
other_last Last p = tt

other_line : (kind : LineKind) (p : Parts) (line : Line) → IsOther (add_line kind p line)
other_line Silent p line = tt
other_line CannotRead p line = tt
other_line (OfThread thread) p line = other_call p.part p thread false line
other_line (Cancels thread) p line = other_call p.part p thread true line
other_line (Creates number) p line = other_call p.part _ root false line
other_line GivesName p line = other_naming p.part p line
other_line Query p line = other_query p.part p line
other_line AsksSteps p line = tt
other_line Unordered p line = other_free p.part p
other_line Finally p line = other_last p.part p

-- NOR IS AN EARLY FAULT

abbrev AreOther : Option LineFault → Type 0
AreOther None = Unit {0}
AreOther (Some fault) = IsOther (Err fault)

other_name : (fits : Bool) → AreOther (cond fits None (Some NamesFull))
other_name true = tt
other_name false = tt

other_in : (names : Names) (request : Request) → AreOther (fault_in names request)
other_in names (Enter thread call) = tt
other_in names (CreateThread number call) = tt
other_in names (EndThread thread) = tt
other_in names (SendPlan thread to which region) = tt
other_in names (ListPages thread first count) = tt
other_in names (TellParent thread page) = tt
other_in names (AddRegion thread entry) = tt
other_in names (ServeThread thread) = tt
other_in names (GiveName name number) = other_name (is_some (given names name number))
other_in names (TellReply thread) = tt
other_in names (CancelWait thread cause) = tt
other_in names TellSteps = tt
other_in names BeginUnordered = tt
other_in names BeginFinally = tt
other_in names StateRule = tt

other_unread : (fault : ScriptFault) → IsOther (Err (unread_fault fault))
other_unread UnknownCommand = tt
other_unread BadTokens = tt
other_unread LineTooLong = tt
other_unread CutLine = tt

other_asked : (names : Names) (asked : Result (Option Request) AnUnread) → AreOther (asked_fault names asked)
other_asked names (Ok None) = tt
other_asked names (Ok (Some request)) = other_in names request
other_asked names (Err unread) = other_unread unread.fault

other_marked : (marked : Bool) (fault : Option LineFault) → AreOther fault → AreOther (cond marked (Some Expectation) fault)
other_marked true fault other = tt
other_marked false fault other = other

other_early : (fault : Option LineFault) (due : Result Parts LineFault) → AreOther fault → IsOther due → IsOther (option_map_or (λ f. Err f) fault due)
other_early None due other is = is
other_early (Some fault) due other is = other

other_whole : (size : PageSize) (p : Parts) (line : Line) → IsOther (take_whole size p line)
other_whole size p line =
    other_early (early_fault size p.names line.bytes) (take_asked size p line)
    (other_marked (is_marked line.bytes) (asked_fault p.names (asked_at size p.names Whole line.bytes)) (other_asked p.names (asked_at size p.names Whole line.bytes)))
    (other_line (kind_of (asked_at size p.names Whole line.bytes)) _ line)

other_take : (ending : Ending) (size : PageSize) (p : Parts) (number : ℕ) (bytes : List ℕ) → IsOther (take_line size p number ending bytes)
other_take Whole size p number bytes = other_whole size p (record { number = number; bytes = bytes })
other_take TooLong size p number bytes = tt
other_take IsCut size p number bytes = tt

never : (size : PageSize) (new : Option (List ℕ)) (p : Parts) (number thread : ℕ) (later : List TextLine) → FailsNext size new p number later (NoThread thread) → ⊥
never size new p number thread [] h = h
never size new p number thread (line ∷ later) h = subst IsOther h.0 (other_take (ending_of line) size p number line.bytes)

never_answer : (size : PageSize) (new : Option (List ℕ)) (p : Parts) (number : ℕ) (later : List TextLine) → FailsNext size new p number later NoAnswer → ⊥
never_answer size new p number [] h = h
never_answer size new p number (line ∷ later) h = subst IsOther h.0 (other_take (ending_of line) size p number line.bytes)

-- HOW A FILE IS NO PLAN

pub fails_plan : (fault : PlanFault) (size : PageSize) (old new : Option (List ℕ)) (last : Parts) → ReadsLines size old new last (Err fault) → ReadsPlan size old new (Err fault)
fails_plan (Stopped Read) size old new last h = h
fails_plan (Stopped Write) size old new last h = h
fails_plan (Stopped Memory) size old new last h = h
fails_plan NoUnordered size old new last h = absurd h
fails_plan (Malformed number Long) size old new last h = h
fails_plan (Malformed number Cut) size old new last h = h
fails_plan (Malformed number Unread) size old new last h = h
fails_plan (Malformed number Unknown) size old new last h = h
fails_plan (Malformed number NamesFull) size old new last h = h
fails_plan (Malformed number Expectation) size old new last h = h
fails_plan (Malformed number Repeated) size old new last h = h
fails_plan (Malformed number OfNoThread) size old new last h = h
fails_plan (Malformed number NoQuery) size old new last h = h
fails_plan (Malformed number Steps) size old new last h = h
fails_plan (Malformed number (NoThread thread)) size old new last h = absurd (never size new h.0.parts number thread h.0.later h.2)
fails_plan (Malformed number NoAnswer) size old new last h = absurd (never_answer size new h.0.parts number h.0.later h.2)

pub finishes_plan : (result : Result Plan PlanFault) (size : PageSize) (old new : Option (List ℕ)) (p : Parts) (a : ReadsAll size old new) → p ≡ a.parts → Finishes size p result → ReadsPlan size old new result
finishes_plan result size old new p a is h = at result (subst (λ (q : Parts). Finishes size q result) is h) where
  at : (result : Result Plan PlanFault) → Finishes size a.parts result → ReadsPlan size old new result
  at (Ok plan) k = (a, record { parts = a.parts; read = a.are; has = k.0; possible = k.1 })
  at (Err (Stopped Read)) k = absurd k
  at (Err (Stopped Write)) k = absurd k
  at (Err (Stopped Memory)) k =
      record { read = a.read; from = a.from; lines = lines_of a.read; later = []; parts_are = sym (append-nil (lines_of a.read)); parts = a.parts; are = a.are }
  at (Err NoUnordered) k = (a, λ begun. subst HasBegun k begun)
  at (Err (Malformed number Long)) k = absurd k
  at (Err (Malformed number Cut)) k = absurd k
  at (Err (Malformed number Unread)) k = absurd k
  at (Err (Malformed number Unknown)) k = absurd k
  at (Err (Malformed number NamesFull)) k = absurd k
  at (Err (Malformed number Expectation)) k = absurd k
  at (Err (Malformed number Repeated)) k = absurd k
  at (Err (Malformed number OfNoThread)) k = absurd k
  at (Err (Malformed number NoQuery)) k = absurd k
  at (Err (Malformed number Steps)) k = absurd k
  at (Err (Malformed number (NoThread thread))) k = (a, k.0, k.1)
  at (Err (Malformed number NoAnswer)) k = (a, k.0, k.1, k.2)
