-- The thread that executes a line of a script, and lines that no thread executes (this profile's own).
use Rattle.std.specs.Prelude.{Option, Some, None, Result, Ok, Err}
use Rattle.l4_names.specs.Names.{Names}
use Rattle.l4_commands.specs.Calls.{root}
use Rattle.l4_commands.specs.Requests.{Unread, names_after}
use Rattle.l4_commands.specs.declared.requests.Request.{Request}
use Rattle.l4_commands.specs.declared.requests.Request.TheVariants.{Enter, CreateThread, EndThread, SendPlan, ListPages, TellParent, AddRegion, ServeThread, GiveName, TellReply, CancelWait, TellSteps, BeginUnordered, BeginFinally, StateRule}
use Rattle.l4_commands.specs.declared.line_kinds.LineKind.{LineKind}
use Rattle.l4_commands.specs.declared.line_kinds.LineKind.TheVariants.{Silent, Unread as CannotRead, OfThread, Cancels, Creates, Names as GivesName, Query, Steps, Unordered, Finally}

-- the thread that enters the call of a line, or whose table or service the line concerns; no thread executes a query
abbrev pub kind_of_request : Request → LineKind
kind_of_request (Enter thread call) = OfThread thread
kind_of_request (CreateThread number call) = Creates number
kind_of_request (EndThread thread) = OfThread root
kind_of_request (SendPlan thread to which region) = OfThread thread
kind_of_request (ListPages thread first count) = Query
kind_of_request (TellParent thread page) = Query
kind_of_request (AddRegion thread entry) = OfThread thread
kind_of_request (ServeThread thread) = OfThread thread
kind_of_request (GiveName name number) = GivesName
kind_of_request (TellReply thread) = Query
kind_of_request (CancelWait thread cause) = Cancels thread
kind_of_request TellSteps = Steps
kind_of_request BeginUnordered = Unordered
kind_of_request BeginFinally = Finally
kind_of_request StateRule = Query

-- the kind of a line that asks for this
abbrev pub kind_of : Result (Option Request) Unread → LineKind
kind_of (Ok None) = Silent
kind_of (Ok (Some request)) = kind_of_request request
kind_of (Err unread) = CannotRead

-- the names after a line that asks for this
abbrev pub names_by : Names → Result (Option Request) Unread → Names
names_by names (Ok None) = names
names_by names (Ok (Some request)) = names_after names request
names_by names (Err unread) = names
