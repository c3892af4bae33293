-- The queries of a litmus test (this profile's own).
use Rattle.std.specs.Prelude.{ℕ, ◌==◌, Bool, false, Option, Some, None, Result, Ok, Err}
use Rattle.l4_commands.specs.Requests.{Unread}
use Rattle.l4_commands.specs.declared.requests.Request.{Request}
use Rattle.l4_commands.specs.declared.requests.Request.TheVariants.{ListPages, TellParent, TellReply}
use Rattle.l4_rules.specs.declared.forms.Query.{Query}
use Rattle.l4_rules.specs.declared.forms.Query.TheVariants.{Pages, Parent, Reply}

-- the query that a request is, if it is one
abbrev pub query_in : Request → Option Query
query_in (ListPages thread first count) = Some Pages
query_in (TellParent thread page) = Some Parent
query_in (TellReply thread) = Some (Reply thread)
query_in request = None

-- the query that a line asks for
abbrev pub query_of : Result (Option Request) Unread → Option Query
query_of (Ok None) = None
query_of (Ok (Some request)) = query_in request
query_of (Err unread) = None

-- the query asks for the reply of the thread
abbrev pub is_reply_of : ℕ → Query → Bool
is_reply_of thread Pages = false
is_reply_of thread Parent = false
is_reply_of thread (Reply number) = number == thread
