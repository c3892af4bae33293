-- The queries of a test that was read, with the replies for which its rules ask, are queries and rules.
use Rattle.std.proofs.Common.{◌≡◌, ℕ, Bool, true, false, if◌then◌else◌, is_some, List, [], ◌∷◌, ◌++◌, Option, Some, None, Result, Ok, Err, refl}
use Rattle.std.specs.List.{list_any}
use Rattle.std.specs.Option.{option_map_or}
use Rattle.std.proofs.lemmas.Bool.{false≢true}
use Rattle.l4_fpage.specs.declared.sizes.PageSize.{PageSize}
use Rattle.l4_names.specs.Names.{Names}
use Rattle.l4_text.specs.declared.lines.Ending.TheVariants.{Whole}
use Rattle.l4_commands.specs.LineKinds.{kind_of}
use Rattle.l4_commands.specs.Requests.{Unread, asked_at}
use Rattle.l4_commands.specs.declared.requests.Request.{Request}
use Rattle.l4_commands.specs.declared.requests.Request.TheVariants.{Enter, CreateThread, EndThread, SendPlan, ListPages, TellParent, AddRegion, ServeThread, GiveName, TellReply, CancelWait, TellSteps, BeginUnordered, BeginFinally, StateRule}
use Rattle.l4_rules.specs.declared.forms.Query.{Query}
use Rattle.l4_rules.specs.Queries.{query_of, is_reply_of}
use Rattle.l4_orders.specs.Possible.{is_asked, reply_line, ask, ask_all, is_over_threads, all_queries}
use Rattle.l4_orders.specs.Reading.{Line}
use Rattle.l4_orders.proofs.Asking.{IsAsked}
use Rattle.l4_orders.proofs.Naming.{AllLines, Asks, lines_push}

is_query : (asked : Result (Option Request) Unread) → is_some (query_of asked) ≡ true → IsAsked (kind_of asked)
is_query (Ok None) e = absurd (false≢true e)
is_query (Err unread) e = absurd (false≢true e)
is_query (Ok (Some (Enter thread call))) e = absurd (false≢true e)
is_query (Ok (Some (CreateThread number call))) e = absurd (false≢true e)
is_query (Ok (Some (EndThread thread))) e = absurd (false≢true e)
is_query (Ok (Some (SendPlan thread to which region))) e = absurd (false≢true e)
is_query (Ok (Some (ListPages thread first count))) e = tt
is_query (Ok (Some (TellParent thread page))) e = tt
is_query (Ok (Some (AddRegion thread entry))) e = absurd (false≢true e)
is_query (Ok (Some (ServeThread thread))) e = absurd (false≢true e)
is_query (Ok (Some (GiveName name thread))) e = absurd (false≢true e)
is_query (Ok (Some (TellReply thread))) e = tt
is_query (Ok (Some (CancelWait thread cause))) e = absurd (false≢true e)
is_query (Ok (Some TellSteps)) e = absurd (false≢true e)
is_query (Ok (Some BeginUnordered)) e = absurd (false≢true e)
is_query (Ok (Some BeginFinally)) e = absurd (false≢true e)
is_query (Ok (Some StateRule)) e = absurd (false≢true e)

some_query : (query : Option Query) (thread : ℕ) → option_map_or (λ q. is_reply_of thread q) query false ≡ true → is_some query ≡ true
some_query None thread e = absurd (false≢true e)
some_query (Some query) thread e = refl

reply_asks : (size : PageSize) (names : Names) (thread : ℕ) (line : Line) → is_asked size names thread line ≡ true → Asks size names line.bytes
reply_asks size names thread line e = is_query (asked_at size names Whole line.bytes) (some_query (query_of (asked_at size names Whole line.bytes)) thread e)

ask_asks : (size : PageSize) (names : Names) (queries : List Line) (thread : ℕ) → AllLines (Asks size names) queries → AllLines (Asks size names) (ask size names queries thread)
ask_asks size names queries thread all = at (list_any (λ line. is_asked size names thread line) queries) (is_asked size names thread (reply_line thread)) (reply_asks size names thread (reply_line thread)) where
  at : (b c : Bool) → (c ≡ true → Asks size names (reply_line thread).bytes)
      → AllLines (Asks size names) (if b then queries else (if c then queries ++ reply_line thread ∷ [] else queries))
  at true c asks = all
  at false true asks = lines_push (Asks size names) queries (reply_line thread) all (asks refl)
  at false false asks = all

each_asks : (size : PageSize) (names : Names) (queries : List Line) (threads : List ℕ) → AllLines (Asks size names) queries → AllLines (Asks size names) (ask_all size names queries threads)
each_asks size names queries [] all = all
each_asks size names queries (thread ∷ threads) all = each_asks size names (ask size names queries thread) threads (ask_asks size names queries thread all)

pub all_ask : (size : PageSize) (names : Names) (queries : List Line) (threads : List ℕ) → AllLines (Asks size names) queries → AllLines (Asks size names) (all_queries size names queries threads)
all_ask size names queries threads all = at (list_any (λ line. is_over_threads line) queries) where
  at : (b : Bool) → AllLines (Asks size names) (if b then ask_all size names queries threads else queries)
  at true = each_asks size names queries threads all
  at false = all
