-- The request of a line (this profile's own).
use Rattle.std.specs.Prelude.{ℕ, List, [], Option, Some, None, Result, Ok, Err, if◌then◌else◌}
use Rattle.l4_fpage.specs.declared.sizes.PageSize.{PageSize}
use Rattle.l4_names.specs.Names.{Names, after_giving}
use Rattle.l4_commands.specs.declared.requests.Request.{Request}
use Rattle.l4_commands.specs.declared.requests.Request.TheVariants.{GiveName}
use Rattle.l4_commands.specs.declared.commands.ScriptFault.{ScriptFault}
use Rattle.l4_commands.specs.declared.commands.ScriptFault.TheVariants.{LineTooLong, CutLine}
use Rattle.l4_text.specs.declared.lines.Ending.{Ending}
use Rattle.l4_text.specs.declared.lines.Ending.TheVariants.{Whole, Long, Cut}
use Rattle.l4_text.specs.Grammar.{TextLine, ending_of, is_silent}
use Rattle.l4_text.specs.Tokens.{tokens_of}
use Rattle.l4_commands.specs.Commands.{command_of}

-- why a line can't be read, and its bytes; none of a line that is cut or too long
pub record Unread : Type 0 where
  pub fault : ScriptFault
  pub bytes : List ℕ

-- the bytes of a line, and what its tokens ask for
abbrev pub some_request : List ℕ → Result Request ScriptFault → Result (Option Request) Unread
some_request bytes (Ok request) = Ok (Some request)
some_request bytes (Err fault) = Err (record { fault = fault; bytes = bytes })

-- what a line with this ending asks for, where pages have this size and threads these names, None where it is empty or a comment, or its first
-- refusal
abbrev pub asked_at : PageSize → Names → Ending → List ℕ → Result (Option Request) Unread
asked_at size names Cut bytes = Err (record { fault = CutLine; bytes = [] })
asked_at size names Long bytes = Err (record { fault = LineTooLong; bytes = [] })
asked_at size names Whole bytes = if is_silent bytes then Ok None else some_request bytes (command_of size names (tokens_of bytes))

abbrev pub asked_of : PageSize → Names → TextLine → Result (Option Request) Unread
asked_of size names line = asked_at size names (ending_of line) line.bytes

-- the names after a line that requests this
abbrev pub names_after : Names → Request → Names
names_after names (GiveName name number) = after_giving names name number
names_after names request = names
