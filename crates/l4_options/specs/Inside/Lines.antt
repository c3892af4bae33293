-- What of clap's arguments, commands and errors the parse of a command line rests on (this profile's own).
use Rattle.std.specs.Prelude.{◌≡◌, ◌⊎◌, ℕ, true, false, List, [], codes, take}
use Rattle.clap.specs.Matches.{found_of}
use Rattle.clap.specs.Walk.{Row, Rule, rows_of, rule_of}
use Rattle.clap.specs.Simple.{App, Shape, app_of, new_shape}
use Rattle.clap.specs.declared.builder.arg.Arg.{Arg}
use Rattle.clap.specs.declared.builder.command.Command.{Command}
use Rattle.clap.specs.declared.builder.command.Command.TheViews.{out-Command}
use Rattle.clap.specs.declared.parser.matches.ArgMatches.{ArgMatches}
use Rattle.clap.specs.declared.error.kind.ErrorKind.{ErrorKind}
use Rattle.clap.specs.declared.error.kind.ErrorKind.TheVariants.{DisplayHelp, DisplayVersion}
use Rattle.l4_options.specs.Commands.{l4_commands, l4_program}

-- the argument is read by this rule, and by no command below its own
abbrev pub IsRule : Rule → Arg → Type 0
IsRule rule a = (rule_of a ≡ rule) × (a.global ≡ false)

-- the command is read as this one, and has no command below it
abbrev pub IsCommand : Shape → Command → Type 0
IsCommand shape c = (app_of c ≡ record { top = shape; subs = [] }) × ((out-Command c).has_globals ≡ false)

-- l4 without its commands
abbrev pub bare_program : App
bare_program = record { top = record (new_shape (codes "l4")) { has_version = true; subcommand_required = true }; subs = [] }

-- l4 with its first commands
abbrev pub with_commands : ℕ → App
with_commands n = record l4_program { subs = take n l4_commands }

-- the error is the usage or the version
abbrev pub IsTextKind : ErrorKind → Type 0
IsTextKind kind = (kind ≡ DisplayHelp) ⊎ (kind ≡ DisplayVersion)

-- what a parse found of a command, by the names of its arguments
abbrev pub found_in : ArgMatches → List Row
found_in m = rows_of (found_of m)
