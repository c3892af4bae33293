-- What builders make of a command, by what a parse reads of it.
use Rattle.std.proofs.Common.{◌≡◌, ◌∙◌, ◌++◌, ◌∷◌, [], ◌||◌, List, sym, ap, ap₂}
use Rattle.std.proofs.lemmas.Option.{none-some}
use Rattle.std.specs.Prelude.{Box, Option, Some, None, option_map, unwrap_or}
use Rattle.std.specs.Box.{box_value}
use Rattle.clap.specs.Walk.{Row, Rule, Text}
use Rattle.clap.specs.Simple.{App, Shape, app_of, app_of_fields, with_rule, with_subcommand, subcommand_rows}
use Rattle.clap.specs.declared.parser.matches.SubCommand.{SubCommand}
use Rattle.clap.specs.declared.parser.matches.ArgMatches.TheViews.{out-SubCommand}
use Rattle.clap.specs.Built.{AddsArg, AddsSubcommand}
use Rattle.clap.specs.declared.builder.arg.Arg.{Arg}
use Rattle.clap.specs.declared.builder.command.Command.{Command}
use Rattle.clap.specs.declared.builder.command.Command.TheOpen.{Command-F}
use Rattle.clap.specs.declared.builder.command.Command.TheViews.{out-Command}
use Rattle.l4_options.specs.Inside.Lines.{IsRule, IsCommand}

-- a text of the help changes nothing that a parse reads
pub described : (shape : Shape) (old new : Command) (f : Command-F Command) → IsCommand shape old → out-Command new ≡ f → app_of_fields f ≡ app_of old
    → f.has_globals ≡ (out-Command old).has_globals → IsCommand shape new
described shape old new f is made reads globals = (ap app_of_fields made ∙ reads ∙ is.0, ap (λ (g : Command-F Command). g.has_globals) made ∙ globals ∙ is.1)

-- one more argument
pub more : (shape : Shape) (rule : Rule) (old new : Command) (a : Arg) → IsCommand shape old → IsRule rule a → AddsArg old a new
    → IsCommand (record shape { rules = shape.rules ++ rule ∷ [] }) new
more shape rule old new a is goes adds = (
  adds.shape goes.1 ∙ ap₂ with_rule is.0 goes.0,
  adds.globals ∙ ap₂ ◌||◌ is.1 goes.1,
)

-- one more command below
pub below : (app : App) (shape : Shape) (old sub new : Command) → app_of old ≡ app → IsCommand shape sub → AddsSubcommand old sub new
    → app_of new ≡ with_subcommand app shape
below app shape old sub new is goes adds = adds.shape goes.1 ∙ ap₂ with_subcommand is (ap (λ (a : App). a.top) goes.0)

-- the command that a parse met, by its name and what was found behind it
module _ {Z : Type 0} where
  pub met : (sub : Option (Box SubCommand Z)) (name : Text) (rows : List Row) → Some name ≡ option_map (λ b. (out-SubCommand (box_value b)).name.now) sub
      → Some rows ≡ option_map (λ p. p.1) (subcommand_rows sub) → subcommand_rows sub ≡ Some (name, rows)
  met None name rows is holds = absurd (none-some name (sym is))
  met (Some b) name rows is holds = sym (ap₂ (λ (n : Text) (r : List Row). Some (n, r)) (ap (λ (o : Option Text). unwrap_or o name) is) (ap (λ (o : Option (List Row)). unwrap_or o rows) holds))
