use Rattle.std.proofs.Common.{◌∙◌, sym, ap}
use Rattle.l4_commands.specs.Commands.{last_rights_of}
use Rattle.l4_commands.proofs.InTurn.{rights_alone}
use Rattle.l4_commands.proofs.regions.last_rights.Goals as goal

pub returns-in-Some : goal.returns-in-Some
returns-in-Some c = c.rights.ensures ∙ rights_alone c.in-Some.token.now ∙ ap last_rights_of (sym c.in-Some.ensures)
