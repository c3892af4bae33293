use Rattle.l4_commands.proofs.Hiding.{no_kind, no_command}
use Rattle.l4_commands.proofs.laws.names_hide_no_word.Goals as goal

pub returns : goal.returns
returns c = (no_kind, no_command)
