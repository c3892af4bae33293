use Rattle.l4_commands.proofs.Standing.{stands}
use Rattle.l4_commands.proofs.laws.names_stand_for_threads.Goals as goal

pub returns : goal.returns
returns c = stands
