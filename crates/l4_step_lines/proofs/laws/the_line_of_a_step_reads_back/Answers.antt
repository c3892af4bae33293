use Rattle.l4_step_lines.proofs.ReadBack.{reads_back}
use Rattle.l4_step_lines.proofs.laws.the_line_of_a_step_reads_back.Goals as goal

pub returns : goal.returns
returns c = reads_back
