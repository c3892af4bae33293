use Rattle.std.proofs.Common.{◌*◌, ◌%◌, ◌^◌, ◌∙◌}
use Rattle.std.specs.Prelude.{bit_xor}
use Rattle.std.specs.Int.{w64, rotate_left}
use Rattle.l4_merges.specs.Inside.Tables.{mixed}
use Rattle.l4_merges.proofs.table.mixed.Goals as goal

pub returns : goal.returns
unfolding mixed
returns c = c.rotate_left.ensures ∙ (λ i. rotate_left w64 ((bit_xor c.args.digest (c.from.ensures i) * 11400714819323198485) % 2 ^ 64) 29)
