use Rattle.std.proofs.Common.{ap, ◌∙◌}
use Rattle.std.specs.Cmp.{nat_cmp_total}
use Rattle.std.specs.FinSet as set
use Rattle.l4_links.specs.Entries.{Linked}
use Rattle.l4_parts_tests.proofs.links.send.Goals as goal

pub move_items-requires-clause-there : goal.move_items-requires-clause-there
move_items-requires-clause-there c = ap (λ (s : Linked). set.contains s.spaces 1) c.in_ok-add_space.ensures.ok ∙ set.contains-insert nat_cmp_total c.args.links.now.spaces 1 1
