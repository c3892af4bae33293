use Rattle.std.proofs.Common.{rules}
use Rattle.l4_commands.proofs.commands.part_command.Goals as goal

pub returns-then-eq : goal.returns-then-eq
returns-then-eq c = λ size names. let e = c.unordered.ensures size names in search rules

pub returns-then-eq-2 : goal.returns-then-eq-2
returns-then-eq-2 c = λ size names. let e = c.begin_finally.ensures size names in search rules

pub returns-then-eq-3 : goal.returns-then-eq-3
returns-then-eq-3 c = λ size names. let e = c.rule.ensures in search rules

pub returns-then-eq-4 : goal.returns-then-eq-4
returns-then-eq-4 c = λ size names. let e = c.rule-then-eq-4.ensures in search rules
