use Rattle.std.proofs.Common.{◌+◌, ◌*◌, ◌^◌, sym, subst}
use Rattle.l4_text.specs.Inside.Reading.{IsPacked}
use Rattle.l4_text.proofs.OneNumber.{packed_after}
use Rattle.l4_text.proofs.first_numbers.longer_number.Goals as goal

pub returns-clause-packed : goal.returns-clause-packed
returns-clause-packed c =
    subst (λ v. IsPacked c.args.line.now ((c.in-Some.count + 1) * 2 ^ 32 + v)) (sym c.from.ensures)
    (packed_after c.args.line.now _ c.in-Some.count c.in-Some.value (sym c.if-is_empty.ensures) c.if-line-ne32.false c.in-Some.ensures)
