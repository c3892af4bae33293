use Rattle.std.proofs.Common.{rules, arith, length, ap, ◌≡◌, ◌≤◌, true}
use Rattle.std.proofs.lemmas.Bool.{false≢true}
use Rattle.l4_names.specs.Names.{is_name}
use Rattle.l4_names.proofs.Given.{name_short}
use Rattle.l4_names.proofs.names.Name.of.Goals as goal

pub returns-in-Err : goal.returns-in-Err
returns-in-Err c =
    let yes : is_name c.args.token.now ≡ true = search rules in
    let few : length c.args.token.now ≤ 24 = name_short c.args.token.now yes in
    let none : length c.new-bytes.result.items ≡ 0 = ap length c.new-bytes.ensures in
    absurd (false≢true (c.in-Err.ensures.variant.1 (omega (arith, few, none))))
