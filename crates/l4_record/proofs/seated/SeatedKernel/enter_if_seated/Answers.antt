use Rattle.std.proofs.Common.{◌≡◌, true, ap, ◌∙◌, rules}
use Rattle.l4_record.specs.Seated.{Seated, is_among}
use Rattle.l4_record.proofs.Seating.{ok_enters}
use Rattle.l4_record.proofs.seated.SeatedKernel.enter_if_seated.Goals as goal

pub returns-clause-ok : goal.returns-clause-ok
returns-clause-ok c =
    let has : is_among c.args.number c.self.inside.numbers.items ≡ true =
    ap (λ (s : Seated). is_among c.args.number s.numbers) c.self.view_is ∙ (search rules) in
    ok_enters c.enter.result c.args.self.now c.self.inside.recorder c.enter.new.self c.self.inside.numbers.items c.self.inside.watch.seen c.args.number c.args.call.now c.enter.new.appended
    has c.self.view_is c.enter.ensures.ok
