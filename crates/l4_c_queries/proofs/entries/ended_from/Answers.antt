use Rattle.std.proofs.Common.{◌≤◌, ◌-◌, ◌<◌, ◌≡◌, ℕ, List, inl, ap, ◌∙◌, subst, refl, arith}
use Rattle.l4_record.specs.declared.entries.Entry.{Entry}
use Rattle.l4_c_queries.proofs.Ended.{lists_ended}
use Rattle.l4_c_queries.proofs.entries.ended_from.Goals as goal

pub returns : goal.returns
returns c =
    let l = c.args.lock.now in
    let le : l.kept_from ≤ c.args.number = omega (arith, c.if-number-kept_from.false, c.kept_from-kept_from.ensures) in
    lists_ended l.kept_from c.args.number c.kept_from-kept_from.result _ l.history _ _ _ _ c.kept_from-kept_from.ensures le c.history.ensures c.write_ended-count.ensures c.counted-2.ensures
