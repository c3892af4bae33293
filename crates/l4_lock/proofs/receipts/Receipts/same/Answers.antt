use Rattle.std.proofs.Common.{◌≡◌, ◌≤◌, max, length, sym, ◌∙◌, arith, rules}
use Rattle.l4_lock.proofs.Back.{all_same, one_differs}
use Rattle.l4_lock.proofs.receipts.Receipts.same.Goals as goal

pub returns-then-not-same_at-clause-other : goal.returns-then-not-same_at-clause-other
returns-then-not-same_at-clause-other c = λ _.
    one_differs c.args.self.now.items c.args.other.now.items (max c.args.self.now.kept_from c.args.other.now.kept_from) c.loop-number.number c.loop-number.invariant.0 (search rules) (search rules)

pub returns-clause-same : goal.returns-clause-same
returns-clause-same c = λ _.
    let receipts = c.args.self.now.items in
    let others = c.args.other.now.items in
    let long : length receipts ≡ length others = sym c.len.ensures.len ∙ c.if-len.false ∙ c.len-2.ensures.len in
    let past : length receipts ≤ c.loop-number.number = omega (arith, c.len-number-end.ensures.len, c.loop-number-test.false) in
    all_same receipts others (max c.args.self.now.kept_from c.args.other.now.kept_from) c.loop-number.number long past c.loop-number.invariant.1
