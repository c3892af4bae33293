use Rattle.std.proofs.Common.{[], ◌∷◌, refl, arith}
use Rattle.l4_lock.specs.Books.{Book}
use Rattle.l4_lock.specs.Inside.Noting.{noted}
use Rattle.l4_lock.proofs.Counting.{one_more, room_for_one, told}
use Rattle.l4_lock.proofs.accounts.Accounts.end.Goals as goal

pub overflow_add-self : goal.overflow_add-self
overflow_add-self c =
    let few = room_for_one c.self.inside.items.items c.args.self.now c.self.view_is c.args.at c.index_mut.result.now c.requires c.index_mut.ensures.value c.self.inside.replies c.self.invariant (c.if-end.ensures.more refl).0 in
    omega (arith, few, c.self.inside.items.ok.0, c.self.inside.items.ok.1, c.self.inside.items.small)

pub invariant_of-self : goal.invariant_of-self
invariant_of-self c = one_more c.self.inside.items.items c.args.self.now c.self.view_is c.args.at c.index_mut.result.now c.requires c.index_mut.ensures.value c.end.new.self c.self.inside.replies c.self.invariant (c.if-end.ensures.more refl)

pub returns-then-end : goal.returns-then-end
returns-then-end c = told c.self.inside.items.items c.args.self.now c.self.view_is c.args.at c.index_mut.result.now c.requires c.index_mut.ensures.value (λ (b : Book). noted c.args.kernel.now (b.number ∷ []) c.args.place b) c.end.new.self c.if-end.ensures.noted

pub returns-else-end : goal.returns-else-end
returns-else-end c = told c.self.inside.items.items c.args.self.now c.self.view_is c.args.at c.index_mut.result.now c.requires c.index_mut.ensures.value (λ (b : Book). noted c.args.kernel.now (b.number ∷ []) c.args.place b) c.end.new.self c.if-end.ensures.noted
