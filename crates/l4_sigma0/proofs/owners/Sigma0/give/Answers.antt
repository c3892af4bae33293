use Rattle.std.proofs.Common.{◌≡◌, ℕ, ◌+◌, ◌*◌, ◌%◌, ◌^◌, ◌<◌, ◌≤◌, ◌∙◌, refl, ap, arith, subst}
use Rattle.std.proofs.lemmas.Bool.{false≢true}
use Rattle.std.proofs.lemmas.Nat.{one_shl, pow_pos}
use Rattle.std.proofs.Math.Nat.{mod-eq_of_lt}
use Rattle.l4_fpage.proofs.PageSizes.{frames_fit, whole_units}
use Rattle.l4_msg.specs.Protocols.{nothing, one_item}
use Rattle.l4_msg.specs.declared.items.Item.TheVariants.{Map}
use Rattle.l4_sigma0.specs.Owners.{Owners, Answers}
use Rattle.l4_sigma0.proofs.Maps.{table, beyond, taken, given}
use Rattle.l4_sigma0.proofs.owners.Sigma0.give.Goals as goal

pub returns-then-end-self-clause-answers : goal.returns-then-end-self-clause-answers
returns-then-end-self-clause-answers c = λ m. rw (← c.self.view_is) (λ wants only.
    let k = c.args.block.log in
    let e : 1 * 2 ^ k % 4294967296 ≡ 2 ^ k = one_shl k 32 (omega (arith, c.args.block.block.small)) in
    beyond (table c.self.inside.size c.self.inside.frames c.self.inside.owners) c.args.from_space m _ c.args.block.first k _ (ap (λ (x : ℕ). c.args.block.first + x) e) (pow_pos k) c.if-end-self.true only refl)

pub returns-then-not-are_free-clause-answers : goal.returns-then-not-are_free-clause-answers
returns-then-not-are_free-clause-answers c = λ m. rw (← c.self.view_is) (λ wants only.
    let k = c.args.block.log in
    let e : 1 * 2 ^ k % 4294967296 ≡ 2 ^ k = one_shl k 32 (omega (arith, c.args.block.block.small)) in
    taken c.self.inside.size c.self.inside.frames c.self.inside.owners c.args.from_space m _ c.args.block.first k (c.args.block.first + 1 * 2 ^ k % 4294967296) (ap (λ (x : ℕ). c.args.block.first + x) e)
    (λ h. false≢true (c.if-not-are_free.ensures.1 h)) only refl)

pub returns-clause-answers : goal.returns-clause-answers
returns-clause-answers c = λ m. rw (← c.self.view_is) (λ wants only.
    let k = c.args.block.log in
    let first = c.args.block.first in
    let e : 1 * 2 ^ k % 4294967296 ≡ 2 ^ k = one_shl k 32 (omega (arith, c.args.block.block.small)) in
    given c.self.inside.size c.self.inside.frames c.self.inside.owners c.fill.new.owners c.args.from_space m _ first k (first + 1 * 2 ^ k % 4294967296) c.address_of.result _ (ap (λ (x : ℕ). first + x) e)
    c.address_of.ensures c.if-end-self.false wants (c.if-not-are_free.ensures.0 refl) c.fill.ensures c.of_block.ensures.bytes (c.of_block.ensures.rights ∙ c.all.ensures) refl)

pub returns-clause-whole : goal.returns-clause-whole
returns-clause-whole c = rw c.address_of.ensures (whole_units c.self.inside.size c.args.block.first)

-- frames lie in the space
pub of_block-requires : goal.of_block-requires
of_block-requires c =
    let k = c.args.block.log in
    let e : 1 * 2 ^ k % 4294967296 ≡ 2 ^ k = one_shl k 32 (omega (arith, c.args.block.block.small)) in
    omega (arith, e, c.if-end-self.false, c.self.invariant, frames_fit c.self.inside.size)

pub address_of-requires : goal.address_of-requires
address_of-requires c =
    let k = c.args.block.log in
    let e : 1 * 2 ^ k % 4294967296 ≡ 2 ^ k = one_shl k 32 (omega (arith, c.args.block.block.small)) in
    omega (arith, e, pow_pos k, c.if-end-self.false, c.self.invariant, frames_fit c.self.inside.size)
