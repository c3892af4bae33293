use Rattle.std.proofs.Common.{refl, sym, inl, inr}
use Rattle.l4_seated_lock.proofs.Answering.{was_given, not_given, after_giving}
use Rattle.l4_seated_lock.proofs.seated.SeatedLock.give.Goals as goal

pub returns-then-is_some : goal.returns-then-is_some
returns-then-is_some c = (
  refl,
  inl (
    refl,
    was_given c.self.inside.locked c.args.self.now c.self.view_is c.self.inside.seats.items c.as_slice.result.now c.as_slice.ensures.value c.self.invariant c.args.number
        c.position.result c.position.ensures (sym c.if-is_some.ensures),
  ),
)

pub returns-then-is_err : goal.returns-then-is_err
returns-then-is_err c = (
  c.self.view_is,
  inr (
    refl,
    not_given c.self.inside.locked c.args.self.now c.self.view_is c.self.inside.seats.items c.as_slice.result.now c.as_slice.ensures.value c.self.invariant c.args.number
        c.position.result c.position.ensures (sym c.if-is_some.ensures),
  ),
)

pub invariant_of-self-in-Ok : goal.invariant_of-self-in-Ok
invariant_of-self-in-Ok c =
    after_giving c.self.inside.locked c.seat.new.self c.self.inside.seats.items c.reserve.new.self.items c.push_reserved.new.self.items c.args.number c.in-Ok.seat
    c.self.invariant c.reserve.ensures.items c.push_reserved.ensures.items c.in-Ok.ensures.0 c.in-Ok.ensures.1 c.in-Ok.ensures.2
