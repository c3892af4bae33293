use Rattle.std.proofs.Common.{ℕ, sym, subst, ap, arith}
use Rattle.l4_lock.specs.Locked.{Lock, lock}
use Rattle.l4_lock.specs.Inside.Entering.{IsAdmitted, WaitsMore}
use Rattle.l4_lock.proofs.Taking.{placed, finished, entered_done, entered_left}
use Rattle.l4_lock.proofs.locked.Locked.enter.Goals as goal

pub wait_less-requires : goal.wait_less-requires
wait_less-requires c =
    let more : WaitsMore c.args.seat.now c.wait_more-has_room.new.self = c.wait_more-has_room.ensures.more c.if-has_room.true in
    let w = ap (λ s. s.waiting) more in
    λ none. absurd (omega (arith, w, none))

pub finish-requires-clause-waiting : goal.finish-requires-clause-waiting
finish-requires-clause-waiting c =
    let more : WaitsMore c.args.seat.now c.wait_more-has_room.new.self = c.wait_more-has_room.ensures.more c.in-Ok.ensures.room in
    let w = ap (λ s. s.waiting) more in
    λ none. absurd (omega (arith, w, none))

pub finish-requires-clause-at : goal.finish-requires-clause-at
finish-requires-clause-at c =
    let a : IsAdmitted c.args.self.now (lock c.self.inside.recorder.frames c.self.inside.recorder.kernel c.self.inside.recorder.history c.self.inside.recorder.kept_from c.self.inside.accounts.items c.self.inside.recorder.board c.self.inside.recorder.published) c.args.seat.now.number c.args.call c.in-Ok.at =
    subst (λ (l : Lock). IsAdmitted c.args.self.now l c.args.seat.now.number c.args.call c.in-Ok.at) (sym c.self.view_is)
    (subst (λ (n : ℕ). IsAdmitted c.args.self.now c.admit.new.self n c.args.call c.in-Ok.at) c.number-number.ensures c.in-Ok.ensures.ok) in
    placed _ _ _ _ _ a

pub invariant_of-self : goal.invariant_of-self
invariant_of-self c =
    finished _ _ _ _ c.self.inside.accounts.items c.finish.new.self.items _ _ c.in-Ok.at c.wait_more-has_room.new.self c.finish.new.seat c.finish.result c.self.invariant c.finish.ensures.some c.finish.ensures.none

pub returns-in-Some-clause-ok : goal.returns-in-Some-clause-ok
returns-in-Some-clause-ok c =
    let a : IsAdmitted c.args.self.now (lock c.self.inside.recorder.frames c.self.inside.recorder.kernel c.self.inside.recorder.history c.self.inside.recorder.kept_from c.self.inside.accounts.items c.self.inside.recorder.board c.self.inside.recorder.published) c.args.seat.now.number c.args.call c.in-Ok.at =
    subst (λ (l : Lock). IsAdmitted c.args.self.now l c.args.seat.now.number c.args.call c.in-Ok.at) (sym c.self.view_is)
    (subst (λ (n : ℕ). IsAdmitted c.args.self.now c.admit.new.self n c.args.call c.in-Ok.at) c.number-number.ensures c.in-Ok.ensures.ok) in
    entered_done c.args.self.now (lock c.self.inside.recorder.frames c.self.inside.recorder.kernel c.self.inside.recorder.history c.self.inside.recorder.kept_from c.self.inside.accounts.items c.self.inside.recorder.board c.self.inside.recorder.published) c.finish.new.self.items c.args.seat.now c.wait_more-has_room.new.self c.finish.new.seat c.args.call c.in-Ok.at c.in-Some.reply c.self.invariant a
    (c.wait_more-has_room.ensures.more c.in-Ok.ensures.room) c.in-Some.ensures.some

pub returns-clause-ok : goal.returns-clause-ok
returns-clause-ok c =
    let a : IsAdmitted c.args.self.now (lock c.self.inside.recorder.frames c.self.inside.recorder.kernel c.self.inside.recorder.history c.self.inside.recorder.kept_from c.self.inside.accounts.items c.self.inside.recorder.board c.self.inside.recorder.published) c.args.seat.now.number c.args.call c.in-Ok.at =
    subst (λ (l : Lock). IsAdmitted c.args.self.now l c.args.seat.now.number c.args.call c.in-Ok.at) (sym c.self.view_is)
    (subst (λ (n : ℕ). IsAdmitted c.args.self.now c.admit.new.self n c.args.call c.in-Ok.at) c.number-number.ensures c.in-Ok.ensures.ok) in
    entered_left c.args.self.now (lock c.self.inside.recorder.frames c.self.inside.recorder.kernel c.self.inside.recorder.history c.self.inside.recorder.kept_from c.self.inside.accounts.items c.self.inside.recorder.board c.self.inside.recorder.published) c.finish.new.self.items c.args.seat.now c.wait_more-has_room.new.self c.finish.new.seat c.args.call c.in-Ok.at c.self.invariant a
    (c.wait_more-has_room.ensures.more c.in-Ok.ensures.room) c.in_default.ensures.none
