use Rattle.std.proofs.Common.{◌≡◌, ℕ, IfSome, slice_get, subst}
use Rattle.l4_threads.specs.declared.Reply.{Reply}
use Rattle.l4_lock.specs.Books.{book_at, pending_at}
use Rattle.l4_lock.specs.Inside.Accounts.{Awaits}
use Rattle.l4_lock.specs.Locked.{Lock, lock, Takes}
use Rattle.l4_lock.proofs.Taking.{finished, taken, both, awaited}
use Rattle.l4_lock.proofs.locked.Locked.take_for.Goals as goal

pub invariant_of-self : goal.invariant_of-self
invariant_of-self c =
    finished _ _ _ _ c.self.inside.accounts.items c.finish.new.self.items _ _ c.in-Some.at c.args.seat.now c.finish.new.seat c.finish.result c.self.invariant c.finish.ensures.some c.finish.ensures.none

pub returns-clause-some : goal.returns-clause-some
returns-clause-some c =
    let at : book_at c.self.inside.accounts.items c.args.seat.now.number ≡ slice_get c.self.inside.accounts.items c.in-Some.at =
    subst (λ (n : ℕ). book_at c.self.inside.accounts.items n ≡ slice_get c.self.inside.accounts.items c.in-Some.at) c.number.ensures c.in-Some.ensures.1 in
    let later : Lock = lock c.self.inside.recorder.frames c.self.inside.recorder.kernel c.self.inside.recorder.history c.self.inside.recorder.kept_from c.finish.new.self.items c.self.inside.recorder.board c.self.inside.recorder.published in
    let of : Awaits (pending_at c.self.inside.accounts.items c.args.seat.now.number) c.args.own.now =
    awaited c.self.inside.accounts.items c.args.seat.now.number c.in-Some.at c.args.own.now c.in-Some.ensures.0 at (λ b there. c.awaits.ensures.same b there c.if-not-awaits.false) in
    subst (λ (l : Lock). IfSome c.finish.result (λ reply. Takes l later c.args.seat.now c.finish.new.seat reply × Awaits (pending_at l.books c.args.seat.now.number) c.args.own.now)) c.self.view_is
    (both _ _ c.finish.result (taken _ _ _ _ c.self.inside.accounts.items c.finish.new.self.items _ _ c.in-Some.at c.args.seat.now c.finish.new.seat c.finish.result c.self.invariant at c.finish.ensures.some) of)
