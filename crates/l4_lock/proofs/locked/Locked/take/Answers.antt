use Rattle.std.proofs.Common.{◌≡◌, ◌⊎◌, ℕ, false, IfSome, IfNone, slice_get, subst}
use Rattle.l4_lock.specs.Books.{book_at, reply_waits}
use Rattle.l4_lock.specs.Locked.{Lock, lock, Takes}
use Rattle.l4_lock.proofs.Taking.{finished, taken, not_taken}
use Rattle.l4_lock.proofs.locked.Locked.take.Goals as goal

pub invariant_of-self : goal.invariant_of-self
invariant_of-self c =
    finished _ _ _ _ c.self.inside.accounts.items c.finish.new.self.items _ _ c.in-Some.at c.args.seat.now c.finish.new.seat c.finish.result c.self.invariant c.finish.ensures.some c.finish.ensures.none

pub returns-clause-some : goal.returns-clause-some
returns-clause-some c =
    let at : book_at c.self.inside.accounts.items c.args.seat.now.number ≡ slice_get c.self.inside.accounts.items c.in-Some.at =
    subst (λ (n : ℕ). book_at c.self.inside.accounts.items n ≡ slice_get c.self.inside.accounts.items c.in-Some.at) c.number.ensures c.in-Some.ensures.1 in
    subst (λ (l : Lock). IfSome c.finish.result (λ reply. Takes l (lock c.self.inside.recorder.frames c.self.inside.recorder.kernel c.self.inside.recorder.history c.self.inside.recorder.kept_from c.finish.new.self.items c.self.inside.recorder.board c.self.inside.recorder.published) c.args.seat.now c.finish.new.seat reply)) c.self.view_is
    (taken _ _ _ _ c.self.inside.accounts.items c.finish.new.self.items _ _ c.in-Some.at c.args.seat.now c.finish.new.seat c.finish.result c.self.invariant at c.finish.ensures.some)

pub returns-clause-none : goal.returns-clause-none
returns-clause-none c =
    let at : book_at c.self.inside.accounts.items c.args.seat.now.number ≡ slice_get c.self.inside.accounts.items c.in-Some.at =
    subst (λ (n : ℕ). book_at c.self.inside.accounts.items n ≡ slice_get c.self.inside.accounts.items c.in-Some.at) c.number.ensures c.in-Some.ensures.1 in
    subst (λ (l : Lock). IfNone c.finish.result ((lock c.self.inside.recorder.frames c.self.inside.recorder.kernel c.self.inside.recorder.history c.self.inside.recorder.kept_from c.finish.new.self.items c.self.inside.recorder.board c.self.inside.recorder.published ≡ l) × (c.finish.new.seat ≡ c.args.seat.now) × ((c.args.seat.now.waiting ≡ 0) ⊎ (reply_waits l.books c.args.seat.now.number ≡ false)))) c.self.view_is
    (not_taken _ _ _ _ c.self.inside.accounts.items c.finish.new.self.items _ _ c.in-Some.at c.args.seat.now c.finish.new.seat c.finish.result c.in-Some.ensures.0 at c.finish.ensures.none)
