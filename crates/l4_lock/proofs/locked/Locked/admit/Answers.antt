use Rattle.std.proofs.Common.{◌<◌, length, sym, ◌∙◌, subst, rules}
use Rattle.l4_record.specs.Recording.{Recording}
use Rattle.l4_lock.specs.Books.{book_at}
use Rattle.l4_lock.specs.Locked.{Lock, lock, Refuses}
use Rattle.l4_lock.specs.Inside.Entering.{IsAdmitted}
use Rattle.l4_lock.proofs.Started.{ready, get_there}
use Rattle.l4_lock.proofs.Taking.{begun_kept, refuses, some_there, has_room}
use Rattle.l4_lock.proofs.locked.Locked.admit.Goals as goal

pub begin-begun-requires-clause-room : goal.begin-begun-requires-clause-room
begin-begun-requires-clause-room c = has_room _ c.is_full.result (search rules) c.is_full.ensures.1

pub begin-begun-requires-clause-book : goal.begin-begun-requires-clause-book
begin-begun-requires-clause-book c =
    ready c.self.inside.recorder.frames c.self.inside.recorder.history c.self.inside.recorder.kernel c.self.inside.accounts.items c.args.number c.in-Some.at c.self.invariant.right
    c.in-Some.ensures.0
    c.in-Some.ensures.1
    (sym c.if-reply_waits.ensures)

pub returns-in-Err-clause-err : goal.returns-in-Err-clause-err
returns-in-Err-clause-err c = (
  subst (λ (l : Lock). Refuses l c.args.number c.args.call.now c.in-Err.refusal) c.self.view_is
      (refuses c.self.inside.recorder.frames c.self.inside.recorder.history c.self.inside.recorder.kept_from c.self.inside.recorder.kernel c.self.inside.accounts.items c.self.inside.recorder.board c.self.inside.recorder.published c.args.number c.args.call.now c.in-Err.refusal
      (sym c.if-reply_waits.ensures)
      (has_room _ c.is_full.result (search rules) c.is_full.ensures.1)
      (let lt : c.in-Some.at < length c.self.inside.accounts.items = c.in-Some.ensures.0 in
      let there = get_there c.self.inside.accounts.items c.in-Some.at lt in
      some_there (book_at c.self.inside.accounts.items c.args.number) there.0
      (c.in-Some.ensures.1 ∙ there.1))
      c.in-Err.ensures.err),
  (λ i. let r : Recording = c.in-Err.ensures.same.0 i in lock r.frames r.kernel r.history r.kept_from (c.in-Err.ensures.same.1 i) r.board r.published) ∙ c.self.view_is,
)

pub invariant_of-self-2 : goal.invariant_of-self-2
invariant_of-self-2 c = begun_kept c.self.inside.recorder c.begin-begun.new.recorder c.self.inside.accounts.items c.begin-begun.new.accounts.items c.args.number c.in-Some.at c.args.call.now c.self.invariant c.in_default-begun.ensures.ok

pub returns-clause-ok : goal.returns-clause-ok
returns-clause-ok c =
    subst (λ (l : Lock). IsAdmitted l (lock c.begin-begun.new.recorder.frames c.begin-begun.new.recorder.kernel c.begin-begun.new.recorder.history c.begin-begun.new.recorder.kept_from c.begin-begun.new.accounts.items c.begin-begun.new.recorder.board c.begin-begun.new.recorder.published) c.args.number c.args.call.now c.in-Some.at) c.self.view_is
    (record {
      apart = c.self.invariant.right.apart;
      begins = c.in_default-begun.ensures.ok;
    })
