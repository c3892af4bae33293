use Rattle.std.proofs.Common.{List, refl, sym, subst}
use Rattle.l4_ipc.specs.Steps.{is_done}
use Rattle.l4_provenance.specs.declared.moves.MovedPage.{MovedPage}
use Rattle.l4_history.specs.Inside.Moving.{ArePages}
use Rattle.l4_history.proofs.ListedMoves.{moves_text}
use Rattle.l4_history.proofs.moves.Follower.put_transfer.Goals as goal

pub returns-clause-ok : goal.returns-clause-ok
returns-clause-ok g c = (
  _,
  moves_text c.args.self.now.kernel c.args.entry.now.step c.repeats.new.kernel _ c.as_slice.result.now
      (subst (λ (pages : List MovedPage). ArePages c.args.self.now.kernel c.args.entry.now.step (is_done c.args.entry.now.answer.outcome) pages) (sym c.as_slice.ensures.value) c.in-Some.ensures),
  c.repeats.ensures c.if-not-repeats.false,
  refl,
  c.put_moved.ensures,
)
