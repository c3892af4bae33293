use Rattle.std.proofs.lemmas.Result.{IfErr-weaker}
use Rattle.l4_saved.proofs.Written.{boots_with}
use Rattle.l4_saved.proofs.Paged.{all_legal, is_refused}
use Rattle.l4_saved.proofs.pages.check_legal.Goals as goal

pub returns-clause-ok : goal.returns-clause-ok
returns-clause-ok c =
    all_legal c.args.entries.now.joined.now c.in-Ok.kernel (boots_with c.in-Ok.kernel _ _ _ _ c.frames.ensures c.size.ensures c.in-Ok.ensures.0 c.in-Ok.ensures.1) c.follow.new.kernel c.follow.result
    c.follow.ensures.ok

pub returns-clause-err : goal.returns-clause-err
returns-clause-err c =
    IfErr-weaker c.follow.result _ _
    (is_refused c.args.entries.now.joined.now c.in-Ok.kernel (boots_with c.in-Ok.kernel _ _ _ _ c.frames.ensures c.size.ensures c.in-Ok.ensures.0 c.in-Ok.ensures.1)) c.follow.ensures.err
