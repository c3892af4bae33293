use Rattle.std.proofs.lemmas.Result.{IfOk-weaker, IfErr-weaker}
use Rattle.l4_text.proofs.Telling.{all_out, some_out}
use Rattle.l4_saved.proofs.Written.{boots_with, goes_out, begins}
use Rattle.l4_saved.proofs.telling.segments_history.Goals as goal

pub returns-in-Ok-finish : goal.returns-in-Ok-finish
returns-in-Ok-finish g c =
    let told = c.tell_entries-told.ensures in
    goes_out c.args.answers c.args.joined.now (g.W.Write.contents c.args.writer.now) (g.W.Write.contents c.finish.new.writer) c.in-Ok.kernel
    (boots_with c.in-Ok.kernel _ _ _ _ c.frames.ensures c.size.ensures c.in-Ok.ensures.0 c.in-Ok.ensures.1) c.tell_entries-told.result
    (IfOk-weaker c.tell_entries-told.result _ _ (λ x p. (c.tell_entries-told.new.replay.kernel, p.0, p.1.0, all_out _ _ _ _ _ _ c.new-out.ensures p.2 c.in-Ok-finish.ensures.ok)) told.ok)
    (IfErr-weaker c.tell_entries-told.result _ _ (λ fault p. (p.0, p.1, all_out _ _ _ _ _ _ c.new-out.ensures p.2 c.in-Ok-finish.ensures.ok)) told.err)

pub returns : goal.returns
returns g c =
    let told = c.tell_entries-told.ensures in
    begins c.args.answers c.args.joined.now (g.W.Write.contents c.args.writer.now) (g.W.Write.contents c.finish.new.writer) c.in-Ok.kernel
    (boots_with c.in-Ok.kernel _ _ _ _ c.frames.ensures c.size.ensures c.in-Ok.ensures.0 c.in-Ok.ensures.1) c.tell_entries-told.result
    (IfOk-weaker c.tell_entries-told.result _ _ (λ x p. (c.tell_entries-told.new.replay.kernel, p.0, p.1.0, some_out _ _ _ _ _ _ c.new-out.ensures p.2 c.in-Err.ensures.err.1)) told.ok)
    (IfErr-weaker c.tell_entries-told.result _ _ (λ fault p. (p.0, p.1, some_out _ _ _ _ _ _ c.new-out.ensures p.2 c.in-Err.ensures.err.1)) told.err)
