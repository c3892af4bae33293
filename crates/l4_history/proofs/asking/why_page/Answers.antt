use Rattle.l4_text.proofs.Telling.{all_out, some_out}
use Rattle.l4_history.proofs.Found.{page_told, page_begun}
use Rattle.l4_history.proofs.asking.why_page.Goals as goal

pub returns-in-Ok : goal.returns-in-Ok
returns-in-Ok g c =
    page_told c.args.frames c.args.size (g.H.Replayable.entries c.args.history.now) c.args.asked (g.W.Write.contents c.args.writer.now) (g.W.Write.contents c.finish.new.writer) c.in-Some.answer c.in-Some.ensures
    c.put_answer-found.result c.put_answer-found.ensures.found (all_out _ _ _ _ _ _ c.new-out.ensures c.put_answer-found.ensures.told c.in-Ok.ensures.ok)

pub returns : goal.returns
returns g c =
    page_begun c.args.frames c.args.size (g.H.Replayable.entries c.args.history.now) c.args.asked (g.W.Write.contents c.args.writer.now) (g.W.Write.contents c.finish.new.writer) c.in-Some.answer c.in-Some.ensures
    (some_out _ _ _ _ _ _ c.new-out.ensures c.put_answer-found.ensures.told c.in-Err.ensures.err.1)
