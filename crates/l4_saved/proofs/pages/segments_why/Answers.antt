use Rattle.std.proofs.Common.{refl}
use Rattle.l4_saved.proofs.Paged.{refused_told, some_frames, few_frames, page_told, page_stopped}
use Rattle.l4_saved.proofs.pages.segments_why.Goals as goal

pub returns-in-Err : goal.returns-in-Err
returns-in-Err g c = refused_told c.args.joined.now c.args.asked (g.W.Write.contents c.args.writer.now) (g.W.Write.contents c.args.writer.now) c.in-Err.fault c.in-Err.ensures.err refl

pub why_page-requires-clause-some : goal.why_page-requires-clause-some
why_page-requires-clause-some g c =
    some_frames c.args.joined.now c.args.asked (g.W.Write.contents c.args.writer.now) (g.W.Write.contents c.args.writer.now) c.in_default.ensures.ok c.frames.result c.size.result c.frames.ensures c.size.ensures

pub why_page-requires-clause-fit : goal.why_page-requires-clause-fit
why_page-requires-clause-fit g c =
    few_frames c.args.joined.now c.args.asked (g.W.Write.contents c.args.writer.now) (g.W.Write.contents c.args.writer.now) c.in_default.ensures.ok c.frames.result c.size.result c.frames.ensures c.size.ensures

pub returns-in-Ok : goal.returns-in-Ok
returns-in-Ok g c =
    page_told c.args.joined.now c.args.asked (g.W.Write.contents c.args.writer.now) (g.W.Write.contents c.why_page.new.writer) c.in_default.ensures.ok c.frames.result c.size.result c.frames.ensures c.size.ensures
    c.in-Ok.found c.in-Ok.ensures

pub returns-in-Err-why_page : goal.returns-in-Err-why_page
returns-in-Err-why_page g c =
    page_stopped c.args.joined.now c.args.asked (g.W.Write.contents c.args.writer.now) (g.W.Write.contents c.why_page.new.writer) c.in_default.ensures.ok c.frames.result c.size.result c.frames.ensures c.size.ensures
    c.in-Err-why_page.fault c.page_fault.result c.page_fault.ensures c.in-Err-why_page.ensures
