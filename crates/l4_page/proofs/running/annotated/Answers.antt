use Rattle.l4_page.proofs.Answering.{tells_annotated}
use Rattle.l4_page.proofs.running.annotated.Goals as goal

pub returns-in-Ok : goal.returns-in-Ok
returns-in-Ok c =
    tells_annotated c.args.frames c.args.size c.args.script.now c.annotated_script.new.reader.now c.new-text.result.items c.annotated_script.new.writer.items c.as_slice.result.now
    c.args.out.now c.tell.new.out c.in-Ok.ended c.tell.result c.in-Ok.ensures c.new-text.ensures.items c.as_slice.ensures.value (c.tell.ensures.told, c.tell.ensures.written)
