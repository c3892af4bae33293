use Rattle.l4_page.proofs.Answering.{tells_answers}
use Rattle.l4_page.proofs.running.answered.Goals as goal

pub returns-in-Ok : goal.returns-in-Ok
returns-in-Ok c =
    tells_answers c.args.frames c.args.size c.args.explain c.args.script.now c.answer_script-outputs.new.reader.now c.new.result.items c.answer_script-outputs.result.0.answers.items c.as_slice.result.now
    c.args.out.now c.tell.new.out c.answer_script-outputs.result.1 c.in-Ok.ended c.tell.result
    c.answer_script-outputs.ensures c.new.ensures.items c.in-Ok.is c.as_slice.ensures.value (c.tell.ensures.told, c.tell.ensures.written)
