use Rattle.std.proofs.Common.{refl}
use Rattle.l4_shell.specs.ByLines.{state_of}
use Rattle.l4_page.proofs.Caused.{tells_causes}
use Rattle.l4_page.proofs.causing.caused.Goals as goal

pub returns-in-Ok : goal.returns-in-Ok
returns-in-Ok c =
    tells_causes c.args.frames c.args.size c.in-Some.run' (state_of c.in-Some.run') (state_of c.causes.new.run) c.args.script.now c.in-Ok.causes.items c.as_slice.result.now
    c.args.out.now c.tell.new.out c.tell.result c.in-Some.ensures refl c.in-Ok.ensures c.as_slice.ensures.value (c.tell.ensures.told, c.tell.ensures.written)
