use Rattle.l4_unmap.proofs.Registers.{reads_not_fails}
use Rattle.l4_unmap.proofs.unmap.Goals as goal

pub returns-in-Ok-clause-refused : goal.returns-in-Ok-clause-refused
returns-in-Ok-clause-refused c = λ fault fails. absurd (reads_not_fails c.args.control c.args.words.now c.in-Ok.ensures.ok.0 fault c.in-Ok.ensures.ok.1 fails)

pub returns-in-Err-clause-only : goal.returns-in-Err-clause-only
returns-in-Err-clause-only c = λ fpages reads. absurd (reads_not_fails c.args.control c.args.words.now fpages c.in-Err.fault reads c.in-Err.ensures.fault)
