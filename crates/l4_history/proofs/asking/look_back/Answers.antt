use Rattle.l4_provenance.specs.declared.removing.Removal.TheVariants.{Never, By}
use Rattle.l4_history.proofs.Found.{removal_is}
use Rattle.l4_history.proofs.asking.look_back.Goals as goal

pub returns-in-Ok-Never : goal.returns-in-Ok-Never
returns-in-Ok-Never g c =
    removal_is c.args.frames c.args.size (g.H.Replayable.entries c.args.history.now) c.args.place c.in-Ok-Never.field-0 Never c.in-Ok-Never.field-0-is c.in-Ok-Never.ensures

pub returns-in-Ok-By : goal.returns-in-Ok-By
returns-in-Ok-By g c =
    removal_is c.args.frames c.args.size (g.H.Replayable.entries c.args.history.now) c.args.place c.in-Ok-By.field-0 (By c.in-Ok-By.number) c.in-Ok-By.field-0-is c.in-Ok-By.ensures
