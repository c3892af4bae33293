use Rattle.l4_provenance.proofs.Watching.{found_removal}
use Rattle.l4_provenance.proofs.removing.last_removal.Goals as goal

pub returns : goal.returns
returns g c =
    found_removal c.args.frames c.args.size c.in-Ok.kernel c.watch.new.kernel (g.H.Replayable.entries c.args.history.now) c.args.place c.in-Ok.ensures c.watch.result c.watch.ensures.ok c.watch.ensures.err
