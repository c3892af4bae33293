use Rattle.l4_provenance.proofs.Given.{came}
use Rattle.l4_provenance.proofs.finding.arrival.Goals as goal

pub returns : goal.returns
returns g c =
    let b = c.in-Ok.ensures in
    came c.args.frames c.args.size c.in-Ok.kernel c.last_arrival.new.kernel (g.H.Replayable.entries c.args.history.now) c.args.count c.args.place b c.last_arrival.result c.last_arrival.ensures.ok c.last_arrival.ensures.err
