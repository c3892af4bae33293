use Rattle.l4_provenance_check.proofs.Judged.{judged}
use Rattle.l4_provenance_check.proofs.checks.check_provenance.Goals as goal

pub returns : goal.returns
returns c =
    let b = c.in-Ok.ensures in
    judged c.args.frames c.args.size c.in-Ok.kernel c.leads.new.kernel c.args.history.now.entries c.args.place c.args.links.now b c.leads.result c.leads.ensures.yes c.leads.ensures.only
    c.leads.ensures.run c.leads.ensures.err
