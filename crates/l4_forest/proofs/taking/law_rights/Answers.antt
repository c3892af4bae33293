use Rattle.l4_forest.proofs.Presence.{clean_rights}
use Rattle.l4_forest.proofs.taking.law_rights.Goals as goal

pub returns : goal.returns
returns c = clean_rights c.args.links.now c.requires
