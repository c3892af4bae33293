use Rattle.std.proofs.Common.{sym, ap}
use Rattle.l4_commands.specs.Commands.{first_by, partner_of}
use Rattle.l4_commands.proofs.partners.next_partner.Goals as goal

pub returns-in-Some : goal.returns-in-Some
unfolding partner_of
returns-in-Some c = sym (ap (first_by (partner_of c.args.names.now)) c.in-Some.ensures)
