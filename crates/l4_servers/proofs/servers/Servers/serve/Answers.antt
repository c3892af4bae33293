use Rattle.std.proofs.Common.{ap, ◌∙◌, not, sym}
use Rattle.l4_servers.proofs.Kept.{is_in, serves, same_served}
use Rattle.l4_servers.proofs.servers.Servers.serve.Goals as goal

pub returns-in_default : goal.returns-in_default
returns-in_default c = (
  is_in _ _ _ _ _ c.self.view_is ∙ c.in_default.ensures.0,
  same_served _ _ _ _ _ c.self.view_is c.in_default.ensures.1,
)

pub returns : goal.returns
returns c = (
  c.in-Ok.ensures.0 ∙ ap not (sym (is_in _ _ _ _ _ c.self.view_is)),
  serves _ _ _ _ _ _ c.self.view_is c.in-Ok.ensures.1,
  λ e. same_served _ _ _ _ _ c.self.view_is (c.in-Ok.ensures.2 e),
)
