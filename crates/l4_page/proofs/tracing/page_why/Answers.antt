use Rattle.std.proofs.Common.{inl}
use Rattle.l4_page.proofs.tracing.page_why.Goals as goal

pub returns-in-Ok : goal.returns-in-Ok
returns-in-Ok c = inl (c.in-Ok.size, c.in-Ok.ensures.0, inl (c.in-Ok.ensures.1, c.traced.ensures))
