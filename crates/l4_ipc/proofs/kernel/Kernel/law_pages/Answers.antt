use Rattle.l4_ipc.proofs.kernel.Kernel.law_pages.Goals as goal

pub returns : goal.returns
returns c = rw (← c.self.view_is) c.self.invariant.fits
