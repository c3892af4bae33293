use Rattle.l4_ipc.proofs.kernel.Kernel.enabled.Goals as goal

pub returns-in_err-number : goal.returns-in_err-number
returns-in_err-number c = rw (c.from_residual.ensures, ← c.self.view_is) (record { no_transfer = c.in_default.ensures; no_expiry = c.in_err-number.ensures })
