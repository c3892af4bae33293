use Rattle.l4_ipc.proofs.acting.start.Goals as goal

pub returns-in-Ipc : goal.returns-in-Ipc
returns-in-Ipc c = rw (c.in-Ipc.is, c.tell.ensures) (c.start_ipc.ensures c.args.size c.args.forest.now)

pub returns-in-Unmap : goal.returns-in-Unmap
returns-in-Unmap c = rw (c.in-Unmap.is, c.tell-in-Unmap.ensures) c.start_unmap.ensures

pub returns-in-Fault : goal.returns-in-Fault
returns-in-Fault c = rw (c.in-Fault.is, c.tell-in-Fault.ensures) c.start_fault.ensures

pub returns-in-Control : goal.returns-in-Control
returns-in-Control c = rw c.in-Control.is (c.start_control.ensures c.args.size)
