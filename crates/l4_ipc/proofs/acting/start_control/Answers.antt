use Rattle.l4_ipc.proofs.acting.start_control.Goals as goal

pub returns-in-Create : goal.returns-in-Create
returns-in-Create c = λ size. rw (c.in-Create.is, c.tell.ensures) (c.create.ensures size)

pub returns-in-SetPager : goal.returns-in-SetPager
returns-in-SetPager c = λ size. rw (c.in-SetPager.is, c.tell-in-SetPager.ensures) (c.set_pager.ensures size c.args.forest.now)

pub returns-in-Delete : goal.returns-in-Delete
returns-in-Delete c = rw c.in-Delete.is c.delete.ensures
