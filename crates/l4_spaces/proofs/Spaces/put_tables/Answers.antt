use Rattle.l4_spaces.proofs.Showing.{wrote, laid}
use Rattle.l4_spaces.proofs.Aside.{aside_back, aside_room}
use Rattle.l4_spaces.proofs.Spaces.put_tables.Goals as goal

pub invariant_of-self : goal.invariant_of-self
invariant_of-self c =
    laid (wrote c.self.inside.spaces.items c.args.space c.in-Some.at c.index_mut.result.now c.args.tables c.in-Some.ensures.at c.index_mut.ensures.value) c.self.invariant (λ _. c.requires.whole) (λ _. c.requires.full)

pub returns-clause-back : goal.returns-clause-back
returns-clause-back c =
    let w = wrote c.self.inside.spaces.items c.args.space c.in-Some.at c.index_mut.result.now c.args.tables c.in-Some.ensures.at c.index_mut.ensures.value in
    aside_back c.args.space c.self.inside.spaces.items _ c.index_mut.result.now.1.items c.args.tables.items w c.args.self.now c.self.view_is (laid w c.self.invariant (λ _. c.requires.whole) (λ _. c.requires.full))

pub returns-clause-room : goal.returns-clause-room
returns-clause-room c =
    aside_room c.args.space c.self.inside.spaces.items _ c.index_mut.result.now.1.items c.args.tables.items
    (wrote c.self.inside.spaces.items c.args.space c.in-Some.at c.index_mut.result.now c.args.tables c.in-Some.ensures.at c.index_mut.ensures.value) c.args.self.now c.self.view_is
