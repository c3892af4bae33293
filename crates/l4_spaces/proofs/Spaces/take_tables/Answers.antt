use Rattle.std.proofs.Common.{◌≡◌, ◌≤◌, [], ℕ, List, Option, Vec, length, sym, ap, subst, ◌∙◌, inl, refl, arith}
use Rattle.std.specs.declared.alloc.Global.{Global}
use Rattle.l4_spaces.specs.Tables.{space_tables}
use Rattle.l4_spaces.specs.Rows.{Rows, AreWhole}
use Rattle.l4_spaces.proofs.Showing.{wrote, laid}
use Rattle.l4_spaces.proofs.Aside.{aside_out, aside_room}
use Rattle.l4_spaces.proofs.Spaces.take_tables.Goals as goal

abbrev rows_of : Vec (List (Option ℕ)) Global → Rows
rows_of v = v.items

pub invariant_of-self : goal.invariant_of-self
invariant_of-self c =
    let none : rows_of c.replace.new.dest ≡ [] = ap rows_of c.replace.ensures.after ∙ c.new-none.ensures.items in
    laid (wrote c.self.inside.spaces.items c.args.space c.in-Some.at c.index_mut.result.now c.replace.new.dest c.in-Some.ensures.at c.index_mut.ensures.value) c.self.invariant
    (λ _. subst AreWhole (sym none) (λ high. inl refl)) (λ _. subst (λ (ts : Rows). length ts ≤ space_tables) (sym none) (omega arith))

pub returns-clause-out : goal.returns-clause-out
returns-clause-out c =
    aside_out c.args.space c.self.inside.spaces.items _ c.index_mut.result.now.1.items c.replace.new.dest.items
    (wrote c.self.inside.spaces.items c.args.space c.in-Some.at c.index_mut.result.now c.replace.new.dest c.in-Some.ensures.at c.index_mut.ensures.value) c.args.self.now c.self.view_is c.replace.result.items
    (ap rows_of c.replace.ensures.value) c.self.invariant

pub returns-clause-room : goal.returns-clause-room
returns-clause-room c =
    aside_room c.args.space c.self.inside.spaces.items _ c.index_mut.result.now.1.items c.replace.new.dest.items
    (wrote c.self.inside.spaces.items c.args.space c.in-Some.at c.index_mut.result.now c.replace.new.dest c.in-Some.ensures.at c.index_mut.ensures.value) c.args.self.now c.self.view_is
