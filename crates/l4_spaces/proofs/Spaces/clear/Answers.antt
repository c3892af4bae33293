use Rattle.std.proofs.Common.{◌≡◌, ◌∙◌, ℕ, List, None, sym, ap, arith}
use Rattle.std.specs.Ordering.{nat_cmp}
use Rattle.std.specs.FinSet as set
use Rattle.l4_spaces.specs.Tables.{Tables}
use Rattle.l4_spaces.specs.Rows.{Rows, entry}
use Rattle.l4_spaces.proofs.Showing.{wrote, at_here, found, laid, whole_long, there_long, keys_put, keys_same, same_entries, keeps_same, same_view, pages_clear}
use Rattle.l4_spaces.proofs.Spaces.clear.Goals as goal

pub invariant_of-self : goal.invariant_of-self
invariant_of-self c = laid (wrote c.self.inside.spaces.items c.args.space c.in-Some.at c.index_mut.result.now c.clear.new.tables c.in-Some.ensures.at c.index_mut.ensures.value) c.self.invariant (whole_long c.index_mut.result.now.1.items c.clear.new.tables.items c.clear.ensures.long) (λ le. omega (arith, c.clear.ensures.full, le))

pub returns-clause-pages : goal.returns-clause-pages
returns-clause-pages c =
    pages_clear c.self.inside.spaces.items _ c.args.self.now (c.args.space, c.args.page) c.self.view_is (keys_put c.args.page None (wrote c.self.inside.spaces.items c.args.space c.in-Some.at c.index_mut.result.now c.clear.new.tables c.in-Some.ensures.at c.index_mut.ensures.value) c.clear.ensures.here c.clear.ensures.others)

pub returns-clause-spaces : goal.returns-clause-spaces
returns-clause-spaces c =
    ap (λ (ks : List ℕ). set.from_list {R = nat_cmp} ks) (wrote c.self.inside.spaces.items c.args.space c.in-Some.at c.index_mut.result.now c.clear.new.tables c.in-Some.ensures.at c.index_mut.ensures.value).same ∙ ap (λ (s : Tables). s.spaces) c.self.view_is

pub returns-clause-room : goal.returns-clause-room
returns-clause-room c = keeps_same c.self.inside.spaces.items _ c.args.self.now c.self.view_is (there_long (wrote c.self.inside.spaces.items c.args.space c.in-Some.at c.index_mut.result.now c.clear.new.tables c.in-Some.ensures.at c.index_mut.ensures.value) c.clear.ensures.long)

pub returns-clause-absent : goal.returns-clause-absent
returns-clause-absent c none =
    let is : entry c.index_mut.result.now.1.items c.args.page ≡ None =
    sym (ap (λ (ts : Rows). entry ts c.args.page) (at_here c.self.inside.spaces.items c.args.space c.in-Some.at c.index_mut.result.now c.in-Some.ensures.at c.index_mut.ensures.value))
    ∙ sym (found c.self.inside.spaces.items c.args.self.now c.args.space c.args.page c.self.view_is) ∙ none in
    same_view c.self.inside.spaces.items _ c.args.self.now c.self.view_is (keys_same (wrote c.self.inside.spaces.items c.args.space c.in-Some.at c.index_mut.result.now c.clear.new.tables c.in-Some.ensures.at c.index_mut.ensures.value) (same_entries _ _ c.args.page (c.clear.ensures.here ∙ sym is) c.clear.ensures.others)) (there_long (wrote c.self.inside.spaces.items c.args.space c.in-Some.at c.index_mut.result.now c.clear.new.tables c.in-Some.ensures.at c.index_mut.ensures.value) c.clear.ensures.long) (wrote c.self.inside.spaces.items c.args.space c.in-Some.at c.index_mut.result.now c.clear.new.tables c.in-Some.ensures.at c.index_mut.ensures.value).same
