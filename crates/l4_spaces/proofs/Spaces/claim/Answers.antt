use Rattle.std.proofs.Common.{◌≡◌, ◌∷◌, [], true, false, ◌∙◌, ℕ, List, Some, is_some, sym, ap, subst}
use Rattle.std.specs.Ordering.{nat_cmp}
use Rattle.std.specs.FinSet as set
use Rattle.std.proofs.lemmas.Result.{err_from_is_err_and}
use Rattle.l4_spaces.specs.Tables.{Tables}
use Rattle.l4_spaces.specs.Rows.{Rows, entry, is_made, AreMade}
use Rattle.l4_spaces.proofs.Showing.{wrote, at_here, found_in, laid, keys_put, keys_same, same_entries, there_more, there_same, keeps, pages_set, same_view, all_made}
use Rattle.l4_spaces.proofs.Spaces.claim.Goals as goal

pub invariant_of-self : goal.invariant_of-self
invariant_of-self c = laid (wrote c.self.inside.spaces.items c.args.space c.in-Some.at c.index_mut.result.now c.claim.new.tables c.in-Some.ensures.at c.index_mut.ensures.value) c.self.invariant (λ _. c.claim.ensures.whole) (λ _. c.claim.ensures.full)

pub invariant_of-self-2 : goal.invariant_of-self-2
invariant_of-self-2 c = laid (wrote c.self.inside.spaces.items c.args.space c.in-Some.at c.index_mut.result.now c.claim.new.tables c.in-Some.ensures.at c.index_mut.ensures.value) c.self.invariant (λ _. c.claim.ensures.whole) (λ _. c.claim.ensures.full)

pub returns-in_err-absent-clause-spaces : goal.returns-in_err-absent-clause-spaces
returns-in_err-absent-clause-spaces c = ap (λ (ks : List ℕ). set.from_list {R = nat_cmp} ks) (wrote c.self.inside.spaces.items c.args.space c.in-Some.at c.index_mut.result.now c.claim.new.tables c.in-Some.ensures.at c.index_mut.ensures.value).same ∙ ap (λ (s : Tables). s.spaces) c.self.view_is

pub returns-clause-spaces : goal.returns-clause-spaces
returns-clause-spaces c = ap (λ (ks : List ℕ). set.from_list {R = nat_cmp} ks) (wrote c.self.inside.spaces.items c.args.space c.in-Some.at c.index_mut.result.now c.claim.new.tables c.in-Some.ensures.at c.index_mut.ensures.value).same ∙ ap (λ (s : Tables). s.spaces) c.self.view_is

pub returns-in_err-absent-clause-err : goal.returns-in_err-absent-clause-err
returns-in_err-absent-clause-err c =
    let w = (wrote c.self.inside.spaces.items c.args.space c.in-Some.at c.index_mut.result.now c.claim.new.tables c.in-Some.ensures.at c.index_mut.ensures.value) in
    let none = c.in_err-absent.ensures.err in
    let p = err_from_is_err_and c.from_residual.result c.from_residual.ensures.1 in
    rw p.1 (
      found_in c.self.inside.spaces.items c.args.self.now c.args.space c.args.page _ c.self.view_is w.was ∙ none.0,
      same_view c.self.inside.spaces.items _ c.args.self.now c.self.view_is (keys_same w (same_entries _ _ c.args.page (none.1 ∙ sym none.0) c.claim.ensures.others)) (there_same w c.in_err-absent.ensures.refused) w.same,
    )

pub returns-clause-claimed : goal.returns-clause-claimed
returns-clause-claimed c done =
    let w = (wrote c.self.inside.spaces.items c.args.space c.in-Some.at c.index_mut.result.now c.claim.new.tables c.in-Some.ensures.at c.index_mut.ensures.value) in
    let h = c.in_ok-absent.ensures.claimed done in (
      found_in c.self.inside.spaces.items c.args.self.now c.args.space c.args.page _ c.self.view_is w.was ∙ h.0,
      pages_set c.self.inside.spaces.items _ c.args.self.now (c.args.space, c.args.page) c.args.key c.self.view_is (keys_put c.args.page (Some c.args.key) w (h.1 ∙ c.to.ensures) c.claim.ensures.others),
    )

pub returns-clause-present : goal.returns-clause-present
returns-clause-present c kept =
    let w = (wrote c.self.inside.spaces.items c.args.space c.in-Some.at c.index_mut.result.now c.claim.new.tables c.in-Some.ensures.at c.index_mut.ensures.value) in
    let h = c.in_ok-absent.ensures.present kept in (
      ap is_some (found_in c.self.inside.spaces.items c.args.self.now c.args.space c.args.page _ c.self.view_is w.was) ∙ h.0,
      same_view c.self.inside.spaces.items _ c.args.self.now c.self.view_is (keys_same w (λ page. ap (λ (ts : Rows). entry ts page) h.1)) (there_same w (λ high. ap (λ (ts : Rows). is_made ts high) h.1)) w.same,
    )

pub returns-in_err-absent-clause-room : goal.returns-in_err-absent-clause-room
returns-in_err-absent-clause-room c = keeps c.self.inside.spaces.items _ c.args.self.now c.self.view_is (there_more (wrote c.self.inside.spaces.items c.args.space c.in-Some.at c.index_mut.result.now c.claim.new.tables c.in-Some.ensures.at c.index_mut.ensures.value) c.claim.ensures.kept)

pub returns-clause-room : goal.returns-clause-room
returns-clause-room c = keeps c.self.inside.spaces.items _ c.args.self.now c.self.view_is (there_more (wrote c.self.inside.spaces.items c.args.space c.in-Some.at c.index_mut.result.now c.claim.new.tables c.in-Some.ensures.at c.index_mut.ensures.value) c.claim.ensures.kept)

pub returns-in_err-absent-clause-succeeds : goal.returns-in_err-absent-clause-succeeds
returns-in_err-absent-clause-succeeds c = λ h.
    absurd (let e : false ≡ true = c.in_err-absent.ensures.succeeds (subst (λ (ts : Rows). AreMade ts (c.args.page ∷ []) 1) (at_here c.self.inside.spaces.items c.args.space c.in-Some.at c.index_mut.result.now c.in-Some.ensures.at c.index_mut.ensures.value) (all_made c.self.inside.spaces.items c.args.self.now c.args.space (c.args.page ∷ []) c.self.view_is h)) in cc)
