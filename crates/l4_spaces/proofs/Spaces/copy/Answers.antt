use Rattle.std.proofs.Common.{◌∙◌, ◌≡◌, List, Option, ℕ, sym}
use Rattle.std.proofs.lemmas.List.Elements.{same_from_all_zip}
use Rattle.l4_spaces.specs.contracts.row.RowClone.TheImpl as row_clone
use Rattle.l4_spaces.proofs.Copies.{AreCopies, copies, copied_shown, copied_laid}
use Rattle.l4_spaces.proofs.Spaces.copy.Goals as goal

-- what was copied link by link is the same
same_row : (x y : List (Option ℕ)) → row_clone.ghosts.is_clone x y → y ≡ x
same_row x y r = sym r.3 ∙ same_from_all_zip _ _ _ r.4.0.0 (λ a b e. e) ∙ r.2

are_copies : (c : goal.After-result-1) → AreCopies c.self.inside.spaces.items c.in_ok-spaces.spaces.items
are_copies c = copies _ (λ s n h. record { number = h.0; tables = same_from_all_zip _ s.1.items n.1.items h.1.0 same_row }) c.self.inside.spaces.items c.in_ok-spaces.spaces.items c.in_ok-spaces.ensures.cases.0

pub invariant_of-result : goal.invariant_of-result
invariant_of-result c = copied_laid c.self.inside.spaces.items c.in_ok-spaces.spaces.items (are_copies c) c.self.invariant

pub returns : goal.returns
returns c = copied_shown c.self.inside.spaces.items c.in_ok-spaces.spaces.items (are_copies c) ∙ c.self.view_is
