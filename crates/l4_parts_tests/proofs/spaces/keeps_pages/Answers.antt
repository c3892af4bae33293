use Rattle.std.proofs.Common.{◌∙◌, ℕ, is_some, inl, ap}
use Rattle.std.specs.FinMap as map
use Rattle.l4_spaces.specs.Tables.{place_cmp}
use Rattle.l4_spaces.proofs.Below.{places_total}
use Rattle.l4_parts_tests.proofs.spaces.keeps_pages.Goals as goal

pub set-requires-3-clause-room : goal.set-requires-3-clause-room
set-requires-3-clause-room g c =
    inl (
    ap (λ (m : map.FinMap place_cmp ℕ). is_some (map.get m (7, 5))) c.set-2.ensures.pages
    ∙ ap is_some (map.get-insert places_total c.set.new.self.pages (7, 3) 30 (7, 5))
    ∙ ap (λ (m : map.FinMap place_cmp ℕ). is_some (map.get m (7, 5))) c.set.ensures.pages
    ∙ ap is_some (map.get-insert places_total c.prepare.new.self.pages (7, 5) 50 (7, 5)))
