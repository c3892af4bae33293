use Rattle.std.proofs.Common.{◌≡◌, true, ap, ◌∙◌}
use Rattle.std.specs.Ordering.{nat_cmp}
use Rattle.std.specs.Cmp.{nat_cmp_total}
use Rattle.std.specs.FinSet as set
use Rattle.l4_mapdb.specs.Mappings.{Mappings}
use Rattle.l4_forest.specs.Boot.{IsFirst}
use Rattle.l4_growths.proofs.forest.tell_pages.Goals as goal

abbrev three : set.FinSet nat_cmp
three = set.insert (set.insert (set.insert set.empty 0) 1) 2

abbrev four : set.FinSet nat_cmp
four = set.insert three 3

-- the spaces that are there
spaces_are : (s : Mappings) (a b d : set.FinSet nat_cmp) → IsFirst 8 s → a ≡ set.insert s.spaces 1 → b ≡ set.insert a 2 → d ≡ set.insert b 3 → d ≡ four
spaces_are s a b d first one two more =
    more ∙ ap (λ t. set.insert t 3) two ∙ ap (λ t. set.insert (set.insert t 2) 3) one ∙ ap (λ t. set.insert (set.insert (set.insert t 1) 2) 3) first.spaces

has_0 : set.contains four 0 ≡ true
has_0 = set.contains-insert nat_cmp_total three 3 0 ∙ set.contains-insert nat_cmp_total (set.insert (set.insert set.empty 0) 1) 2 0 ∙ set.contains-insert nat_cmp_total (set.insert set.empty 0) 1 0 ∙ set.contains-insert nat_cmp_total set.empty 0 0

has_2 : set.contains four 2 ≡ true
has_2 = set.contains-insert nat_cmp_total three 3 2 ∙ set.contains-insert nat_cmp_total (set.insert (set.insert set.empty 0) 1) 2 2

has_3 : set.contains four 3 ≡ true
has_3 = set.contains-insert nat_cmp_total three 3 3

pub map-requires-clause-from_there : goal.map-requires-clause-from_there
map-requires-clause-from_there g c = ap (λ t. set.contains t 0) (spaces_are _ _ _ _ c.requires c.in_ok-begin.ensures c.in_ok-begin-2.ensures c.in_ok-begin-3.ensures) ∙ has_0

pub map-requires-clause-to_there : goal.map-requires-clause-to_there
map-requires-clause-to_there g c = ap (λ t. set.contains t 2) (spaces_are _ _ _ _ c.requires c.in_ok-begin.ensures c.in_ok-begin-2.ensures c.in_ok-begin-3.ensures) ∙ has_2

pub map-requires-2-clause-from_there : goal.map-requires-2-clause-from_there
map-requires-2-clause-from_there g c = ap (λ t. set.contains t 0) (c.in_ok-map.ensures ∙ spaces_are _ _ _ _ c.requires c.in_ok-begin.ensures c.in_ok-begin-2.ensures c.in_ok-begin-3.ensures) ∙ has_0

pub map-requires-2-clause-to_there : goal.map-requires-2-clause-to_there
map-requires-2-clause-to_there g c = ap (λ t. set.contains t 2) (c.in_ok-map.ensures ∙ spaces_are _ _ _ _ c.requires c.in_ok-begin.ensures c.in_ok-begin-2.ensures c.in_ok-begin-3.ensures) ∙ has_2

pub map-requires-3-clause-from_there : goal.map-requires-3-clause-from_there
map-requires-3-clause-from_there g c = ap (λ t. set.contains t 2) (c.in_ok-map-2.ensures ∙ c.in_ok-map.ensures ∙ spaces_are _ _ _ _ c.requires c.in_ok-begin.ensures c.in_ok-begin-2.ensures c.in_ok-begin-3.ensures) ∙ has_2

pub map-requires-3-clause-to_there : goal.map-requires-3-clause-to_there
map-requires-3-clause-to_there g c = ap (λ t. set.contains t 3) (c.in_ok-map-2.ensures ∙ c.in_ok-map.ensures ∙ spaces_are _ _ _ _ c.requires c.in_ok-begin.ensures c.in_ok-begin-2.ensures c.in_ok-begin-3.ensures) ∙ has_3

pub map-requires-4-clause-from_there : goal.map-requires-4-clause-from_there
map-requires-4-clause-from_there g c = ap (λ t. set.contains t 2) (c.in_ok-map-3.ensures ∙ c.in_ok-map-2.ensures ∙ c.in_ok-map.ensures ∙ spaces_are _ _ _ _ c.requires c.in_ok-begin.ensures c.in_ok-begin-2.ensures c.in_ok-begin-3.ensures) ∙ has_2

pub map-requires-4-clause-to_there : goal.map-requires-4-clause-to_there
map-requires-4-clause-to_there g c = ap (λ t. set.contains t 3) (c.in_ok-map-3.ensures ∙ c.in_ok-map-2.ensures ∙ c.in_ok-map.ensures ∙ spaces_are _ _ _ _ c.requires c.in_ok-begin.ensures c.in_ok-begin-2.ensures c.in_ok-begin-3.ensures) ∙ has_3
