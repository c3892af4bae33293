-- The spaces 0, 2 and 3 of a forest in which two were begun.
use Rattle.std.proofs.Common.{◌≡◌, true, ap, ◌∙◌}
use Rattle.std.specs.Ordering.{nat_cmp}
use Rattle.std.specs.Cmp.{nat_cmp_total}
use Rattle.std.specs.FinSet as set
use Rattle.l4_mapdb.specs.Mappings.{Mappings}
use Rattle.l4_forest.specs.Boot.{IsFirst}

abbrev pub three : set.FinSet nat_cmp
three = set.insert (set.insert (set.insert set.empty 0) 2) 3

-- the spaces that are there
pub spaces_are : (s a b : Mappings) → IsFirst 256 s → a ≡ record s { spaces = set.insert s.spaces 2 } → b ≡ record a { spaces = set.insert a.spaces 3 } → b.spaces ≡ three
spaces_are s a b first two more =
    ap (λ (m : Mappings). m.spaces) more ∙ ap (λ (m : Mappings). set.insert m.spaces 3) two ∙ ap (λ t. set.insert (set.insert t 2) 3) first.spaces

pub has_0 : set.contains three 0 ≡ true
has_0 = set.contains-insert nat_cmp_total (set.insert (set.insert set.empty 0) 2) 3 0 ∙ set.contains-insert nat_cmp_total (set.insert set.empty 0) 2 0 ∙ set.contains-insert nat_cmp_total set.empty 0 0

pub has_2 : set.contains three 2 ≡ true
has_2 = set.contains-insert nat_cmp_total (set.insert (set.insert set.empty 0) 2) 3 2 ∙ set.contains-insert nat_cmp_total (set.insert set.empty 0) 2 2

pub has_3 : set.contains three 3 ≡ true
has_3 = set.contains-insert nat_cmp_total (set.insert (set.insert set.empty 0) 2) 3 3

-- the space 0 of a forest in which none was begun
abbrev pub one : set.FinSet nat_cmp
one = set.insert set.empty 0

pub first_has_0 : set.contains one 0 ≡ true
first_has_0 = set.contains-insert nat_cmp_total set.empty 0 0
