-- An Unmap leaves one state, which is a forest.
use Rattle.std.proofs.Common.{◌≡◌, ℕ, Bool, List}
use Rattle.l4_fpage.specs.declared.fpages.Fpage.{Fpage}
use Rattle.l4_mapdb.specs.Mappings.{Mappings, IsForest}
use Rattle.l4_mapdb.proofs.ForestKept.{forest_kept, forest_loose}
use Rattle.l4_mapdb.proofs.Unique.{loses_unique}
use Rattle.l4_unmap.specs.Unmap.{LosesTo, Unmaps}
use Rattle.l4_unmap.proofs.Under.{under_down}
use Rattle.l4_fpage.specs.declared.sizes.PageSize.{PageSize}

pub unmaps_unique : (size : PageSize) → (caller : ℕ) (own : Bool) (fpages : List Fpage) (old a b : Mappings) → Unmaps size caller own fpages old a → Unmaps size caller own fpages old b → a ≡ b
unmaps_unique size caller own fpages old a b x y = loses_unique (LosesTo size old caller own fpages) old a b x y

pub unmaps_keep : (size : PageSize) → (caller : ℕ) (own : Bool) (fpages : List Fpage) (old new : Mappings) → IsForest old → Unmaps size caller own fpages old new → IsForest new
unmaps_keep size caller own fpages old new forest loses =
    forest_kept (LosesTo size old caller own fpages) old new
    (λ low high k up lost. (
      lost.0,
      lost.1,
      lost.2,
      (lost.3.0, lost.3.1, under_down old caller own lost.3.0 low high up lost.3.2),
    ))
    (forest_loose (LosesTo size old caller own fpages) old forest) loses
