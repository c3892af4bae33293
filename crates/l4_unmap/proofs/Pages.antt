-- The pages of a block, taken at once.
use Rattle.std.proofs.Common.{ℕ, Bool}
use Rattle.l4_fpage.specs.Rights.{RightsSet}
use Rattle.l4_mapdb.specs.Mappings.{Mappings}
use Rattle.l4_forest.specs.Losing.{RevokedInBlock, RevokesBlock}
use Rattle.l4_unmap.specs.Inside.Taking.{GoesWith, Takes, BlockNames}
use Rattle.l4_mapdb.proofs.Along.{loses_along}

-- a revocation over a block takes what its pages are named with
pub takes_pages : (space first log : ℕ) (rights : RightsSet) (own : Bool) (old new : Mappings) → RevokesBlock space first log rights own old new → Takes (BlockNames first log rights) space own old new
takes_pages space first log rights own old new revoked =
    loses_along (RevokedInBlock old space first log rights own) (GoesWith (BlockNames first log rights) space own old) old new
    (λ q k l. (l.0, (l.1, l.2.0), l.2.1))
    (λ q k l. (l.0, l.1.0, (l.1.1, l.2)))
    revoked
