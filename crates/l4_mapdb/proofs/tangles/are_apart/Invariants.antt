use Rattle.l4_links.specs.Entries.{AreApart}
use Rattle.l4_mapdb.proofs.Apart.{EndBy}
use Rattle.l4_mapdb.proofs.tangles.are_apart.Given as goal

-- the items before this one are apart and end before these pages
abbrev pub invariant-loop-item : goal.invariant-loop-item
invariant-loop-item l = record {
  ends : EndBy l.items l.item l.source l.target l.grants;
  apart : AreApart l.items l.item;
}
