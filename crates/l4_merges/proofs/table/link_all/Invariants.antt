use Rattle.std.proofs.Common.{◌≡◌, length}
use Rattle.l4_merges.specs.Inside.Tables.{AreLinked}
use Rattle.l4_merges.proofs.table.link_all.Given as goal

abbrev pub invariant-loop-place : goal.invariant-loop-place
invariant-loop-place l = record {
  linked : AreLinked l.slots l.digests l.earlier l.place;
  slots : length l.slots ≡ length l.initial.slots;
  earlier : length l.earlier ≡ length l.initial.earlier;
}
