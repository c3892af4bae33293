use Rattle.std.proofs.Common.{◌≡◌, ◌≢◌, ◌<◌, ℕ, Some}
use Rattle.l4_fpage.specs.Rights.{no_rights}
use Rattle.l4_links.specs.declared.Standing.{Standing}
use Rattle.l4_links.specs.Entries.{standing_at}
use Rattle.l4_parts_tests.proofs.links.have_rights.Given as goal

abbrev pub invariant-loop-key : goal.invariant-loop-key
invariant-loop-key l = (k : ℕ) (t : Standing) → k < l.key → standing_at l.links.entries k ≡ Some t → t.rights ≢ no_rights
