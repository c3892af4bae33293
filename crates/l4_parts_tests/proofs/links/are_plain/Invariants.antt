use Rattle.std.proofs.Common.{◌≡◌, ◌<◌, ℕ, Some}
use Rattle.l4_links.specs.declared.Entry.{Entry}
use Rattle.l4_links.specs.Entries.{entry_at, IsPlain}
use Rattle.l4_parts_tests.proofs.links.are_plain.Given as goal

abbrev pub invariant-loop-key : goal.invariant-loop-key
invariant-loop-key l = (k : ℕ) (e : Entry) → k < l.key → entry_at l.links.entries k ≡ Some e → IsPlain e
