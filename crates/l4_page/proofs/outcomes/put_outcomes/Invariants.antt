use Rattle.std.proofs.Common.{◌≡◌, ◌++◌, flat_map, take}
use Rattle.l4_page.specs.Outcomes.{texts_of, lengths_of}
use Rattle.l4_page.proofs.outcomes.put_outcomes.Given as goal

abbrev pub invariant-loop-one : goal.invariant-loop-one
invariant-loop-one l =
    (l.texts.items ≡ l.initial.texts.items ++ flat_map (texts_of l.plan) (take l.one-index l.found))
    × (l.lengths.items ≡ l.initial.lengths.items ++ flat_map (lengths_of l.plan) (take l.one-index l.found))
