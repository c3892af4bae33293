use Rattle.std.proofs.Common.{◌≡◌, take}
use Rattle.l4_text.proofs.tokens.after_name.Given as goal

abbrev pub invariant-loop-at : goal.invariant-loop-at
invariant-loop-at g l = take l.at l.text ≡ take l.at l.name
