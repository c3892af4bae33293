use Rattle.std.proofs.Common.{◌≡◌, ◌++◌, ℕ, List, map, drop}
use Rattle.l4_refusals.specs.Texts.{text_in}
use Rattle.l4_refusals.specs.Bytes.{bytes_of}
use Rattle.l4_refusals.proofs.found_in.Given as goal

abbrev pub invariant-loop-text : goal.invariant-loop-text
invariant-loop-text l =
    (rest : List (List ℕ × List ℕ)) → text_in (map bytes_of l.texts ++ rest) l.refusal ≡ text_in (map bytes_of (drop l.text-index l.texts) ++ rest) l.refusal
