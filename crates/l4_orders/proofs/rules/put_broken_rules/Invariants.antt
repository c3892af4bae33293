use Rattle.std.proofs.Common.{◌≡◌, ◌++◌, filter, flat_map, take}
use Rattle.l4_text.specs.Tokens.{tokens_of}
use Rattle.l4_rules.specs.Rules.{is_broken}
use Rattle.l4_orders.specs.Telling.{line_text}
use Rattle.l4_orders.proofs.rules.put_broken_rules.Given as goal

abbrev pub invariant-loop-line : goal.invariant-loop-line
invariant-loop-line l =
    l.out.items ≡ l.initial.out.items ++ flat_map line_text (filter (λ line. is_broken l.names (tokens_of line.bytes.items) l.outcome) (take l.line-index l.lines))
