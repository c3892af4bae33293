-- The last commands of the table.
use Rattle.std.specs.Prelude.{List, Option, drop, ℕ}
use Rattle.l4_fpage.specs.declared.sizes.PageSize.{PageSize}
use Rattle.l4_names.specs.Names.{Names}
use Rattle.l4_commands.specs.Commands.{commands}
use Rattle.l4_commands.specs.declared.requests.Request.{Request}

-- the rows of page faults, of pagers, of names, of replies and of the history
abbrev pub pager_commands : PageSize → Names → List (List ℕ × (List (List ℕ) → Option Request))
pager_commands size names = drop 11 (commands size names)

-- the rows that begin a part of a plan, or state a rule
abbrev pub part_commands : PageSize → Names → List (List ℕ × (List (List ℕ) → Option Request))
part_commands size names = drop 19 (commands size names)
