-- What is known of a silent sink.
use Rattle.std.specs.Prelude.{◌≡◌, Bool, List, None, is_some, if◌then◌else◌}
use Rattle.l4_answers.specs.Reports.{Report}
use Rattle.l4_sinks.specs.declared.silent.Silent.{Silent}
use Rattle.l4_sinks.specs.Texts.{last_refused}

-- these answers were reported; the sink is strict or isn't, as it was, and a strict one keeps the last refusal of a line
pub record HasHeard (first now : Silent) (told : List Report) : Type 0 where
  pub strict : now.strict ≡ first.strict
  pub refused : now.refused ≡ (if first.strict then last_refused None told else None)

-- a line was refused in a strict run
abbrev pub is_stopped : Silent → Bool
is_stopped silent = is_some silent.refused
