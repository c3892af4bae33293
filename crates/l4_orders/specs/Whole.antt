-- The litmus test that a file is (this profile's own).
use Rattle.std.specs.Prelude.{◌≡◌, ℕ, List, ◌++◌, map, Some, None}
use Rattle.l4_fpage.specs.declared.sizes.PageSize.{PageSize}
use Rattle.l4_text.specs.Grammar.{TextLine}
use Rattle.l4_orders.specs.declared.plans.Plan.{Plan}
use Rattle.l4_orders.specs.Possible.{first_impossible, threads_of, all_queries}
use Rattle.l4_orders.specs.Reading.{Parts, no_parts, AreRead, AreKnown, HasBegun, lines_in, groups_in}

-- The test has these parts, and the queries for which its rules ask. Its threads are there at boot, or lines create them.
pub record HasParts (size : PageSize) (p : Parts) (plan : Plan) : Type 0 where
  pub begun : HasBegun p.part
  pub known : AreKnown p.created p.groups
  pub first : lines_in plan.first.items ≡ p.first
  pub groups : groups_in plan.blocks.items ≡ p.groups
  pub queries : lines_in plan.queries.items ≡ all_queries size p.names p.queries (threads_of p.created plan.blocks.items)
  pub names : plan.names ≡ p.names

-- each rule names an answer that an outcome can have
abbrev pub ArePossible : PageSize → Parts → Plan → Type 0
ArePossible size p plan = first_impossible size plan (threads_of p.created plan.blocks.items) plan.queries.items ≡ None

-- the rule in this line is the first one that names none
abbrev pub IsImpossible : PageSize → Parts → Plan → ℕ → Type 0
IsImpossible size p plan number = first_impossible size plan (threads_of p.created plan.blocks.items) plan.queries.items ≡ Some number

-- THE TEST OF A FILE
pub record IsPlanOf (size : PageSize) (lines : List TextLine) (plan : Plan) : Type 0 where
  pub parts : Parts
  pub read : AreRead size 1 no_parts lines parts
  pub has : HasParts size parts plan
  pub possible : ArePossible size parts plan

-- the test is that of some lines
abbrev pub IsRead : PageSize → Plan → Type 0
IsRead size plan = (lines : List TextLine) × IsPlanOf size lines plan
