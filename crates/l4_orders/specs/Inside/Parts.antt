-- The parts of a plan that is read, as the code keeps them.
use Rattle.std.specs.Prelude.{◌≡◌, ℕ, Bool, List, Option, Some, None, Result, Ok, Err}
use Rattle.l4_text.specs.declared.faults.RunFault.TheVariants.{Memory}
use Rattle.l4_orders.specs.declared.parts.LineFault.{LineFault}
use Rattle.l4_orders.specs.declared.parts.LineFault.TheVariants.{NoThread, NoAnswer}
use Rattle.l4_orders.specs.declared.parts.Part.TheVariants.{First}
use Rattle.l4_orders.specs.declared.parts.PlanFault.{PlanFault}
use Rattle.l4_orders.specs.declared.parts.PlanFault.TheVariants.{Stopped, Malformed, NoUnordered}
use Rattle.l4_orders.specs.declared.parts.Reading.{Reading}
use Rattle.l4_orders.specs.declared.plans.Block.{Block}
use Rattle.l4_orders.specs.declared.plans.Plan.{Plan}
use Rattle.l4_orders.specs.Files.{IsUnknown}
use Rattle.l4_orders.specs.Possible.{first_impossible, threads_of, all_queries}
use Rattle.l4_fpage.specs.declared.sizes.PageSize.{PageSize}
use Rattle.l4_orders.specs.Reading.{Group, Parts, no_parts, AreKnown, HasBegun, lines_in, is_group, group_in, groups_in}
use Rattle.l4_orders.specs.Whole.{HasParts, ArePossible, IsImpossible}

abbrev pub is_of : ℕ → Bool → Block → Bool
is_of thread cancels block = is_group thread cancels (group_in block)

abbrev pub parts_of : Reading → Parts
parts_of r = record {
  first = lines_in r.plan.first.items;
  groups = groups_in r.plan.blocks.items;
  queries = lines_in r.plan.queries.items;
  part = r.part;
  created = r.created.items;
  names = r.plan.names;
}

abbrev pub IsNew : Reading → Type 0
IsNew r = parts_of r ≡ no_parts

-- a line was taken, or it is the first one that cannot be part of a plan, or memory ran out
abbrev pub Takes : Result Parts LineFault → Parts → ℕ → Result (Unit {0}) PlanFault → Type 0
Takes due new number (Ok u) = due ≡ Ok new
Takes due new number (Err (Stopped fault)) = fault ≡ Memory
Takes due new number (Err (Malformed n fault)) = (n ≡ number) × (due ≡ Err fault)
Takes due new number (Err NoUnordered) = ⊥

-- the thread of each group is known, or the first line of the first other one is refused
abbrev pub AreOfKnown : List ℕ → List Group → Result (Unit {0}) PlanFault → Type 0
AreOfKnown created groups (Ok u) = AreKnown created groups
AreOfKnown created groups (Err (Malformed number (NoThread thread))) = IsUnknown created groups number thread
AreOfKnown created groups (Err fault) = ⊥

-- the plan with the queries for which its rules ask
pub record IsAskedIn (size : PageSize) (created : List ℕ) (plan new : Plan) : Type 0 where
  pub first : new.first ≡ plan.first
  pub blocks : new.blocks ≡ plan.blocks
  pub names : new.names ≡ plan.names
  pub queries : lines_in new.queries.items ≡ all_queries size plan.names (lines_in plan.queries.items) (threads_of created plan.blocks.items)

-- each rule of the plan names an answer that an outcome can have, or the first one that does not is refused
abbrev pub ChecksRules : PageSize → List ℕ → Plan → Result Plan PlanFault → Type 0
ChecksRules size threads plan (Ok new) = (new ≡ plan) × (first_impossible size plan threads plan.queries.items ≡ None)
ChecksRules size threads plan (Err (Malformed number NoAnswer)) = first_impossible size plan threads plan.queries.items ≡ Some number
ChecksRules size threads plan (Err fault) = ⊥

-- the same, and whether each rule names an answer that an outcome can have, or memory ran out
abbrev pub Completes : PageSize → List ℕ → Plan → Result Plan PlanFault → Type 0
Completes size created plan (Ok new) =
    IsAskedIn size created plan new × (first_impossible size new (threads_of created plan.blocks.items) new.queries.items ≡ None)
Completes size created plan (Err (Malformed number NoAnswer)) =
    (new : Plan) × IsAskedIn size created plan new × (first_impossible size new (threads_of created plan.blocks.items) new.queries.items ≡ Some number)
Completes size created plan (Err (Stopped Memory)) = Unit {0}
Completes size created plan (Err fault) = ⊥

abbrev pub Finishes : PageSize → Parts → Result Plan PlanFault → Type 0
Finishes size p (Ok plan) = HasParts size p plan × ArePossible size p plan
Finishes size p (Err (Malformed number (NoThread thread))) = HasBegun p.part × IsUnknown p.created p.groups number thread
Finishes size p (Err (Malformed number NoAnswer)) = (plan : Plan) × HasParts size p plan × IsImpossible size p plan number
Finishes size p (Err NoUnordered) = p.part ≡ First
Finishes size p (Err (Stopped Memory)) = Unit {0}
Finishes size p (Err fault) = ⊥
