-- A test with the queries for which its rules ask.
use Rattle.std.proofs.Common.{◌≡◌, ℕ, List, None, Some, Result, Ok, Err, sym, ap, subst, ◌∙◌}
use Rattle.std.specs.Global.{Vec}
use Rattle.l4_fpage.specs.declared.sizes.PageSize.{PageSize}
use Rattle.l4_text.specs.declared.faults.RunFault.TheVariants.{Read, Write, Memory}
use Rattle.l4_orders.specs.declared.parts.LineFault.TheVariants.{Long, Cut, Unknown, Unread, NamesFull, Repeated, OfNoThread, NoQuery, Steps, NoThread, NoAnswer, Expectation}
use Rattle.l4_orders.specs.declared.parts.Part.{Part}
use Rattle.l4_orders.specs.declared.parts.PlanFault.{PlanFault}
use Rattle.l4_orders.specs.declared.parts.PlanFault.TheVariants.{Stopped, Malformed, NoUnordered}
use Rattle.l4_orders.specs.declared.plans.Block.{Block}
use Rattle.l4_orders.specs.declared.plans.Plan.{Plan}
use Rattle.l4_orders.specs.declared.plans.PlanLine.{PlanLine}
use Rattle.l4_orders.specs.Possible.{first_impossible, threads_of, all_queries}
use Rattle.l4_orders.specs.Reading.{Parts, AreKnown, HasBegun, lines_in, groups_in}
use Rattle.l4_orders.specs.Whole.{HasParts, ArePossible, IsImpossible}
use Rattle.l4_orders.specs.Inside.Parts.{IsAskedIn, ChecksRules, Completes, Finishes}

abbrev parts_in : Part → List ℕ → Plan → Parts
parts_in part created plan = record {
  first = lines_in plan.first.items;
  groups = groups_in plan.blocks.items;
  queries = lines_in plan.queries.items;
  part = part;
  created = created;
  names = plan.names;
}

has_parts : (size : PageSize) (part : Part) (created : List ℕ) (plan new : Plan) → HasBegun part → AreKnown created (groups_in plan.blocks.items) → IsAskedIn size created plan new
    → HasParts size (parts_in part created plan) new
has_parts size part created plan new begun known a = record {
  begun = begun;
  known = known;
  first = ap (λ (v : Vec PlanLine). lines_in v.items) a.first;
  groups = ap (λ (v : Vec Block). groups_in v.items) a.blocks;
  queries = a.queries ∙ ap (λ (v : Vec Block). all_queries size plan.names (lines_in plan.queries.items) (threads_of created v.items)) (sym a.blocks);
  names = a.names;
}

same_threads : (size : PageSize) (created : List ℕ) (plan new : Plan) → IsAskedIn size created plan new
    → first_impossible size new (threads_of created new.blocks.items) new.queries.items ≡ first_impossible size new (threads_of created plan.blocks.items) new.queries.items
same_threads size created plan new a = ap (λ (v : Vec Block). first_impossible size new (threads_of created v.items) new.queries.items) a.blocks

pub finishes : (result : Result Plan PlanFault) (size : PageSize) (part : Part) (created : List ℕ) (plan : Plan) → HasBegun part → AreKnown created (groups_in plan.blocks.items)
    → Completes size created plan result → Finishes size (parts_in part created plan) result
finishes (Ok new) size part created plan begun known k = (has_parts size part created plan new begun known k.0, same_threads size created plan new k.0 ∙ k.1)
finishes (Err (Malformed number NoAnswer)) size part created plan begun known k =
    (k.0, has_parts size part created plan k.0 begun known k.1, same_threads size created plan k.0 k.1 ∙ k.2)
finishes (Err (Stopped Memory)) size part created plan begun known k = tt
finishes (Err (Stopped Read)) size part created plan begun known k = absurd k
finishes (Err (Stopped Write)) size part created plan begun known k = absurd k
finishes (Err NoUnordered) size part created plan begun known k = absurd k
finishes (Err (Malformed number Long)) size part created plan begun known k = absurd k
finishes (Err (Malformed number Cut)) size part created plan begun known k = absurd k
finishes (Err (Malformed number Unknown)) size part created plan begun known k = absurd k
finishes (Err (Malformed number Unread)) size part created plan begun known k = absurd k
finishes (Err (Malformed number NamesFull)) size part created plan begun known k = absurd k
finishes (Err (Malformed number Repeated)) size part created plan begun known k = absurd k
finishes (Err (Malformed number OfNoThread)) size part created plan begun known k = absurd k
finishes (Err (Malformed number NoQuery)) size part created plan begun known k = absurd k
finishes (Err (Malformed number Steps)) size part created plan begun known k = absurd k
finishes (Err (Malformed number (NoThread thread))) size part created plan begun known k = absurd k
finishes (Err (Malformed number Expectation)) size part created plan begun known k = absurd k

-- the rules were checked of the test with its queries
pub completes : (result : Result Plan PlanFault) (size : PageSize) (created threads : List ℕ) (plan asked : Plan) → IsAskedIn size created plan asked → threads ≡ threads_of created plan.blocks.items
    → ChecksRules size threads asked result → Completes size created plan result
completes result size created threads plan asked a is k = at result (subst (λ (ts : List ℕ). ChecksRules size ts asked result) is k) where
  at : (result : Result Plan PlanFault) → ChecksRules size (threads_of created plan.blocks.items) asked result → Completes size created plan result
  at (Ok new) h = subst (λ (p : Plan). IsAskedIn size created plan p × (first_impossible size p (threads_of created plan.blocks.items) p.queries.items ≡ None)) (sym h.0) (a, h.1)
  at (Err (Malformed number NoAnswer)) h = (asked, a, h)
  at (Err (Stopped fault)) h = absurd h
  at (Err NoUnordered) h = absurd h
  at (Err (Malformed number Long)) h = absurd h
  at (Err (Malformed number Cut)) h = absurd h
  at (Err (Malformed number Unknown)) h = absurd h
  at (Err (Malformed number Unread)) h = absurd h
  at (Err (Malformed number NamesFull)) h = absurd h
  at (Err (Malformed number Repeated)) h = absurd h
  at (Err (Malformed number OfNoThread)) h = absurd h
  at (Err (Malformed number NoQuery)) h = absurd h
  at (Err (Malformed number Steps)) h = absurd h
  at (Err (Malformed number (NoThread thread))) h = absurd h
  at (Err (Malformed number Expectation)) h = absurd h

-- memory ran out
pub lacked : (fault : PlanFault) (size : PageSize) (created : List ℕ) (plan : Plan) → fault ≡ Stopped Memory → Completes size created plan (Err fault)
lacked fault size created plan is = subst (λ (f : PlanFault). Completes size created plan (Err f)) (sym is) tt

-- the queries were added
pub asked_in : (size : PageSize) (created threads : List ℕ) (plan new : Plan) → new.first ≡ plan.first → new.blocks ≡ plan.blocks → new.names ≡ plan.names
    → lines_in new.queries.items ≡ all_queries size plan.names (lines_in plan.queries.items) threads → threads ≡ threads_of created plan.blocks.items → IsAskedIn size created plan new
asked_in size created threads plan new first blocks names queries is = record {
  first = first;
  blocks = blocks;
  names = names;
  queries = queries ∙ ap (λ (ts : List ℕ). all_queries size plan.names (lines_in plan.queries.items) ts) is;
}
