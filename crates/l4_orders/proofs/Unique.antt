-- A state that an order of a plan reaches has one outcome, if the plan was read from a file.
use Rattle.std.proofs.Common.{◌≡◌, ℕ, zero, suc, ◌+◌, false, true, List, [], ◌∷◌, ◌++◌, Option, Some, None, Result, Ok, Err, refl, sym, ap, subst, ◌∙◌, append-nil}
use Rattle.std.specs.Prelude.{slice_get, option_and_then}
use Rattle.std.proofs.lemmas.Option.{none-some}
use Rattle.l4_fpage.specs.declared.sizes.PageSize.{PageSize}
use Rattle.l4_names.specs.Names.{Names}
use Rattle.l4_ipc.specs.Machine.{Machine}
use Rattle.l4_ipc.proofs.OneState.{same_value}
use Rattle.l4_servers.specs.Servers.{Servers}
use Rattle.l4_text.specs.Grammar.{TextLine, ending_of}
use Rattle.l4_text.specs.declared.lines.Ending.{Ending}
use Rattle.l4_text.specs.declared.lines.Ending.TheVariants.{Whole}
use Rattle.l4_answers.specs.Reports.{Report}
use Rattle.l4_commands.specs.LineKinds.{names_by}
use Rattle.l4_commands.specs.Requests.{Unread, asked_at}
use Rattle.l4_commands.specs.declared.requests.Request.{Request}
use Rattle.l4_commands.specs.declared.requests.Request.TheVariants.{GiveName}
use Rattle.l4_shell.specs.Sessions.{State, AnswersLine, first_session, first_state}
use Rattle.l4_shell.specs.Sizes.{GoBy, HasSize}
use Rattle.l4_shell.proofs.SizesKept.{lines_sized, first_sized}
use Rattle.l4_merges.specs.declared.found.Found.{Found}
use Rattle.l4_merges.specs.Orders.{IsRun, IsOrder, IsFound, FindsEnd}
use Rattle.l4_orders.specs.declared.plans.Block.{Block}
use Rattle.l4_orders.specs.declared.plans.Plan.{Plan}
use Rattle.l4_orders.specs.declared.plans.PlanLine.{PlanLine}
use Rattle.l4_orders.specs.Orders.{IsStart, OneOutcome}
use Rattle.l4_orders.specs.Plans.{line_in, next_of}
use Rattle.l4_orders.specs.Reading.{Line, Group, Parts, lines_in, groups_in}
use Rattle.l4_orders.specs.Possible.{threads_of}
use Rattle.l4_orders.specs.Whole.{IsPlanOf, IsRead}
use Rattle.l4_orders.specs.Turns.{PlanPoint, AnswersInTurn, may_turn, Turns, HasOutcome, line_of}
use Rattle.l4_orders.proofs.Asking.{AreAsked, one_outcome}
use Rattle.l4_orders.proofs.Naming.{AllLines, AllGroups, names_through, IsShort, GivesNone, Asks, IsSorted, file_sorted}
use Rattle.l4_orders.proofs.Replies.{all_ask}

-- ONE LINE

-- no line changes the page size
line_sized : (size : PageSize) (old new : State) (line : ℕ) (bytes : List ℕ) (told : List Report) → IsShort bytes
    → AnswersLine old line (asked_at old.session.machine.size old.names Whole bytes) told new → HasSize size old.session → HasSize size new.session
line_sized size old new line bytes told short x h =
    lines_sized false size old line (record { bytes = bytes; whole = true } ∷ []) told new
    (told, [], new, subst (λ (e : Ending). AnswersLine old line (asked_at old.session.machine.size old.names e bytes) told new) (sym short) x, (refl, refl), sym (append-nil told)) h

-- the names after a line
answer_names : (old new : State) (line : ℕ) (asked : Result (Option Request) Unread) (told : List Report) → AnswersLine old line asked told new → new.names ≡ names_by old.names asked
answer_names old new line (Ok None) told x = ap (λ (s : State). s.names) x.1
answer_names old new line (Ok (Some request)) told x = x.1
answer_names old new line (Err unread) told x = ap (λ (s : State). s.names) x.1

-- THE LINES BEFORE `unordered`

record Leads (size : PageSize) (old new : State) (lines : List Line) : Type 0 where
  pub sized : HasSize size new.session
  pub names : new.names ≡ names_through size old.names lines

first_lead : (size : PageSize) (lines : List PlanLine) (old new : State) (number : ℕ) (told : List Report) → HasSize size old.session → AllLines IsShort (lines_in lines)
    → AnswersInTurn old number lines told new → Leads size old new (lines_in lines)
first_lead size [] old new number told h short x = record {
  sized = subst (λ (s : State). HasSize size s.session) (sym x.1) h;
  names = ap (λ (s : State). s.names) x.1;
}
first_lead size (line ∷ lines) old new number told h short x =
    let rest : Leads size x.2 new (lines_in lines) = first_lead size lines x.2 new (number + 1) x.1 (line_sized size old x.2 number line.bytes.items x.0 short.0 x.3 h) short.1 x.4 in
    let names : x.2.names ≡ names_by old.names (asked_at size old.names Whole line.bytes.items) =
    answer_names old x.2 number (asked_at old.session.machine.size old.names Whole line.bytes.items) x.0 x.3 ∙ ap (λ (s : PageSize). names_by old.names (asked_at s old.names Whole line.bytes.items)) h.machine in
    record { sized = rest.sized; names = rest.names ∙ ap (λ (n : Names). names_through size n (lines_in lines)) names }

-- STATES OF THE PLAN

-- the state of this plan, with this page size and these names
record IsOf (size : PageSize) (plan : Plan) (names : Names) (p : PlanPoint) : Type 0 where
  pub plan_is : p.plan ≡ plan
  pub machine : p.machine.size ≡ size
  pub servers : GoBy size p.servers
  pub names_are : p.names ≡ names

start_of : (frames : ℕ) (size : PageSize) (plan : Plan) (start : PlanPoint) (parts : Parts) → lines_in plan.first.items ≡ parts.first → IsSorted size parts → IsStart frames size plan start → IsOf size plan parts.names start
start_of frames size plan start parts first s x =
    let sized : HasSize size (first_session frames x.boot) = subst (λ (z : PageSize). HasSize z (first_session frames x.boot)) x.sized (first_sized frames x.boot) in
    let leads : Leads size (first_state frames x.boot) x.after (lines_in plan.first.items) =
    first_lead size plan.first.items (first_state frames x.boot) x.after 1 x.told sized (subst (AllLines IsShort) (sym first) s.short) x.answers in
    subst (IsOf size plan parts.names) (sym x.is) (record {
      plan_is = refl;
      machine = leads.sized.machine;
      servers = leads.sized.servers;
      names_are = leads.names ∙ ap (names_through size []) first ∙ sym s.names;
    })

-- TURNS

line_holds : (P : List ℕ → Type 0) (thread : ℕ) (lines : List PlanLine) (count : ℕ) (next : ℕ × List ℕ) → AllLines P (lines_in lines)
    → option_and_then (λ one. Some (thread, one.bytes.items)) (slice_get lines count) ≡ Some next → P next.1
line_holds P thread [] count next all is = absurd (none-some next is)
line_holds P thread (line ∷ lines) zero next all is = subst P (ap (λ (n : ℕ × List ℕ). n.1) (same_value is)) all.0
line_holds P thread (line ∷ lines) (suc count) next all is = line_holds P thread lines count next all.1 is

block_holds : (P : List ℕ → Type 0) (blocks : List Block) (place count : ℕ) (next : ℕ × List ℕ) → AllGroups P (groups_in blocks) → line_in blocks place count ≡ Some next → P next.1
block_holds P [] place count next all is = absurd (none-some next is)
block_holds P (block ∷ blocks) zero count next all is = line_holds P block.thread block.lines.items count next all.0 is
block_holds P (block ∷ blocks) (suc place) count next all is = block_holds P blocks place count next all.1 is

next_holds : (P : List ℕ → Type 0) (blocks : List Block) (gone : List ℕ) (place : ℕ) (next : ℕ × List ℕ) → AllGroups P (groups_in blocks) → next_of blocks gone place ≡ Some next → P next.1
next_holds P blocks gone place next all is = at (slice_get gone place) is where
  at : (o : Option ℕ) → option_and_then (λ count. line_in blocks place count) o ≡ Some next → P next.1
  at None h = absurd (none-some next h)
  at (Some count) h = block_holds P blocks place count next all h

turn_of : (size : PageSize) (plan : Plan) (names : Names) (s t : PlanPoint) (place : ℕ) → AllGroups (GivesNone size names) (groups_in plan.blocks.items) → IsOf size plan names s → Turns s place t → IsOf size plan names t
turn_of size plan names s t place all is x =
    let gives : GivesNone size names x.next.1 = next_holds (GivesNone size names) s.plan.blocks.items s.gone place x.next
    (subst (λ (p : Plan). AllGroups (GivesNone size names) (groups_in p.blocks.items)) (sym is.plan_is) all) x.next_is in
    let old_size : x.before.session.machine.size ≡ size = ap (λ (m : Machine). m.size) x.at.machine ∙ is.machine in
    let old_names : x.before.names ≡ names = x.at.names ∙ is.names_are in
    let sized : HasSize size x.after.session = line_sized size x.before x.after (line_of s) x.next.1 x.answers.0 gives.0 x.answers.1
    (record { machine = old_size; servers = subst (GoBy size) (sym x.at.servers) is.servers }) in
    let after : x.after.names ≡ names = answer_names x.before x.after (line_of s) (asked_at x.before.session.machine.size x.before.names Whole x.next.1) x.answers.0 x.answers.1
    ∙ (λ i. names_by (old_names i) (asked_at (old_size i) (old_names i) Whole x.next.1)) ∙ gives.1 in
    subst (IsOf size plan names) (sym x.new_is) (record { plan_is = is.plan_is; machine = sized.machine; servers = sized.servers; names_are = after })

run_of : (size : PageSize) (plan : Plan) (names : Names) (s t : PlanPoint) (path : List ℕ) → AllGroups (GivesNone size names) (groups_in plan.blocks.items) → IsOf size plan names s → IsRun may_turn Turns s path t → IsOf size plan names t
run_of size plan names s t [] all is x = subst (IsOf size plan names) (sym x) is
run_of size plan names s t (place ∷ path) all is x = run_of size plan names x.1.0 t path all (turn_of size plan names s x.1.0 place all is x.1.1) x.1.2

-- OUTCOMES

asked_in : (size : PageSize) (names : Names) (lines : List PlanLine) → AllLines (Asks size names) (lines_in lines) → AreAsked size names lines
asked_in size names [] all = tt
asked_in size names (line ∷ lines) all = (all.0, asked_in size names lines all.1)

pub one_end : OneOutcome
one_end frames size plan start read starts order end run outcome other x y =
    let is : IsPlanOf size read.0 plan = read.1 in
    let s : IsSorted size is.parts = file_sorted size is.parts read.0 is.read in
    let at : IsOf size plan is.parts.names end = run_of size plan is.parts.names start end order (subst (AllGroups (GivesNone size is.parts.names)) (sym is.has.groups) s.groups)
    (start_of frames size plan start is.parts is.has.first s starts) run in
    let asked : AreAsked size is.parts.names plan.queries.items = asked_in size is.parts.names plan.queries.items (subst (AllLines (Asks size is.parts.names)) (sym is.has.queries)
    (all_ask size is.parts.names is.parts.queries (threads_of is.parts.created plan.blocks.items) s.queries)) in
    one_outcome end outcome other
    (subst (λ (p : PageSize × Names × Plan). AreAsked p.0 p.1 p.2.queries.items) (λ i. (sym at.machine i, sym at.names_are i, sym at.plan_is i)) asked) x y

-- each outcome of an order is found, if one of each is
pub each_found : (frames : ℕ) (size : PageSize) (plan : Plan) (start : PlanPoint) (found : List Found) → IsRead size plan → IsStart frames size plan start
    → (order : List ℕ) (end : PlanPoint) → IsOrder may_turn Turns start order end → FindsEnd HasOutcome end found → (outcome : List ℕ) → HasOutcome end outcome → IsFound found outcome
each_found frames size plan start found read starts order end is has outcome x =
    subst (IsFound found) (one_end frames size plan start read starts order end is.run has.0 outcome has.2 x) has.1
