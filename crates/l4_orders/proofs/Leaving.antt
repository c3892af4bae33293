-- A thread's turn leads to one state, in each state that a run reaches.
use Rattle.std.proofs.Common.{◌≡◌, ℕ, ◌+◌, List, [], ◌∷◌, sym, subst, ◌∙◌}
use Rattle.l4_fpage.specs.declared.sizes.PageSize.{PageSize}
use Rattle.l4_names.specs.Names.{Names}
use Rattle.l4_ipc.specs.Machine.{Machine}
use Rattle.l4_ipc.proofs.OneState.{same_value}
use Rattle.l4_text.specs.declared.lines.Ending.TheVariants.{Whole}
use Rattle.l4_answers.specs.Reports.{Report}
use Rattle.l4_commands.specs.Requests.{asked_at}
use Rattle.l4_shell.specs.Alike.{AreAlike}
use Rattle.l4_shell.specs.Sessions.{State, AnswersLine, first_state}
use Rattle.l4_shell.proofs.OneState.{one_answered, line_in_order}
use Rattle.l4_determined.specs.Inside.InOrder.{IsInOrder}
use Rattle.l4_determined.proofs.InOrder.{first_in_order}
use Rattle.l4_merges.specs.Orders.{IsRun, LeavesOne}
use Rattle.l4_orders.specs.declared.plans.Plan.{Plan}
use Rattle.l4_orders.specs.declared.plans.PlanLine.{PlanLine}
use Rattle.l4_orders.specs.Orders.{IsStart}
use Rattle.l4_orders.specs.Plans.{gone_with}
use Rattle.l4_orders.specs.Turns.{PlanPoint, AnswersInTurn, may_turn, Turns, line_of}

-- THE QUEUE

in_turn_in_order : (old new : State) (number : ℕ) (lines : List PlanLine) (told : List Report) → IsInOrder old.session.machine.threads → AnswersInTurn old number lines told new → IsInOrder new.session.machine.threads
in_turn_in_order old new number [] told so x = subst (λ (v : State). IsInOrder v.session.machine.threads) (sym x.1) so
in_turn_in_order old new number (line ∷ lines) told so x =
    in_turn_in_order x.2 new (number + 1) lines x.1
    (line_in_order old x.2 number (asked_at old.session.machine.size old.names Whole line.bytes.items) x.0 so x.3) x.4

start_in_order : (frames : ℕ) (size : PageSize) (plan : Plan) (start : PlanPoint) → IsStart frames size plan start → IsInOrder start.machine.threads
start_in_order frames size plan start x =
    subst (λ (p : PlanPoint). IsInOrder p.machine.threads) (sym x.is)
    (in_turn_in_order (first_state frames x.boot) x.after 1 plan.first.items x.told (subst IsInOrder (sym x.boots.threads) first_in_order) x.answers)

turn_in_order : (s t : PlanPoint) (place : ℕ) → IsInOrder s.machine.threads → Turns s place t → IsInOrder t.machine.threads
turn_in_order s t place so x =
    subst (λ (p : PlanPoint). IsInOrder p.machine.threads) (sym x.new_is)
    (line_in_order x.before x.after (line_of s) (asked_at x.before.session.machine.size x.before.names Whole x.next.1) x.answers.0
    (subst (λ (m : Machine). IsInOrder m.threads) (sym x.at.machine) so) x.answers.1)

run_in_order : (s t : PlanPoint) (path : List ℕ) → IsInOrder s.machine.threads → IsRun may_turn Turns s path t → IsInOrder t.machine.threads
run_in_order s t [] so x = subst (λ (p : PlanPoint). IsInOrder p.machine.threads) (sym x) so
run_in_order s t (place ∷ path) so x = run_in_order x.1.0 t path (turn_in_order s x.1.0 place so x.1.1) x.1.2

-- TURNS

one_turn : (s u v : PlanPoint) (place : ℕ) → IsInOrder s.machine.threads → Turns s place u → Turns s place v → u ≡ v
one_turn s u v place so x y =
    let next : x.next ≡ y.next = same_value (sym x.next_is ∙ y.next_is) in
    let alike : AreAlike x.before.session y.before.session = record { machine = x.at.machine ∙ sym y.at.machine; servers = x.at.servers ∙ sym y.at.servers; numbers = x.at.numbers ∙ sym y.at.numbers } in
    let names : x.before.names ≡ y.before.names = x.at.names ∙ sym y.at.names in
    let other = subst (λ (p : Machine × Names × (ℕ × List ℕ)). AnswersLine y.before (line_of s) (asked_at p.0.size p.1 Whole p.2.1) y.answers.0 y.after)
    (λ i. (sym alike.machine i, sym names i, sym next i)) y.answers.1 in
    let after : AreAlike x.after.session y.after.session × (x.after.names ≡ y.after.names) = one_answered x.before y.before (line_of s) (asked_at x.before.session.machine.size x.before.names Whole x.next.1) x.answers.0 y.answers.0 x.after y.after alike names
    (subst (λ (m : Machine). IsInOrder m.threads) (sym x.at.machine) so) x.answers.1 other x.answers.2 y.answers.2 in
    x.new_is ∙ (λ i. record { plan = s.plan; machine = after.0.machine i; servers = after.0.servers i; numbers = after.0.numbers i; names = after.1 i; gone = gone_with s.gone place }) ∙ sym y.new_is

pub turns_leave_one : (frames : ℕ) (size : PageSize) (plan : Plan) (start : PlanPoint) → IsStart frames size plan start → LeavesOne may_turn Turns start
turns_leave_one frames size plan start x path t run place u v =
    one_turn t u v place (run_in_order start t path (start_in_order frames size plan start x) run)
