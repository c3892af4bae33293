-- A delegation's plan was sent, or there is none.
use Rattle.std.proofs.Common.{◌≡◌, ℕ, ◌<◌, List, [], ◌∷◌, inl, inr, refl, subst}
use Rattle.l4_fpage.specs.declared.sizes.PageSize.{PageSize}
use Rattle.l4_ipc.specs.declared.calls.Call.{Call}
use Rattle.l4_msg.specs.declared.regions.Region.{Region}
use Rattle.l4_msg.specs.Regions.{IsEmpty, InSpace, IsOutOfSpace, HasNoRights}
use Rattle.l4_plan.specs.Refusals.{IfTooLong, IsOfRegion}
use Rattle.l4_plan.specs.Shortest.{IsTooLong}
use Rattle.l4_plan.specs.declared.plans.PlanRefusal.{PlanRefusal}
use Rattle.l4_plan.specs.declared.plans.PlanRefusal.TheVariants.{Empty, OutOfSpace, NoRights, TooLong, Several, NoPart}
use Rattle.l4_answers.specs.Reports.{Report, RefusedLine, AddsAll}
use Rattle.l4_commands.specs.declared.requests.Which.{Which}
use Rattle.l4_commands.specs.declared.partners.Partner.{Partner}
use Rattle.l4_shell.specs.Refusals.{plan_refusal}
use Rattle.l4_commands.specs.Calls.{send_call}
use Rattle.l4_shell.specs.Delegations.{ArePlanWords, HasNoPlan}
use Rattle.l4_shell.specs.Sessions.{Session, Enters, Delegates}

-- the planner refused the region
pub no_plan : (refusal : PlanRefusal) (size : PageSize) (r : Region) (which : Which) → (refusal ≡ Empty → IsEmpty r) → (refusal ≡ OutOfSpace → (0 < r.count) × IsOutOfSpace size r)
    → (refusal ≡ NoRights → (0 < r.count) × InSpace size r × HasNoRights r) → IfTooLong refusal (IsTooLong size r) → IsOfRegion refusal → HasNoPlan size r which refusal
no_plan Empty size r which empty out none long of = empty refl
no_plan OutOfSpace size r which empty out none long of = out refl
no_plan NoRights size r which empty out none long of = none refl
no_plan (TooLong pages) size r which empty out none long of = long
no_plan (Several messages) size r which empty out none long of = absurd of
no_plan (NoPart messages) size r which empty out none long of = absurd of

pub delegates_on : {T : Type 0} (has_told : T → T → List Report → Type 0) (old new : Session) (line thread : ℕ) (to : Partner) (which : Which) (r : Region) (words : List ℕ) (before t : T) (call : Call) (size : PageSize) → size ≡ old.machine.size → ArePlanWords size r which words
    → call ≡ send_call to words → (told : List Report) × Enters old line thread call old.servers told new × AddsAll has_told before t told
    → (told : List Report) × Delegates old line thread to which r told new × AddsAll has_told before t told
delegates_on has_told old new line thread to which r words before t call size sized are is e = (e.0, inl (words, subst (λ (z : PageSize). ArePlanWords z r which words) sized are, subst (λ (x : Call). Enters old line thread x old.servers e.0 new) is e.1), e.2)

pub delegates_not : {T : Type 0} (has_told : T → T → List Report → Type 0) (m : Session) (line thread : ℕ) (to : Partner) (which : Which) (r : Region) (refusal : PlanRefusal) (told : List Report) (before t : T) (size : PageSize) → size ≡ m.machine.size → HasNoPlan size r which refusal
    → told ≡ RefusedLine line (plan_refusal refusal) ∷ [] → AddsAll has_told before t told
    → (told : List Report) × Delegates m line thread to which r told m × AddsAll has_told before t told
delegates_not has_told m line thread to which r refusal told before t size sized none is tells = (told, inr (refusal, subst (λ (z : PageSize). HasNoPlan z r which refusal) sized none, (is, refl)), tells)
