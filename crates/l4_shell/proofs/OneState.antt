-- The request of a line leads to one state, unless memory runs out or the history is full, and keeps the queue in order.
use Rattle.std.proofs.Common.{◌≡◌, ◌≢◌, ℕ, ◌⊎◌, true, false, List, [], ◌∷◌, length, Option, Some, None, Result, Ok, Err, MatchOption, sym, ap, ◌∙◌, subst, inl, inr, arith}
use Rattle.l4_fpage.specs.declared.sizes.PageSize.{PageSize}
use Rattle.l4_msg.specs.Regions.{InSpace, IsOutOfSpace, IsPlan, messages_of, part_of_list}
use Rattle.l4_plan_lines.specs.Plans.{sending_words}
use Rattle.l4_msg.specs.declared.regions.Region.{Region}
use Rattle.l4_threads.specs.Threads.{space_of}
use Rattle.l4_ipc.specs.declared.calls.Call.{Call}
use Rattle.l4_ipc.specs.Machine.{Machine}
use Rattle.l4_pager.specs.Regions.{Regions, AddFails, CanAdd, Meet}
use Rattle.l4_pager.specs.Serving.{waiting}
use Rattle.l4_pager.specs.declared.regions.Entry.{Entry}
use Rattle.l4_pager.specs.declared.regions.PagerRefusal.{PagerRefusal}
use Rattle.l4_pager.specs.declared.regions.PagerRefusal.TheVariants.{Overlap, NoRegion, Full, BadRegion}
use Rattle.l4_plan.specs.Plan.{Listing}
use Rattle.l4_plan.specs.Shortest.{IsShortest}
use Rattle.l4_plan.specs.declared.plans.PlanRefusal.{PlanRefusal}
use Rattle.l4_plan.specs.declared.plans.PlanRefusal.TheVariants.{Empty, OutOfSpace, NoRights, TooLong, Several, NoPart}
use Rattle.l4_plan_lines.proofs.LargestBlocks.{same_starts}
use Rattle.l4_plan_lines.proofs.SamePlans.{same_items}
use Rattle.l4_answers.specs.Refusals.{Refusal, kernel_refusal}
use Rattle.l4_ipc.specs.declared.steps.Refused.TheVariants.{UnknownThread}
use Rattle.l4_answers.specs.Reports.{Report, RefusedLine}
use Rattle.l4_servers.specs.Servers.{Servers, regions_of, with_region, with_served, without, RegionFails}
use Rattle.l4_servers.specs.declared.servers.RegionRefusal.{RegionRefusal}
use Rattle.l4_servers.specs.declared.servers.RegionRefusal.TheVariants.{Pager, NoMemory}
use Rattle.l4_record.specs.Seated.{with_number}
use Rattle.l4_names.specs.Names.{Names}
use Rattle.l4_commands.specs.Calls.{root, send_call, delete_call}
use Rattle.l4_shell.specs.Delegations.{ArePlanWords, HasNoPlan}
use Rattle.l4_shell.specs.Refusals.{lacks_memory, call_refusal, region_refusal}
use Rattle.l4_commands.specs.Requests.{Unread, names_after}
use Rattle.l4_shell.specs.Sessions.{Session, State, Act, AreActs, after_act, StopsActing, Follows, RefusesLine, RefusesFor, Enters, after_cancel, WaitEnds, CancelsWait, Creates, ServesThread, RegionAdded, AddsRegion, Delegates, CarriesOut, AnswersLine}
use Rattle.l4_commands.specs.declared.requests.Request.{Request}
use Rattle.l4_commands.specs.declared.requests.Request.TheVariants.{Enter, CreateThread, EndThread, SendPlan, ListPages, TellParent, AddRegion, ServeThread, GiveName, TellReply, CancelWait, TellSteps, BeginUnordered, BeginFinally, StateRule}
use Rattle.l4_determined.specs.Inside.InOrder.{IsInOrder}
use Rattle.l4_shell.specs.Lacking.{lacks_by_code, LacksNothing}
use Rattle.l4_shell.specs.Alike.{AreAlike}
use Rattle.l4_commands.specs.declared.requests.Which.{Which}
use Rattle.l4_commands.specs.declared.requests.Which.TheVariants.{Only, Message}
use Rattle.l4_commands.specs.declared.partners.Partner.{Partner}
use Rattle.std.proofs.lemmas.Bool.{false≢true}
use Rattle.l4_ipc.specs.declared.steps.CancelCause.{CancelCause}
use Rattle.l4_determined.proofs.InOrder.{step_in_order}
use Rattle.l4_shell.proofs.OneCall.{one_follow, follow_or_refuse, entered_in_order, one_wait, wait_or_refuse}

-- SESSIONS OF ONE STATE

flip : (s t : Session) → AreAlike s t → AreAlike t s
flip s t a = record { machine = sym a.machine; servers = sym a.servers; numbers = sym a.numbers }

kept_alike : (s t new also : Session) → AreAlike s t → new ≡ s → also ≡ t → AreAlike new also
kept_alike s t new also a x y = record {
  machine = ap (λ (v : Session). v.machine) x ∙ a.machine ∙ ap (λ (v : Session). v.machine) (sym y);
  servers = ap (λ (v : Session). v.servers) x ∙ a.servers ∙ ap (λ (v : Session). v.servers) (sym y);
  numbers = ap (λ (v : Session). v.numbers) x ∙ a.numbers ∙ ap (λ (v : Session). v.numbers) (sym y);
}

-- CALLS

-- the code of a refused line that lacks nothing
quiet_code : (line : ℕ) (refusal : Refusal) (told : List Report) → told ≡ RefusedLine line refusal ∷ [] → LacksNothing told → lacks_by_code refusal.name ≡ false
quiet_code line refusal told is h = (subst LacksNothing is h).0

no_memory : (line : ℕ) (told : List Report) → told ≡ RefusedLine line lacks_memory ∷ [] → LacksNothing told → ⊥
no_memory line told is h = false≢true (sym (quiet_code line lacks_memory told is h))

one_enter : (s t : Session) (line thread : ℕ) (call : Call) (u v : Servers) (told other : List Report) (new also : Session) → AreAlike s t → u ≡ v → IsInOrder s.machine.threads
    → Enters s line thread call u told new → Enters t line thread call v other also → LacksNothing told → LacksNothing other → AreAlike new also
one_enter s t line thread call u v told other new also alike same so (inl x) (inl y) p q = one_follow s t thread call u v told other new also alike same so x y p q
one_enter s t line thread call u v told other new also alike same so (inl x) (inr y) p q =
    absurd (follow_or_refuse s t thread call u told new y.0 alike x p y.1 (quiet_code line (call_refusal y.0) other y.2.0 q))
one_enter s t line thread call u v told other new also alike same so (inr x) (inl y) p q =
    absurd (follow_or_refuse t s thread call v other also x.0 (flip s t alike) y q x.1 (quiet_code line (call_refusal x.0) told x.2.0 p))
one_enter s t line thread call u v told other new also alike same so (inr x) (inr y) p q = kept_alike s t new also alike x.2.1 y.2.1

one_cancel : (s t : Session) (line thread : ℕ) (cause : CancelCause) (told other : List Report) (new also : Session) → AreAlike s t → IsInOrder s.machine.threads
    → CancelsWait s line thread cause told new → CancelsWait t line thread cause other also → LacksNothing told → LacksNothing other → AreAlike new also
one_cancel s t line thread cause told other new also alike so (inl x) (inl y) p q = one_wait s t thread cause told other new also alike so x y p q
one_cancel s t line thread cause told other new also alike so (inl x) (inr y) p q =
    absurd (wait_or_refuse s t thread cause told new y.0 alike x y.1 (quiet_code line (call_refusal y.0) other y.2.0 q))
one_cancel s t line thread cause told other new also alike so (inr x) (inl y) p q =
    absurd (wait_or_refuse t s thread cause other also x.0 (flip s t alike) y x.1 (quiet_code line (call_refusal x.0) told x.2.0 p))
one_cancel s t line thread cause told other new also alike so (inr x) (inr y) p q = kept_alike s t new also alike x.2.1 y.2.1

one_create : (s t : Session) (line number : ℕ) (call : Call) (told other : List Report) (new also : Session) → AreAlike s t → IsInOrder s.machine.threads
    → Creates s line number call told new → Creates t line number call other also → LacksNothing told → LacksNothing other → AreAlike new also
one_create s t line number call told other new also alike so (inl x) (inl y) p q =
    one_enter (record s { numbers = with_number s.numbers number }) (record t { numbers = with_number t.numbers number }) line root call s.servers t.servers told other new also
    (record { machine = alike.machine; servers = alike.servers; numbers = ap (λ (l : List ℕ). with_number l number) alike.numbers }) alike.servers so x y p q
one_create s t line number call told other new also alike so (inr x) y p q = absurd (no_memory line told x.1.0 p)
one_create s t line number call told other new also alike so (inl x) (inr y) p q = absurd (no_memory line other y.1.0 q)

one_serve : (s t : Session) (line thread : ℕ) (told other : List Report) (new also : Session) → AreAlike s t → IsInOrder s.machine.threads
    → ServesThread s line thread told new → ServesThread t line thread other also → LacksNothing told → LacksNothing other → AreAlike new also
one_serve s t line thread told other new also alike so (inl x) (inl y) p q =
    one_enter s t line thread waiting (with_served s.servers thread) (with_served t.servers thread) told other new also alike (ap (λ (v : Servers). with_served v thread) alike.servers) so (inl x) (inl y) p q
one_serve s t line thread told other new also alike so (inl x) (inr (inl y)) p q =
    one_enter s t line thread waiting (with_served s.servers thread) (with_served t.servers thread) told other new also alike (ap (λ (v : Servers). with_served v thread) alike.servers) so (inl x) (inr y) p q
one_serve s t line thread told other new also alike so (inr (inl x)) (inl y) p q =
    one_enter s t line thread waiting (with_served s.servers thread) (with_served t.servers thread) told other new also alike (ap (λ (v : Servers). with_served v thread) alike.servers) so (inr x) (inl y) p q
one_serve s t line thread told other new also alike so (inr (inl x)) (inr (inl y)) p q =
    one_enter s t line thread waiting (with_served s.servers thread) (with_served t.servers thread) told other new also alike (ap (λ (v : Servers). with_served v thread) alike.servers) so (inr x) (inr y) p q
one_serve s t line thread told other new also alike so (inr (inr x)) y p q = absurd (no_memory line told x.lacks.0 p)
one_serve s t line thread told other new also alike so (inl x) (inr (inr y)) p q = absurd (no_memory line other y.lacks.0 q)
one_serve s t line thread told other new also alike so (inr (inl x)) (inr (inr y)) p q = absurd (no_memory line other y.lacks.0 q)

-- REGIONS

add_or_fail : (r : Regions) (entry : Entry) (refusal : PagerRefusal) → CanAdd r entry → AddFails r entry refusal → ⊥
add_or_fail r entry BadRegion can fails = can.good fails
add_or_fail r entry Overlap can fails =
    let some = fails.1 in
    (subst (λ (other : Entry). ¬ (Meet entry other)) some.3 (can.apart some.0 some.1 some.2)) some.4
add_or_fail r entry Full can fails = omega (arith, can.room, fails.2)
add_or_fail r entry NoRegion can fails = fails

region_or_fail : (s t : Session) (line thread : ℕ) (entry : Entry) (reason : RegionRefusal) (told : List Report) → s.servers ≡ t.servers → CanAdd (regions_of s.servers thread) entry → RegionFails t.servers thread entry reason
    → told ≡ RefusedLine line (region_refusal reason) ∷ [] → LacksNothing told → ⊥
region_or_fail s t line thread entry (Pager refusal) told same can fails is h = add_or_fail (regions_of t.servers thread) entry refusal (subst (λ (v : Servers). CanAdd (regions_of v thread) entry) same can) fails
region_or_fail s t line thread entry NoMemory told same can fails is h = no_memory line told is h

-- where the thread is there
one_add : (s t : Session) (line thread : ℕ) (entry : Entry) (told other : List Report) (new also : Session) → AreAlike s t
    → RegionAdded s thread entry told new ⊎ RefusesFor (RegionFails s.servers thread entry) region_refusal s line told new
    → RegionAdded t thread entry other also ⊎ RefusesFor (RegionFails t.servers thread entry) region_refusal t line other also → LacksNothing told → LacksNothing other → AreAlike new also
one_add s t line thread entry told other new also alike (inl x) (inl y) p q = record {
  machine = ap (λ (v : Session). v.machine) x.2 ∙ alike.machine ∙ ap (λ (v : Session). v.machine) (sym y.2);
  servers = ap (λ (v : Session). v.servers) x.2 ∙ ap (λ (v : Servers). with_region v thread entry) alike.servers ∙ ap (λ (v : Session). v.servers) (sym y.2);
  numbers = ap (λ (v : Session). v.numbers) x.2 ∙ alike.numbers ∙ ap (λ (v : Session). v.numbers) (sym y.2);
}
one_add s t line thread entry told other new also alike (inl x) (inr y) p q = absurd (region_or_fail s t line thread entry y.0 other alike.servers x.0 y.1 y.2.0 q)
one_add s t line thread entry told other new also alike (inr x) (inl y) p q = absurd (region_or_fail t s line thread entry x.0 told (sym alike.servers) y.0 x.1 x.2.0 p)
one_add s t line thread entry told other new also alike (inr x) (inr y) p q = kept_alike s t new also alike x.2.1 y.2.1

one_region : (s t : Session) (line thread : ℕ) (entry : Entry) (told other : List Report) (new also : Session) → AreAlike s t → AddsRegion s line thread entry told new → AddsRegion t line thread entry other also
    → LacksNothing told → LacksNothing other → AreAlike new also
one_region s t line thread entry told other new also alike x y p q =
    at (space_of s.machine.threads thread) x
    (subst (λ (m : Machine). MatchOption (space_of m.threads thread) (RefusesLine t line (kernel_refusal UnknownThread) other also)
    (λ space. RegionAdded t thread entry other also ⊎ RefusesFor (RegionFails t.servers thread entry) region_refusal t line other also)) (sym alike.machine) y) where
      at : (o : Option ℕ) → MatchOption o (RefusesLine s line (kernel_refusal UnknownThread) told new)
          (λ space. RegionAdded s thread entry told new ⊎ RefusesFor (RegionFails s.servers thread entry) region_refusal s line told new)
          → MatchOption o (RefusesLine t line (kernel_refusal UnknownThread) other also)
          (λ space. RegionAdded t thread entry other also ⊎ RefusesFor (RegionFails t.servers thread entry) region_refusal t line other also) → AreAlike new also
      at None h k = kept_alike s t new also alike h.1 k.1
      at (Some space) h k = one_add s t line thread entry told other new also alike h k p q

-- DELEGATIONS

one_listing : (size : PageSize) (r : Region) (p q : Listing) → IsShortest size r p → IsShortest size r q → p ≡ q
one_listing size r p q a b =
    let le = a.shortest q.items b.plan.rival in
    let ge = b.shortest p.items a.plan.rival in
    let pages : p.pages ≡ q.pages = same_starts r p.pages q.pages a.starts b.starts (omega (arith, le, ge, a.one_each, b.one_each)) in
    let items : p.items ≡ q.items = same_items size r p.items q.items q.pages a.sound.space (subst (λ (x : List ℕ). IsPlan size r p.items x) pages a.plan) b.plan in
    λ i. record { items = items i; pages = pages i }

out_of : (size : PageSize) (r : Region) → InSpace size r → IsOutOfSpace size r → ⊥
out_of size r space out = elim out [ inl h ↦ omega (arith, space.source) | inr h ↦ omega (arith, space.target) ]

one_plan : (size : PageSize) (r : Region) (which : Which) (v w : List ℕ) → ArePlanWords size r which v → ArePlanWords size r which w → v ≡ w
one_plan size r Only v w x y = x.3 ∙ ap (λ (p : Listing). sending_words p.items) (one_listing size r x.0 y.0 x.1 y.1) ∙ sym y.3
one_plan size r (Message k) v w x y = x.3 ∙ ap (λ (p : Listing). sending_words (part_of_list p.items k)) (one_listing size r x.0 y.0 x.1 y.1) ∙ sym y.3

words_or_none : (size : PageSize) (r : Region) (which : Which) (words : List ℕ) (reason : PlanRefusal) → ArePlanWords size r which words → HasNoPlan size r which reason → ⊥
words_or_none size r Only words Empty x h = omega (arith, x.1.sound.some, h)
words_or_none size r Only words OutOfSpace x h = out_of size r x.1.sound.space h.1
words_or_none size r Only words NoRights x h = x.1.sound.rights h.2
words_or_none size r Only words (TooLong pages) x h = let more = h.none x.0.items x.1.plan.rival in omega (arith, more, x.1.few)
words_or_none size r Only words (Several messages) x h = h.3 (h.2 ∙ ap (λ (p : Listing). messages_of (length p.items)) (one_listing size r h.0 x.0 h.1 x.1) ∙ x.2)
words_or_none size r Only words (NoPart messages) x h = h
words_or_none size r (Message k) words Empty x h = omega (arith, x.1.sound.some, h)
words_or_none size r (Message k) words OutOfSpace x h = out_of size r x.1.sound.space h.1
words_or_none size r (Message k) words NoRights x h = x.1.sound.rights h.2
words_or_none size r (Message k) words (TooLong pages) x h = let more = h.none x.0.items x.1.plan.rival in omega (arith, more, x.1.few)
words_or_none size r (Message k) words (Several messages) x h = h
words_or_none size r (Message k) words (NoPart messages) x h =
    let same = h.2 ∙ ap (λ (p : Listing). messages_of (length p.items)) (one_listing size r h.0 x.0 h.1 x.1) in
    let few = x.2 in
    let le = h.3 in
    omega (arith, same, few, le)

one_delegation : (s t : Session) (line thread : ℕ) (to : Partner) (which : Which) (r : Region) (told other : List Report) (new also : Session) → AreAlike s t → IsInOrder s.machine.threads
    → Delegates s line thread to which r told new → Delegates t line thread to which r other also → LacksNothing told → LacksNothing other → AreAlike new also
one_delegation s t line thread to which r told other new also alike so (inl x) (inl y) p q =
    let words : y.0 ≡ x.0 = one_plan s.machine.size r which y.0 x.0 (subst (λ (m : Machine). ArePlanWords m.size r which y.0) (sym alike.machine) y.1) x.1 in
    one_enter s t line thread (send_call to x.0) s.servers t.servers told other new also alike alike.servers so x.2
    (subst (λ (w : List ℕ). Enters t line thread (send_call to w) t.servers other also) words y.2) p q
one_delegation s t line thread to which r told other new also alike so (inl x) (inr y) p q =
    absurd (words_or_none t.machine.size r which x.0 y.0 (subst (λ (m : Machine). ArePlanWords m.size r which x.0) alike.machine x.1) y.1)
one_delegation s t line thread to which r told other new also alike so (inr x) (inl y) p q =
    absurd (words_or_none s.machine.size r which y.0 x.0 (subst (λ (m : Machine). ArePlanWords m.size r which y.0) (sym alike.machine) y.1) x.1)
one_delegation s t line thread to which r told other new also alike so (inr x) (inr y) p q = kept_alike s t new also alike x.2.1 y.2.1

-- LINES

one_request : (s t : Session) (names others : Names) (line : ℕ) (request : Request) (told other : List Report) (new also : Session) → AreAlike s t → IsInOrder s.machine.threads
    → CarriesOut names s line request told new → CarriesOut others t line request other also → LacksNothing told → LacksNothing other → AreAlike new also
one_request s t names others line (Enter thread call) told other new also alike so x y p q = one_enter s t line thread call s.servers t.servers told other new also alike alike.servers so x y p q
one_request s t names others line (CreateThread number call) told other new also alike so x y p q = one_create s t line number call told other new also alike so x y p q
one_request s t names others line (EndThread thread) told other new also alike so x y p q =
    one_enter s t line root (delete_call thread) (without s.servers thread) (without t.servers thread) told other new also alike (ap (λ (v : Servers). without v thread) alike.servers) so x y p q
one_request s t names others line (SendPlan thread to which region) told other new also alike so x y p q = one_delegation s t line thread to which region told other new also alike so x y p q
one_request s t names others line (ListPages thread first count) told other new also alike so x y p q = kept_alike s t new also alike x.1 y.1
one_request s t names others line (TellParent thread page) told other new also alike so x y p q = kept_alike s t new also alike x.1 y.1
one_request s t names others line (AddRegion thread entry) told other new also alike so x y p q = one_region s t line thread entry told other new also alike x y p q
one_request s t names others line (ServeThread thread) told other new also alike so x y p q = one_serve s t line thread told other new also alike so x y p q
one_request s t names others line (GiveName name thread) told other new also alike so x y p q = kept_alike s t new also alike x.1 y.1
one_request s t names others line (TellReply thread) told other new also alike so x y p q = kept_alike s t new also alike x.1 y.1
one_request s t names others line (CancelWait thread cause) told other new also alike so x y p q = one_cancel s t line thread cause told other new also alike so x y p q
one_request s t names others line BeginUnordered told other new also alike so x y p q = kept_alike s t new also alike x.1 y.1
one_request s t names others line BeginFinally told other new also alike so x y p q = kept_alike s t new also alike x.1 y.1
one_request s t names others line StateRule told other new also alike so x y p q = kept_alike s t new also alike x.1 y.1
one_request s t names others line TellSteps told other new also alike so x y p q = record {
  machine = ap (λ (v : Session). v.machine) x.4 ∙ alike.machine ∙ ap (λ (v : Session). v.machine) (sym y.4);
  servers = ap (λ (v : Session). v.servers) x.4 ∙ alike.servers ∙ ap (λ (v : Session). v.servers) (sym y.4);
  numbers = ap (λ (v : Session). v.numbers) x.4 ∙ alike.numbers ∙ ap (λ (v : Session). v.numbers) (sym y.4);
}

kept_state : (s t new also : State) → AreAlike s.session t.session → s.names ≡ t.names → new ≡ s → also ≡ t → AreAlike new.session also.session × (new.names ≡ also.names)
kept_state s t new also a n x y =
    (kept_alike s.session t.session new.session also.session a (ap (λ (v : State). v.session) x) (ap (λ (v : State). v.session) y), ap (λ (v : State). v.names) x ∙ n ∙ ap (λ (v : State). v.names) (sym y))

-- two states that are alike, whose answers lack nothing, come to states that are alike
pub one_answered : (s t : State) (line : ℕ) (asked : Result (Option Request) Unread) (told other : List Report) (new also : State) → AreAlike s.session t.session → s.names ≡ t.names → IsInOrder s.session.machine.threads
    → AnswersLine s line asked told new → AnswersLine t line asked other also → LacksNothing told → LacksNothing other → AreAlike new.session also.session × (new.names ≡ also.names)
one_answered s t line (Ok None) told other new also alike names so x y p q = kept_state s t new also alike names x.1 y.1
one_answered s t line (Ok (Some request)) told other new also alike names so x y p q = (
  one_request s.session t.session s.names t.names line request told other new.session also.session alike so x.0 y.0 p q,
  x.1 ∙ ap (λ (n : Names). names_after n request) names ∙ sym y.1,
)
one_answered s t line (Err unread) told other new also alike names so x y p q = kept_state s t new also alike names x.1 y.1

-- THE QUEUE

acts_in_order : (old new : Session) (acts : List Act) → IsInOrder old.machine.threads → AreActs old acts new → IsInOrder new.machine.threads
acts_in_order old new [] so x = subst (λ (v : Session). IsInOrder v.machine.threads) (sym x) so
acts_in_order old new (act ∷ acts) so x = acts_in_order (after_act old act) new acts (entered_in_order old act so x.1) x.2

stop_in_order : (old new : Session) (count : ℕ) (told : List Report) → IsInOrder old.machine.threads → StopsActing old count told new → IsInOrder new.machine.threads
stop_in_order old new count told so (inl x) = subst (λ (v : Session). IsInOrder v.machine.threads) (sym x.2) so
stop_in_order old new count told so (inr x) = subst (λ (v : Session). IsInOrder v.machine.threads) (sym x.same) so

follow_in_order : (old new : Session) (thread : ℕ) (call : Call) (servers : Servers) (told : List Report) → IsInOrder old.machine.threads → Follows old thread call servers told new → IsInOrder new.machine.threads
follow_in_order old new thread call servers told so f =
    stop_in_order f.between new (length f.acts) f.last (acts_in_order (after_act old f.own) f.between f.acts (entered_in_order old f.own so f.entered) f.are) f.stops

enter_in_order : (old new : Session) (line thread : ℕ) (call : Call) (servers : Servers) (told : List Report) → IsInOrder old.machine.threads → Enters old line thread call servers told new → IsInOrder new.machine.threads
enter_in_order old new line thread call servers told so (inl x) = follow_in_order old new thread call servers told so x
enter_in_order old new line thread call servers told so (inr x) = subst (λ (v : Session). IsInOrder v.machine.threads) (sym x.2.1) so

wait_in_order : (old new : Session) (thread : ℕ) (cause : CancelCause) (told : List Report) → IsInOrder old.machine.threads → WaitEnds old thread cause told new → IsInOrder new.machine.threads
wait_in_order old new thread cause told so w =
    stop_in_order w.between new (length w.acts) w.last
    (acts_in_order (after_cancel old w.own) w.between w.acts (step_in_order old.machine w.own.step (Ok w.own.answer) w.own.after w.steps so) w.are) w.stops

same_in_order : (old new : Session) → new ≡ old → IsInOrder old.machine.threads → IsInOrder new.machine.threads
same_in_order old new is so = subst (λ (v : Session). IsInOrder v.machine.threads) (sym is) so

request_in_order : (old new : Session) (names : Names) (line : ℕ) (request : Request) (told : List Report) → IsInOrder old.machine.threads → CarriesOut names old line request told new → IsInOrder new.machine.threads
request_in_order old new names line (Enter thread call) told so x = enter_in_order old new line thread call old.servers told so x
request_in_order old new names line (CreateThread number call) told so (inl x) = enter_in_order (record old { numbers = with_number old.numbers number }) new line root call old.servers told so x
request_in_order old new names line (CreateThread number call) told so (inr x) = same_in_order old new x.1.1 so
request_in_order old new names line (EndThread thread) told so x = enter_in_order old new line root (delete_call thread) (without old.servers thread) told so x
request_in_order old new names line (SendPlan thread to which region) told so (inl x) = enter_in_order old new line thread (send_call to x.0) old.servers told so x.2
request_in_order old new names line (SendPlan thread to which region) told so (inr x) = same_in_order old new x.2.1 so
request_in_order old new names line (ListPages thread first count) told so x = same_in_order old new x.1 so
request_in_order old new names line (TellParent thread page) told so x = same_in_order old new x.1 so
request_in_order old new names line (AddRegion thread entry) told so x = at (space_of old.machine.threads thread) x where
  at : (o : Option ℕ) → MatchOption o (RefusesLine old line (kernel_refusal UnknownThread) told new)
      (λ space. RegionAdded old thread entry told new ⊎ RefusesFor (RegionFails old.servers thread entry) region_refusal old line told new) → IsInOrder new.machine.threads
  at None h = same_in_order old new h.1 so
  at (Some space) (inl h) = subst (λ (v : Session). IsInOrder v.machine.threads) (sym h.2) so
  at (Some space) (inr h) = same_in_order old new h.2.1 so
request_in_order old new names line (ServeThread thread) told so (inl x) = follow_in_order old new thread waiting (with_served old.servers thread) told so x
request_in_order old new names line (ServeThread thread) told so (inr (inl x)) = same_in_order old new x.2.1 so
request_in_order old new names line (ServeThread thread) told so (inr (inr x)) = same_in_order old new x.lacks.1 so
request_in_order old new names line (GiveName name thread) told so x = same_in_order old new x.1 so
request_in_order old new names line (TellReply thread) told so x = same_in_order old new x.1 so
request_in_order old new names line (CancelWait thread cause) told so (inl x) = wait_in_order old new thread cause told so x
request_in_order old new names line (CancelWait thread cause) told so (inr x) = same_in_order old new x.2.1 so
request_in_order old new names line BeginUnordered told so x = same_in_order old new x.1 so
request_in_order old new names line BeginFinally told so x = same_in_order old new x.1 so
request_in_order old new names line StateRule told so x = same_in_order old new x.1 so
request_in_order old new names line TellSteps told so x = subst (λ (v : Session). IsInOrder v.machine.threads) (sym x.4) so

pub line_in_order : (old new : State) (line : ℕ) (asked : Result (Option Request) Unread) (told : List Report) → IsInOrder old.session.machine.threads → AnswersLine old line asked told new → IsInOrder new.session.machine.threads
line_in_order old new line (Ok None) told so x = same_in_order old.session new.session (ap (λ (v : State). v.session) x.1) so
line_in_order old new line (Ok (Some request)) told so x = request_in_order old.session new.session old.names line request told so x.0
line_in_order old new line (Err unread) told so x = same_in_order old.session new.session (ap (λ (v : State). v.session) x.1) so
