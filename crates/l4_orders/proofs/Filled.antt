-- Answers that report that the history is full.
use Rattle.std.proofs.Common.{◌≡◌, ◌⊎◌, ℕ, ◌+◌, ◌<◌, get_or, take, drop, ◌||◌, Bool, true, false, if◌then◌else◌, List, [], ◌∷◌, ◌++◌, length, Option, Some, None, Result, Ok, Err, codes, bytes_eq, refl, sym, ap, subst, ◌∙◌, inl, inr, append_assoc}
use Rattle.l4_shell.specs.Room.{says_full, any_full}
use Rattle.std.specs.Prelude.{Contains, IsErrAnd, MatchResult}
use Rattle.std.specs.Option.{option_to_list}
use Rattle.std.proofs.lemmas.List.{take_more, take-append-drop}
use Rattle.l4_fpage.specs.declared.sizes.PageSize.{PageSize}
use Rattle.l4_ipc.specs.declared.steps.Outcome.TheVariants.{Started, Done, NoWindow, Entangled, NoMemory, Expired, Canceled as ByCancel}
use Rattle.l4_answers.specs.Reports.{Report, RefusedLine, UnreadLine, RefusedAct, Transferred, TimedOut, Canceled, Waits, Ended, NoneEnded, Page, Shown, Parent, AddedRegion, Named, StepCount}
use Rattle.l4_text.specs.declared.lines.Ending.TheVariants.{Whole}
use Rattle.l4_commands.specs.Requests.{asked_at}
use Rattle.l4_shell.specs.ByLines.{state_of, IsFirst}
use Rattle.l4_shell.specs.declared.by_lines.ScriptRun.{ScriptRun}
use Rattle.l4_shell.specs.Sessions.{State, AnswersLine}
use Rattle.l4_merges.specs.Orders.{IsSound}
use Rattle.l4_merges.specs.declared.found.Found.{Found}
use Rattle.l4_merges.specs.declared.machine.Failure.{Failure}
use Rattle.l4_merges.specs.declared.machine.Failure.TheVariants.{Memory as OutOfMemory, Full}
use Rattle.l4_orders.specs.declared.lacking.Lack.{Lack}
use Rattle.l4_orders.specs.declared.lacking.Lack.TheVariants.{Nothing, Memory, History}
use Rattle.l4_orders.specs.declared.plans.Plan.{Plan}
use Rattle.l4_orders.specs.declared.plans.PlanLine.{PlanLine}
use Rattle.l4_orders.specs.Filling.{FillsFrom, FillsScript, FillsBy, FillsHistory}
use Rattle.l4_orders.specs.Orders.{IsStart}
use Rattle.l4_orders.specs.Inside.Executed.{Executed}
use Rattle.l4_orders.specs.Inside.Lacking.{lack_of_code, lack_of, then_lack, first_lack}
use Rattle.l4_orders.specs.Plans.{gone_after, line_at}
use Rattle.l4_orders.specs.Telling.{lines_from, lines_of_order}
use Rattle.l4_orders.specs.Turns.{PlanPoint, may_turn, Turns, HasOutcome, AnswersInTurn}
use Rattle.l4_orders.proofs.InTurn.{in_turn_more, in_turn_both}
use Rattle.l4_orders.proofs.Turning.{lines_more, lines_both}

-- THE FIRST LACK

abbrev IsHistory : Lack → Type 0
IsHistory Nothing = ⊥
IsHistory Memory = ⊥
IsHistory History = Unit {0}

no_history : (lack : Lack) → lack ≡ History → IsHistory lack
no_history lack e = subst IsHistory (sym e) tt

by_code : (name : List ℕ) → lack_of_code name ≡ History → bytes_eq name (codes "L1") ≡ true
by_code name h = cases (bytes_eq name (codes "NoMemory")) (bytes_eq name (codes "L1")) h where
  cases : (a b : Bool) → (if a then Memory else (if b then History else Nothing)) ≡ History → b ≡ true
  cases true b e = absurd (no_history Memory e)
  cases false true e = refl
  cases false false e = absurd (no_history Nothing e)

full_report : (report : Report) → lack_of report ≡ History → says_full report ≡ true
full_report (RefusedLine line refusal) h = by_code refusal.name h
full_report (UnreadLine size names line refusal bytes) h = absurd (no_history Nothing h)
full_report (RefusedAct thread refusal) h = by_code refusal.name h
full_report (Transferred sender receiver Started) h = absurd (no_history Nothing h)
full_report (Transferred sender receiver Done) h = absurd (no_history Nothing h)
full_report (Transferred sender receiver NoWindow) h = absurd (no_history Nothing h)
full_report (Transferred sender receiver Entangled) h = absurd (no_history Nothing h)
full_report (Transferred sender receiver NoMemory) h = absurd (no_history Memory h)
full_report (Transferred sender receiver Expired) h = absurd (no_history Nothing h)
full_report (Transferred sender receiver ByCancel) h = absurd (no_history Nothing h)
full_report (TimedOut n) h = absurd (no_history Nothing h)
full_report (Canceled n cause) h = absurd (no_history Nothing h)
full_report (Waits n) h = absurd (no_history Nothing h)
full_report (Ended n reply) h = absurd (no_history Nothing h)
full_report (NoneEnded n) h = absurd (no_history Nothing h)
full_report (Page page mapping) h = absurd (no_history Nothing h)
full_report (Shown count) h = absurd (no_history Nothing h)
full_report (Parent mapping) h = absurd (no_history Nothing h)
full_report AddedRegion h = absurd (no_history Nothing h)
full_report (Named n) h = absurd (no_history Nothing h)
full_report (StepCount count) h = absurd (no_history Nothing h)

or_right : (a b : Bool) → b ≡ true → (a || b) ≡ true
or_right true b h = refl
or_right false b h = h

or_left : (a b : Bool) → a ≡ true → (a || b) ≡ true
or_left a b h = ap (λ (c : Bool). c || b) h

then_full : (lack : Lack) (report : Report) (told : List Report) → then_lack lack (lack_of report) ≡ History → (lack ≡ History) ⊎ (any_full (report ∷ told) ≡ true)
then_full Nothing report told h = inr (or_left (says_full report) (any_full told) (full_report report h))
then_full Memory report told h = absurd (no_history Memory h)
then_full History report told h = inl refl

first_full : (lack : Lack) (told : List Report) → first_lack lack told ≡ History → (lack ≡ History) ⊎ (any_full told ≡ true)
first_full lack [] h = inl h
first_full lack (report ∷ told) h = elim (first_full (then_lack lack (lack_of report)) told h) [
  | inl here ↦ then_full lack report told here
  | inr later ↦ inr (or_right (says_full report) (any_full told) later)
]

pub reports_full : (told : List Report) → first_lack Nothing told ≡ History → any_full told ≡ true
reports_full told h = elim (first_full Nothing told h) [
  | inl none ↦ absurd (no_history Nothing none)
  | inr full ↦ full
]

-- THE BEGINNING OF LINES

full_later : (told more : List Report) → any_full more ≡ true → any_full (told ++ more) ≡ true
full_later [] more h = h
full_later (report ∷ told) more h = or_right (says_full report) (any_full (told ++ more)) (full_later told more h)

-- the answer to the line behind those that were executed
full_line : (s m new : State) (first number : ℕ) (lines later : List PlanLine) (line : PlanLine) (more : List Report) → Executed s m first number lines
    → AnswersLine m number (asked_at m.session.machine.size m.names Whole line.bytes.items) more new → any_full more ≡ true → FillsFrom s first ((lines ++ line ∷ []) ++ later)
full_line s m new first number lines later line more x answer full = record {
  first = lines ++ line ∷ [];
  later = later;
  parts = refl;
  told = x.told ++ more;
  last = new;
  answers = in_turn_more s m new first number lines line x.told more x.answers x.number_is answer;
  full = full_later x.told more full;
}

-- an answer to a line with these bytes
abbrev pub IsFullAt : State → ℕ → List ℕ → State → Type 0
IsFullAt m number bytes new = (told : List Report) × AnswersLine m number (asked_at m.session.machine.size m.names Whole bytes) told new × (any_full told ≡ true)

-- a line of a list that a loop goes through
pub full_next : (s m new : State) (first number : ℕ) (lines : List PlanLine) (i : ℕ) (line : PlanLine) (bytes : List ℕ) → i < length lines → line ≡ get_or lines i line → bytes ≡ line.bytes.items
    → Executed s m first number (take i lines) → IsFullAt m number bytes new → FillsFrom s first lines
full_next s m new first number lines i line bytes lt item same x full =
    subst (λ (l : List PlanLine). FillsFrom s first l)
    (ap (λ (l : List PlanLine). l ++ drop (i + 1) lines) (sym (take_more lines i line lt ∙ ap (λ (l : PlanLine). take i lines ++ l ∷ []) (sym item))) ∙ take-append-drop (i + 1) lines)
    (full_line s m new first number (take i lines) (drop (i + 1) lines) line full.0 x
    (subst (λ (b : List ℕ). AnswersLine m number (asked_at m.session.machine.size m.names Whole b) full.0 new) same full.1) full.2)

-- a line of an order that a loop goes through
pub full_turn : (plan : Plan) (s m new : State) (first number : ℕ) (gone order now : List ℕ) (i : ℕ) (line : PlanLine) (bytes : List ℕ) → i < length order → bytes ≡ line.bytes.items
    → Executed s m first number (lines_from plan.blocks.items gone (take i order)) → now ≡ gone_after gone (take i order) → Some line ≡ line_at plan.blocks.items now (get_or order i 0)
    → IsFullAt m number bytes new → FillsFrom s first (lines_from plan.blocks.items gone order)
full_turn plan s m new first number gone order now i line bytes lt same x now_is some full =
    let blocks = plan.blocks.items in
    let ahead = drop (i + 1) order in
    let here : lines_from blocks gone (take (i + 1) order) ≡ lines_from blocks gone (take i order) ++ line ∷ [] =
    ap (λ (o : List ℕ). lines_from blocks gone o) (take_more order i 0 lt) ∙ lines_more blocks gone (take i order) (get_or order i 0)
    ∙ ap (λ (o : Option PlanLine). lines_from blocks gone (take i order) ++ option_to_list o) (ap (λ (g : List ℕ). line_at blocks g (get_or order i 0)) (sym now_is) ∙ sym some) in
    let whole : lines_from blocks gone order ≡ (lines_from blocks gone (take i order) ++ line ∷ []) ++ lines_from blocks (gone_after gone (take (i + 1) order)) ahead =
    ap (λ (o : List ℕ). lines_from blocks gone o) (sym (take-append-drop (i + 1) order)) ∙ lines_both blocks gone (take (i + 1) order) ahead
    ∙ ap (λ (l : List PlanLine). l ++ lines_from blocks (gone_after gone (take (i + 1) order)) ahead) here in
    subst (λ (l : List PlanLine). FillsFrom s first l) (sym whole)
    (full_line s m new first number (lines_from blocks gone (take i order)) (lines_from blocks (gone_after gone (take (i + 1) order)) ahead) line full.0 x
    (subst (λ (b : List ℕ). AnswersLine m number (asked_at m.session.machine.size m.names Whole b) full.0 new) same full.1) full.2)

-- SCRIPTS

-- the lines before `unordered` fill it, whatever follows
pub full_first : (plan : Plan) (s : State) (lines : List PlanLine) (order : List ℕ) → lines ≡ plan.first.items → FillsFrom s 1 lines → FillsScript s plan order
full_first plan s lines order is x = record {
  first = x.first;
  later = x.later ++ lines_of_order plan order;
  parts = ap (λ (l : List PlanLine). l ++ lines_of_order plan order) (sym is ∙ x.parts) ∙ append_assoc x.first x.later (lines_of_order plan order);
  told = x.told;
  last = x.last;
  answers = x.answers;
  full = x.full;
}

-- those of an order fill it
pub full_order : (plan : Plan) (s m : State) (number : ℕ) (lines : List PlanLine) (order : List ℕ) → lines ≡ plan.first.items → Executed s m 1 number lines → FillsFrom m number (lines_of_order plan order) → FillsScript s plan order
full_order plan s m number lines order is x y = record {
  first = plan.first.items ++ y.first;
  later = y.later;
  parts = ap (λ (l : List PlanLine). plan.first.items ++ l) y.parts ∙ sym (append_assoc plan.first.items y.first y.later);
  told = x.told ++ y.told;
  last = y.last;
  answers = in_turn_both s m y.last 1 number plan.first.items y.first x.told y.told (subst (λ (l : List PlanLine). AnswersInTurn s 1 l x.told m) is x.answers)
      (x.number_is ∙ ap (λ (l : List PlanLine). 1 + length l) is) y.answers;
  full = full_later x.told y.told y.full;
}

pub full_from_boot : (frames : ℕ) (size : PageSize) (plan : Plan) (order : List ℕ) (run : ScriptRun) (s : State) → IsFirst frames size run → s ≡ state_of run → FillsScript s plan order → FillsBy frames size plan order
full_from_boot frames size plan order run s x same fills = (x.0, x.1, x.2, subst (λ (v : State). FillsScript v plan order) (same ∙ x.3) fills)

-- that of an order that was found fills it
pub full_found : (frames : ℕ) (size : PageSize) (plan : Plan) (start : PlanPoint) (found shown : List Found) → IsStart frames size plan start → IsSound may_turn Turns HasOutcome start found → shown ≡ found
    → (one : Found) × Contains shown one × FillsBy frames size plan one.order.items → FillsHistory frames size plan
full_found frames size plan start found shown starts sound same filled =
    let order = sound filled.0 (subst (λ (l : List Found). Contains l filled.0) same filled.1) in
    inr (record { start = start; starts = starts; turns = filled.0.order.items; end = order.0; run = order.1.run; fills = filled.2 })

-- ERRORS THAT ARE PASSED ON

pub err_on : {T : Type 0} (r : Result T Failure) (e : Failure) (P : T → Type 0) (Q : Failure → Type 0) → IsErrAnd r (λ y. y ≡ e) → Q e → MatchResult r P Q
err_on (Ok x) e P Q h q = absurd h
err_on (Err y) e P Q h q = subst Q (sym h) q

-- memory ran out, so the history was not full
pub not_full : (why : Failure) → why ≡ OutOfMemory → why ≡ Full → ⊥
not_full why is full = subst IsMemory (sym is ∙ full) tt where
  IsMemory : Failure → Type 0
  IsMemory OutOfMemory = Unit {0}
  IsMemory Full = ⊥
