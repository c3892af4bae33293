-- States of a plan: how they begin, the turn of a thread, and the outcome.
use Rattle.std.proofs.Common.{◌≡◌, ℕ, zero, suc, ◌+◌, ◌<◌, ◌≤◌, List, [], ◌∷◌, ◌++◌, length, replicate, take, get_or, slice_get, option_and_then, Option, None, Some, refl, sym, ap, subst, ◌∙◌, arith}
use Rattle.std.specs.List.{All}
use Rattle.std.proofs.lemmas.List.{take_all, take_more}
use Rattle.std.proofs.lemmas.List.Elements.{All-push}
use Rattle.std.proofs.lemmas.Option.{slice_get_within, none-some}
use Rattle.l4_fpage.specs.declared.sizes.PageSize.{PageSize}
use Rattle.l4_ipc.specs.Machine.{Machine}
use Rattle.l4_names.specs.Names.{Names}
use Rattle.l4_servers.specs.Servers.{Servers}
use Rattle.l4_keys.specs.Keys.{AreOfKernel, AreOfServers}
use Rattle.l4_keys.specs.Words.{counted, counts_words, names_words}
use Rattle.l4_merges.specs.declared.found.Found.{Found}
use Rattle.l4_answers.specs.Reports.{Report}
use Rattle.l4_shell.specs.ByLines.{state_of, unread, IsFirst}
use Rattle.l4_shell.specs.declared.by_lines.ScriptRun.{ScriptRun}
use Rattle.l4_shell.specs.Sessions.{State}
use Rattle.l4_sinks.specs.Texts.{AreAnswerTexts}
use Rattle.l4_orders.specs.declared.plans.Block.{Block}
use Rattle.l4_orders.specs.declared.plans.Plan.{Plan}
use Rattle.l4_orders.specs.declared.plans.PlanLine.{PlanLine}
use Rattle.l4_orders.specs.Inside.Executed.{Executed}
use Rattle.l4_orders.specs.Inside.Laws.{IsInStep}
use Rattle.l4_orders.specs.Words.{HasWords}
use Rattle.l4_orders.specs.Orders.{IsStart}
use Rattle.l4_orders.specs.Telling.{lines_of_order}
use Rattle.l4_orders.specs.Witnesses.{IsRunTo, IsOutcomeOf, IsWitness}
use Rattle.l4_orders.proofs.InTurn.{executed_both}
use Rattle.l4_orders.specs.Plans.{gone_after, line_in, next_of, gone_with, none_gone}
use Rattle.l4_orders.specs.Turns.{PlanPoint, point, IsAt, sum, AnswersWell, AnswersInTurn, Turns, HasOutcome, stuck_lines}

-- COUNTS

one_more : (gone : List ℕ) (place : ℕ) → place < length gone → sum (gone_with gone place) ≡ sum gone + 1
one_more [] place lt = absurd (omega (arith, lt))
one_more (n ∷ gone) zero lt = omega arith
one_more (n ∷ gone) (suc place) lt = let e = one_more gone place (omega (arith, lt)) in omega (arith, e)

as_long : (gone : List ℕ) (place : ℕ) → length (gone_with gone place) ≡ length gone
as_long [] place = refl
as_long (n ∷ gone) zero = refl
as_long (n ∷ gone) (suc place) = let e = as_long gone place in omega (arith, e)

gone_within : (blocks : List Block) (gone : List ℕ) (place : ℕ) (next : ℕ × List ℕ) → next_of blocks gone place ≡ Some next → place < length gone
gone_within blocks gone place next is = at (slice_get gone place) refl is where
  at : (o : Option ℕ) → slice_get gone place ≡ o → option_and_then (λ count. line_in blocks place count) o ≡ Some next → place < length gone
  at None e h = absurd (none-some next h)
  at (Some count) e h = slice_get_within gone place count e

pub next_step : (plan : Plan) (gone later : List ℕ) (line then' place : ℕ) (next : ℕ × List ℕ) → IsInStep plan gone line → next_of plan.blocks.items gone place ≡ Some next
    → later ≡ gone_with gone place → then' ≡ line + 1 → IsInStep plan later then'
next_step plan gone later line then' place next x is same also =
    subst (λ (g : List ℕ). IsInStep plan g then') (sym same) (record {
      each = as_long gone place ∙ x.each;
      number = (let e = x.number in let more = one_more gone place (gone_within plan.blocks.items gone place next is) in omega (arith, e, more, also));
    })

zeros : (n : ℕ) → sum (replicate n 0) ≡ 0
zeros zero = refl
zeros (suc n) = let e = zeros n in omega (arith, e)

as_many : (n : ℕ) → length {A = ℕ} (replicate n 0) ≡ n
as_many zero = refl
as_many (suc n) = let e = as_many n in omega (arith, e)

pub first_step : (plan : Plan) (gone : List ℕ) (line : ℕ) → gone ≡ none_gone plan → line ≡ 1 + length plan.first.items → IsInStep plan gone line
first_step plan gone line same is =
    subst (λ (g : List ℕ). IsInStep plan g line) (sym same) (record {
      each = as_many (length plan.blocks.items);
      number = (let none = zeros (length plan.blocks.items) in omega (arith, none, is));
    })

pub gone_long : (plan : Plan) (order gone : List ℕ) → gone ≡ gone_after (none_gone plan) order → length gone ≡ length plan.blocks.items
gone_long plan order gone is = ap (λ (g : List ℕ). length {A = ℕ} g) is ∙ long (none_gone plan) order ∙ as_many (length plan.blocks.items) where
  long : (gone order : List ℕ) → length (gone_after gone order) ≡ length gone
  long gone [] = refl
  long gone (place ∷ order) = long (gone_with gone place) order ∙ as_long gone place

-- TURNS AND OUTCOMES

at_point : (plan : Plan) (s copy : State) (gone : List ℕ) → copy ≡ unread s → IsAt (point plan s gone) copy
at_point plan s copy gone is = record {
  machine = ap (λ (v : State). v.session.machine) is;
  servers = ap (λ (v : State). v.session.servers) is;
  numbers = ap (λ (v : State). v.session.numbers) is;
  names = ap (λ (v : State). v.names) is;
}

pub made_turn : (plan : Plan) (s copy after : State) (gone later : List ℕ) (line place : ℕ) (next : ℕ × List ℕ) → copy ≡ unread s → next_of plan.blocks.items gone place ≡ Some next
    → IsInStep plan gone line → AnswersWell copy line next.1 after → later ≡ gone_with gone place → Turns (point plan s gone) place (point plan after later)
made_turn plan s copy after gone later line place next is next_is step answers same = record {
  next = next;
  next_is = next_is;
  before = copy;
  at = at_point plan s copy gone is;
  after = after;
  answers = subst (λ (n : ℕ). AnswersWell copy n next.1 after) step.number answers;
  new_is = ap (point plan after) same;
}

pub made_outcome : (plan : Plan) (s copy after : State) (gone : List ℕ) (line : ℕ) (told : List Report) (answers text : List ℕ) → copy ≡ unread s → IsInStep plan gone line
    → AnswersInTurn copy line plan.queries.items told after → AreAnswerTexts None told answers → text ≡ answers ++ stuck_lines plan.blocks.items gone → HasOutcome (point plan s gone) text
made_outcome plan s copy after gone line told answers text is step answered texts text_is = record {
  before = copy;
  at = at_point plan s copy gone is;
  told = told;
  after = after;
  answered = subst (λ (n : ℕ). AnswersInTurn copy n plan.queries.items told after) step.number answered;
  answers = answers;
  texts = texts;
  text_is = text_is;
}

-- THE BEGINNING, AND RUNS OF SCRIPTS

pub made_start : (frames : ℕ) (size : PageSize) (plan : Plan) (run : ScriptRun) (s m : State) (line : ℕ) (lines : List PlanLine) (gone : List ℕ) → IsFirst frames size run → s ≡ state_of run
    → lines ≡ plan.first.items → Executed s m 1 line lines → gone ≡ none_gone plan → IsStart frames size plan (point plan m gone)
made_start frames size plan run s m line lines gone x same all e is = record {
  boot = x.0;
  boots = x.1;
  sized = x.2;
  told = e.told;
  after = m;
  answers = subst (λ (p : State × List PlanLine). AnswersInTurn p.0 1 p.1 e.told m) (λ i. ((same ∙ x.3) i, all i)) e.answers;
  well = e.well;
  is = ap (point plan m) is;
}

pub made_run : (plan : Plan) (s a b c : State) (first line : ℕ) (beginning queries : List PlanLine) (order gone text answers : List ℕ) (told : List Report) → beginning ≡ plan.first.items → queries ≡ plan.queries.items
    → Executed s a 1 first beginning → Executed a b first line (lines_of_order plan order) → gone ≡ gone_after (none_gone plan) order → AnswersInTurn b line queries told c → AreAnswerTexts None told answers
    → text ≡ answers ++ stuck_lines plan.blocks.items gone → IsRunTo s plan order text
made_run plan s a b c first line beginning queries order gone text answers told all asked x y same answered texts text_is =
    let both = executed_both s a b 1 first line plan.first.items (lines_of_order plan order) (subst (λ (l : List PlanLine). Executed s a 1 first l) all x) y in
    record {
      earlier = both.told;
      between = b;
      executed = both.answers;
      told = told;
      last = c;
      answered = subst (λ (p : ℕ × List PlanLine). AnswersInTurn b p.0 p.1 told c) (λ i. (both.number_is i, asked i)) answered;
      answers = answers;
      texts = texts;
      text_is = text_is ∙ ap (λ (g : List ℕ). answers ++ stuck_lines plan.blocks.items g) same;
    }

pub run_from_boot : (frames : ℕ) (size : PageSize) (plan : Plan) (run : ScriptRun) (s : State) (order text : List ℕ) → IsFirst frames size run → s ≡ state_of run → IsRunTo s plan order text
    → IsOutcomeOf frames size plan order text
run_from_boot frames size plan run s order text x same r = (x.0, x.1, x.2, subst (λ (v : State). IsRunTo v plan order text) (same ∙ x.3) r)

-- a run whose order and whose outcome are those that were found
pub witness_of : (frames : ℕ) (size : PageSize) (plan : Plan) (one : Found) (order text : List ℕ) → order ≡ one.order.items → text ≡ one.outcome.items → IsOutcomeOf frames size plan order text → IsWitness frames size plan one
witness_of frames size plan one order text same also x = subst (λ (p : List ℕ × List ℕ). IsOutcomeOf frames size plan p.0 p.1) (λ i. (same i, also i)) x

pub witness_more : (frames : ℕ) (size : PageSize) (plan : Plan) (found : List Found) (i : ℕ) (one : Found) → i < length found → one ≡ get_or found i one → All (IsWitness frames size plan) (take i found)
    → IsWitness frames size plan one → All (IsWitness frames size plan) (take (i + 1) found)
witness_more frames size plan found i one lt item x w =
    subst (λ (l : List Found). All (IsWitness frames size plan) l) (sym (take_more found i one lt ∙ ap (λ (f : Found). take i found ++ f ∷ []) (sym item)))
    (All-push (IsWitness frames size plan) (take i found) one x w)

pub witness_all : (frames : ℕ) (size : PageSize) (plan : Plan) (found : List Found) (i : ℕ) → length found ≤ i → All (IsWitness frames size plan) (take i found) → All (IsWitness frames size plan) found
witness_all frames size plan found i le x = subst (λ (l : List Found). All (IsWitness frames size plan) l) (take_all i found le) x

-- WORDS

pub made_words : (p : PlanPoint) (machine : Machine) (servers : Servers) (numbers gone a b c d e : List ℕ) (names : Names) → gone ≡ p.gone → machine ≡ p.machine → servers ≡ p.servers → numbers ≡ p.numbers → names ≡ p.names
    → a ≡ counts_words gone → (words : List ℕ) × AreOfKernel machine words × (b ≡ a ++ words) → (words : List ℕ) × AreOfServers servers words × (c ≡ b ++ words)
    → d ≡ c ++ counted numbers → e ≡ d ++ names_words names → HasWords p e
made_words p machine servers numbers gone a b c d e names gone_is machine_is servers_is numbers_is names_is first kernel server fourth last = record {
  kernel = kernel.0;
  of_kernel = subst (λ (m : Machine). AreOfKernel m kernel.0) machine_is kernel.1;
  servers = server.0;
  of_servers = subst (λ (v : Servers). AreOfServers v server.0) servers_is server.1;
  are = last ∙ (λ i. (fourth ∙ (λ j. (server.2 ∙ (λ k. (kernel.2 ∙ (λ l. (first ∙ ap counts_words gone_is) l ++ kernel.0)) k ++ server.0)) j ++ counted (numbers_is j))) i ++ names_words (names_is i));
}
