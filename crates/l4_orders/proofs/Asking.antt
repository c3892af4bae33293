-- The answers to queries are determined by the machine and the names.
use Rattle.std.proofs.Common.{◌≡◌, ℕ, ◌+◌, List, [], ◌∷◌, ◌++◌, length, Option, Some, None, Result, Ok, Err, sym, ap, subst, ◌∙◌}
use Rattle.std.specs.Prelude.{MatchOption}
use Rattle.std.specs.List.{flat_map}
use Rattle.l4_fpage.specs.declared.sizes.PageSize.{PageSize}
use Rattle.l4_threads.specs.Threads.{space_of}
use Rattle.l4_ipc.specs.Machine.{Machine}
use Rattle.l4_ipc.specs.declared.steps.Refused.TheVariants.{UnknownThread}
use Rattle.l4_names.specs.Names.{Names}
use Rattle.l4_text.specs.declared.lines.Ending.TheVariants.{Whole}
use Rattle.l4_answers.specs.Refusals.{kernel_refusal}
use Rattle.l4_answers.specs.Reports.{Report, RefusedLine, Shown, report_text}
use Rattle.l4_commands.specs.LineKinds.{kind_of}
use Rattle.l4_commands.specs.Requests.{Unread, asked_at, names_after}
use Rattle.l4_commands.specs.declared.line_kinds.LineKind.{LineKind}
use Rattle.l4_commands.specs.declared.line_kinds.LineKind.TheVariants.{Silent, Unread as CannotRead, OfThread, Cancels, Creates, Names as GivesName, Query, Steps, Unordered, Finally}
use Rattle.l4_commands.specs.declared.requests.Request.{Request}
use Rattle.l4_commands.specs.declared.requests.Request.TheVariants.{Enter, CreateThread, EndThread, SendPlan, ListPages, TellParent, AddRegion, ServeThread, GiveName, TellReply, CancelWait, TellSteps, BeginUnordered, BeginFinally, StateRule}
use Rattle.l4_shell.specs.Sessions.{State, Session, ListsPages, Shows, place_reports, parent_answer, reply_answer, AnswersLine}
use Rattle.l4_sinks.specs.Texts.{AreAnswerTexts}
use Rattle.l4_orders.specs.declared.plans.PlanLine.{PlanLine}
use Rattle.l4_orders.specs.Turns.{PlanPoint, AnswersInTurn, HasOutcome, line_of, stuck_lines}
use Rattle.l4_orders.proofs.Rising.{same_rising}

-- ONE QUERY

-- a query or a rule
abbrev pub IsAsked : LineKind → Type 0
IsAsked Silent = ⊥
IsAsked CannotRead = ⊥
IsAsked (OfThread thread) = ⊥
IsAsked (Cancels thread) = ⊥
IsAsked (Creates number) = ⊥
IsAsked GivesName = ⊥
IsAsked Query = Unit {0}
IsAsked Steps = ⊥
IsAsked Unordered = ⊥
IsAsked Finally = ⊥

one_listing : (m : Machine) (space first count : ℕ) (told other : List Report) → ListsPages m space first count told → ListsPages m space first count other → told ≡ other
one_listing m space first count told other x y =
    let pages : x.pages ≡ y.pages = same_rising x.pages y.pages x.rising y.rising (λ n has. (y.each n).1 ((x.each n).0 has)) (λ n has. (x.each n).1 ((y.each n).0 has)) in
    x.told_is ∙ ap (λ (l : List ℕ). flat_map (place_reports m space) l ++ Shown (length l) ∷ []) pages ∙ sym y.told_is

one_show : (m : Machine) (line thread first count : ℕ) (told other : List Report) → Shows m line thread first count told → Shows m line thread first count other → told ≡ other
one_show m line thread first count told other = at (space_of m.threads thread) where
  at : (o : Option ℕ) → MatchOption o (told ≡ RefusedLine line (kernel_refusal UnknownThread) ∷ []) (λ space. ListsPages m space first count told)
      → MatchOption o (other ≡ RefusedLine line (kernel_refusal UnknownThread) ∷ []) (λ space. ListsPages m space first count other) → told ≡ other
  at None h k = h ∙ sym k
  at (Some space) h k = one_listing m space first count told other h k

-- the answers to a query are these, and nothing changes
record IsOne (s t : State) (told other : List Report) (new also : State) : Type 0 where
  pub answers : told ≡ other
  pub first : (new.session ≡ s.session) × (new.names ≡ s.names)
  pub second : (also.session ≡ t.session) × (also.names ≡ t.names)

one_query : (s t : State) (line : ℕ) (asked : Result (Option Request) Unread) (told other : List Report) (new also : State) → IsAsked (kind_of asked) → s.session.machine ≡ t.session.machine
    → AnswersLine s line asked told new → AnswersLine t line asked other also → IsOne s t told other new also
one_query s t line (Ok None) told other new also asks same x y = absurd asks
one_query s t line (Err unread) told other new also asks same x y = absurd asks
one_query s t line (Ok (Some (Enter thread call))) told other new also asks same x y = absurd asks
one_query s t line (Ok (Some (CreateThread number call))) told other new also asks same x y = absurd asks
one_query s t line (Ok (Some (EndThread thread))) told other new also asks same x y = absurd asks
one_query s t line (Ok (Some (SendPlan thread to which region))) told other new also asks same x y = absurd asks
one_query s t line (Ok (Some (ListPages thread first count))) told other new also asks same x y = record {
  answers = one_show s.session.machine line thread first count told other x.0.0 (subst (λ (m : Machine). Shows m line thread first count other) (sym same) y.0.0);
  first = (x.0.1, x.1);
  second = (y.0.1, y.1);
}
one_query s t line (Ok (Some (TellParent thread page))) told other new also asks same x y = record {
  answers = x.0.0 ∙ ap (λ (m : Machine). parent_answer m line thread page ∷ []) same ∙ sym y.0.0;
  first = (x.0.1, x.1);
  second = (y.0.1, y.1);
}
one_query s t line (Ok (Some (AddRegion thread entry))) told other new also asks same x y = absurd asks
one_query s t line (Ok (Some (ServeThread thread))) told other new also asks same x y = absurd asks
one_query s t line (Ok (Some (GiveName name thread))) told other new also asks same x y = absurd asks
one_query s t line (Ok (Some (CancelWait thread cause))) told other new also asks same x y = absurd asks
one_query s t line (Ok (Some (TellReply thread))) told other new also asks same x y = record {
  answers = x.0.0 ∙ ap (λ (m : Machine). reply_answer m line thread ∷ []) same ∙ sym y.0.0;
  first = (x.0.1, x.1);
  second = (y.0.1, y.1);
}
one_query s t line (Ok (Some TellSteps)) told other new also asks same x y = absurd asks
one_query s t line (Ok (Some BeginUnordered)) told other new also asks same x y = absurd asks
one_query s t line (Ok (Some BeginFinally)) told other new also asks same x y = absurd asks
one_query s t line (Ok (Some StateRule)) told other new also asks same x y = record {
  answers = x.0.0 ∙ sym y.0.0;
  first = (x.0.1, x.1);
  second = (y.0.1, y.1);
}

-- ALL QUERIES

-- each line is a query or a rule where pages have this size and threads these names
abbrev pub AreAsked : PageSize → Names → List PlanLine → Type 0
AreAsked size names [] = Unit {0}
AreAsked size names (line ∷ lines) = IsAsked (kind_of (asked_at size names Whole line.bytes.items)) × AreAsked size names lines

one_asking : (lines : List PlanLine) (s t : State) (number : ℕ) (told other : List Report) (new also : State) → s.session.machine ≡ t.session.machine → s.names ≡ t.names
    → AreAsked s.session.machine.size s.names lines → AnswersInTurn s number lines told new → AnswersInTurn t number lines other also → told ≡ other
one_asking [] s t number told other new also machine names asked x y = x.0 ∙ sym y.0
one_asking (line ∷ lines) s t number told other new also machine names asked x y =
    let answer = subst (λ (p : Machine × Names). AnswersLine t number (asked_at p.0.size p.1 Whole line.bytes.items) y.0 y.2) (λ i. (sym machine i, sym names i)) y.3 in
    let one : IsOne s t x.0 y.0 x.2 y.2 = one_query s t number (asked_at s.session.machine.size s.names Whole line.bytes.items) x.0 y.0 x.2 y.2 asked.0 machine x.3 answer in
    let kept : s.session.machine ≡ x.2.session.machine = ap (λ (v : Session). v.machine) (sym one.first.0) in
    let rest : x.1 ≡ y.1 = one_asking lines x.2 y.2 (number + 1) x.1 y.1 new also
    (sym kept ∙ machine ∙ ap (λ (v : Session). v.machine) (sym one.second.0)) (one.first.1 ∙ names ∙ sym one.second.1)
    (subst (λ (p : Machine × Names). AreAsked p.0.size p.1 lines) (λ i. (kept i, sym one.first.1 i)) asked.1) x.4 y.4 in
    x.5 ∙ (λ i. one.answers i ++ rest i) ∙ sym y.5

one_text : (told : List Report) (a b : List ℕ) → AreAnswerTexts None told a → AreAnswerTexts None told b → a ≡ b
one_text [] a b x y = x ∙ sym y
one_text (report ∷ told) a b x y =
    let rest : x.1 ≡ y.1 = one_text told x.1 y.1 x.3 y.3 in
    x.4 ∙ (λ i. (x.2 ∙ sym y.2) i ++ rest i) ∙ sym y.4

-- a state has one outcome if each of its plan's last lines is a query or a rule
pub one_outcome : (p : PlanPoint) (text other : List ℕ) → AreAsked p.machine.size p.names p.plan.queries.items → HasOutcome p text → HasOutcome p other → text ≡ other
one_outcome p text other asked x y =
    let told : x.told ≡ y.told = one_asking p.plan.queries.items x.before y.before (line_of p) x.told y.told x.after y.after (x.at.machine ∙ sym y.at.machine) (x.at.names ∙ sym y.at.names)
    (subst (λ (q : Machine × Names). AreAsked q.0.size q.1 p.plan.queries.items) (λ i. (sym x.at.machine i, sym x.at.names i)) asked) x.answered y.answered in
    let answers : x.answers ≡ y.answers = one_text y.told x.answers y.answers (subst (λ (l : List Report). AreAnswerTexts None l x.answers) told x.texts) y.texts in
    x.text_is ∙ ap (λ (l : List ℕ). l ++ stuck_lines p.plan.blocks.items p.gone) answers ∙ sym y.text_is
