-- The lines of a script that were answered so far, and the lines that caused the steps of the history.
use Rattle.std.proofs.Common.{◌≡◌, ℕ, ◌+◌, ◌==◌, ◌<◌, Bool, true, false, cond, nat_lt, List, [], ◌∷◌, ◌++◌, length, take, drop, refl, sym, ap, subst, ◌∙◌, inl, arith}
use Rattle.std.proofs.lemmas.Bool.Decides.{nat_tests}
use Rattle.std.proofs.lemmas.List.{append-nil, length-append, length-take, nil_from_length}
use Rattle.std.specs.List.{position_or_len}
use mathlib.Core.List.{append_assoc}
use Rattle.l4_fpage.specs.declared.sizes.PageSize.{PageSize}
use Rattle.l4_ipc.specs.Machine.{Machine, IsBoot}
use Rattle.l4_answers.specs.Lines.{first_line, later_lines}
use Rattle.l4_answers.specs.Reports.{Report}
use Rattle.l4_answers.proofs.AnswerTexts.{begins}
use Rattle.l4_text.specs.Grammar.{TextLine, ending_of, lines_of}
use Rattle.l4_text.specs.declared.lines.Ending.{Ending}
use Rattle.l4_commands.specs.Requests.{asked_at}
use Rattle.l4_shell.specs.ByLines.{state_of, IsFirst}
use Rattle.l4_shell.specs.Sessions.{State, first_state, AnswersLine}
use Rattle.l4_shell.specs.declared.by_lines.ScriptRun.{ScriptRun}
use Rattle.l4_page.specs.Causes.{causes_in, AreCauses, TellsCauses}
use Rattle.l4_page.specs.Told.{IsTold}
use Rattle.l4_page.specs.declared.telling.Told.{Told as Answer}

-- whatever the lines that are left append, the causes so far stand before it
pub record CausesSoFar (first now : State) (script rest : List ℕ) (number : ℕ) (causes : List ℕ) : Type 0 where
  pub on : (more : List ℕ) (last : State) → AreCauses now number (lines_of rest) more last → AreCauses first 1 (lines_of script) (causes ++ more) last

pub no_causes : (m : State) (script causes : List ℕ) → causes ≡ [] → CausesSoFar m m script script 1 causes
no_causes m script causes none =
    record { on = λ more last h. subst (λ (cs : List ℕ). AreCauses m 1 (lines_of script) (cs ++ more) last) (sym none) h }

-- a line ends with a newline if its bytes are not all of the text
whole_is : (text : List ℕ) (n : ℕ) (whole : Bool) → take n text ++ cond whole (10 ∷ []) [] ≡ take (n + 1) text → nat_lt (length (take n text)) (length text) ≡ whole
whole_is text n true piece =
    let some : length (take n text) < length text =
    omega (arith, ap length piece, length-append (take n text) (10 ∷ []), length-take n text, length-take (n + 1) text) in
    grind (arith, nat_tests, some)
whole_is text n false piece =
    let all : length (take n text) ≡ length text =
    omega (arith, ap length piece, length-append (take n text) [], length-take n text, length-take (n + 1) text) in
    grind (arith, nat_tests, all)

-- one line more
pub one_cause : (first now next : State) (script rest left line : List ℕ) (number : ℕ) (causes more : List ℕ) (ending : Ending) → CausesSoFar first now script rest number causes
    → 0 < length rest → line ≡ first_line rest → left ≡ later_lines rest
    → ending ≡ ending_of (record { bytes = line; whole = nat_lt (length line) (length rest) })
    → (told : List Report) × AnswersLine now number (asked_at now.session.machine.size now.names ending line) told next × (more ≡ causes ++ causes_in now number next)
    → CausesSoFar first next script left (number + 1) more
one_cause first now next script rest left line number causes more ending so some line_is left_is ending_is h =
    let b = begins rest some in
    let n = position_or_len (λ byte. byte == 10) rest in
    let front : TextLine = record { bytes = take n rest; whole = b.whole } in
    let whole : nat_lt (length line) (length rest) ≡ b.whole = ap (λ (l : List ℕ). nat_lt (length l) (length rest)) line_is ∙ whole_is rest n b.whole b.piece in
    let ends : ending ≡ ending_of front =
    ending_is ∙ ap (λ (l : List ℕ). ending_of (record { bytes = l; whole = nat_lt (length line) (length rest) })) line_is
    ∙ ap (λ w. ending_of (record { bytes = take n rest; whole = w })) whole in
    let answers : AnswersLine now number (asked_at now.session.machine.size now.names (ending_of front) front.bytes) h.0 next =
    subst (λ (l : List ℕ). AnswersLine now number (asked_at now.session.machine.size now.names (ending_of front) l) h.0 next) line_is
    (subst (λ (e : Ending). AnswersLine now number (asked_at now.session.machine.size now.names e line) h.0 next) ends h.1) in
    record {
      on = λ others last are.
          let own : List ℕ = causes_in now number next in
          let joined : more ++ others ≡ causes ++ (own ++ others) = ap (λ (c : List ℕ). c ++ others) h.2 ∙ append_assoc causes own others in
          subst (λ (c : List ℕ). AreCauses first 1 (lines_of script) c last) (sym joined)
          (so.on (own ++ others) last
          (subst (λ (ls : List TextLine). AreCauses now number ls (own ++ others) last) (sym b.lines)
          (h.0, others, next, answers, subst (λ (r : List ℕ). AreCauses next (number + 1) (lines_of r) others last) left_is are, refl)));
    }

-- nothing is left of the script
pub all_causes : (first now : State) (script rest : List ℕ) (number : ℕ) (causes : List ℕ) (empty : Bool) → CausesSoFar first now script rest number causes
    → empty ≡ (length rest == 0) → empty ≡ true → AreCauses first 1 (lines_of script) causes now
all_causes first now script rest number causes empty so is none =
    let t : (length rest == 0) ≡ true = sym is ∙ none in
    let zero : length rest ≡ 0 = grind (arith, nat_tests) in
    subst (λ (c : List ℕ). AreCauses first 1 (lines_of script) c now) (append-nil causes)
    (so.on [] now (subst (λ (r : List ℕ). AreCauses now number (lines_of r) [] now) (sym (nil_from_length rest zero)) (refl, refl)))

-- the causes of all steps of a script on a machine at boot
pub tells_causes : (frames : ℕ) (size : PageSize) (run : ScriptRun) (m : State) (last : State) (script causes shown old new : List ℕ) (told : Answer)
    → IsFirst frames size run → m ≡ state_of run → AreCauses m 1 (lines_of script) causes last → shown ≡ causes → IsTold shown true 0 old new told → TellsCauses frames size script old new told
tells_causes frames size run m last script causes shown old new told is same are shown_is tells = inl (
  is.0,
  causes,
  last,
  is.1,
  is.2,
  subst (λ (s : State). AreCauses s 1 (lines_of script) causes last) (same ∙ is.3) are,
  subst (λ (s : List ℕ). IsTold s true 0 old new told) shown_is tells,
)
