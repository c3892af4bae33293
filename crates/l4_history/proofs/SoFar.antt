-- The steps of a history that were told so far.
use Rattle.std.proofs.Common.{◌≡◌, ◌↔◌, ℕ, Bool, true, false, IsTrue, List, [], ◌∷◌, ◌++◌, Option, Ok, refl, sym, ap, ◌∙◌, subst}
use Rattle.std.proofs.lemmas.Bool.{false≢true}
use Rattle.std.proofs.lemmas.List.{append-nil}
use mathlib.Core.List.{append_assoc}
use Rattle.std.specs.List.{flat_map}
use Rattle.l4_ipc.specs.Machine.{Machine}
use Rattle.l4_ipc.specs.Steps.{Steps}
use Rattle.l4_record.specs.declared.entries.Entry.{Entry}
use Rattle.l4_record.specs.History.{steps_of}
use Rattle.l4_step_lines.specs.Answers.{answer_lines}
use Rattle.l4_step_lines.specs.Steps.{step_line}
use Rattle.l4_text.specs.Streams.{Tells}
use Rattle.l4_text.proofs.Telling.{tells_none, tells_more, tells_is}
use Rattle.l4_history.specs.Histories.{mark, TellsEntries}
use Rattle.l4_history.specs.Inside.Telling.{TellsUpTo}

-- the lines of the steps of these entries
abbrev pub lines_of : List Entry → List ℕ
lines_of entries = flat_map step_line (steps_of entries)

-- what was told, and what it makes with the lines of the entries that are left
abbrev pub StepsSoFar : Option (List ℕ) → Option (List ℕ) → List ℕ × Bool → List ℕ × Bool → List Entry → List ℕ → Type 0
StepsSoFar old new before after left whole = (text : List ℕ) × Tells old new before after text × (text ++ lines_of left ≡ whole)

pub steps_first : (w : Option (List ℕ)) (s : List ℕ × Bool) (entries left : List Entry) → left ≡ entries → StepsSoFar w w s s left (lines_of entries)
steps_first w s entries left is = ([], tells_none w s, ap lines_of is)

pub steps_next : (old mid new : Option (List ℕ)) (before s after : List ℕ × Bool) (entry : Entry) (left others : List Entry) (whole : List ℕ) → left ≡ entry ∷ others
    → StepsSoFar old mid before s left whole → Tells mid new s after (step_line entry.step) → StepsSoFar old new before after others whole
steps_next old mid new before s after entry left others whole is h told = (
  h.0 ++ step_line entry.step,
  tells_more old mid new before s after h.0 _ h.1 told,
  append_assoc h.0 (step_line entry.step) (lines_of others) ∙ ap (λ (es : List Entry). h.0 ++ lines_of es) (sym is) ∙ h.2,
)

pub steps_all : (old new : Option (List ℕ)) (before after : List ℕ × Bool) (left : List Entry) (whole : List ℕ) → left ≡ [] → StepsSoFar old new before after left whole
    → Tells old new before after whole
steps_all old new before after left whole none h =
    tells_is old new before after h.0 whole (sym (append-nil h.0) ∙ ap (λ (es : List Entry). h.0 ++ lines_of es) (sym none) ∙ h.2) h.1

-- ---- with their answers

-- what was written so far, and that it becomes the text of the whole history when the text of the remaining entries is appended
abbrev pub AnsweredSoFar : Option (List ℕ) → Option (List ℕ) → List ℕ × Bool → List ℕ × Bool → Machine → Machine → List Entry → List Entry → Type 0
AnsweredSoFar old new before after first now left whole =
    (told : List Entry) × (text : List ℕ) × (whole ≡ told ++ left) × Tells old new before after text
    × ((later : List Entry) (rest : List ℕ) → TellsEntries now later rest → TellsEntries first (told ++ later) (text ++ rest))

pub answered_first : (w : Option (List ℕ)) (s : List ℕ × Bool) (m : Machine) (entries left : List Entry) → left ≡ entries → AnsweredSoFar w w s s m m left entries
answered_first w s m entries left is = ([], [], sym is, tells_none w s, λ later rest tells. tells)

-- one more entry, with its answer
pub answered_next : (old mid line new : Option (List ℕ)) (before s t after : List ℕ × Bool) (first now later : Machine) (entry : Entry) (left others whole : List Entry)
    → left ≡ entry ∷ others → AnsweredSoFar old mid before s first now left whole → Steps now entry.step (Ok entry.answer) later → Tells mid line s t (step_line entry.step)
    → Tells line new t after (answer_lines mark (Ok entry.answer) later) → AnsweredSoFar old new before after first later others whole
answered_next old mid line new before s t after first now later entry left others whole is h steps told answered =
    let answer : List ℕ = answer_lines mark (Ok entry.answer) later in
    let one : List ℕ = step_line entry.step ++ answer in (
      h.0 ++ entry ∷ [],
      h.1 ++ one,
      h.2 ∙ ap (λ (es : List Entry). h.0 ++ es) is ∙ sym (append_assoc h.0 (entry ∷ []) others),
      tells_more old mid new before s after h.1 one h.3 (tells_more mid line new s t after (step_line entry.step) answer told answered),
      λ more rest tells.
          (let all : TellsEntries now (entry ∷ more) (one ++ rest) = (later, rest, steps, tells, refl) in
          subst (λ (text : List ℕ). TellsEntries first ((h.0 ++ entry ∷ []) ++ more) text) (sym (append_assoc h.1 one rest))
          (subst (λ (es : List Entry). TellsEntries first es (h.1 ++ (one ++ rest))) (sym (append_assoc h.0 (entry ∷ []) more)) (h.4 (entry ∷ more) (one ++ rest) all))),
    )

module _ (old new : Option (List ℕ)) (before after : List ℕ × Bool) (first now : Machine) (left whole : List Entry) (h : AnsweredSoFar old new before after first now left whole) where
  up_to : TellsUpTo first whole left h.1
  up_to = (
    h.0,
    h.2,
    subst (λ (es : List Entry). TellsEntries first es h.1) (append-nil h.0)
        (subst (λ (text : List ℕ). TellsEntries first (h.0 ++ []) text) (append-nil h.1) (h.4 [] [] refl)),
  )

  -- if an entry is left
  pub answered_before : (entry : Entry) (others : List Entry) → left ≡ entry ∷ others
      → (l : List Entry) × (text : List ℕ) × (IsTrue false ↔ (l ≡ [])) × TellsUpTo first whole l text × Tells old new before after text
  answered_before entry others is =
      (left, h.1, ((λ f. absurd (false≢true f)), (λ none. absurd (let k : ◌≡◌ {A = List Entry} (entry ∷ others) [] = sym is ∙ none in cc))), up_to, h.3)

  -- after the last entry
  pub answered_all : left ≡ [] → (l : List Entry) × (text : List ℕ) × (IsTrue true ↔ (l ≡ [])) × TellsUpTo first whole l text × Tells old new before after text
  answered_all none = (left, h.1, ((λ t. none), (λ n. refl)), up_to, h.3)
