-- The lines of a test that pass a test, as the code keeps them, and the queries for which rules ask.
use Rattle.std.proofs.Common.{◌≡◌, ℕ, ◌||◌, Bool, true, false, if◌then◌else◌, List, [], ◌∷◌, ◌++◌, refl, sym, ap, ◌∙◌}
use Rattle.std.specs.List.{list_any}
use Rattle.l4_fpage.specs.declared.sizes.PageSize.{PageSize}
use Rattle.l4_names.specs.Names.{Names}
use Rattle.l4_orders.specs.declared.plans.PlanLine.{PlanLine}
use Rattle.l4_orders.specs.Possible.{is_asked, reply_line, ask, ask_all, is_over_threads, all_queries}
use Rattle.l4_orders.specs.Reading.{Line, line_in, lines_in}

any_in : (test : Line → Bool) (lines : List PlanLine) → list_any (λ line. test (line_in line)) lines ≡ list_any test (lines_in lines)
any_in test [] = refl
any_in test (line ∷ lines) = ap (λ b. test (line_in line) || b) (any_in test lines)

-- what a call returned of lines that are shown, which are these
pub found_in : (test : Line → Bool) (lines shown : List PlanLine) (b found : Bool) → b ≡ list_any (λ line. test (line_in line)) shown → shown ≡ lines → b ≡ found → list_any test (lines_in lines) ≡ found
found_in test lines shown b found any is told = sym (any_in test lines) ∙ ap (λ (ls : List PlanLine). list_any (λ line. test (line_in line)) ls) (sym is) ∙ sym any ∙ told

-- ONE QUERY MORE

pub already_asked : (size : PageSize) (names : Names) (thread : ℕ) (queries : List Line) → list_any (λ line. is_asked size names thread line) queries ≡ true → queries ≡ ask size names queries thread
already_asked size names thread queries found =
    ap (λ (b : Bool). if b then queries else (if is_asked size names thread (reply_line thread) then queries ++ reply_line thread ∷ [] else queries)) (sym found)

pub asked_now : (size : PageSize) (names : Names) (thread : ℕ) (queries : List Line) (bytes : List ℕ) → list_any (λ line. is_asked size names thread line) queries ≡ false → bytes ≡ (reply_line thread).bytes
    → is_asked size names thread (record { number = 0; bytes = bytes }) ≡ true → queries ++ (record { number = 0; bytes = bytes }) ∷ [] ≡ ask size names queries thread
asked_now size names thread queries bytes none is fits =
    let same : ◌≡◌ {A = Line} (record { number = 0; bytes = bytes }) (reply_line thread) = ap (λ (bs : List ℕ). record { number = 0; bytes = bs }) is in
    let reads : is_asked size names thread (reply_line thread) ≡ true = ap (λ (line : Line). is_asked size names thread line) (sym same) ∙ fits in
    ap (λ (line : Line). queries ++ line ∷ []) same
    ∙ ap (λ (b : Bool). if b then queries ++ reply_line thread ∷ [] else queries) (sym reads)
    ∙ ap (λ (b : Bool). if b then queries else (if is_asked size names thread (reply_line thread) then queries ++ reply_line thread ∷ [] else queries)) (sym none)

-- ALL QUERIES

pub asked_for : (size : PageSize) (names : Names) (queries : List Line) (threads : List ℕ) → list_any (λ line. is_over_threads line) queries ≡ true
    → ask_all size names queries threads ≡ all_queries size names queries threads
asked_for size names queries threads found = ap (λ (b : Bool). if b then ask_all size names queries threads else queries) (sym found)

pub not_asked_for : (size : PageSize) (names : Names) (queries : List Line) (threads : List ℕ) → list_any (λ line. is_over_threads line) queries ≡ false → queries ≡ all_queries size names queries threads
not_asked_for size names queries threads none = ap (λ (b : Bool). if b then ask_all size names queries threads else queries) (sym none)
