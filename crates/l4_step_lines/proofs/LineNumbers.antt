-- The numbers of a line, token by token.
use Rattle.std.proofs.Common.{◌≡◌, ℕ, suc, ◌<◌, Bool, true, false, cond, List, [], ◌∷◌, ◌++◌, length, Option, Some, None, nat_le, option_map, option_and_then, subst, sym, ap, ◌∙◌, refl, arith, codes}
use Rattle.std.specs.Prelude.{MatchOption}
use Rattle.std.specs.Str.{bytes_eq}
use Rattle.std.proofs.lemmas.List.{append-nil}
use Rattle.std.proofs.lemmas.Option.{none-some, same_Some}
use Rattle.std.proofs.lemmas.Bool.Decides.{nat_tests}
use Rattle.l4_ipc.specs.declared.steps.Step.{Step}
use Rattle.l4_ipc.specs.declared.steps.Step.TheVariants.{Start}
use Rattle.l4_text.specs.Numbers.{number_of}
use Rattle.l4_step_lines.specs.declared.requests.Request.{Request}
use Rattle.l4_step_lines.specs.declared.requests.Request.TheVariants.{Do, Enabled}
use Rattle.l4_text.specs.Grammar.{numbers_of}
use Rattle.l4_text.proofs.Grammar.{no_numbers}
use Rattle.l4_step_lines.specs.Requests.{only_of, ipc_of, fault_of, unmap_of, create_of, set_pager_of, transfer_of, control_of, call_of, start_of, named_of, request_of}
use Rattle.l4_step_lines.specs.Inside.Numbers.{HaveNoFew}

-- READING

numbers_len : (tokens : List (List ℕ)) (ns : List ℕ) → numbers_of tokens ≡ Some ns → length ns ≡ length tokens
numbers_len [] ns e = sym (ap length (same_Some _ _ e))
numbers_len (t ∷ ts) ns e =
    elim (number_of t) as (λ o. option_and_then (λ n. option_and_then (λ more. Some (n ∷ more)) (numbers_of ts)) o ≡ Some ns → length ns ≡ suc (length ts)) [
      | None ↦ λ f. absurd (none-some _ f)
      | Some n ↦ λ f. elim (numbers_of ts) as (λ o. numbers_of ts ≡ o → option_and_then (λ more. Some (n ∷ more)) o ≡ Some ns → length ns ≡ suc (length ts)) [
        | None ↦ λ _ g. absurd (none-some _ g)
        | Some more ↦ λ is g. sym (ap length (same_Some _ _ g)) ∙ ap suc (numbers_len ts more is)
      ] refl f
    ] e

-- no token is left
pub numbers_whole : (line rest : List (List ℕ)) (ns : List ℕ) → numbers_of line ≡ option_map (λ more. ns ++ more) (numbers_of rest) → rest ≡ [] → numbers_of line ≡ Some ns
numbers_whole line rest ns read none = read ∙ ap (λ r. option_map (λ more. ns ++ more) (numbers_of r)) none ∙ ap Some (append-nil ns)

-- more than 68 tokens
pub numbers_many : (line : List (List ℕ)) → 68 < length line → HaveNoFew line
numbers_many line many ns is = omega (arith, many, numbers_len line ns is)

-- a token that is no number
pub numbers_bad : {A : Type 0} (result : Option A) (items : A → List ℕ) (line rest : List (List ℕ)) (ns : List ℕ) (token : List ℕ) (tokens : List (List ℕ)) → result ≡ None → numbers_of line ≡ option_map (λ more. ns ++ more) (numbers_of rest)
    → rest ≡ token ∷ tokens → number_of token ≡ None → MatchOption result (HaveNoFew line) (λ a. numbers_of line ≡ Some (items a))
numbers_bad result items line rest ns token tokens empty read is none =
    let e : numbers_of line ≡ None = read ∙ ap (λ r. option_map (λ more. ns ++ more) (numbers_of r)) is ∙ ap (option_map (λ more. ns ++ more)) (no_numbers token tokens none) in
    subst (λ o. MatchOption o (HaveNoFew line) (λ a. numbers_of line ≡ Some (items a))) (sym empty) (λ ms some. absurd (none-some _ (sym e ∙ some)))

-- MORE NUMBERS THAN ANY LINE HAS

cond_none : {A : Type 0} (b : Bool) (x y : Option A) → x ≡ None → y ≡ None → cond b x y ≡ None
cond_none b x y f g = elim b as (λ v. cond v x y ≡ None) [ true ↦ f | false ↦ g ]

registers_long : {A : Type 0} (words : List ℕ) (f : List ℕ → Option A) → 64 < length words → option_and_then f (cond (nat_le (length words) 64) (Some words) None) ≡ None
registers_long words f many =
    let n : nat_le (length words) 64 ≡ false = grind (arith, nat_tests) in
    ap (λ b. option_and_then f (cond b (Some words) None)) n

ipc_long : (ns : List ℕ) → 68 < length ns → ipc_of ns ≡ None
ipc_long [] many = refl
ipc_long (a ∷ []) many = refl
ipc_long (a ∷ b ∷ []) many = refl
ipc_long (a ∷ b ∷ c ∷ []) many = refl
ipc_long (a ∷ b ∷ c ∷ d ∷ words) many = registers_long words _ (omega (arith, many))

unmap_long : (ns : List ℕ) → 68 < length ns → unmap_of ns ≡ None
unmap_long [] many = refl
unmap_long (a ∷ words) many = registers_long words _ (omega (arith, many))

fault_long : (ns : List ℕ) → 68 < length ns → fault_of ns ≡ None
fault_long [] many = refl
fault_long (a ∷ []) many = refl
fault_long (a ∷ b ∷ []) many = refl
fault_long (a ∷ b ∷ c ∷ []) many = absurd (omega (arith, many))
fault_long (a ∷ b ∷ c ∷ d ∷ ns) many = refl

create_long : (ns : List ℕ) → 68 < length ns → create_of ns ≡ None
create_long [] many = refl
create_long (a ∷ []) many = refl
create_long (a ∷ b ∷ []) many = refl
create_long (a ∷ b ∷ c ∷ []) many = absurd (omega (arith, many))
create_long (a ∷ b ∷ c ∷ d ∷ ns) many = refl

set_pager_long : (ns : List ℕ) → 68 < length ns → set_pager_of ns ≡ None
set_pager_long [] many = refl
set_pager_long (a ∷ []) many = refl
set_pager_long (a ∷ b ∷ []) many = absurd (omega (arith, many))
set_pager_long (a ∷ b ∷ c ∷ ns) many = refl

transfer_long : (ns : List ℕ) → 68 < length ns → transfer_of ns ≡ None
transfer_long [] many = refl
transfer_long (a ∷ []) many = refl
transfer_long (a ∷ b ∷ []) many = absurd (omega (arith, many))
transfer_long (a ∷ b ∷ c ∷ ns) many = refl

only_long : (ns : List ℕ) → 68 < length ns → only_of ns ≡ None
only_long [] many = refl
only_long (a ∷ []) many = absurd (omega (arith, many))
only_long (a ∷ b ∷ ns) many = refl

control_long : (kind ns : List ℕ) → 68 < length ns → control_of kind ns ≡ None
control_long kind ns many =
    cond_none (bytes_eq kind (codes "create")) _ _ (create_long ns many)
    (cond_none (bytes_eq kind (codes "setpager")) _ _ (set_pager_long ns many)
    (cond_none (bytes_eq kind (codes "delete")) _ _ (ap (option_and_then _) (only_long ns many)) refl))

call_long : (kind ns : List ℕ) → 68 < length ns → call_of kind ns ≡ None
call_long kind ns many =
    cond_none (bytes_eq kind (codes "ipc")) _ _ (ipc_long ns many)
    (cond_none (bytes_eq kind (codes "fault")) _ _ (fault_long ns many)
    (cond_none (bytes_eq kind (codes "unmap")) _ _ (unmap_long ns many) (ap (option_and_then _) (control_long kind ns many))))

named_long : (name ns : List ℕ) → 68 < length ns → named_of name ns ≡ None
named_long name ns many =
    let short : nat_le (length ns) 0 ≡ false = grind (arith, nat_tests) in
    cond_none (bytes_eq name (codes "transfer")) _ _ (ap (option_map _) (transfer_long ns many))
    (cond_none (bytes_eq name (codes "expire")) _ _ (ap (option_map _) (only_long ns many))
    (cond_none (bytes_eq name (codes "timeout")) _ _ (ap (option_map _) (only_long ns many))
    (cond_none (bytes_eq name (codes "cancel")) _ _ (ap (option_map _) (only_long ns many))
    (cond_none (bytes_eq name (codes "reply")) _ _ (ap (option_map _) (only_long ns many))
    (cond_none (bytes_eq name (codes "space")) _ _ (ap (option_map _) (only_long ns many))
    (cond_none (bytes_eq name (codes "pages")) _ _ (ap (option_map _) (only_long ns many))
    (cond_none (bytes_eq name (codes "enabled")) _ _ (ap (λ b. cond b (Some Enabled) None) short) refl)))))))

none_of : {A : Type 0} (f : List ℕ → Option A) (tokens : List (List ℕ)) → HaveNoFew tokens → ((ns : List ℕ) → 68 < length ns → f ns ≡ None) → option_and_then f (numbers_of tokens) ≡ None
none_of f tokens few long =
    elim (numbers_of tokens) as (λ o. numbers_of tokens ≡ o → option_and_then f o ≡ None) [
      | None ↦ λ _. refl
      | Some ns ↦ λ is. long ns (few ns is)
    ] refl

-- a start whose numbers can't be read, or are too many
pub start_none : (r : Option Step) (line first second : List (List ℕ)) (caller kind : List ℕ) → r ≡ None → line ≡ caller ∷ first → first ≡ kind ∷ second → HaveNoFew second → r ≡ start_of line
start_none r line first second caller kind none is then few =
    none ∙ sym (ap start_of (is ∙ ap (λ ts. caller ∷ ts) then)
    ∙ elim (number_of caller) as (λ o. option_and_then (λ n. option_and_then (λ ns. option_and_then (λ call. Some (Start n call)) (call_of kind ns)) (numbers_of second)) o ≡ None) [
      | None ↦ refl
      | Some n ↦ none_of (λ ns. option_and_then (λ call. Some (Start n call)) (call_of kind ns)) second few (λ ns many. ap (option_and_then (λ call. Some (Start n call))) (call_long kind ns many))
    ])

-- another line whose numbers can't be read, or are too many
pub request_none : (r : Option Request) (line rest : List (List ℕ)) (name : List ℕ) → r ≡ None → line ≡ name ∷ rest → bytes_eq name (codes "start") ≡ false → HaveNoFew rest → r ≡ request_of line
request_none r line rest name none is other few =
    none ∙ sym (ap request_of is ∙ ap (λ b. cond b (option_map Do (start_of rest)) (option_and_then (named_of name) (numbers_of rest))) other ∙ none_of (named_of name) rest few (named_long name))
