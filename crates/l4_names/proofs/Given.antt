-- Where a name stands among the names of a script.
use Rattle.std.proofs.Common.{◌≡◌, ℕ, zero, suc, ◌<◌, ◌≤◌, ◌&&◌, Bool, true, false, cond, nat_lt, nat_le, List, [], ◌∷◌, ◌++◌, Option, Some, None, length, get_or, set, is_some, refl, sym, ap, ◌∙◌, arith}
use Rattle.std.specs.List.{position, position_or_len, refill}
use Rattle.std.proofs.lemmas.List.{length-set}
use Rattle.std.proofs.lemmas.List.Quantifiers.{position-Some}
use Rattle.std.proofs.lemmas.List.Sums.{fails_before_first}
use Rattle.std.proofs.lemmas.Bool.Decides.{nat_tests}
use Rattle.std.proofs.lemmas.Grind.{common_steps}
use Rattle.std.specs.Option.{option_map_or}
use Rattle.l4_names.specs.declared.names.NamedThread.{NamedThread}
use Rattle.l4_names.specs.Names.{Names, is_name, is_named, thread_named, with_name, given, after_giving}

-- ---- the form of a name

short : (n : ℕ) (b : Bool) → nat_le n 24 && b ≡ true → n ≤ 24
short n b h = elim (nat_le n 24) as (λ t. nat_le n 24 ≡ t → t && b ≡ true → n ≤ 24) [
  | true ↦ λ t z. grind (arith, nat_tests)
  | false ↦ λ t z. absurd (cc)
] refl h

pub name_short : (token : List ℕ) → is_name token ≡ true → length token ≤ 24
unfolding is_name
name_short token h = short (length token) _ h

-- ---- the place of a name

-- the entry at this place is the first one with this name
abbrev pub IsFirst : Names → List ℕ → ℕ → NamedThread → Type 0
IsFirst names name k d = (k < length names) × (is_named name (get_or names k d) ≡ true) × ((j : ℕ) → j < k → is_named name (get_or names j d) ≡ false)

-- the same among the names behind the first
behind : (e : NamedThread) (names : Names) (name : List ℕ) (k : ℕ) (d : NamedThread) → IsFirst (e ∷ names) name (suc k) d → IsFirst names name k d
behind e names name k d first = (omega (arith, first.0), first.1, λ j lt. first.2 (suc j) (omega (arith, lt)))

named_at : (names : Names) (name : List ℕ) (k : ℕ) (d : NamedThread) → IsFirst names name k d → thread_named names name ≡ Some (get_or names k d).number
named_at [] name k d first = absurd (omega (arith, first.0))
named_at (e ∷ names) name zero d first = ap (λ b. cond b (Some e.number) (thread_named names name)) first.1
named_at (e ∷ names) name (suc k) d first =
    ap (λ b. cond b (Some e.number) (thread_named names name)) (first.2 0 (omega arith)) ∙ named_at names name k d (behind e names name k d first)

abbrev pub numbered : NamedThread → ℕ → NamedThread
numbered e number = record { name = e.name; number = number }

set_at : (names : Names) (name : List ℕ) (k : ℕ) (d : NamedThread) (number : ℕ) → IsFirst names name k d → with_name names name number ≡ set names k (numbered (get_or names k d) number)
set_at [] name k d number first = absurd (omega (arith, first.0))
set_at (e ∷ names) name zero d number first = ap (λ b. cond b (numbered e number ∷ names) (e ∷ with_name names name number)) first.1
set_at (e ∷ names) name (suc k) d number first =
    ap (λ b. cond b (numbered e number ∷ names) (e ∷ with_name names name number)) (first.2 0 (omega arith))
    ∙ ap (λ (ns : Names). e ∷ ns) (set_at names name k d number (behind e names name k d first))

-- no entry has this name
abbrev pub IsNone : Names → List ℕ → NamedThread → Type 0
IsNone names name d = (j : ℕ) → j < length names → is_named name (get_or names j d) ≡ false

later : (e : NamedThread) (names : Names) (name : List ℕ) (d : NamedThread) → IsNone (e ∷ names) name d → IsNone names name d
later e names name d none = λ j lt. none (suc j) (omega (arith, lt))

nowhere : (names : Names) (name : List ℕ) (d : NamedThread) → IsNone names name d → thread_named names name ≡ None
nowhere [] name d none = refl
nowhere (e ∷ names) name d none = ap (λ b. cond b (Some e.number) (thread_named names name)) (none 0 (omega arith)) ∙ nowhere names name d (later e names name d none)

added : (names : Names) (name : List ℕ) (number : ℕ) (d : NamedThread) → IsNone names name d → with_name names name number ≡ names ++ record { name = name; number = number } ∷ []
added [] name number d none = refl
added (e ∷ names) name number d none =
    ap (λ b. cond b (numbered e number ∷ names) (e ∷ with_name names name number)) (none 0 (omega arith))
    ∙ ap (λ (ns : Names). e ∷ ns) (added names name number d (later e names name d none))

far : (n m : ℕ) → cond (nat_lt n m) (Some n) None ≡ None → m ≤ n
far n m h = elim (nat_lt n m) as (λ b. nat_lt n m ≡ b → cond b (Some n) None ≡ None → m ≤ n) [
  | true ↦ λ t z. absurd (cc)
  | false ↦ λ t z. grind (arith, nat_tests)
] refl h

nobody : NamedThread
nobody = record { name = []; number = 0 }

none_is : (names : Names) (name : List ℕ) → None ≡ position (is_named name) names → IsNone names name nobody
none_is names name is =
    let past = far (position_or_len (is_named name) names) (length names) (sym is) in
    λ j lt. fails_before_first (is_named name) names j nobody (omega (arith, lt, past))

-- ---- what the code finds

pub named_there : (names : Names) (name : List ℕ) (k : ℕ) (d : NamedThread) → Some k ≡ position (is_named name) names → Some (get_or names k d).number ≡ thread_named names name
named_there names name k d is = sym (named_at names name k d (position-Some (is_named name) names k d (sym is)))

pub named_nowhere : (names : Names) (name : List ℕ) → None ≡ position (is_named name) names → None ≡ thread_named names name
named_nowhere names name is = sym (nowhere names name nobody (none_is names name is))

-- a list that is written back whole
whole : (names new : Names) → length new ≡ length names → refill (length names) names new ≡ new
whole names new same = grind (arith, common_steps)

-- the names after a line, where there is room for these
has_room : (names new : Names) (name : List ℕ) (number : ℕ) → with_name names name number ≡ new → length new ≤ 64 → given names name number ≡ Some new
has_room names new name number is few =
    let t : nat_le (length new) 64 ≡ true = grind (arith, nat_tests) in
    ap (λ (ns : Names). cond (nat_le (length ns) 64) (Some ns) None) is ∙ ap (λ b. cond b (Some new) None) t

-- a name that was given before
pub given_again : (names ws : Names) (name : List ℕ) (k : ℕ) (d : NamedThread) (number : ℕ) → length names ≤ 64 → Some k ≡ position (is_named name) names → ws ≡ names → given names name number ≡ Some (refill (length names) names (set ws k (numbered (get_or ws k d) number)))
given_again names ws name k d number few is same =
    let first = position-Some (is_named name) names k d (sym is) in
    let at : with_name names name number ≡ set names k (numbered (get_or names k d) number) = set_at names name k d number first in
    let long : length (set names k (numbered (get_or names k d) number)) ≡ length names = length-set names k (numbered (get_or names k d) number) in
    let back : refill (length names) names (set names k (numbered (get_or names k d) number)) ≡ with_name names name number = whole names (set names k (numbered (get_or names k d) number)) long ∙ sym at in
    let all : refill (length names) names (set ws k (numbered (get_or ws k d) number)) ≡ with_name names name number = (λ i. refill (length names) names (set (same i) k (numbered (get_or (same i) k d) number))) ∙ back in
    has_room names (refill (length names) names (set ws k (numbered (get_or ws k d) number))) name number (sym all) (omega (arith, few, ap length (all ∙ at), long))

-- a new name
pub given_new : (names : Names) (name : List ℕ) (number : ℕ) → length names < 64 → None ≡ position (is_named name) names → given names name number ≡ Some (names ++ record { name = name; number = number } ∷ [])
given_new names name number few is =
    let at = added names name number nobody (none_is names name is) in
    has_room names (names ++ record { name = name; number = number } ∷ []) name number at (grind (arith, common_steps))

-- a name too many
pub given_not : (names : Names) (name : List ℕ) (number : ℕ) → 64 ≤ length names → None ≡ position (is_named name) names → given names name number ≡ None
given_not names name number many is =
    let at = added names name number nobody (none_is names name is) in
    let f : nat_le (length (names ++ record { name = name; number = number } ∷ [])) 64 ≡ false = grind (arith, common_steps) in
    ap (λ (ns : Names). cond (nat_le (length ns) 64) (Some ns) None) at ∙ ap (λ b. cond b (Some (names ++ record { name = name; number = number } ∷ [])) None) f

-- ---- after a line that gives a name

-- a name that was given before stands for the new thread
pub gives_again : (items names ws : Names) (own name : List ℕ) (k : ℕ) (d : NamedThread) (number : ℕ) → items ≡ names → ws ≡ items → own ≡ name → length ws ≤ 64 → Some k ≡ position (is_named own) names
    → (true ≡ is_some (given names name number)) × (refill (length items) items (set ws k (numbered (get_or ws k d) number)) ≡ after_giving names name number)
gives_again items names ws own name k d number view lent same few is =
    let at : Some k ≡ position (is_named name) names = is ∙ ap (λ n. position (is_named n) names) same in
    let it = given_again names ws name k d number (omega (arith, few, ap length (lent ∙ view))) at (lent ∙ view) in
    let back : refill (length items) items (set ws k (numbered (get_or ws k d) number)) ≡ refill (length names) names (set ws k (numbered (get_or ws k d) number)) =
    ap (λ (ns : Names). refill (length ns) ns (set ws k (numbered (get_or ws k d) number))) view in
    (sym (ap is_some it), back ∙ sym (ap (λ (o : Option Names). option_map_or (λ new. new) o names) it))

-- a new name
pub gives_new : (names new : Names) (own name : List ℕ) (number : ℕ) → length names < 64 → own ≡ name → None ≡ position (is_named own) names → new ≡ names ++ record { name = name; number = number } ∷ []
    → (true ≡ is_some (given names name number)) × (new ≡ after_giving names name number)
gives_new names new own name number few same is pushed =
    let it = given_new names name number few (is ∙ ap (λ n. position (is_named n) names) same) in
    (sym (ap is_some it), pushed ∙ sym (ap (λ (o : Option Names). option_map_or (λ new. new) o names) it))

-- a name too many
pub gives_not : (names : Names) (own name : List ℕ) (number : ℕ) → 64 ≤ length names → own ≡ name → None ≡ position (is_named own) names → (false ≡ is_some (given names name number)) × (names ≡ after_giving names name number)
gives_not names own name number many same is =
    let it = given_not names name number many (is ∙ ap (λ n. position (is_named n) names) same) in
    (sym (ap is_some it), sym (ap (λ (o : Option Names). option_map_or (λ new. new) o names) it))
