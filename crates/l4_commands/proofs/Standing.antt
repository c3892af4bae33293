-- Which thread a name stands for after a line that gives a name.
use Rattle.std.proofs.Common.{◌≡◌, ℕ, Bool, true, false, cond, nat_le, List, [], ◌∷◌, length, Some, None, is_some, refl, sym, ap, ◌∙◌}
use Rattle.std.proofs.lemmas.Bool.{false≢true}
use Rattle.std.proofs.lemmas.Option.{same_Some}
use Rattle.std.proofs.lemmas.Slice.Eq.{bytes_eq-Decides}
use Rattle.std.specs.Str.{bytes_eq}
use Rattle.l4_names.specs.declared.names.NamedThread.{NamedThread}
use Rattle.l4_names.specs.Names.{Names, is_named, thread_named, with_name, given}

abbrev entry_of : List ℕ → ℕ → NamedThread
entry_of name number = record { name = name; number = number }

same_name : (name : List ℕ) → bytes_eq name name ≡ true
same_name name = (bytes_eq-Decides name name).1 refl

-- the new name itself
own_case : (b : Bool) (e : NamedThread) (names : Names) (name : List ℕ) (number : ℕ) → is_named name e ≡ b → thread_named (with_name names name number) name ≡ Some number
    → thread_named (cond b (entry_of e.name number ∷ names) (e ∷ with_name names name number)) name ≡ Some number
own_case true e names name number is later = ap (λ b. cond b (Some number) (thread_named names name)) is
own_case false e names name number is later = ap (λ b. cond b (Some e.number) (thread_named (with_name names name number) name)) is ∙ later

own : (names : Names) (name : List ℕ) (number : ℕ) → thread_named (with_name names name number) name ≡ Some number
own [] name number = ap (λ b. cond b (Some number) None) (same_name name)
own (e ∷ names) name number = own_case (is_named name e) e names name number refl (own names name number)

-- another name
other_case : (b : Bool) (e : NamedThread) (names : Names) (name other : List ℕ) (number : ℕ) → is_named name e ≡ b → bytes_eq name other ≡ false → thread_named (with_name names name number) other ≡ thread_named names other
    → thread_named (cond b (entry_of e.name number ∷ names) (e ∷ with_name names name number)) other ≡ thread_named (e ∷ names) other
other_case true e names name other number is differ later =
    let same : e.name ≡ name = (bytes_eq-Decides e.name name).0 is in
    let not : bytes_eq e.name other ≡ false = ap (λ n. bytes_eq n other) same ∙ differ in
    ap (λ b. cond b (Some number) (thread_named names other)) not ∙ sym (ap (λ b. cond b (Some e.number) (thread_named names other)) not)
other_case false e names name other number is differ later = ap (λ o. cond (is_named other e) (Some e.number) o) later

others : (names : Names) (name other : List ℕ) (number : ℕ) → bytes_eq name other ≡ false → thread_named (with_name names name number) other ≡ thread_named names other
others [] name other number differ = ap (λ b. cond b (Some number) None) differ
others (e ∷ names) name other number differ = other_case (is_named name e) e names name other number refl differ (others names name other number differ)

new_is : (b : Bool) (all new : Names) → cond b (Some all) None ≡ Some new → all ≡ new
new_is true all new is = same_Some all new is
new_is false all new is = absurd (false≢true (ap is_some is))

pub stands : (names new : Names) (name : List ℕ) (number : ℕ) → given names name number ≡ Some new → (thread_named new name ≡ Some number) × ((other : List ℕ) → bytes_eq name other ≡ false → thread_named new other ≡ thread_named names other)
stands names new name number is =
    let all : with_name names name number ≡ new = new_is (nat_le (length (with_name names name number)) 64) (with_name names name number) new is in
    (ap (λ (ns : Names). thread_named ns name) (sym all) ∙ own names name number, λ other differ. ap (λ (ns : Names). thread_named ns other) (sym all) ∙ others names name other number differ)
