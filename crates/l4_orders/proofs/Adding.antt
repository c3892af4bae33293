-- A line that was added to the parts of a plan, or for which there was no memory.
use Rattle.std.proofs.Common.{◌≡◌, ℕ, Bool, List, [], ◌∷◌, ◌++◌, Result, Ok, Err, OnOk, IfErr, refl, sym, ap, subst}
use Rattle.l4_text.specs.declared.faults.RunFault.TheVariants.{Memory}
use Rattle.l4_orders.specs.declared.parts.Part.{Part}
use Rattle.l4_orders.specs.declared.parts.Part.TheVariants.{First, Unordered as Free, Finally as Last}
use Rattle.l4_orders.specs.declared.parts.PlanFault.{PlanFault}
use Rattle.l4_orders.specs.declared.parts.PlanFault.TheVariants.{Stopped}
use Rattle.l4_orders.specs.Reading.{Line, Group, Parts, with_line, with_first, add_call, add_naming, add_query}
use Rattle.l4_orders.specs.Inside.Parts.{Takes}

takes_added : (result : Result (Unit {0}) PlanFault) (due new : Parts) (number : ℕ) → OnOk result (due ≡ new) → IfErr result (λ e. e ≡ Stopped Memory) → Takes (Ok due) new number result
takes_added (Ok u) due new number ok err = ap Ok ok
takes_added (Err e) due new number ok err = subst (λ (f : PlanFault). Takes (Ok due) new number (Err f)) (sym err) refl

pub on_ok : (result : Result (Unit {0}) PlanFault) {A B : Type 0} → (A → B) → OnOk result A → OnOk result B
on_ok (Ok u) f h = f h
on_ok (Err e) f h = tt

takes_first : (result : Result (Unit {0}) PlanFault) (p : Parts) (line : Line) (first : List Line) (number : ℕ) → OnOk result (first ≡ p.first ++ line ∷ []) → IfErr result (λ e. e ≡ Stopped Memory)
    → Takes (Ok (with_first p line)) (record p { first = first }) number result
takes_first result p line first number ok err = takes_added result (with_first p line) (record p { first = first }) number (on_ok result (λ is. λ i. record p { first = sym is i }) ok) err

pub call_first : (part : Part) (result : Result (Unit {0}) PlanFault) (p : Parts) (thread : ℕ) (cancels : Bool) (line : Line) (first : List Line) (number : ℕ) → part ≡ First
    → OnOk result (first ≡ p.first ++ line ∷ []) → IfErr result (λ e. e ≡ Stopped Memory) → Takes (add_call part p thread cancels line) (record p { first = first }) number result
call_first part result p thread cancels line first number is ok err =
    subst (λ (x : Part). Takes (add_call x p thread cancels line) (record p { first = first }) number result) (sym is) (takes_first result p line first number ok err)

pub call_free : (part : Part) (result : Result (Unit {0}) PlanFault) (p : Parts) (thread : ℕ) (cancels : Bool) (line : Line) (groups : List Group) (number : ℕ) → part ≡ Free
    → OnOk result (groups ≡ with_line p.groups thread cancels line) → IfErr result (λ e. e ≡ Stopped Memory) → Takes (add_call part p thread cancels line) (record p { groups = groups }) number result
call_free part result p thread cancels line groups number is ok err =
    subst (λ (x : Part). Takes (add_call x p thread cancels line) (record p { groups = groups }) number result) (sym is)
    (takes_added result (record p { groups = with_line p.groups thread cancels line }) (record p { groups = groups }) number (on_ok result (λ same. λ i. record p { groups = sym same i }) ok) err)

pub naming_first : (part : Part) (result : Result (Unit {0}) PlanFault) (p : Parts) (line : Line) (first : List Line) (number : ℕ) → part ≡ First
    → OnOk result (first ≡ p.first ++ line ∷ []) → IfErr result (λ e. e ≡ Stopped Memory) → Takes (add_naming part p line) (record p { first = first }) number result
naming_first part result p line first number is ok err =
    subst (λ (x : Part). Takes (add_naming x p line) (record p { first = first }) number result) (sym is) (takes_first result p line first number ok err)

pub query_last : (part : Part) (result : Result (Unit {0}) PlanFault) (p : Parts) (line : Line) (queries : List Line) (number : ℕ) → part ≡ Last
    → OnOk result (queries ≡ p.queries ++ line ∷ []) → IfErr result (λ e. e ≡ Stopped Memory) → Takes (add_query part p line) (record p { queries = queries }) number result
query_last part result p line queries number is ok err =
    subst (λ (x : Part). Takes (add_query x p line) (record p { queries = queries }) number result) (sym is)
    (takes_added result (record p { queries = p.queries ++ line ∷ [] }) (record p { queries = queries }) number (on_ok result (λ same. λ i. record p { queries = sym same i }) ok) err)
