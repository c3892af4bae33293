-- Equality of answers and of sets of rights, as computed, is equality.
use Rattle.std.proofs.Common.{◌≡◌, ◌≢◌, ℕ, ◌+◌, ◌&&◌, ◌==◌, Bool, true, false, List, [], ◌∷◌, length, not, rules, arith, refl, sym, ap, ◌∙◌}
use Rattle.std.proofs.lemmas.Bool.{false≢true, eqb-true}
use Rattle.std.proofs.lemmas.Bool.Decides.{Decides-eqb}
use Rattle.std.proofs.lemmas.Slice.Eq.{slice_eq-Decides}
use mathlib.Core.Bool.{beq}
use lib.Pointwise.{pointwise}
use denote.Enum.Bare.{sameb, same_true, true_same}
use Rattle.l4_fpage.specs.Rights.{RightsSet, no_rights, is_none, bits_of, set_of_bits}
use Rattle.l4_fpage.proofs.Eight.{set_of_sum}
use Rattle.l4_ipc.specs.contracts.steps.Outcome.{the_type}
use Rattle.l4_ipc.specs.declared.steps.Answer.{Answer}

pub both : (a b : Bool) → a && b ≡ true → (a ≡ true) × (b ≡ true)
both true b h = (refl, h)
both false b h = absurd (false≢true h)

pub and_of : (a b : Bool) → a ≡ true → b ≡ true → a && b ≡ true
and_of a b p q = ap (λ (x : Bool). x && b) p ∙ q

pub same_answer : (a b : Answer) → sameb the_type a.outcome b.outcome && pointwise ◌==◌ a.ended.items b.ended.items ≡ true → a ≡ b
same_answer a b h =
    let p = both _ _ h in
    let outcome : a.outcome ≡ b.outcome = same_true the_type (search rules) a.outcome b.outcome p.0 in
    let ended : a.ended.items ≡ b.ended.items = (slice_eq-Decides Decides-eqb a.ended.items b.ended.items _ refl).0 p.1 in
    λ i. record { outcome = outcome i; ended = record { items = ended i } }

pub answer_same : (a b : Answer) → a ≡ b → sameb the_type a.outcome b.outcome && pointwise ◌==◌ a.ended.items b.ended.items ≡ true
answer_same a b e =
    and_of _ _ (true_same the_type a.outcome b.outcome (ap (λ (x : Answer). x.outcome) e))
    ((slice_eq-Decides Decides-eqb a.ended.items b.ended.items _ refl).1 (ap (λ (x : Answer). x.ended.items) e))

none_of : (a b c : Bool) → not a && not b && not c ≡ true → ◌≡◌ {A = RightsSet} (record { r = a; w = b; x = c }) no_rights
none_of false false false e = refl
none_of true b c e = absurd (false≢true e)
none_of false true c e = absurd (false≢true e)
none_of false false true e = absurd (false≢true e)

pub none_is : (r : RightsSet) → is_none r ≡ true → r ≡ no_rights
none_is r e = none_of r.r r.w r.x e

pub some_is : (r : RightsSet) → is_none r ≡ false → r ≢ no_rights
some_is r e none = false≢true (sym e ∙ ap is_none none)

pub is_some : (r : RightsSet) (b : Bool) → b ≡ is_none r → r ≢ no_rights → not b ≡ true
is_some r true e some = absurd (some (none_is r (sym e)))
is_some r false e some = refl

pub not_none : (r : RightsSet) (b : Bool) → b ≡ is_none r → not b ≡ true → r ≢ no_rights
not_none r true e h = absurd (false≢true h)
not_none r false e h = some_is r (sym e)

pub same_rights : (a b : RightsSet) → bits_of a ≡ bits_of b → a ≡ b
same_rights a b e = sym (set_of_sum 0 a refl) ∙ ap (λ (n : ℕ). set_of_bits (0 + n)) e ∙ set_of_sum 0 b refl

pub same_flag : (a b : Bool) → not (beq a b) ≡ false → a ≡ b
same_flag true true h = refl
same_flag false false h = refl
same_flag true false h = absurd (false≢true (sym h))
same_flag false true h = absurd (false≢true (sym h))

pub none_left : {X : Type 0} (xs : List X) → (length xs == 0) ≡ true → xs ≡ []
none_left [] h = refl
none_left (x ∷ xs) h = let none : length (x ∷ xs) ≡ 0 = eqb-true (length (x ∷ xs)) 0 h in absurd (omega (arith, none))
