-- Targets are wanted one after another.
use Rattle.std.proofs.Common.{◌≡◌, ℕ, true, Option, Some, None, sym, ap, ◌∙◌, inl, inr, arith}
use Rattle.l4_nodes.specs.declared.Place.{Place as LinkPlace}
use Rattle.l4_links.specs.declared.Entry.{Entry}
use Rattle.l4_links.specs.Entries.{Entries, entry_at, IsAt, AddsBlank, SetsWanted}
use Rattle.l4_mapdb.specs.Inside.Messages.{StandAlike, IsWanted, Wants}
use Rattle.l4_mapdb.proofs.Marking.{stand_in}

-- the entry of a key is noted as wanted
pub wants_found : (place : LinkPlace) (key : ℕ) (old new : Entries) → IsAt old place key → SetsWanted key true old new → (k : ℕ) → Wants (λ p. p ≡ place) (entry_at old k) (entry_at new k)
wants_found place key old new here sets k = grind arith

pub wanted_found : (place : LinkPlace) (key : ℕ) (old new : Entries) → IsAt old place key → SetsWanted key true old new → IsWanted new place
wanted_found place key old new here sets = grind arith

-- a blank has come, and is noted so
pub wants_new : (place : LinkPlace) (key : ℕ) (old middle new : Entries) → AddsBlank place old middle key → SetsWanted key true middle new → (k : ℕ) → Wants (λ p. p ≡ place) (entry_at old k) (entry_at new k)
wants_new place key old middle new adds sets k = grind arith

pub wanted_new : (place : LinkPlace) (key : ℕ) (old middle new : Entries) → AddsBlank place old middle key → SetsWanted key true middle new → IsWanted new place
wanted_new place key old middle new adds sets = grind arith

-- what was wanted before and what is wanted then is wanted
pub wants_on : (A B C : LinkPlace → Type 0) → ((p : LinkPlace) → A p → C p) → ((p : LinkPlace) → B p → C p) → (old middle new : Option Entry) → Wants A old middle → Wants B middle new → Wants C old new
wants_on A B C a_in b_in old middle new (inl same) (inl e) = inl (e ∙ same)
wants_on A B C a_in b_in old middle new (inl same) (inr (inl w)) = inr (inl (w.0, sym same ∙ w.1, b_in w.0.place w.2, w.3))
wants_on A B C a_in b_in old middle new (inl same) (inr (inr w)) = inr (inr (w.0, sym same ∙ w.1, b_in w.0 w.2, w.3))
wants_on A B C a_in b_in old middle new (inr (inl v)) (inl e) = inr (inl (v.0, v.1, a_in v.0.place v.2, e ∙ v.3))
wants_on A B C a_in b_in old middle new (inr (inl v)) (inr (inl w)) = grind arith
wants_on A B C a_in b_in old middle new (inr (inl v)) (inr (inr w)) = absurd (let k : ◌≡◌ {A = Option Entry} (Some (record v.0 { wanted = true })) None = sym v.3 ∙ w.1 in cc)
wants_on A B C a_in b_in old middle new (inr (inr v)) (inl e) = inr (inr (v.0, v.1, a_in v.0 v.2, e ∙ v.3))
wants_on A B C a_in b_in old middle new (inr (inr v)) (inr (inl w)) = grind arith
wants_on A B C a_in b_in old middle new (inr (inr v)) (inr (inr w)) = grind arith

wants_stand : (A : LinkPlace → Type 0) (old new : Option Entry) → Wants A old new → stand_in new ≡ stand_in old
wants_stand A old new (inl same) = ap stand_in same
wants_stand A old new (inr (inl w)) = ap stand_in w.3 ∙ sym (ap stand_in w.1)
wants_stand A old new (inr (inr w)) = ap stand_in w.3 ∙ sym (ap stand_in w.1)

pub wants_alike : (A : LinkPlace → Type 0) (old new : Entries) → ((key : ℕ) → Wants A (entry_at old key) (entry_at new key)) → StandAlike old new
wants_alike A old new wants key = wants_stand A (entry_at old key) (entry_at new key) (wants key)

pub wanted_on : (A : LinkPlace → Type 0) (old new : Entries) (place : LinkPlace) → ((key : ℕ) → Wants A (entry_at old key) (entry_at new key)) → IsWanted old place → IsWanted new place
wanted_on A old new place wants w = grind arith
