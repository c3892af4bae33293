-- The least number of a space, as the list of spaces has it.
use Rattle.std.proofs.Common.{◌≡◌, ℕ, zero, suc, ◌≤◌, ◌||◌, Bool, true, false, nat_eq, [], ◌∷◌, length, slice_get, Option, Some, None, MatchOption, refl, sym, ap, ◌∙◌, subst, inl, inr, arith}
use Rattle.std.proofs.lemmas.Bool.{cases_eq}
use Rattle.std.proofs.lemmas.Option.{slice_get_within, slice_get_read}
use Rattle.l4_spaces.specs.Tables.{Tables}
use Rattle.l4_spaces.specs.Listed.{NoSpaceFrom, IsNextSpace}
use Rattle.l4_spaces.specs.Inside.Leasts.{Stands, LeastSoFar}
use Rattle.l4_spaces.specs.Inside.Seen.{Space, Live, has, shown}
use Rattle.l4_spaces.proofs.Finding.{eq_no}
use Rattle.l4_spaces.proofs.Showing.{stands}
use Rattle.l4_spaces.proofs.Least.{least_next}

has_stands : (ss : Live) (k : ℕ) → has ss k ≡ true → Stands ss k
has_stands [] k h = absurd (let e : false ≡ true = h in cc)
has_stands (s ∷ ss) k h = elim (cases_eq s.0 k) [
  | inl e ↦ record { at = 0; entry = s; there = refl; number = e }
  | inr ne ↦
      let r = has_stands ss k (sym (ap (λ b. b || has ss k) (eq_no s.0 k ne)) ∙ h) in
      record { at = suc r.at; entry = r.entry; there = r.there; number = r.number }
]

or_true : (b : Bool) → (b || true) ≡ true
or_true true = refl
or_true false = refl

stands_has : (ss : Live) (i : ℕ) (s : Space) → slice_get ss i ≡ Some s → has ss s.0 ≡ true
stands_has [] i s h = absurd (let e : ◌≡◌ {A = Option Space} None (Some s) = h in cc)
stands_has (x ∷ ss) zero s h = grind arith
stands_has (x ∷ ss) (suc i) s h = ap (λ b. nat_eq x.0 s.0 || b) (stands_has ss i s h) ∙ or_true (nat_eq x.0 s.0)

pub next_is : (ss : Live) (t : Tables) (from i : ℕ) → shown ss ≡ t → length ss ≤ i → (o : Option ℕ) → LeastSoFar from ss i o → MatchOption o (NoSpaceFrom t.spaces from) (IsNextSpace t.spaces from)
next_is ss t from i view all None h = λ other le there.
    let s = has_stands ss other (sym (stands ss t other view) ∙ there) in
    let within = slice_get_within ss s.at s.entry s.there in
    let below = h s.at s.entry (omega (arith, within, all)) s.there in
    absurd (omega (arith, below, s.number, le))
next_is ss t from i view all (Some n) h = record {
  there = stands ss t n view ∙ subst (λ (m : ℕ). has ss m ≡ true) h.0.number (stands_has ss h.0.at h.0.entry h.0.there);
  from = h.1;
  least = λ other le there.
      let s = has_stands ss other (sym (stands ss t other view) ∙ there) in
      let within = slice_get_within ss s.at s.entry s.there in
      subst (λ (m : ℕ). n ≤ m) s.number (h.2 s.at s.entry (omega (arith, within, all)) s.there (let e = s.number in omega (arith, e, le)));
}

pub ruleset leasts = (slice_get_read, least_next, next_is)
