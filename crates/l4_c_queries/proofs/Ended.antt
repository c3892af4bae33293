-- The threads whose calls ended, written entry by entry.
use Rattle.std.proofs.Common.{◌≡◌, ℕ, ◌+◌, ◌*◌, ◌-◌, ◌<◌, ◌≤◌, ◌⊎◌, inl, inr, List, [], ◌∷◌, ◌++◌, length, drop, sym, ap, ◌∙◌, refl, subst, arith, length-append}
use Rattle.std.proofs.lemmas.List.{append-nil, append_assoc, drop-drop}
use Rattle.l4_record.specs.Segments.{kept}
use Rattle.l4_record.specs.declared.entries.Entry.{Entry}
use Rattle.l4_c_queries.specs.Placed.{placed, placed_behind}
use Rattle.l4_c_queries.specs.Recalled.{ended_in, ListsEnded}
use Rattle.l4_c_queries.specs.Inside.Recalled.{WritesEnded}
use Rattle.l4_c_queries.specs.declared.descending.CountResult.{CountResult}
use Rattle.l4_c_queries.proofs.Placing.{placed_then}

-- those of the first entries are written; these entries are left
pub record EndedSoFar (all left : List Entry) (count : ℕ) (old out : List ℕ) : Type 0 where
  pub told : List ℕ
  pub whole : told ++ ended_in left ≡ ended_in all
  pub number : count ≡ length told
  pub written : out ≡ placed told old
  pub few : count + 64 * length left ≤ 64 * length all

pub ended_first : (all left : List Entry) (old : List ℕ) → left ≡ all → EndedSoFar all left 0 old old
ended_first all left old same = record {
  told = [];
  whole = ap ended_in same;
  number = refl;
  written = refl;
  few = (let e = ap length same in omega (arith, e));
}

pub ended_next : (all left rest : List Entry) (entry : Entry) (count next : ℕ) (seen old out new : List ℕ) → left ≡ entry ∷ rest → EndedSoFar all left count old out
    → seen ≡ entry.answer.ended.items → length seen ≤ 64 → next ≡ count + length seen → new ≡ placed_behind count seen out → EndedSoFar all rest next old new
ended_next all left rest entry count next seen old out new steps s same few sum behind = record {
  told = s.told ++ seen;
  whole = append_assoc s.told seen (ended_in rest) ∙ ap (λ (l : List ℕ). s.told ++ (l ++ ended_in rest)) same ∙ ap (λ (l : List Entry). s.told ++ ended_in l) (sym steps) ∙ s.whole;
  number = (let n = s.number in let a = length-append s.told seen in omega (arith, n, a, sum));
  written = placed_then s.told seen old out new count s.number s.written behind;
  few = (let f = s.few in let e = ap length steps in omega (arith, f, e, few, sum));
}

pub ended_all : (all left : List Entry) (count : ℕ) (old out : List ℕ) → left ≡ [] → EndedSoFar all left count old out → WritesEnded all old count out
ended_all all left count old out none s =
    let whole : s.told ≡ ended_in all = sym (append-nil s.told) ∙ ap (λ (l : List Entry). s.told ++ ended_in l) (sym none) ∙ s.whole in
    (s.number ∙ ap length whole, s.written ∙ ap (λ (l : List ℕ). placed l old) whole)

pub lists_ended : (kept_from number first count : ℕ) (history es : List Entry) (old out : List ℕ) (r : CountResult) → first ≡ kept_from → kept_from ≤ number → es ≡ kept kept_from history
    → WritesEnded (drop (number - first) es) old count out → r ≡ record { refusal = 0; count = count } → ListsEnded kept_from history number old r out
lists_ended kept_from number first count history es old out r begins le is w told =
    let place : kept_from + (number - kept_from) ≡ number = omega (arith, le) in
    let same : drop (number - first) es ≡ drop number history =
    (λ i. drop (number - begins i) (is i)) ∙ drop-drop (number - kept_from) kept_from history ∙ ap (λ (n : ℕ). drop n history) place in
    inr (le, told ∙ ap (λ (n : ℕ). record { refusal = 0; count = n }) (w.0 ∙ ap (λ (l : List Entry). length (ended_in l)) same), w.1 ∙ ap (λ (l : List Entry). placed (ended_in l) old) same)
