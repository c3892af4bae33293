-- The last calls of threads, as they are kept, and as a contract sees them.
use Rattle.std.proofs.Common.{◌≡◌, ℕ, Bool, true, false, cond, List, [], ◌∷◌, ◌++◌, Option, Some, None, refl, sym, ap, ◌∙◌}
use Rattle.std.specs.BTreeMap.{is_at}
use Rattle.std.specs.Cmp.{nat_cmp_total, eq_by_cmp_equiv}
use Rattle.std.specs.FinMap as fin
use Rattle.std.specs.FinMap.{nat_cmp-IsAntisymmetric}
use Rattle.std.specs.Map.{lookup}
use Rattle.std.specs.Option.{unwrap_or}
use Rattle.std.specs.Ordering.{nat_cmp, eq_by_cmp}
use Rattle.l4_judging.specs.Calls.{Calls, call_text, last_call, with_last}

abbrev pub Kept : Type 0
Kept = List (ℕ × List ℕ)

abbrev pub at : ℕ → Kept → Option (List ℕ)
at n es = lookup (is_at (nat_cmp n)) es

abbrev pub seen : Kept → Calls
seen es = fin.from_entries es

same_key : (a b : ℕ) → is_at (nat_cmp a) b ≡ eq_by_cmp nat_cmp b a
same_key a b = (eq_by_cmp_equiv nat_cmp_total).symm a b

found : (es : Kept) (q : ℕ) → fin.find nat_cmp q es ≡ at q es
found [] q = refl
found (e ∷ es) q = ap (λ (o : Option (List ℕ)). cond (is_at (nat_cmp q) e.0) (Some e.1) o) (found es q)

got : (es : Kept) (q : ℕ) → fin.get (seen es) q ≡ at q es
got es q = fin.get-from_entries nat_cmp_total es q ∙ found es q

put : (es new : Kept) (n : ℕ) (v : List ℕ) → ((q : ℕ) → at q new ≡ cond (is_at (nat_cmp n) q) (Some v) (at q es)) → seen new ≡ fin.insert (seen es) n v
put es new n v h = fin.same_map nat_cmp_total nat_cmp-IsAntisymmetric _ _ (λ q.
    got new q ∙ h q ∙ ap (λ b. cond b (Some v) (at q es)) (same_key n q)
    ∙ ap (cond (eq_by_cmp nat_cmp q n) (Some v)) (sym (got es q)) ∙ sym (fin.get-insert nat_cmp_total (seen es) n v q))

-- a call was kept
pub kept : (calls : Calls) (es new : Kept) (keeps : Bool) (thread : Option ℕ) (n number : ℕ) (line v : List ℕ) → seen es ≡ calls → thread ≡ Some n → keeps ≡ true → v ≡ call_text number line
    → ((q : ℕ) → at q new ≡ cond (is_at (nat_cmp n) q) (Some v) (at q es)) → seen new ≡ with_last keeps calls thread number line
kept calls es new keeps thread n number line v view is on v_is h =
    put es new n v h ∙ ap (λ (c : Calls). fin.insert c n v) view ∙ ap (λ (t : List ℕ). fin.insert calls n t) v_is
    ∙ sym (ap (λ (b : Bool). cond b (fin.insert calls n (call_text number line)) calls) on) ∙ sym (ap (λ (o : Option ℕ). with_last keeps calls o number line) is)

-- the last call of a thread
pub last_is : (calls : Calls) (es : Kept) (thread : Option ℕ) (n : ℕ) (v : List ℕ) → seen es ≡ calls → thread ≡ Some n → Some v ≡ at n es → v ≡ last_call calls thread
last_is calls es thread n v view is h =
    ap (λ (o : Option (List ℕ)). unwrap_or o []) (h ∙ sym (got es n)) ∙ ap (λ (c : Calls). unwrap_or (fin.get c n) []) view ∙ sym (ap (last_call calls) is)

pub last_none : (calls : Calls) (es : Kept) (thread : Option ℕ) (n : ℕ) → seen es ≡ calls → thread ≡ Some n → None ≡ at n es → last_call calls thread ≡ []
last_none calls es thread n view is h =
    ap (last_call calls) is ∙ sym (ap (λ (c : Calls). unwrap_or (fin.get c n) []) view) ∙ ap (λ (o : Option (List ℕ)). unwrap_or o []) (got es n ∙ sym h)
