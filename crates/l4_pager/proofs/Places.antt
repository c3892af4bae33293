-- Where the entry for a page stands.
use Rattle.std.proofs.Common.{◌≡◌, ℕ, zero, suc, ◌≤◌, ◌&&◌, Bool, true, false, cond, nat_lt, List, [], ◌∷◌, Some, None, length, get_or, refl, sym, ap, ◌∙◌, subst, arith}
use Rattle.std.specs.Prelude.{position, slice_get}
use Rattle.std.specs.List.{find, AllPairs, position_or_len}
use Rattle.std.proofs.lemmas.Option.{slice_get_within, get_or_from_slice_get, slice_get_read, slice_get_past}
use Rattle.std.proofs.lemmas.List.Folds.{find_at}
use Rattle.std.proofs.lemmas.Bool.Decides.{nat_tests}
use Rattle.std.proofs.lemmas.List.Quantifiers.{position-Some}
use Rattle.l4_fpage.specs.Rights.{RightsSet}
use Rattle.l4_pager.specs.declared.regions.Entry.{Entry}
use Rattle.l4_pager.specs.Regions.{Meet, serves, entry_for}

left : (a b : Bool) → a && b ≡ true → a ≡ true
left true b h = refl
left false b h = h

-- two entries for a page meet
serve_one : (page : ℕ) (access : RightsSet) (a b : Entry) → serves page access a ≡ true → serves page access b ≡ true → Meet a b
serve_one page access a b ha hb = (page, left _ _ ha, left _ _ hb)

-- of entries that don't meet the one for a page is the first one
pub only_one : (es : List Entry) (page : ℕ) (access : RightsSet) (place : ℕ) (e : Entry) → AllPairs (λ a b. ¬ Meet a b) es → slice_get es place ≡ Some e → serves page access e ≡ true → entry_for es page access ≡ Some e
only_one [] page access place e apart at h = absurd (cc)
only_one (x ∷ es) page access zero e apart at h =
    let same : x ≡ e = cc in
    ap (λ b. cond b (Some x) (find (serves page access) es)) (subst (λ (y : Entry). serves page access y ≡ true) (sym same) h) ∙ ap Some same
only_one (x ∷ es) page access (suc place) e apart at h =
    let later : slice_get es place ≡ Some e = at in
    elim (serves page access x) as (λ b. serves page access x ≡ b → cond b (Some x) (find (serves page access) es) ≡ Some e) [
      | true ↦ λ t.
          absurd (apart 0 (suc place) x (omega arith) (omega (arith, slice_get_within es place e later))
          (serve_one page access x (get_or es place x) t (subst (λ (y : Entry). serves page access y ≡ true) (sym (get_or_from_slice_get es place e x later)) h)))
      | false ↦ λ t. only_one es page access place e (λ i j d lt within. apart (suc i) (suc j) d (omega arith) (omega arith)) later h
    ] refl

none_of : (n m : ℕ) → cond (nat_lt n m) (Some n) None ≡ None → m ≤ n
none_of n m h =
    elim (nat_lt n m) as (λ b. nat_lt n m ≡ b → cond b (Some n) None ≡ None → m ≤ n) [
      | true ↦ λ t is. absurd (cc)
      | false ↦ λ t is. grind (arith, nat_tests, t)
    ] refl h

some_of : (b : Bool) (n place : ℕ) → cond b (Some n) None ≡ Some place → n ≡ place
some_of true n place h = cc
some_of false n place h = absurd (cc)

-- no entry is for the page
pub none_placed : (es : List Entry) (page : ℕ) (access : RightsSet) → None ≡ position (serves page access) es → entry_for es page access ≡ None
none_placed es page access h =
    find_at (serves page access) es ∙ slice_get_past es (position_or_len (serves page access) es) (none_of (position_or_len (serves page access) es) (length es) (sym h))

found_at : (p : Entry → Bool) (es : List Entry) (place : ℕ) (e : Entry) → position p es ≡ Some place → slice_get es place ≡ Some e → find p es ≡ Some e
found_at p es place e h at = find_at p es ∙ ap (slice_get es) (some_of (nat_lt (position_or_len p es) (length es)) (position_or_len p es) place h) ∙ at

-- the first entry for the page
pub placed : (es : List Entry) (page : ℕ) (access : RightsSet) (place : ℕ) (e : Entry) → Some place ≡ position (serves page access) es → e ≡ get_or es place e
    → (entry_for es page access ≡ Some e) × (slice_get es place ≡ Some e)
placed es page access place e h is =
    let at : slice_get es place ≡ Some e = slice_get_read es (length es) place e refl (position-Some (serves page access) es place e (sym h)).0 is in
    (found_at (serves page access) es place e (sym h) at, at)

-- the entry at a place that was guessed
pub guessed : (es now seen : List Entry) (page : ℕ) (access : RightsSet) (place : ℕ) (e : Entry) → es ≡ seen → now ≡ es → AllPairs (λ a b. ¬ Meet a b) es
    → (slice_get now place ≡ Some e) × (serves page access e ≡ true) → (entry_for seen page access ≡ Some e) × (slice_get seen place ≡ Some e)
guessed es now seen page access place e view is apart h =
    let at : slice_get es place ≡ Some e = subst (λ (t : List Entry). slice_get t place ≡ Some e) is h.0 in
    subst (λ (t : List Entry). (entry_for t page access ≡ Some e) × (slice_get t place ≡ Some e)) view (only_one es page access place e apart at h.1, at)
