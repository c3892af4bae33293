-- The present pages of a space, listed one after another.
use Rattle.std.proofs.Common.{◌≡◌, ℕ, Bool, true, false, nat_lt, Some, None, IsTrue, is_some, ◌+◌, ◌<◌, ◌≤◌, List, [], ◌∷◌, ◌++◌, length, get_or, Contains, Option, sym, ap, subst, ◌∙◌, refl, arith, inl, inr, ◌⊎◌, ◌↔◌, length-append}
use Rattle.std.proofs.lemmas.List.{append-nil, get_or_default}
use Rattle.std.proofs.lemmas.List.Quantifiers.{all_pairs_push}
use Rattle.std.proofs.lemmas.List.Elements.{Contains-push, Contains-push_cases, Contains-append_left}
use Rattle.std.proofs.lemmas.Bool.{false≢true}
use Rattle.std.proofs.lemmas.Bool.Decides.{nat_tests}
use Rattle.std.proofs.lemmas.Grind.{flat_map-append}
use Rattle.std.specs.List.{flat_map, AllPairs}
use Rattle.l4_mapdb.specs.declared.Place.{Place}
use Rattle.l4_mapdb.specs.Mappings.{Mappings, shown, IsPresent}
use Rattle.l4_forest.specs.Places.{NonePresentFrom, IsNextPresent}
use Rattle.l4_fpage.specs.Pages.{space_pages}
use Rattle.l4_fpage.specs.declared.sizes.PageSize.{PageSize}
use Rattle.l4_ipc.specs.Machine.{Machine}
use Rattle.l4_ipc.specs.SpacePages.{FitIn}
use Rattle.l4_answers.specs.Pages.{shown_text}
use Rattle.l4_text.specs.Streams.{Tells}
use Rattle.l4_text.proofs.Telling.{tells_more, tells_is}
use Rattle.l4_step_lines.specs.Lists.{place_in, place_line, ListsPages}
use Rattle.l4_step_lines.specs.Inside.Telling.{TellsPages}

below_or : (a b : ℕ) → (a < b) ⊎ (b ≤ a)
below_or a b =
    elim (nat_lt a b) as (λ v. nat_lt a b ≡ v → (a < b) ⊎ (b ≤ a)) [
      | true ↦ λ t. inl (let lt : a < b = grind (arith, nat_tests) in lt)
      | false ↦ λ f. inr (let le : b ≤ a = grind (arith, nat_tests) in le)
    ] refl

-- the pages listed so far, all below the next one that is looked at
pub record Listed (m : Machine) (space «from» shown : ℕ) (written now : Option (List ℕ)) (before after : List ℕ × Bool) : Type 0 where
  pub pages : List ℕ
  pub rising : AllPairs (λ a b. a < b) pages
  pub each : (page : ℕ) → Contains pages page ↔ ((page < «from») × IsPresent m.mappings (place_in space page))
  pub number : shown ≡ length pages
  pub few : shown ≤ «from»
  pub tells : Tells written now before after (flat_map (place_line m space) pages)

pub listed_more : (m : Machine) (space «from» shown : ℕ) (written a b : Option (List ℕ)) (before s t : List ℕ × Bool) (page : ℕ)
    → Listed m space «from» shown written a before s → IsNextPresent m.mappings space «from» page → Tells a b s t (place_line m space page)
    → Listed m space (page + 1) (shown + 1) written b before t
listed_more m space «from» shown written a b before s t page l next tells = record {
  pages = l.pages ++ page ∷ [];
  rising = all_pairs_push (λ x y. x < y) l.pages page l.rising (λ k d short.
      let c : Contains l.pages (get_or l.pages k d) = (k, short, get_or_default l.pages k _ d short) in
      let below = ((l.each (get_or l.pages k d)).0 c).0 in
      let le = next.«from» in
      omega arith);
  each = λ q. (
    λ h. elim (Contains-push_cases l.pages page q h) [
      | inl was ↦ let w = (l.each q).0 was in let a = w.0 in let le = next.«from» in (omega arith, w.1)
      | inr is ↦ (omega (arith, is), subst (λ (p : ℕ). IsPresent m.mappings (place_in space p)) is next.present)
    ],
    λ h. elim (below_or q «from») [
      | inl below ↦ Contains-append_left l.pages (page ∷ []) q ((l.each q).1 (below, h.1))
      | inr above ↦
          let least : page ≤ q = next.least q above h.1 in
          let a = h.0 in
          let same : page ≡ q = omega arith in
          subst (λ (p : ℕ). Contains (l.pages ++ page ∷ []) p) same (Contains-push l.pages page)
    ],
  );
  number = omega (arith, l.number, length-append l.pages (page ∷ []));
  few = omega (arith, l.few, next.«from»);
  tells = tells_is written b before t _ _ (ap (λ x. flat_map (place_line m space) l.pages ++ x) (sym (append-nil (place_line m space page)))
      ∙ sym (flat_map-append (place_line m space) l.pages (page ∷ []))) (tells_more written a b before s t _ _ l.tells tells);
}

pub listed_end : (m : Machine) (space «from» shown : ℕ) (written a : Option (List ℕ)) (before s : List ℕ × Bool)
    → Listed m space «from» shown written a before s → NonePresentFrom m.mappings space «from» → TellsPages m space shown written a before s
listed_end m space «from» shown written a before s l none = record {
  pages = l.pages;
  rising = l.rising;
  each = λ q. (
    λ h. ((l.each q).0 h).1,
    λ h.
        let at : q < «from» = elim (below_or q «from») [ inl lt ↦ lt | inr le ↦ absurd (none q le h) ] in
        (l.each q).1 (at, h),
  );
  number = l.number;
  tells = l.tells;
}

-- a present page is one of a space's
fits : (size : PageSize) (s : Mappings) (place : Place) → FitIn size s → IsPresent s place → place.page < space_pages size
fits size s place fit is =
    elim (shown s place) as (λ o. shown s place ≡ o → IsTrue (is_some o) → place.page < space_pages size) [
      | None ↦ λ _ never. absurd (false≢true never)
      | Some m ↦ λ e _. fit place m e
    ] refl is

-- no present page is beyond the space
pub listed_beyond : (m : Machine) (space «from» shown : ℕ) (written a : Option (List ℕ)) (before s : List ℕ × Bool) (page end : ℕ) (size : PageSize)
    → FitIn m.size m.mappings → size ≡ m.size → end ≡ space_pages size → IsNextPresent m.mappings space «from» page → end ≤ page → TellsPages m space shown written a before s
listed_beyond m space «from» shown written a before s page end size fit sized is next beyond =
    let lt = fits m.size m.mappings (place_in space page) fit next.present in
    absurd (omega (arith, lt, beyond, is ∙ ap space_pages sized))

-- all of them were listed, and then their number
pub lists_pages : (m : Machine) (space shown : ℕ) (written a b : Option (List ℕ)) (before s t : List ℕ × Bool)
    → TellsPages m space shown written a before s → Tells a b s t (shown_text shown)
    → (text : List ℕ) × ListsPages m space text × Tells written b before t text
lists_pages m space shown written a b before s t l tells = (
  flat_map (place_line m space) l.pages ++ shown_text (length l.pages),
  record { pages = l.pages; rising = l.rising; each = l.each; text_is = refl },
  tells_is written b before t _ _ (ap (λ n. flat_map (place_line m space) l.pages ++ shown_text n) l.number) (tells_more written a b before s t _ _ l.tells tells),
)
