-- The present pages of a space, written one after another.
use Rattle.std.proofs.Common.{◌≡◌, ℕ, Bool, true, false, nat_lt, Some, None, IsTrue, is_some, ◌+◌, ◌<◌, ◌≤◌, List, [], ◌∷◌, ◌++◌, length, get_or, Contains, Option, sym, ap, subst, ◌∙◌, refl, arith, inl, inr, ◌⊎◌, ◌↔◌, length-append}
use Rattle.std.proofs.lemmas.List.{append-nil, get_or_default}
use Rattle.std.proofs.lemmas.List.Quantifiers.{all_pairs_push}
use Rattle.std.proofs.lemmas.List.Elements.{Contains-push, Contains-push_cases, Contains-append_left}
use Rattle.std.proofs.lemmas.Bool.{false≢true}
use Rattle.std.proofs.lemmas.Bool.Decides.{nat_tests}
use Rattle.std.proofs.lemmas.Grind.{flat_map-append}
use Rattle.std.specs.Option.{option_map_or}
use Rattle.std.specs.List.{flat_map, AllPairs}
use Rattle.l4_mapdb.specs.declared.Place.{Place}
use Rattle.l4_mapdb.specs.declared.Mapping.{Mapping}
use Rattle.l4_mapdb.specs.Mappings.{Mappings, shown, IsPresent}
use Rattle.l4_forest.specs.Places.{NonePresentFrom, IsNextPresent}
use Rattle.l4_fpage.specs.Pages.{space_pages}
use Rattle.l4_fpage.specs.declared.sizes.PageSize.{PageSize}
use Rattle.l4_ipc.specs.Machine.{Machine}
use Rattle.l4_ipc.specs.SpacePages.{FitIn}
use Rattle.l4_c_queries.specs.Placed.{placed, placed_behind}
use Rattle.l4_c_queries.specs.Mapped.{mapped_result, mapped_results, ListsMappings}
use Rattle.l4_c_queries.specs.Inside.Mapped.{WritesMappings}
use Rattle.l4_c_queries.specs.declared.descending.CountResult.{CountResult}
use Rattle.l4_c_queries.specs.declared.mapped.MappedResult.{MappedResult}
use Rattle.l4_c_queries.proofs.Placing.{placed_then, placed_none}

abbrev here : ℕ → ℕ → Place
here space page = record { space = space; page = page }

below_or : (a b : ℕ) → (a < b) ⊎ (b ≤ a)
below_or a b =
    elim (nat_lt a b) as (λ v. nat_lt a b ≡ v → (a < b) ⊎ (b ≤ a)) [
      | true ↦ λ t. inl (let lt : a < b = grind (arith, nat_tests) in lt)
      | false ↦ λ f. inr (let le : b ≤ a = grind (arith, nat_tests) in le)
    ] refl

-- the results for one page, as the mappings show it
abbrev result_of : ℕ → Option Mapping → List MappedResult
result_of page o = option_map_or (λ (m : Mapping). mapped_result page m ∷ []) o []

pub one_there : (s : Mappings) (space page : ℕ) (o : Option Mapping) (m : Mapping) → o ≡ Some m → shown s (here space page) ≡ o → mapped_results s space (page ∷ []) ≡ mapped_result page m ∷ []
one_there s space page o m is read = ap (λ (p : Option Mapping). result_of page p ++ []) (read ∙ is)

pub one_missing : (s : Mappings) (space page : ℕ) (o : Option Mapping) → o ≡ None → shown s (here space page) ≡ o → mapped_results s space (page ∷ []) ≡ []
one_missing s space page o is read = ap (λ (p : Option Mapping). result_of page p ++ []) (read ∙ is)

-- a present page has one result
one_result : (page : ℕ) (o : Option Mapping) → IsTrue (is_some o) → length (result_of page o ++ []) ≡ 1
one_result page None never = absurd (false≢true never)
one_result page (Some m) is = refl

-- the pages written so far, all below the next one that is looked at
pub record Mapped (m : Machine) (space first «from» count : ℕ) (old out : List MappedResult) : Type 0 where
  pub pages : List ℕ
  pub rising : AllPairs (λ a b. a < b) pages
  pub each : (page : ℕ) → Contains pages page ↔ ((first ≤ page) × (page < «from») × IsPresent m.mappings (here space page))
  pub number : count ≡ length pages
  pub results : count ≡ length (mapped_results m.mappings space pages)
  pub few : first + count ≤ «from»
  pub written : out ≡ placed (mapped_results m.mappings space pages) old

pub mapped_first : (m : Machine) (space first : ℕ) (old : List MappedResult) → Mapped m space first first 0 old old
mapped_first m space first old = record {
  pages = [];
  rising = λ i j d less short. absurd (omega (arith, short));
  each = λ q. (λ h. let short = h.1 in absurd (omega (arith, short)), λ h. let a = h.0 in let b = h.1 in absurd (omega (arith, a, b)));
  number = refl;
  results = refl;
  few = omega arith;
  written = refl;
}

pub mapped_more : (m : Machine) (space first «from» count : ℕ) (old out new : List MappedResult) (page : ℕ)
    → Mapped m space first «from» count old out → IsNextPresent m.mappings space «from» page → new ≡ placed_behind count (mapped_results m.mappings space (page ∷ [])) out
    → Mapped m space first (page + 1) (count + 1) old new
mapped_more m space first «from» count old out new page l next written =
    let joined : mapped_results m.mappings space (l.pages ++ page ∷ []) ≡ mapped_results m.mappings space l.pages ++ mapped_results m.mappings space (page ∷ []) =
    flat_map-append (λ (q : ℕ). result_of q (shown m.mappings (here space q))) l.pages (page ∷ []) in
    let one : length (mapped_results m.mappings space (page ∷ [])) ≡ 1 = one_result page (shown m.mappings (here space page)) next.present in
    record {
      pages = l.pages ++ page ∷ [];
      rising = all_pairs_push (λ x y. x < y) l.pages page l.rising (λ k d short.
          let c : Contains l.pages (get_or l.pages k d) = (k, short, get_or_default l.pages k _ d short) in
          let below = ((l.each (get_or l.pages k d)).0 c).1 in
          let le = next.«from» in
          omega arith);
      each = λ q. (
        λ h. elim (Contains-push_cases l.pages page q h) [
          | inl was ↦ let w = (l.each q).0 was in let a = w.1 in let le = next.«from» in (w.0, omega arith, w.2)
          | inr is ↦
              let le = next.«from» in
              let few = l.few in (omega (arith, is), omega (arith, is), subst (λ (p : ℕ). IsPresent m.mappings (here space p)) is next.present)
        ],
        λ h. elim (below_or q «from») [
          | inl below ↦ Contains-append_left l.pages (page ∷ []) q ((l.each q).1 (h.0, below, h.2))
          | inr above ↦
              let least : page ≤ q = next.least q above h.2 in
              let a = h.1 in
              let same : page ≡ q = omega arith in
              subst (λ (p : ℕ). Contains (l.pages ++ page ∷ []) p) same (Contains-push l.pages page)
        ],
      );
      number = omega (arith, l.number, length-append l.pages (page ∷ []));
      results = (let r = l.results in let j = ap length joined in let a = length-append (mapped_results m.mappings space l.pages) (mapped_results m.mappings space (page ∷ [])) in omega (arith, r, j, a, one));
      few = omega (arith, l.few, next.«from»);
      written = placed_then (mapped_results m.mappings space l.pages) (mapped_results m.mappings space (page ∷ [])) old out new count l.results l.written written
          ∙ ap (λ (rs : List MappedResult). placed rs old) (sym joined);
    }

pub mapped_end : (m : Machine) (space first «from» count : ℕ) (old out : List MappedResult)
    → Mapped m space first «from» count old out → NonePresentFrom m.mappings space «from» → WritesMappings m space first old count out
mapped_end m space first «from» count old out l none = record {
  pages = l.pages;
  rising = l.rising;
  each = λ q. (
    λ h. let w = (l.each q).0 h in (w.0, w.2),
    λ h.
        let at : q < «from» = elim (below_or q «from») [ inl lt ↦ lt | inr le ↦ absurd (none q le h.1) ] in
        (l.each q).1 (h.0, at, h.1),
  );
  number = l.number;
  written = l.written;
}

-- a present page is one of a space's
fits : (size : PageSize) (s : Mappings) (place : Place) → FitIn size s → IsPresent s place → place.page < space_pages size
fits size s place fit is =
    elim (shown s place) as (λ o. shown s place ≡ o → IsTrue (is_some o) → place.page < space_pages size) [
      | None ↦ λ _ never. absurd (false≢true never)
      | Some m ↦ λ e _. fit place m e
    ] refl is

-- no present page is beyond the space
pub mapped_beyond : (m : Machine) (space first «from» count : ℕ) (old out : List MappedResult) (page end : ℕ) (size : PageSize)
    → FitIn m.size m.mappings → size ≡ m.size → end ≡ space_pages size → IsNextPresent m.mappings space «from» page → end ≤ page → WritesMappings m space first old count out
mapped_beyond m space first «from» count old out page end size fit sized is next beyond =
    let lt = fits m.size m.mappings (here space page) fit next.present in
    absurd (omega (arith, lt, beyond, is ∙ ap space_pages sized))

pub lists_mappings : (m : Machine) (space first count : ℕ) (old out : List MappedResult) (r : CountResult) → WritesMappings m space first old count out → r ≡ record { refusal = 0; count = count }
    → ListsMappings m space first old r out
lists_mappings m space first count old out r w is = record {
  pages = w.pages;
  rising = w.rising;
  each = w.each;
  counted = is ∙ ap (λ (n : ℕ). record { refusal = 0; count = n }) w.number;
  written = w.written;
}
