-- The present pages of a space, listed one after another.
use Rattle.std.proofs.Common.{◌≡◌, ℕ, true, false, nat_lt, min, Some, ◌+◌, ◌<◌, ◌≤◌, List, [], ◌∷◌, ◌++◌, length, get_or, Contains, Option, sym, ap, subst, ◌∙◌, refl, arith, inl, inr, ◌⊎◌, ◌↔◌, length-append}
use Rattle.std.proofs.lemmas.List.{append-nil, get_or_default}
use Rattle.std.proofs.lemmas.List.Quantifiers.{all_pairs_push}
use Rattle.std.proofs.lemmas.List.Elements.{Contains-push, Contains-push_cases, Contains-append_left}
use Rattle.std.proofs.lemmas.Bool.Decides.{nat_tests}
use Rattle.std.proofs.lemmas.Grind.{flat_map-append}
use Rattle.std.specs.List.{flat_map, AllPairs}
use Rattle.l4_mapdb.specs.Mappings.{IsPresent}
use Rattle.l4_forest.specs.Places.{NonePresentFrom, IsNextPresent}
use Rattle.l4_fpage.specs.Pages.{space_pages}
use Rattle.l4_fpage.specs.declared.sizes.PageSize.{PageSize}
use Rattle.l4_ipc.specs.Machine.{Machine}
use Rattle.l4_answers.specs.Reports.{Report, RefusedLine, Shown, AddsAll}
use Rattle.l4_threads.specs.Threads.{space_of}
use Rattle.std.specs.Prelude.{MatchOption}
use Rattle.l4_answers.specs.Refusals.{kernel_refusal}
use Rattle.l4_ipc.specs.declared.steps.Refused.TheVariants.{UnknownThread}
use Rattle.l4_commands.specs.declared.requests.Request.{Request}
use Rattle.l4_commands.specs.declared.requests.Request.TheVariants.{TellParent, GiveName, TellReply, TellSteps}
use Rattle.l4_names.specs.Names.{Names}
use Rattle.l4_shell.specs.Sessions.{place_in, place_reports, ListsBelow, ListsPages, Shows, parent_answer, reply_answer, Session, TellsCount, naming_report, CarriesOut}
use Rattle.l4_answers.proofs.Adding.{adds_more, adds_is}

below_or : (a b : ℕ) → (a < b) ⊎ (b ≤ a)
below_or a b =
    elim (nat_lt a b) as (λ v. nat_lt a b ≡ v → (a < b) ⊎ (b ≤ a)) [
      | true ↦ λ t. inl (let lt : a < b = grind (arith, nat_tests) in lt)
      | false ↦ λ f. inr (let le : b ≤ a = grind (arith, nat_tests) in le)
    ] refl

-- the pages listed so far, all below the next one that is looked at
pub record Listed {T : Type 0} (m : Machine) (space first end «from» shown : ℕ) (has_told : T → T → List Report → Type 0) (before after : T) : Type 0 where
  pub pages : List ℕ
  pub rising : AllPairs (λ a b. a < b) pages
  pub each : (page : ℕ) → Contains pages page ↔ ((first ≤ page) × (page < «from») × (page < end) × IsPresent m.mappings (place_in space page))
  pub number : shown ≡ length pages
  pub few : first + shown ≤ «from»
  pub tells : AddsAll has_told before after (flat_map (place_reports m space) pages)

pub listed_more : {T : Type 0} (has_told : T → T → List Report → Type 0) (m : Machine) (space first end «from» shown : ℕ) (before s t : T) (page : ℕ)
    → Listed m space first end «from» shown has_told before s → IsNextPresent m.mappings space «from» page → page < end → AddsAll has_told s t (place_reports m space page)
    → Listed m space first end (page + 1) (shown + 1) has_told before t
listed_more has_told m space first end «from» shown before s t page l next lt tells = record {
  pages = l.pages ++ page ∷ [];
  rising = all_pairs_push (λ x y. x < y) l.pages page l.rising (λ k d short.
      let c : Contains l.pages (get_or l.pages k d) = (k, short, get_or_default l.pages k _ d short) in
      let below = ((l.each (get_or l.pages k d)).0 c).1 in
      let le = next.«from» in
      omega arith);
  each = λ q. (
    λ h. elim (Contains-push_cases l.pages page q h) [
      | inl was ↦ let w = (l.each q).0 was in let a = w.1 in let le = next.«from» in (w.0, omega arith, w.2, w.3)
      | inr is ↦
          let le = next.«from» in
          let few = l.few in (omega (arith, is), omega (arith, is), omega (arith, is), subst (λ (p : ℕ). IsPresent m.mappings (place_in space p)) is next.present)
    ],
    λ h. elim (below_or q «from») [
      | inl below ↦ Contains-append_left l.pages (page ∷ []) q ((l.each q).1 (h.0, below, h.2, h.3))
      | inr above ↦
          let least : page ≤ q = next.least q above h.3 in
          let a = h.1 in
          let same : page ≡ q = omega arith in
          subst (λ (p : ℕ). Contains (l.pages ++ page ∷ []) p) same (Contains-push l.pages page)
    ],
  );
  number = omega (arith, l.number, length-append l.pages (page ∷ []));
  few = omega (arith, l.few, next.«from»);
  tells = adds_is has_told before t _ _ (ap (λ x. flat_map (place_reports m space) l.pages ++ x) (sym (append-nil (place_reports m space page)))
      ∙ sym (flat_map-append (place_reports m space) l.pages (page ∷ []))) (adds_more has_told before s t _ _ l.tells tells);
}

-- no present page is left below the end
listed_all : {T : Type 0} (has_told : T → T → List Report → Type 0) (m : Machine) (space first end «from» shown : ℕ) (before s : T)
    → Listed m space first end «from» shown has_told before s
    → ((page : ℕ) → «from» ≤ page → page < end → IsPresent m.mappings (place_in space page) → ⊥)
    → ListsBelow m space first end shown has_told before s
listed_all has_told m space first end «from» shown before s l none = record {
  pages = l.pages;
  rising = l.rising;
  each = λ q. (
    λ h. let w = (l.each q).0 h in (w.0, w.2, w.3),
    λ h.
        let at : q < «from» = elim (below_or q «from») [ inl lt ↦ lt | inr le ↦ absurd (none q le h.1 h.2) ] in
        (l.each q).1 (h.0, at, h.1, h.2),
  );
  number = l.number;
  tells = l.tells;
}

pub listed_end : {T : Type 0} (has_told : T → T → List Report → Type 0) (m : Machine) (space first end «from» shown : ℕ) (before s : T)
    → Listed m space first end «from» shown has_told before s → NonePresentFrom m.mappings space «from» → ListsBelow m space first end shown has_told before s
listed_end has_told m space first end «from» shown before s l none = listed_all has_told m space first end «from» shown before s l (λ page le lt is. none page le is)

pub listed_beyond : {T : Type 0} (has_told : T → T → List Report → Type 0) (m : Machine) (space first end «from» shown : ℕ) (before s : T) (page : ℕ)
    → Listed m space first end «from» shown has_told before s → IsNextPresent m.mappings space «from» page → end ≤ page → ListsBelow m space first end shown has_told before s
listed_beyond has_told m space first end «from» shown before s page l next beyond =
    listed_all has_told m space first end «from» shown before s l (λ q le lt is. let least = next.least q le is in omega arith)

-- all of them were listed, and then their number
pub lists_pages : {T : Type 0} (has_told : T → T → List Report → Type 0) (m : Machine) (space first count end shown : ℕ) (before s t : T)
    → ((page : ℕ) → (page < end) ↔ ((page < first + count) × (page < space_pages m.size)))
    → ListsBelow m space first end shown has_told before s → AddsAll has_told s t (Shown shown ∷ [])
    → (told : List Report) × ListsPages m space first count told × AddsAll has_told before t told
lists_pages has_told m space first count end shown before s t end_is l tells = (
  flat_map (place_reports m space) l.pages ++ Shown (length l.pages) ∷ [],
  record {
    pages = l.pages;
    rising = l.rising;
    each = λ q. (
      λ h. let w = (l.each q).0 h in let e = (end_is q).0 w.1 in (w.0, e.0, e.1, w.2),
      λ h. (l.each q).1 (h.0, (end_is q).1 (h.1, h.2), h.3),
    );
    told_is = refl;
  },
  adds_is has_told before t _ _ (ap (λ n. flat_map (place_reports m space) l.pages ++ Shown n ∷ []) l.number) (adds_more has_told before s t _ _ l.tells tells),
)

-- the thread is there
pub shows_pages : {T : Type 0} (has_told : T → T → List Report → Type 0) (m : Machine) (line thread first count space : ℕ) (before t : T) → Some space ≡ space_of m.threads thread
    → (told : List Report) × ListsPages m space first count told × AddsAll has_told before t told → (told : List Report) × Shows m line thread first count told × AddsAll has_told before t told
shows_pages has_told m line thread first count space before t is l =
    (l.0, subst (λ (o : Option ℕ). MatchOption o (l.0 ≡ RefusedLine line (kernel_refusal UnknownThread) ∷ []) (λ s. ListsPages m s first count l.0)) is l.1, l.2)

-- the end of the pages that a line names
end_below : (first count sum end pages : ℕ) → pages ≤ 4294967295 → sum ≡ min (first + count) 4294967295 → end ≡ min sum pages → (page : ℕ) → (page < end) ↔ ((page < first + count) × (page < pages))
end_below first count sum end pages few a b page = (λ lt. (omega (arith, a, b), omega (arith, a, b)), λ h. let c = h.0 in let d = h.1 in omega (arith, a, b, few))

pub end_of : (m : Machine) (size : PageSize) (first count sum end pages : ℕ) → pages ≤ 4194304 → size ≡ m.size → pages ≡ space_pages size → sum ≡ min (first + count) 4294967295 → end ≡ min sum pages
    → (page : ℕ) → (page < end) ↔ ((page < first + count) × (page < space_pages m.size))
end_of m size first count sum end pages few sized is a b =
    subst (λ (p : ℕ). (page : ℕ) → (page < end) ↔ ((page < first + count) × (page < p))) (is ∙ ap space_pages sized) (end_below first count sum end pages (omega (arith, few)) a b)

-- the parent of a page was told, and nothing else was done
pub carries_parent : {T : Type 0} (has_told : T → T → List Report → Type 0) (names : Names) (m : Session) (read : Machine) (line thread page : ℕ) (request : Request) (before t : T) → request ≡ TellParent thread page → read ≡ m.machine
    → AddsAll has_told before t (parent_answer read line thread page ∷ []) → (told : List Report) × CarriesOut names m line request told m × AddsAll has_told before t told
carries_parent has_told names m read line thread page request before t is same tells = (
  parent_answer m.machine line thread page ∷ [],
  subst (λ (r : Request). CarriesOut names m line r (parent_answer m.machine line thread page ∷ []) m) (sym is) (refl, refl),
  subst (λ (x : Machine). AddsAll has_told before t (parent_answer x line thread page ∷ [])) same tells,
)

-- how a thread's last call ended was told, and nothing else was done
pub carries_reply : {T : Type 0} (has_told : T → T → List Report → Type 0) (names : Names) (m : Session) (read : Machine) (line thread : ℕ) (request : Request) (before t : T) → request ≡ TellReply thread → read ≡ m.machine
    → AddsAll has_told before t (reply_answer read line thread ∷ []) → (told : List Report) × CarriesOut names m line request told m × AddsAll has_told before t told
carries_reply has_told names m read line thread request before t is same tells = (
  reply_answer m.machine line thread ∷ [],
  subst (λ (r : Request). CarriesOut names m line r (reply_answer m.machine line thread ∷ []) m) (sym is) (refl, refl),
  subst (λ (x : Machine). AddsAll has_told before t (reply_answer x line thread ∷ [])) same tells,
)

-- how many entries there are was told
pub carries_count : {T : Type 0} (has_told : T → T → List Report → Type 0) (names : Names) (old new : Session) (line : ℕ) (request : Request) (before t : T) → request ≡ TellSteps
    → (told : List Report) × TellsCount old told new × AddsAll has_told before t told → (told : List Report) × CarriesOut names old line request told new × AddsAll has_told before t told
carries_count has_told names old new line request before t is e = (e.0, subst (λ (r : Request). CarriesOut names old line r e.0 new) (sym is) e.1, e.2)

-- a name was given, or refused
pub carries_name : {T : Type 0} (has_told : T → T → List Report → Type 0) (names : Names) (m : Session) (line thread : ℕ) (name : List ℕ) (request : Request) (before t : T) → request ≡ GiveName name thread
    → AddsAll has_told before t (naming_report names line name thread ∷ []) → (told : List Report) × CarriesOut names m line request told m × AddsAll has_told before t told
carries_name has_told names m line thread name request before t is tells = (
  naming_report names line name thread ∷ [],
  subst (λ (r : Request). CarriesOut names m line r (naming_report names line name thread ∷ []) m) (sym is) (refl, refl),
  tells,
)
