-- Entries that meet, and the entry for a page.
use Rattle.std.proofs.Common.{◌≡◌, ℕ, zero, suc, ◌+◌, ◌^◌, ◌<◌, ◌≤◌, ◌⊎◌, ◌&&◌, Bool, true, false, cond, nat_lt, List, [], ◌∷◌, ◌++◌, Some, length, get_or, inl, inr, refl, sym, ap, ◌∙◌, subst, arith, ◌*◌, ◌/◌, MatchOption, Option}
use Rattle.std.proofs.lemmas.Bool.Decides.{nat_tests}
use Rattle.std.proofs.lemmas.List.{get_or_default}
use Rattle.std.specs.List.{find, All}
use Rattle.std.proofs.lemmas.List.Elements.{All-push}
use Rattle.std.proofs.lemmas.List.Quantifiers.{all_pairs_push}
use Rattle.l4_fpage.specs.Rights.{RightsSet}
use Rattle.l4_pager.specs.declared.regions.Entry.{Entry}
use Rattle.l4_pager.specs.Regions.{IsBad, is_for, Meet, serves, entry_for, IsTable, CanAdd, Regions, AddFails, AnswersFault, source_of}
use Rattle.l4_fpage.specs.declared.sizes.PageSize.{PageSize}
use Rattle.l4_fpage.specs.declared.sizes.PageSize.TheVariants.{Kib1}
use Rattle.l4_fpage.specs.Pages.{space_pages, page_bytes, page_log}
use Rattle.l4_fpage.proofs.PageSizes.{pages_most}
use Rattle.l4_pager.specs.declared.regions.PagerRefusal.TheVariants.{Full}
use Rattle.l4_fpage.specs.Fpages.{bytes_of, rights_of}
use Rattle.l4_fpage.specs.declared.fpages.Fpage.{Fpage}
use Rattle.l4_msg.specs.declared.protocols.PageFault.{PageFault}
use Rattle.l4_msg.specs.declared.items.Item.TheVariants.{Map}
use Rattle.l4_msg.specs.Protocols.{nothing, one_item, GivesPages}

pub for_page : (e : Entry) (page : ℕ) → e.first ≤ page → page < e.first + e.count → is_for e page ≡ true
for_page e page from below = grind (arith, nat_tests, from, below)

pub from_for : (e : Entry) (page : ℕ) → is_for e page ≡ true → e.first ≤ page
from_for e page h = grind (arith, nat_tests, h)

pub below_for : (e : Entry) (page : ℕ) → is_for e page ≡ true → page < e.first + e.count
below_for e page h = grind (arith, nat_tests, h)

none_or_some : (n : ℕ) → (n ≡ 0) ⊎ (0 < n)
none_or_some zero = inl refl
none_or_some (suc n) = inr (omega arith)

le_or : (a b : ℕ) → (a ≤ b) ⊎ (b < a)
le_or zero b = inl (omega arith)
le_or (suc a) zero = inr (omega arith)
le_or (suc a) (suc b) = elim (le_or a b) [ inl h ↦ inl (omega (arith, h)) | inr h ↦ inr (omega (arith, h)) ]

pub has_page : (e : Entry) → ¬ IsBad Kib1 e → 0 < e.count
has_page e good = elim (none_or_some e.count) [ inl h ↦ absurd (good (inl h)) | inr h ↦ h ]

pub meets : (a b : Entry) → ¬ IsBad Kib1 a → ¬ IsBad Kib1 b → a.first < b.first + b.count → b.first < a.first + a.count → Meet a b
meets a b ga gb one two =
    let sa : 0 < a.count = has_page a ga in
    let sb : 0 < b.count = has_page b gb in
    elim (le_or a.first b.first) [
      | inl h ↦ (b.first, for_page a b.first h two, for_page b b.first (omega arith) (omega (arith, sb)))
      | inr h ↦ (a.first, for_page a a.first (omega arith) (omega (arith, sa)), for_page b a.first (omega (arith, h)) one)
    ]

pub met : (a b : Entry) → Meet a b → b.first < a.first + a.count
met a b h = omega (arith, from_for b h.0 h.2, below_for a h.0 h.1)

pub true_lt : (a b : ℕ) → a < b → nat_lt a b ≡ true
true_lt a b h = grind (arith, nat_tests, h)

pub lt_true : (a b : ℕ) → nat_lt a b ≡ true → a < b
lt_true a b h = grind (arith, nat_tests, h)

pub find_passes : (p : Entry → Bool) (P : Entry → Type 0) (xs : List Entry) (e : Entry) → All P xs → find p xs ≡ Some e → (p e ≡ true) × P e
find_passes p P [] e all h = absurd (cc)
find_passes p P (x ∷ xs) e all h =
    elim (p x) as (λ b. p x ≡ b → cond b (Some x) (find p xs) ≡ Some e → (p e ≡ true) × P e) [
      | true ↦ λ t is. let v : x ≡ e = cc in (subst (λ (y : Entry). p y ≡ true) v t, subst P v (all 0 x (omega arith)))
      | false ↦ λ t is. find_passes p P xs e (λ k d lt. all (suc k) d (omega arith)) is
    ] refl h

left : (a b : Bool) → a && b ≡ true → a ≡ true
left true b h = refl
left false b h = h

-- the entry for a page holds it, and its source pages lie in the space
pub entry_holds : (size : PageSize) (es : List Entry) (page : ℕ) (access : RightsSet) (e : Entry) → All (λ a. ¬ IsBad size a) es → entry_for es page access ≡ Some e → (e.first ≤ page) × (page < e.first + e.count) × (e.source + e.count ≤ space_pages size)
entry_holds size es page access e good h =
    let found : (serves page access e ≡ true) × (¬ IsBad size e) = find_passes (serves page access) (λ a. ¬ IsBad size a) es e good h in
    let held : is_for e page ≡ true = left _ _ found.0 in (
      from_for e page held,
      below_for e page held,
      elim (le_or (e.source + e.count) (space_pages size)) [ inl le ↦ le | inr gt ↦ absurd (found.1 (inr (inr (inl gt)))) ],
    )

pub full : (es : List Entry) (now : Regions) (size : PageSize) (e : Entry) → es ≡ now.entries → size ≡ now.size → ¬ IsBad size e → All (λ other. ¬ Meet e other) es → 64 ≤ length es → AddFails now e Full
full es now size e is same good apart len =
    subst (λ (s : PageSize). (¬ IsBad s e) × All (λ other. ¬ Meet e other) now.entries × (64 ≤ length now.entries)) same
    (subst (λ (t : List Entry). (¬ IsBad size e) × All (λ other. ¬ Meet e other) t × (64 ≤ length t)) is (good, apart, len))

pub can : (es : List Entry) (now : Regions) (size : PageSize) (e : Entry) → es ≡ now.entries → size ≡ now.size → ¬ IsBad size e → All (λ other. ¬ Meet e other) es → length es < 64 → CanAdd now e
can es now size e is same good apart len = record {
  good = subst (λ (s : PageSize). ¬ IsBad s e) same good;
  apart = subst (λ (t : List Entry). All (λ other. ¬ Meet e other) t) is apart;
  room = subst (λ (t : List Entry). length t < 64) is len;
}

pub entry_inside : (size : PageSize) (es now : List Entry) → now ≡ es → (page : ℕ) (access : RightsSet) (e : Entry) → All (λ a. ¬ IsBad size a) es → Some e ≡ entry_for now page access → (e.first ≤ page) × (page < e.first + e.count) × (e.source + e.count ≤ space_pages size)
entry_inside size es now is page access e good h = entry_holds size now page access e (subst (λ (t : List Entry). All (λ a. ¬ IsBad size a) t) (sym is) good) (sym h)

-- what lies in a space lies in the largest
pub good_largest : (size : PageSize) (e : Entry) → ¬ IsBad size e → ¬ IsBad Kib1 e
good_largest size e good (inl none) = good (inl none)
good_largest size e good (inr (inl far)) = good (inr (inl (omega (arith, far, pages_most size))))
good_largest size e good (inr (inr (inl far))) = good (inr (inr (inl (omega (arith, far, pages_most size)))))
good_largest size e good (inr (inr (inr none))) = good (inr (inr (inr none)))

pub all_largest : (size : PageSize) (es now : List Entry) → now ≡ es → All (λ e. ¬ IsBad size e) es → All (λ e. ¬ IsBad Kib1 e) now
all_largest size es now is good = subst (λ (t : List Entry). All (λ e. ¬ IsBad Kib1 e) t) (sym is) (λ k d lt. good_largest size (get_or es k d) (good k d lt))

-- one more entry that doesn't meet
pub apart_more : (e item : Entry) (es : List Entry) (i : ℕ) → i < length es → item ≡ get_or es i item → ¬ Meet e item → ((k : ℕ) (d : Entry) → k < i → Meet e (get_or es k d) → ⊥) → (k : ℕ) (d : Entry) → k < i + 1 → Meet e (get_or es k d) → ⊥
apart_more e item es i lt is apart before k d lt_k m =
    elim (le_or i k) [
      | inl h ↦
          let same : k ≡ i = omega (arith, h, lt_k) in
          apart (subst (λ (x : Entry). Meet e x) (ap (λ n. get_or es n d) same ∙ get_or_default es i d item lt ∙ sym is) m)
      | inr h ↦ before k d h m
    ]

turned : (a b : Entry) → Meet a b → Meet b a
turned a b h = (h.0, h.2, h.1)

pub added : (size : PageSize) (es now : List Entry) → now ≡ es → (e : Entry) → IsTable (record { size = size; entries = es }) → ¬ IsBad size e → All (λ other. ¬ Meet e other) now → IsTable (record { size = size; entries = es ++ e ∷ [] })
added size es now is e table good apart =
    let free : All (λ other. ¬ Meet e other) es = subst (λ (t : List Entry). All (λ other. ¬ Meet e other) t) is apart in
    record {
      good = All-push (λ a. ¬ IsBad size a) es e table.good good;
      apart = all_pairs_push (λ a b. ¬ Meet a b) es e table.apart (λ k d lt m. free k d lt (turned (get_or es k d) e m));
    }

-- what the entry for a fault's page gives is the answer
gives_own : (t : Regions) (fault : PageFault) (page : ℕ) (e : Entry) (base : ℕ) (fpage : Fpage) → entry_for t.entries page fault.access ≡ Some e → rights_of fpage ≡ e.rights
    → page ≡ fault.address / page_bytes t.size → base ≡ page * page_bytes t.size → bytes_of fpage ≡ Some (record { base = source_of e page * page_bytes t.size; log = 0 + page_log t.size })
    → AnswersFault t fault (one_item (Map base fpage))
gives_own t fault page e base fpage found rights is at bytes =
    subst (λ (p : ℕ). MatchOption (entry_for t.entries p fault.access) (one_item (Map base fpage) ≡ nothing) (λ e. GivesPages t.size (source_of e p) p 0 e.rights (one_item (Map base fpage)))) is
    (subst (λ (o : Option Entry). MatchOption o (one_item (Map base fpage) ≡ nothing) (λ e. GivesPages t.size (source_of e page) page 0 e.rights (one_item (Map base fpage)))) (sym found)
    (record { fpage = fpage; bytes = bytes; rights_are = rights; is = ap (λ (b : ℕ). one_item (Map b fpage)) at }))

pub gives : (t : Regions) (size : PageSize) → size ≡ t.size → (fault : PageFault) (page : ℕ) → page ≡ fault.address / page_bytes size → (e : Entry) → entry_for t.entries page fault.access ≡ Some e
    → (base : ℕ) (fpage : Fpage) → base ≡ page * page_bytes size → bytes_of fpage ≡ Some (record { base = source_of e page * page_bytes size; log = 0 + page_log size }) → rights_of fpage ≡ e.rights
    → AnswersFault t fault (one_item (Map base fpage))
gives t size same fault page is e found base fpage at bytes rights =
    subst (λ (s : PageSize). page ≡ fault.address / page_bytes s → base ≡ page * page_bytes s → bytes_of fpage ≡ Some (record { base = source_of e page * page_bytes s; log = 0 + page_log s }) → AnswersFault t fault (one_item (Map base fpage))) (sym same)
    (λ a b c. gives_own t fault page e base fpage found rights a b c) is at bytes
