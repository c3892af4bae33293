-- Whether pages can move, by the tables that have them and those of their places.
use Rattle.std.proofs.Common.{◌≡◌, ℕ, zero, suc, ◌+◌, ◌-◌, ◌/◌, ◌%◌, ◌<◌, ◌≤◌, ◌||◌, not, length, Bool, List, Option, Some, None, slice_index_or, true, false, refl, sym, ap, ◌∙◌, subst, inl, inr, arith}
use Rattle.std.proofs.lemmas.Bool.{cases_lt, false≢true}
use Rattle.l4_spaces.specs.Tables.{table_pages, space_tables, NoKeys}
use Rattle.l4_spaces.specs.Rows.{Rows, row, entry, is_made, AreWhole, NoneIn}
use Rattle.l4_nodes.specs.Slots.{Slots, node_at}
use Rattle.l4_links.specs.declared.blocks.Pages.{Pages}
use Rattle.l4_links.specs.Entries.{place_for}
use Rattle.l4_links.specs.Inside.Bringing.{MakesTables, AtMost, none, one, pass}
use Rattle.l4_links.specs.Inside.Growing.{SharesNone, SharesSome, Lacks, Takes, Keeps, Holds, WantsOne, AreWanted, WantsRow, LacksPage, WantsPages}
use Rattle.l4_links.proofs.BroughtParts.{at_most_back, at_most_joined}
use Rattle.l4_links.proofs.TableEntries.{shown_made, target_entry, at_page, at_line}
use Rattle.l4_links.proofs.Writes.{no_some, same_some}

-- numbers, one after another

at_most_le : {P : ℕ → Type 0} {next end most : ℕ} → AtMost P next end most → next ≤ end
at_most_le none = omega arith
at_most_le (one fewer lt rest) = let le = at_most_le rest in omega (arith, le)
at_most_le (pass other rest) = let le = at_most_le rest in omega (arith, le)

-- no more than before of these numbers and as many after them
pub at_most_moved : {P Q : ℕ → Type 0} {next end most : ℕ} (by : ℕ) → ((n : ℕ) → next ≤ n → n < end → Q (by + n) → P n) → AtMost P next end most → AtMost Q (by + next) (by + end) most
at_most_moved by was none = none
at_most_moved {P} {Q} {next} {end} by was (one fewer lt rest) =
    one fewer lt (subst (λ (z : ℕ). AtMost Q z (by + end) fewer) (omega arith) (at_most_moved by (λ n ge. was n (omega (arith, ge))) rest))
at_most_moved {P} {Q} {next} {end} {most} by was (pass other rest) =
    let le = at_most_le rest in
    pass (λ q. other (was next (omega arith) (omega (arith, le)) q)) (subst (λ (z : ℕ). AtMost Q z (by + end) most) (omega arith) (at_most_moved by (λ n ge. was n (omega (arith, ge))) rest))

-- all of so many numbers, or none of them
at_most_all : {P : ℕ → Type 0} (n next end : ℕ) → next + n ≡ end → AtMost P next end n
at_most_all {P} zero next end is = subst (λ (z : ℕ). AtMost P next z 0) (let e : next ≡ end = omega (arith, is) in e) none
at_most_all (suc n) next end is = one n (omega arith) (at_most_all n (next + 1) end (omega (arith, is)))

at_most_none : {P : ℕ → Type 0} (n next end : ℕ) → next + n ≡ end → ((m : ℕ) → next ≤ m → m < end → ¬ (P m)) → AtMost P next end 0
at_most_none {P} zero next end is nothing = subst (λ (z : ℕ). AtMost P next z 0) (let e : next ≡ end = omega (arith, is) in e) none
at_most_none (suc n) next end is nothing = pass (nothing next (omega arith) (omega (arith, is))) (at_most_none n (next + 1) end (omega (arith, is)) (λ m ge. nothing m (omega (arith, ge))))

pub wants_none : {P Q R : ℕ → Type 0} (from end : ℕ) → from ≤ end → ((n : ℕ) → from ≤ n → n < end → P n × ¬ (Q n) × R n) → AreWanted P Q R from end 0 false
wants_none from end le all = record {
  takes = λ n ge lt. (all n ge lt).0;
  most = at_most_none (end - from) from end (omega (arith, le)) (λ n ge lt. (all n ge lt).1);
  few = omega (arith, le);
  holds = λ _ n ge lt. (all n ge lt).2;
}

pub wants_every : {P Q R : ℕ → Type 0} (from n : ℕ) → ((m : ℕ) → from ≤ m → m < from + n → P m) → AreWanted P Q R from (from + n) n true
wants_every from n all = grind (arith, at_most_all)

pub wants_one : {P Q R : ℕ → Type 0} (n wants : ℕ) (changes : Bool) → P n → (Q n → 1 ≤ wants) → wants ≤ 1 → (changes ≡ false → R n) → AreWanted P Q R n (n + 1) wants changes
wants_one {P} {Q} {R} n wants changes takes some few holds = record {
  takes = λ m ge lt. subst P (let e : n ≡ m = omega (arith, ge, lt) in e) takes;
  most = elim (cases_lt 0 wants) [
    | inl lt ↦ one 0 lt none
    | inr le ↦ pass (λ q. (let w = some q in omega (arith, le, w))) none
  ];
  few = omega (arith, few);
  holds = λ same m ge lt. subst R (let e : n ≡ m = omega (arith, ge, lt) in e) (holds same);
}

pub or_false : (x y : Bool) → x || y ≡ false → (x ≡ false) × (y ≡ false)
or_false false y h = (refl, h)
or_false true y h = absurd (let e : true ≡ false = h in cc)

pub wants_joined : {P Q R : ℕ → Type 0} (from mid end a b : ℕ) (first second : Bool) → AreWanted P Q R from mid a first → AreWanted P Q R mid end b second → AreWanted P Q R from end (a + b) (first || second)
wants_joined from mid end a b first second x y = grind (arith, cases_lt, at_most_joined, or_false)

-- pages that share no right
pages_idle : (of : Pages) (page end : ℕ) (sources targets : Rows) (slots : Slots) → page ≤ end → ((p : ℕ) → page ≤ p → p < end → (k : ℕ) → entry sources p ≡ Some k → ¬ (SharesSome k of.rights slots)) → WantsPages of page end sources targets 0 false slots
pages_idle of page end sources targets slots le idle = wants_none page end le (λ p ge lt. (
  (λ k is x. absurd (idle p ge lt k is x), λ k n _ is at shares. absurd (idle p ge lt k is (n, at, shares)), λ k is x. absurd (idle p ge lt k is x)),
  λ l. idle p ge lt l.1.0 l.1.1 l.1.2,
  λ k is x. absurd (idle p ge lt k is x),
))

pub pages_none : (of : Pages) (page end : ℕ) (sources targets : Rows) (slots : Slots) → page ≤ end → NoneIn sources page end → WantsPages of page end sources targets 0 false slots
pages_none of page end sources targets slots le nothing = pages_idle of page end sources targets slots le (λ p ge lt k is _. no_some k (sym (nothing p ge lt) ∙ is))

pub page_apart : (of : Pages) (sources targets : Rows) (slots : Slots) (page key : ℕ) → entry sources page ≡ Some key → SharesNone key of.rights slots → WantsPages of page (page + 1) sources targets 0 false slots
page_apart of sources targets slots page key shows apart = pages_idle of page (page + 1) sources targets slots (omega arith)
    (λ other ge lt k is x.
    let same : page ≡ other = omega (arith, ge, lt) in
    let its : key ≡ k = same_some (sym shows ∙ ap (entry sources) same ∙ is) in
    x.2 (apart x.0 (ap (node_at slots) its ∙ x.1)))

-- tables were made, which have no keys
pub pages_made : (of : Pages) (page end : ℕ) (sources targets made : Rows) (wants : ℕ) (changes : Bool) (slots : Slots) → MakesTables targets made → WantsPages of page end sources targets wants changes slots → WantsPages of page end sources made wants changes slots
pages_made of page end sources targets made wants changes slots makes w = record {
  takes = λ p ge lt. (let t = w.takes p ge lt in
      (subst (λ (o : Option ℕ). Takes of (entry sources p) o slots) (sym (makes.same (place_for of p).page)) t.0, t.1, λ key is x. makes.kept _ (t.2 key is x)));
  most = at_most_back (λ p _ l. subst (λ (o : Option ℕ). Lacks of (entry sources p) o slots) (makes.same (place_for of p).page) l) w.most;
  few = w.few;
  holds = λ still p ge lt. subst (λ (o : Option ℕ). Holds of (entry sources p) o slots) (sym (makes.same (place_for of p).page)) (w.holds still p ge lt);
}

-- up to one page, which no key follows, and then more
pub pages_passed : (of : Pages) (first page end : ℕ) (sources targets : Rows) (wants : ℕ) (changes : Bool) (slots : Slots) → WantsPages of first page sources targets wants changes slots → page ≤ end → NoneIn sources page end
    → WantsPages of first end sources targets wants changes slots
pages_passed of first page end sources targets wants changes slots w le nothing =
    subst (λ (z : ℕ × Bool). WantsPages of first end sources targets z.0 z.1 slots) (λ i. ((let e : wants + 0 ≡ wants = omega arith in e i), or_same changes i))
    (wants_joined first page end wants 0 changes false w (pages_none of page end sources targets slots le nothing))
  where
    or_same : (b : Bool) → b || false ≡ b
    or_same false = refl
    or_same true = refl

pub pages_more : (of : Pages) (first page next end : ℕ) (sources targets made : Rows) (a b : ℕ) (x y : Bool) (slots : Slots) → WantsPages of first page sources targets a x slots → page ≤ next → NoneIn sources page next → MakesTables targets made
    → WantsPages of next end sources made b y slots → WantsPages of first end sources made (a + b) (x || y) slots
pages_more of first page next end sources targets made a b x y slots w le nothing makes v =
    wants_joined first next end a b x y (pages_made of first next sources targets made a x slots makes (pages_passed of first page next sources targets a x slots w le nothing)) v

pub not_true : (b : Bool) → not b ≡ true → b ≡ false
not_true b h = grind arith

pub makes_none : (rows : Rows) → AreWhole rows → length rows ≤ space_tables → MakesTables rows rows
makes_none rows whole full = record { same = λ page. refl; kept = λ high made. made; whole = whole; full = full }

pub makes_more : (old now new : Rows) → MakesTables old now → MakesTables now new → MakesTables old new
makes_more old now new a b = record { same = λ page. b.same page ∙ a.same page; kept = λ high made. b.kept high (a.kept high made); whole = b.whole; full = b.full }

-- one page alone; if nothing changes its place has a key, or it shares no right
pub one_page : (of : Pages) (page : ℕ) (sources targets made : Rows) (slots : Slots) → MakesTables targets made → (wants : ℕ) (changes : Bool) → WantsOne of (entry sources page) (entry targets (place_for of page).page) slots wants changes
    → (changes ≡ true → is_made made ((place_for of page).page / table_pages) ≡ true) → WantsPages of page (page + 1) sources made wants changes slots
one_page of page sources targets made slots makes wants changes h ready = wants_one page wants changes (its.0, its.1, λ key is x. over changes refl key is x) its.2 its.3 its.4
  where
    its : WantsOne of (entry sources page) (entry made (place_for of page).page) slots wants changes
    its = subst (λ (o : Option ℕ). WantsOne of (entry sources page) o slots wants changes) (sym (makes.same (place_for of page).page)) h

    over : (b : Bool) → changes ≡ b → (key : ℕ) → entry sources page ≡ Some key → SharesSome key of.rights slots → is_made made ((place_for of page).page / table_pages) ≡ true
    over true is key shows x = ready is
    over false is key shows x = (let own = its.4 is key shows x in shown_made made (place_for of page).page own.1.0 own.1.1)

-- a run, by its two tables
module _ (of : Pages) (sources targets : Rows) (slots : Slots) (page f t n : ℕ) (from : of.source.page ≤ page) (f_is : f ≡ page % table_pages) (t_is : t ≡ (page - of.source.page + of.target.page) % table_pages)
    (f_in : f + n ≤ table_pages) (t_in : t + n ≤ table_pages) (made : is_made targets ((place_for of page).page / table_pages) ≡ true)
    (line target_line : List (Option ℕ)) (line_is : row sources (page / table_pages) ≡ line) (target_is : row targets ((place_for of page).page / table_pages) ≡ target_line) where
  there : (p : ℕ) → page ≤ p → p < page + n → is_made targets ((place_for of p).page / table_pages) ≡ true
  there p ge lt = subst (λ (h : ℕ). is_made targets h ≡ true) (let e : (place_for of page).page / table_pages ≡ (place_for of p).page / table_pages = omega (arith, ge, lt, from, t_in, t_is) in e) made

  -- no place of the run has a key
  pub run_free : of.grant ≡ false → NoKeys target_line t (t + n) → WantsPages of page (page + n) sources targets n true slots
  run_free map free = wants_every page n (λ p ge lt. (
    λ k is x. inl (ap (entry targets) (let e : (place_for of p).page ≡ page + (p - page) - of.source.page + of.target.page = omega (arith, ge) in e)
        ∙ target_entry of.source.page of.target.page sources targets page (place_for of page).page f t n from refl f_is t_is line target_line line_is target_is f_in t_in (p - page) (omega (arith, ge, lt))
        ∙ free (t + (p - page)) (omega arith) (omega (arith, ge, lt))),
    λ k m grant _ _ _. absurd (false≢true (sym map ∙ grant)),
    λ _ _ _. there p ge lt,
  ))

  pub run_wants : (wants : ℕ) (changes : Bool) → WantsRow of f t n line target_line wants changes slots → WantsPages of page (page + n) sources targets wants changes slots
  run_wants wants changes w = record {
    takes = λ p ge lt. (let z = forth (λ key taken. Takes of key taken slots × Keeps of key slots) p ge lt (w.takes (p - page) (omega arith) (omega (arith, ge, lt))) in (z.0, z.1, λ _ _ _. there p ge lt));
    most = subst (λ (z : ℕ). AtMost (LacksPage of sources targets slots) z (page + n) wants) (let e : page + 0 ≡ page = omega arith in e)
        (at_most_moved page (λ step _ lt. at_line of.source.page of.target.page sources targets page (place_for of page).page f t n from refl f_is t_is line target_line line_is target_is f_in t_in (λ key taken. Lacks of key taken slots) step lt) w.most);
    few = (let le = w.few in omega (arith, le));
    holds = λ still p ge lt. forth (λ key taken. Holds of key taken slots) p ge lt (w.holds still (p - page) (omega arith) (omega (arith, ge, lt)));
  }
    where
      forth : (P : Option ℕ → Option ℕ → Type 0) (p : ℕ) → page ≤ p → p < page + n → P (slice_index_or line (f + (p - page)) None) (slice_index_or target_line (t + (p - page)) None) → P (entry sources p) (entry targets (place_for of p).page)
      forth P p ge lt h = subst (λ (z : ℕ). P (entry sources z) (entry targets (place_for of z).page)) (let e : page + (p - page) ≡ p = omega (arith, ge) in e)
          (at_page of.source.page of.target.page sources targets page (place_for of page).page f t n from refl f_is t_is line target_line line_is target_is f_in t_in P (p - page) (omega (arith, ge, lt)) h)
