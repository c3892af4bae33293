-- The moves of a step that were found so far, and their lines.
use Rattle.std.proofs.Common.{◌≡◌, ◌⊎◌, ◌↔◌, ℕ, ◌+◌, ◌<◌, ◌≤◌, Bool, true, false, nat_lt, List, [], ◌∷◌, ◌++◌, map, get_or, Contains, refl, sym, ap, ◌∙◌, subst, inl, inr, arith}
use Rattle.std.proofs.lemmas.Bool.Decides.{nat_tests}
use Rattle.std.proofs.lemmas.List.{map-append, get_or_default}
use Rattle.std.proofs.lemmas.List.Quantifiers.{all_pairs_push}
use Rattle.std.proofs.lemmas.List.Elements.{Contains-push, Contains-push_cases, Contains-append_left}
use Rattle.std.specs.List.{flat_map, AllPairs}
use Rattle.l4_ipc.specs.Machine.{Machine}
use Rattle.l4_ipc.specs.declared.steps.Step.{Step}
use Rattle.l4_mapdb.specs.Mappings.{Mappings}
use Rattle.l4_mapdb.specs.Transfer.{PageMove}
use Rattle.l4_provenance.specs.Moved.{IsMoved, IsFrom, IsTold, IsNextMove, NoneMovedFrom}
use Rattle.l4_provenance.specs.declared.moves.MovedPage.{MovedPage}
use Rattle.l4_provenance.proofs.Moving.{moved_once}
use Rattle.l4_history.specs.Inside.Moving.{page_of, ArePages, page_line}
use Rattle.l4_history.specs.Moves.{moved_line, Before, IsMovesText}

lower : (a b : ℕ) → (a < b) ⊎ (b ≤ a)
lower a b =
    elim (nat_lt a b) as (λ v. nat_lt a b ≡ v → (a < b) ⊎ (b ≤ a)) [
      | true ↦ λ t. inl (let lt : a < b = grind (arith, nat_tests) in lt)
      | false ↦ λ f. inr (let le : b ≤ a = grind (arith, nat_tests) in le)
    ] refl

-- the move is before this item and page
abbrev pub IsBehind : ℕ → ℕ → PageMove → Type 0
IsBehind item page move = (move.item < item) ⊎ ((move.item ≡ item) × (move.source.page < page))

behind_or : (item page : ℕ) (move : PageMove) → IsBehind item page move ⊎ IsFrom item page move
behind_or item page move = elim (lower move.item item) [
  | inl below ↦ inl (inl below)
  | inr above ↦ elim (lower item move.item) [
    | inl later ↦ inr (inl later)
    | inr still ↦ let same : move.item ≡ item = omega (arith, above, still) in elim (lower move.source.page page) [
      | inl less ↦ inl (inr (same, less))
      | inr more ↦ inr (inr (same, more))
    ]
  ]
]

behind_not : (item page : ℕ) (move : PageMove) → IsBehind item page move → ¬ (IsFrom item page move)
behind_not item page move (inl below) (inl later) = omega (arith, below, later)
behind_not item page move (inl below) (inr here) = let a = here.0 in omega (arith, below, a)
behind_not item page move (inr less) (inl later) = let a = less.0 in omega (arith, a, later)
behind_not item page move (inr less) (inr here) = let a = less.1 in let b = here.1 in omega (arith, a, b)

before_from : (item page : ℕ) (one other : PageMove) → IsBehind item page one → IsFrom item page other → Before one other
before_from item page one other (inl below) (inl later) = inl (omega (arith, below, later))
before_from item page one other (inl below) (inr here) = let a = here.0 in inl (omega (arith, below, a))
before_from item page one other (inr less) (inl later) = let a = less.0 in inl (omega (arith, a, later))
before_from item page one other (inr less) (inr here) =
    let a = less.0 in let b = less.1 in let c = here.0 in let d = here.1 in
    inr (omega (arith, a, c), omega (arith, b, d))

-- what is before the next move, or is it, is before the page behind it
behind_next : (item page : ℕ) (next move : PageMove) → IsFrom item page next → IsBehind item page move → IsBehind next.item (next.source.page + 1) move
behind_next item page next move (inl later) (inl below) = inl (omega (arith, later, below))
behind_next item page next move (inl later) (inr less) = let a = less.0 in inl (omega (arith, later, a))
behind_next item page next move (inr here) (inl below) = let a = here.0 in inl (omega (arith, below, a))
behind_next item page next move (inr here) (inr less) =
    let a = here.0 in let b = here.1 in let c = less.0 in let d = less.1 in
    inr (omega (arith, a, c), omega (arith, b, d))

-- a move from the next one on that is not behind it is at its page
at_next : (next move : PageMove) → IsFrom next.item next.source.page move → IsBehind next.item (next.source.page + 1) move → (move.item ≡ next.item) × (move.source.page ≡ next.source.page)
at_next next move (inl later) (inl below) = absurd (omega (arith, later, below))
at_next next move (inl later) (inr less) = let a = less.0 in absurd (omega (arith, later, a))
at_next next move (inr here) (inl below) = let a = here.0 in absurd (omega (arith, a, below))
at_next next move (inr here) (inr less) = let a = here.1 in let b = less.1 in (here.0, omega (arith, a, b))

-- these are the moves that were found so far
pub record Listed (m : Machine) (step : Step) (item page : ℕ) (pages : List MovedPage) : Type 0 where
  pub moves : List PageMove
  pub rising : AllPairs Before moves
  pub each : (move : PageMove) → Contains moves move ↔ (IsMoved m step move × IsBehind item page move)
  pub low : page ≤ 4194304
  pub pages_are : pages ≡ map page_of moves

pub listed_none : (m : Machine) (step : Step) → Listed m step 0 0 []
listed_none m step = record {
  moves = [];
  rising = λ i j d less short. absurd (omega (arith, short));
  each = λ move. (
    λ h. let short = h.1 in absurd (omega (arith, short)),
    λ h. absurd (elim h.1 [ inl below ↦ omega (arith, below) | inr less ↦ let a = less.1 in omega (arith, a) ]),
  );
  low = omega arith;
  pages_are = refl;
}

-- the move of a page as data
is_page : (moved : MovedPage) (move : PageMove) → IsTold moved move → moved ≡ page_of move
is_page moved move t = λ i. record { item = t.item i; source = t.source i; space = t.space i; target = t.target i; rights = t.rights i }

pub listed_more : (m : Machine) (step : Step) (item page : ℕ) (pages : List MovedPage) (moved : MovedPage) → Listed m step item page pages → IsNextMove m step item page moved
    → Listed m step moved.item (moved.source + 1) (pages ++ moved ∷ [])
listed_more m step item page pages moved l n =
    let last = n.move in
    let behind : (move : PageMove) → IsBehind last.item (last.source.page + 1) move → IsBehind moved.item (moved.source + 1) move =
    λ move b. subst (λ (k : ℕ). IsBehind moved.item (k + 1) move) (sym n.told.source) (subst (λ (k : ℕ). IsBehind k (last.source.page + 1) move) (sym n.told.item) b) in
    let back : (move : PageMove) → IsBehind moved.item (moved.source + 1) move → IsBehind last.item (last.source.page + 1) move =
    λ move b. subst (λ (k : ℕ). IsBehind last.item (k + 1) move) n.told.source (subst (λ (k : ℕ). IsBehind k (moved.source + 1) move) n.told.item b) in
    record {
      moves = l.moves ++ last ∷ [];
      rising = all_pairs_push Before l.moves last l.rising (λ k d short.
          let c : Contains l.moves (get_or l.moves k d) = (k, short, get_or_default l.moves k _ d short) in
          before_from item page (get_or l.moves k d) last ((l.each (get_or l.moves k d)).0 c).1 n.reached);
      each = λ q. (
        λ h. elim (Contains-push_cases l.moves last q h) [
          | inl was ↦ let w = (l.each q).0 was in (w.0, behind q (behind_next item page last q n.reached w.1))
          | inr same ↦ subst (λ (p : PageMove). IsMoved m step p × IsBehind moved.item (moved.source + 1) p) same (n.is, behind last (inr (refl, omega arith)))
        ],
        λ h. elim (behind_or item page q) [
          | inl was ↦ Contains-append_left l.moves (last ∷ []) q ((l.each q).1 (h.0, was))
          | inr reached ↦
              let at = at_next last q (n.least q h.0 reached) (back q h.1) in
              subst (λ (p : PageMove). Contains (l.moves ++ last ∷ []) p) (sym (moved_once m step q last h.0 n.is at.0 at.1)) (Contains-push l.moves last)
        ],
      );
      low = let small = n.small in omega (arith, small);
      pages_are = (λ i. l.pages_are i ++ is_page moved last n.told i ∷ []) ∙ sym (map-append page_of l.moves (last ∷ []));
    }

pub listed_all : (m : Machine) (step : Step) (item page : ℕ) (pages : List MovedPage) → Listed m step item page pages → NoneMovedFrom m step item page → ArePages m step true pages
listed_all m step item page pages l none = (
  l.moves,
  record {
    rising = l.rising;
    each = λ q. (
      λ h. ((l.each q).0 h).0,
      λ h. elim (behind_or item page q) [ inl was ↦ (l.each q).1 (h, was) | inr reached ↦ absurd (none q h reached) ],
    );
  },
  l.pages_are,
)

-- ---- the lines of the pages

lines_are : (after : Mappings) (moves : List PageMove) → flat_map (page_line after) (map page_of moves) ≡ flat_map (moved_line after) moves
unfolding page_line
lines_are after [] = refl
lines_are after (move ∷ moves) = ap (λ t. moved_line after move ++ t) (lines_are after moves)

-- none where the step was not delivered
pub moves_text : (m : Machine) (step : Step) (after : Machine) (done : Bool) (pages : List MovedPage) → ArePages m step done pages → IsMovesText m step after done (flat_map (page_line after.mappings) pages)
moves_text m step after true pages h = (h.0, h.1, ap (flat_map (page_line after.mappings)) h.2 ∙ lines_are after.mappings h.0)
moves_text m step after false pages h = ap (flat_map (page_line after.mappings)) h
