-- Lines in the groups of their threads, one more each.
use Rattle.std.proofs.Common.{◌≡◌, ℕ, zero, suc, ◌+◌, ◌<◌, ◌≤◌, ◌==◌, ◌||◌, Bool, true, false, cond, take, drop, slice_get, subst, nat_lt, List, [], ◌∷◌, ◌++◌, Some, None, length, get_or, set, refl, sym, ap, ◌∙◌, arith}
use Rattle.std.specs.List.{position, position_or_len, list_any}
use Rattle.std.proofs.Math.Seq.{drop-cons, take-append_seam}
use Rattle.std.proofs.lemmas.List.{length-set, take_all, take_more, take-append-drop}
use Rattle.std.proofs.lemmas.Option.{none-some}
use Rattle.l4_ipc.proofs.OneState.{same_value}
use Rattle.std.proofs.lemmas.List.Quantifiers.{position-Some}
use Rattle.std.proofs.lemmas.List.Sums.{fails_before_first}
use Rattle.std.proofs.lemmas.Bool.Decides.{nat_tests}
use Rattle.l4_orders.specs.declared.plans.Block.{Block}
use Rattle.l4_orders.specs.declared.plans.PlanLine.{PlanLine}
use Rattle.l4_orders.specs.Files.{IsUnknown}
use Rattle.l4_orders.specs.Reading.{Line, Group, with_line, is_known, AreKnown, first_number, lines_in, group_in, groups_in}
use Rattle.l4_orders.specs.Inside.Parts.{is_of}

-- the block at this place is the first one of this thread, or of lines that end its waits
abbrev IsFirst : List Block → ℕ → Bool → ℕ → Block → Type 0
IsFirst blocks thread cancels k d = (k < length blocks) × (is_of thread cancels (get_or blocks k d) ≡ true) × ((j : ℕ) → j < k → is_of thread cancels (get_or blocks j d) ≡ false)

behind : (b : Block) (blocks : List Block) (thread : ℕ) (cancels : Bool) (k : ℕ) (d : Block) → IsFirst (b ∷ blocks) thread cancels (suc k) d → IsFirst blocks thread cancels k d
behind b blocks thread cancels k d first = (omega (arith, first.0), first.1, λ j lt. first.2 (suc j) (omega (arith, lt)))

-- one block has one line more
grown : (blocks : List Block) (thread : ℕ) (cancels : Bool) (k : ℕ) (d b : Block) (line : Line) → IsFirst blocks thread cancels k d → b.thread ≡ (get_or blocks k d).thread
    → b.cancels ≡ (get_or blocks k d).cancels → lines_in b.lines.items ≡ lines_in (get_or blocks k d).lines.items ++ line ∷ [] → groups_in (set blocks k b) ≡ with_line (groups_in blocks) thread cancels line
grown [] thread cancels k d b line first same also more = absurd (omega (arith, first.0))
grown (c ∷ blocks) thread cancels zero d b line first same also more =
    (λ i. record { thread = same i; cancels = also i; lines = more i } ∷ groups_in blocks)
    ∙ sym (ap (λ t. cond t (record { thread = c.thread; cancels = c.cancels; lines = lines_in c.lines.items ++ line ∷ [] } ∷ groups_in blocks) (group_in c ∷ with_line (groups_in blocks) thread cancels line)) first.1)
grown (c ∷ blocks) thread cancels (suc k) d b line first same also more =
    ap (λ (gs : List Group). group_in c ∷ gs) (grown blocks thread cancels k d b line (behind c blocks thread cancels k d first) same also more)
    ∙ sym (ap (λ t. cond t (record { thread = c.thread; cancels = c.cancels; lines = lines_in c.lines.items ++ line ∷ [] } ∷ groups_in blocks) (group_in c ∷ with_line (groups_in blocks) thread cancels line)) (first.2 0 (omega arith)))

pub grown_at : (blocks : List Block) (thread : ℕ) (cancels : Bool) (k : ℕ) (d b : Block) (line : Line) → Some k ≡ position (is_of thread cancels) blocks → b.thread ≡ (get_or blocks k d).thread
    → b.cancels ≡ (get_or blocks k d).cancels → lines_in b.lines.items ≡ lines_in (get_or blocks k d).lines.items ++ line ∷ [] → groups_in (set blocks k b) ≡ with_line (groups_in blocks) thread cancels line
grown_at blocks thread cancels k d b line is same also more = grown blocks thread cancels k d b line (position-Some (is_of thread cancels) blocks k d (sym is)) same also more

-- there is no such block
abbrev IsNone : List Block → ℕ → Bool → Block → Type 0
IsNone blocks thread cancels d = (j : ℕ) → j < length blocks → is_of thread cancels (get_or blocks j d) ≡ false

added : (blocks : List Block) (thread : ℕ) (cancels : Bool) (line : Line) (d : Block) → IsNone blocks thread cancels d → with_line (groups_in blocks) thread cancels line ≡ groups_in blocks ++ record { thread = thread; cancels = cancels; lines = line ∷ [] } ∷ []
added [] thread cancels line d none = refl
added (c ∷ blocks) thread cancels line d none =
    ap (λ t. cond t (record { thread = c.thread; cancels = c.cancels; lines = lines_in c.lines.items ++ line ∷ [] } ∷ groups_in blocks) (group_in c ∷ with_line (groups_in blocks) thread cancels line)) (none 0 (omega arith))
    ∙ ap (λ (gs : List Group). group_in c ∷ gs) (added blocks thread cancels line d (λ j lt. none (suc j) (omega (arith, lt))))

far : (n m : ℕ) → cond (nat_lt n m) (Some n) None ≡ None → m ≤ n
far n m h = elim (nat_lt n m) as (λ b. nat_lt n m ≡ b → cond b (Some n) None ≡ None → m ≤ n) [
  | true ↦ λ t z. absurd (cc)
  | false ↦ λ t z. grind (arith, nat_tests)
] refl h

none_is : (blocks : List Block) (thread : ℕ) (cancels : Bool) (d : Block) → None ≡ position (is_of thread cancels) blocks → IsNone blocks thread cancels d
none_is blocks thread cancels d is =
    let past = far (position_or_len (is_of thread cancels) blocks) (length blocks) (sym is) in
    λ j lt. fails_before_first (is_of thread cancels) blocks j d (omega (arith, lt, past))

pub added_at_end : (blocks : List Block) (thread : ℕ) (cancels : Bool) (line : Line) → None ≡ position (is_of thread cancels) blocks
    → groups_in blocks ++ record { thread = thread; cancels = cancels; lines = line ∷ [] } ∷ [] ≡ with_line (groups_in blocks) thread cancels line
added_at_end [] thread cancels line is = refl
added_at_end (c ∷ blocks) thread cancels line is = sym (added (c ∷ blocks) thread cancels line c (none_is (c ∷ blocks) thread cancels c is))

-- KNOWN THREADS

pub known_more : (created : List ℕ) (blocks : List Block) (b : Block) → AreKnown created (groups_in blocks) → is_known created b.thread ≡ true → AreKnown created (groups_in (blocks ++ b ∷ []))
known_more created [] b x is = (is, tt)
known_more created (c ∷ blocks) b x is = (x.0, known_more created blocks b x.1 is)

pub known_next : (created : List ℕ) (blocks : List Block) (i : ℕ) (b : Block) → i < length blocks → b ≡ get_or blocks i b → AreKnown created (groups_in (take i blocks)) → true ≡ is_known created b.thread
    → AreKnown created (groups_in (take (i + 1) blocks))
known_next created blocks i b lt item x is =
    subst (λ (bs : List Block). AreKnown created (groups_in bs)) (sym (take_more blocks i b lt ∙ ap (λ (c : Block). take i blocks ++ c ∷ []) (sym item)))
    (known_more created (take i blocks) b x (sym is))

pub known_all : (created : List ℕ) (blocks : List Block) (i : ℕ) → length blocks ≤ i → AreKnown created (groups_in (take i blocks)) → AreKnown created (groups_in blocks)
known_all created blocks i le x = subst (λ (bs : List Block). AreKnown created (groups_in bs)) (take_all i blocks le) x

groups_both : (xs ys : List Block) → groups_in (xs ++ ys) ≡ groups_in xs ++ groups_in ys
groups_both [] ys = refl
groups_both (x ∷ xs) ys = ap (λ (gs : List Group). group_in x ∷ gs) (groups_both xs ys)

pub unknown_at : (created : List ℕ) (blocks : List Block) (i : ℕ) (b : Block) (number : ℕ) → i < length blocks → b ≡ get_or blocks i b → AreKnown created (groups_in (take i blocks))
    → false ≡ is_known created b.thread → number ≡ first_number (lines_in b.lines.items) → IsUnknown created (groups_in blocks) number b.thread
unknown_at created blocks i b number lt item x is number_is = record {
  before = groups_in (take i blocks);
  group = group_in b;
  after = groups_in (drop (suc i) blocks);
  parts = ap groups_in (sym (take-append-drop i blocks) ∙ ap (λ (bs : List Block). take i blocks ++ bs) (drop-cons blocks i b lt ∙ ap (λ (c : Block). c ∷ drop (suc i) blocks) (sym item)))
      ∙ groups_both (take i blocks) (b ∷ drop (suc i) blocks);
  known = x;
  unknown = sym is;
  number_is = number_is;
  thread_is = refl;
}

pub number_some : (lines : List PlanLine) (line : PlanLine) → Some line ≡ slice_get lines 0 → line.number ≡ first_number (lines_in lines)
number_some [] line is = absurd (none-some line (sym is))
number_some (l ∷ lines) line is = ap (λ (x : PlanLine). x.number) (same_value is)

pub number_none : (lines : List PlanLine) → None ≡ slice_get lines 0 → 0 ≡ first_number (lines_in lines)
number_none [] is = refl
number_none (l ∷ lines) is = absurd (none-some l is)

pub unknown_by : (created : List ℕ) (thread : ℕ) (b : Bool) → (thread ≡ 1 → ⊥) → (thread ≡ 2 → ⊥) → b ≡ list_any (λ n. n == thread) created → b ≡ is_known created thread
unknown_by created thread b one two is =
    is ∙ elim (thread == 1) as (λ t. (thread == 1) ≡ t → list_any (λ n. n == thread) created ≡ t || ((thread == 2) || list_any (λ n. n == thread) created)) [
      | true ↦ λ e. absurd (one (grind (arith, nat_tests)))
      | false ↦ λ e. elim (thread == 2) as (λ t. (thread == 2) ≡ t → list_any (λ n. n == thread) created ≡ t || list_any (λ n. n == thread) created) [
        | true ↦ λ e. absurd (two (grind (arith, nat_tests)))
        | false ↦ λ e. refl
      ] refl
    ] refl

-- ONE BLOCK IN A VECTOR

written : (blocks ws : List Block) (n : ℕ) → n ≡ length ws → take n (ws ++ drop (length ws) blocks) ≡ ws
written blocks ws n is = ap (λ (m : ℕ). take m (ws ++ drop (length ws) blocks)) is ∙ take-append_seam ws (drop (length ws) blocks)

pub grown_in : (blocks ws : List Block) (thread : ℕ) (cancels : Bool) (k n : ℕ) (d b : Block) (line : Line) → ws ≡ blocks → length ws ≡ n → Some k ≡ position (is_of thread cancels) blocks → b.thread ≡ (get_or ws k d).thread
    → b.cancels ≡ (get_or ws k d).cancels → lines_in b.lines.items ≡ lines_in (get_or ws k d).lines.items ++ line ∷ [] → groups_in (take n (set ws k b ++ drop (length (set ws k b)) blocks)) ≡ with_line (groups_in blocks) thread cancels line
grown_in blocks ws thread cancels k n d b line same long is thread_is cancels_is more =
    ap groups_in (written blocks (set ws k b) n (sym (length-set ws k b ∙ long)) ∙ ap (λ (v : List Block). set v k b) same)
    ∙ grown_at blocks thread cancels k d b line is (thread_is ∙ ap (λ (v : List Block). (get_or v k d).thread) same) (cancels_is ∙ ap (λ (v : List Block). (get_or v k d).cancels) same) (more ∙ ap (λ (v : List Block). lines_in (get_or v k d).lines.items ++ line ∷ []) same)
