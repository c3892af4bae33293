-- Keys of the states that a search visits.
use Rattle.std.proofs.Common.{◌≡◌, ℕ, zero, suc, ◌+◌, ◌-◌, ◌<◌, ◌≤◌, ◌⊎◌, Bool, true, List, [], ◌∷◌, ◌++◌, length, get_or, map, refl, sym, ap, subst, ◌∙◌, arith, inl, inr}
use Rattle.std.specs.Prelude.{Contains}
use Rattle.std.specs.List.{AllPairs}
use Rattle.std.proofs.lemmas.List.{length-append, length-map, map-append, get_or-map}
use Rattle.std.proofs.lemmas.List.Elements.{Contains-append_left, Contains-append_right, Contains-append_cases, Contains-push_cases, Contains-get_or}
use Rattle.std.proofs.lemmas.List.Quantifiers.{all_pairs_push}
use Rattle.l4_merges.specs.declared.graph.Seen.{Seen}
use Rattle.l4_merges.specs.declared.table.Table.{Table}
use Rattle.l4_merges.specs.Graphs.{Grows, IsNoted, AreToldApart}
use Rattle.l4_merges.specs.Inside.Tables.{digest_of, IsTable, IsIndexed, IsNotKnown, VisitsNew}
use Rattle.l4_merges.specs.Orders.{IsRun, Visits}
use Rattle.l4_merges.proofs.Drawing.{grows_turn}
use Rattle.l4_merges.proofs.Counting.{AreApart, has_head, has_tail, has_none, head_or_tail, apart_cons, append_apart}

-- KEYS OF ENTRIES

pub keys_of : List Seen → List (List ℕ)
keys_of [] = []
keys_of (one ∷ seen) = one.key.items ∷ keys_of seen

keys_long : (seen : List Seen) → length (keys_of seen) ≡ length seen
unfolding keys_of
keys_long [] = refl
keys_long (one ∷ seen) = (let rest = keys_long seen in omega (arith, rest))

has_first : (x : Seen) (xs : List Seen) → Contains (x ∷ xs) x
has_first x xs = (0, omega arith, refl)

has_later : (x y : Seen) (xs : List Seen) → Contains xs y → Contains (x ∷ xs) y
has_later x y xs has = (suc has.0, (let lt = has.1 in omega (arith, lt)), has.2)

key_has : (seen : List Seen) (key : List ℕ) → Contains (keys_of seen) key → (one : Seen) × Contains seen one × (one.key.items ≡ key)
unfolding keys_of
key_has [] key has = absurd (has_none key has)
key_has (x ∷ seen) key has = elim (head_or_tail x.key.items key (keys_of seen) has) [
  | inl same ↦ (x, has_first x seen, same)
  | inr later ↦ let there = key_has seen key later in (there.0, has_later x there.0 seen there.1, there.2)
]

-- entries that follow others are apart, and apart from those
tail_apart : (x : Seen) (xs : List Seen) → AreToldApart (x ∷ xs) → AreToldApart xs
tail_apart x xs apart i j d lt within = apart (suc i) (suc j) d (omega (arith, lt)) (omega (arith, within))

head_apart : (x : Seen) (xs : List Seen) → AreToldApart (x ∷ xs) → (y : Seen) → Contains xs y → x.key.items ≡ y.key.items → ⊥
head_apart x xs apart y has same = let lt = has.1 in apart zero (suc has.0) y (omega arith) (omega (arith, lt)) (same ∙ ap (λ (e : Seen). e.key.items) (sym has.2))

more_apart : (before more : List Seen) → AreToldApart (before ++ more) → AreToldApart more
more_apart [] more apart = apart
more_apart (x ∷ before) more apart = more_apart before more (tail_apart x (before ++ more) apart)

more_new : (before more : List Seen) → AreToldApart (before ++ more) → (one other : Seen) → Contains before one → Contains more other → one.key.items ≡ other.key.items → ⊥
more_new [] more apart one other has also same = (let lt = has.1 in omega (arith, lt))
more_new (x ∷ before) more apart one other (zero, lt, is) also same =
    head_apart x (before ++ more) apart other (Contains-append_right before more other also) (ap (λ (e : Seen). e.key.items) is ∙ same)
more_new (x ∷ before) more apart one other (suc k, lt, is) also same = more_new before more (tail_apart x (before ++ more) apart) one other (k, omega (arith, lt), is) also same

keys_apart : (seen : List Seen) → AreToldApart seen → AreApart (keys_of seen)
unfolding keys_of
keys_apart [] apart = λ i j d lt within. absurd (omega (arith, within))
keys_apart (x ∷ seen) apart =
    apart_cons x.key.items (keys_of seen) (λ key has same. let there = key_has seen key has in head_apart x seen apart there.0 there.1 (same ∙ sym there.2)) (keys_apart seen (tail_apart x seen apart))

-- one more entry
pub indexed_push : (before after : Table) (seen more : List Seen) (one : Seen) (digest : ℕ) → IsIndexed before seen → IsNotKnown seen one.key.items → digest ≡ digest_of one.key.items
    → after.digests.items ≡ before.digests.items ++ digest ∷ [] → IsTable after → more ≡ seen ++ one ∷ [] → IsIndexed after more
indexed_push before after seen more one digest indexed new digest_is pushed table added =
    subst (λ (l : List Seen). IsIndexed after l) (sym added) (record {
      index = record {
        table = table;
        digests = pushed ∙ (λ i. indexed.index.digests i ++ digest_is i ∷ []) ∙ sym (map-append (λ (e : Seen). digest_of e.key.items) seen (one ∷ []));
      };
      apart = all_pairs_push (λ (a b : Seen). a.key.items ≡ b.key.items → ⊥) seen one indexed.apart (λ k d lt same. new (get_or seen k d) (Contains-get_or seen k d lt) same);
    })

-- the same table and entries, and the same key
pub same_indexed : (t u : Table) (seen more : List Seen) → u ≡ t → more ≡ seen → IsIndexed t seen → IsIndexed u more
same_indexed t u seen more a b indexed = subst (λ (p : Table × List Seen). IsIndexed p.0 p.1) (λ i. (sym a i, sym b i)) indexed

pub same_new : (seen more : List Seen) (one entry : Seen) → more ≡ seen → one ≡ entry → IsNotKnown seen entry.key.items → IsNotKnown more one.key.items
same_new seen more one entry a b new = subst (λ (p : List Seen × Seen). IsNotKnown p.0 p.1.key.items) (λ i. (sym a i, sym b i)) new

-- a lookup in the same entries for the same key
pub same_known : (seen more : List Seen) (key items : List ℕ) → more ≡ seen → items ≡ key → IsNotKnown more items → IsNotKnown seen key
same_known seen more key items a b new = subst (λ (p : List Seen × List ℕ). IsNotKnown p.0 p.1) (λ i. (a i, b i)) new

pub same_noted : (seen more : List Seen) (key : List ℕ) (place : ℕ) → more ≡ seen → IsNoted more key place → IsNoted seen key place
same_noted seen more key place a noted = subst (λ (l : List Seen). IsNoted l key place) a noted

pub none_indexed : (t : Table) (seen : List Seen) → IsTable t → t.digests.items ≡ [] → seen ≡ [] → IsIndexed t seen
none_indexed t seen table none empty =
    subst (λ (l : List Seen). IsIndexed t l) (sym empty) (record {
      index = record { table = table; digests = none };
      apart = λ i j d lt within. absurd (omega (arith, within));
    })

-- VISITED STATES

module _ {S : Type 0} (enabled : S → ℕ → Bool) (Turns : S → ℕ → S → Type 0) (HasKey : S → List ℕ → Type 0) where
  pub visits_none : (s : S) (seen : List Seen) (old left : ℕ) → left ≡ old → VisitsNew enabled Turns HasKey s seen old left
  visits_none s seen old left same = record {
    count = 0;
    fell = omega (arith, same);
    visits = record {
      keys = [];
      many = refl;
      distinct = λ i j d lt within. absurd (omega (arith, within));
      reached = λ key has. absurd (has_none key has);
    };
    new = λ key has. absurd (has_none key has);
  }

  -- the state itself, and the entries that were added below it
  module _ (s : S) (key : List ℕ) (is : HasKey s key) (before after : List Seen) (grown : Grows enabled Turns HasKey s before after) (apart : AreToldApart after) (new : IsNotKnown after key) where
    own_keys : List (List ℕ)
    own_keys = key ∷ keys_of grown.0

    apart_more : AreToldApart (before ++ grown.0)
    apart_more = subst AreToldApart grown.1 apart

    own_in : (other : List ℕ) → Contains own_keys other → (key ≡ other) ⊎ ((one : Seen) × Contains grown.0 one × (one.key.items ≡ other))
    unfolding own_keys
    own_in other has = elim (head_or_tail key other (keys_of grown.0) has) [
      | inl same ↦ inl same
      | inr later ↦ inr (key_has grown.0 other later)
    ]

    in_after : (one : Seen) → Contains grown.0 one → Contains after one
    in_after one has = subst (λ (l : List Seen). Contains l one) (sym grown.1) (Contains-append_right before grown.0 one has)

    own_apart : AreApart own_keys
    unfolding own_keys
    own_apart =
        apart_cons key (keys_of grown.0) (λ other has same. let there = key_has grown.0 other has in new there.0 (in_after there.0 there.1) (there.2 ∙ sym same))
        (keys_apart grown.0 (more_apart before grown.0 apart_more))

    own_new : (other : List ℕ) → Contains own_keys other → IsNotKnown before other
    own_new other has one also same = elim (own_in other has) [
      | inl here ↦ new one (subst (λ (l : List Seen). Contains l one) (sym grown.1) (Contains-append_left before grown.0 one also)) (same ∙ sym here)
      | inr there ↦ more_new before grown.0 apart_more one there.0 also there.1 (same ∙ sym there.2)
    ]

    own_reached : (other : List ℕ) → Contains own_keys other → (path : List ℕ) × (t : S) × IsRun enabled Turns s path t × HasKey t other
    own_reached other has = elim (own_in other has) [
      | inl here ↦ ([], s, refl, subst (λ (k : List ℕ). HasKey s k) here is)
      | inr there ↦ let run = grown.2 there.0 there.1 in (run.0, run.1, run.2, subst (λ (k : List ℕ). HasKey run.1 k) there.2 run.3)
    ]

    own_long : length own_keys + length before ≡ length after + 1
    unfolding own_keys
    own_long = let a = keys_long grown.0 in let b = length-append before grown.0 in let e = ap length grown.1 in omega (arith, a, b, e)

    pub visits_here : (old left : ℕ) → left + length after + 1 ≡ old + length before → VisitsNew enabled Turns HasKey s before old left
    visits_here old left all = record {
      count = length own_keys;
      fell = (let long = own_long in omega (arith, long, all));
      visits = record { keys = own_keys; many = refl; distinct = own_apart; reached = own_reached };
      new = own_new;
    }

    -- and what a search from the state after a turn visited
    pub visits_then : (thread : ℕ) (t : S) (old between left : ℕ) → enabled s thread ≡ true → Turns s thread t → VisitsNew enabled Turns HasKey t after between left
        → ((path : List ℕ) (u : S) → IsRun enabled Turns t path u → HasKey u key → ⊥) → between + length after + 1 ≡ old + length before → VisitsNew enabled Turns HasKey s before old left
    visits_then thread t old between left able turns v below all = record {
      count = length (own_keys ++ v.visits.keys);
      fell = (let long = own_long in let m = v.visits.many in let f = v.fell in let both = length-append own_keys v.visits.keys in omega (arith, long, m, f, both, all));
      visits = record {
        keys = own_keys ++ v.visits.keys;
        many = refl;
        distinct = append_apart own_keys v.visits.keys own_apart v.visits.distinct (λ x y own other same. elim (own_in x own) [
          | inl here ↦ (let run = v.visits.reached y other in below run.0 run.1 run.2 (subst (λ (k : List ℕ). HasKey run.1 k) (sym (here ∙ same)) run.3))
          | inr there ↦ v.new y other there.0 (in_after there.0 there.1) (there.2 ∙ same)
        ]);
        reached = λ other has. elim (Contains-append_cases own_keys v.visits.keys other has) [
          | inl own ↦ own_reached other own
          | inr later ↦ let run = v.visits.reached other later in (thread ∷ run.0, run.1, (able, (t, turns, run.2)), run.3)
        ];
      };
      new = λ other has. elim (Contains-append_cases own_keys v.visits.keys other has) [
        | inl own ↦ own_new other own
        | inr later ↦ λ one also. v.new other later one (subst (λ (l : List Seen). Contains l one) (sym grown.1) (Contains-append_left before grown.0 one also))
      ];
    }

  -- the entries of a whole search
  pub visits_all : (s : S) (before after : List Seen) (count : ℕ) → before ≡ [] → Grows enabled Turns HasKey s before after → AreToldApart after → count ≡ length after → Visits enabled Turns HasKey s count
  unfolding keys_of
  visits_all s before after count none grown apart all =
      let is : after ≡ grown.0 = grown.1 ∙ ap (λ (l : List Seen). l ++ grown.0) none in record {
        keys = keys_of grown.0;
        many = keys_long grown.0 ∙ sym (ap length is) ∙ sym all;
        distinct = keys_apart grown.0 (subst AreToldApart is apart);
        reached = λ key has.
            let there = key_has grown.0 key has in
            let run = grown.2 there.0 there.1 in
            (run.0, run.1, run.2, subst (λ (k : List ℕ). HasKey run.1 k) there.2 run.3);
      }

  pub visits_as : (s : S) (seen : List Seen) (old left states : ℕ) → states ≡ old - left → VisitsNew enabled Turns HasKey s seen old left → Visits enabled Turns HasKey s states
  visits_as s seen old left states is v = subst (λ (n : ℕ). Visits enabled Turns HasKey s n) (let f = v.fell in let same : v.count ≡ states = omega (arith, f, is) in same) v.visits

module _ {S : Type 0} (enabled : S → ℕ → Bool) (Turns : S → ℕ → S → Type 0) (HasKey : S → List ℕ → Type 0) (Akin : S → S → Type 0) (left : S → ℕ) (falls : (s : S) (thread : ℕ) (t : S) → Turns s thread t → left t < left s) where
  run_falls : (s : S) (path : List ℕ) (t : S) → IsRun enabled Turns s path t → left t ≤ left s
  run_falls s [] t run = (let same = ap left run in omega (arith, same))
  run_falls s (thread ∷ path) t run = (let rest = run_falls run.1.0 path t run.1.2 in let one = falls s thread run.1.0 run.1.1 in omega (arith, rest, one))

  -- a state that a run reaches after a turn has another key
  pub never_again : (one_state : (s t : S) (key : List ℕ) → Akin s t → HasKey s key → HasKey t key → s ≡ t) (s : S) (thread : ℕ) (t : S) (key : List ℕ) → Turns s thread t → HasKey s key
      → ((path : List ℕ) (u : S) → IsRun enabled Turns t path u → Akin s u) → (path : List ℕ) (u : S) → IsRun enabled Turns t path u → HasKey u key → ⊥
  never_again one_state s thread t key turns is akin path u run also =
      let same = ap left (one_state s u key (akin path u run) is also) in
      let lower = run_falls t path u run in
      let one = falls s thread t turns in
      omega (arith, same, lower, one)

  -- so no entry that was added below has this key
  pub still_new : (s : S) (thread : ℕ) (t : S) (key : List ℕ) (before after : List Seen) → ((path : List ℕ) (u : S) → IsRun enabled Turns t path u → HasKey u key → ⊥) → Grows enabled Turns HasKey t before after
      → IsNotKnown before key → IsNotKnown after key
  still_new s thread t key before after never grown new one has same =
      elim (Contains-append_cases before grown.0 one (subst (λ (l : List Seen). Contains l one) grown.1 has)) [
        | inl old ↦ new one old same
        | inr more ↦ (let run = grown.2 one more in never run.0 run.1 run.2 (subst (λ (k : List ℕ). HasKey run.1 k) same run.3))
      ]

  -- what was visited when everything was searched after a turn
  pub visits_after : (s : S) (thread : ℕ) (t : S) (key : List ℕ) (before between after : List Seen) (old mid rest : ℕ) → HasKey s key → enabled s thread ≡ true → Turns s thread t
      → ((path : List ℕ) (u : S) → IsRun enabled Turns t path u → HasKey u key → ⊥) → Grows enabled Turns HasKey s before between → Grows enabled Turns HasKey t between after → AreToldApart after → IsNotKnown between key
      → mid + length between + 1 ≡ old + length before → rest + length after ≡ mid + length between → VisitsNew enabled Turns HasKey s before old rest
  visits_after s thread t key before between after old mid rest is able turns never grown later apart new a b =
      visits_here enabled Turns HasKey s key is before after (grows_turn enabled Turns HasKey s thread t before between after able turns grown later) apart (still_new s thread t key between after never later new) old rest
      (omega (arith, a, b))
