-- There is one answer to an input about a region.
use Rattle.std.proofs.Common.{◌≡◌, ℕ, ◌+◌, ◌*◌, ◌<◌, ◌⊎◌, inl, inr, refl, sym, ap, ◌∙◌, subst, arith, List, [], length, Option, Some}
use Rattle.std.proofs.lemmas.Bool.{cases_lt}
use Rattle.l4_fpage.specs.declared.fpages.Fpage.TheVariants.{Nil}
use Rattle.l4_msg.specs.declared.items.Item.{Item}
use Rattle.l4_msg.specs.declared.items.Item.TheVariants.{Map}
use Rattle.l4_msg.specs.declared.regions.Region.{Region}
use Rattle.l4_plan_check.specs.Claims.{IsFirstBad, IsLeastGap, IsFirstOutside, IsFirstPair}
use Rattle.l4_plan_check.specs.Faults.{Holds, rank, IsFirstFault, LongHolds, IsFirstLongFault}
use Rattle.l4_plan_check.specs.declared.faults.Fault.{Fault}
use Rattle.l4_plan_check.specs.declared.faults.Fault.TheVariants.{Region as InRegion, Item as InItem, Gap, Count, Page, Pair}
use Rattle.l4_plan_lines.proofs.SameClaims.{SameClaim, same_claim}
use Rattle.l4_plan_lines.proofs.SameInputs.{one_split, one_refused, none_wrong}
use Rattle.l4_plan_lines.specs.Answers.{AreRightTags, IsFirstWrongTag, IsAnswer}
use Rattle.l4_plan_lines.specs.Claims.{IsClaimOf}
use Rattle.l4_plan_lines.specs.Inputs.{IsFirstWrong, IsRefused, IsWhole}
use Rattle.l4_plan_lines.specs.declared.answers.Answer.{Answer}
use Rattle.l4_plan_lines.specs.declared.answers.Answer.TheVariants.{Refused, Faulty, ProvedPlan, ProvedTooLong}
use Rattle.l4_plan_lines.specs.declared.claims.Claim.{Claim}
use Rattle.l4_plan_lines.specs.declared.claims.Head.{Head}
use Rattle.l4_plan_lines.specs.declared.claims.Head.TheVariants.{Plan, TooLong}
use Rattle.l4_plan_lines.specs.declared.found.LineFault.TheVariants.{BadTokens}
use Rattle.l4_plan_lines.specs.declared.found.WrongLine.{WrongLine}
use Rattle.l4_fpage.specs.declared.sizes.PageSize.{PageSize}

-- ---- one first fault

same_number : (i j : ℕ) → (i < j → ⊥) → (j < i → ⊥) → i ≡ j
same_number i j below above =
    elim (cases_lt i j) [
      | inl lt ↦ absurd (below lt)
      | inr ge ↦ elim (cases_lt j i) [ inl gt ↦ absurd (above gt) | inr le ↦ omega arith ]
    ]

bad_before : (size : PageSize) → (r : Region) (items : List Item) (i j : ℕ) → IsFirstBad size r items i → IsFirstBad size r items j → i < j → ⊥
bad_before size r items i j a b lt = a.bad (Map 0 Nil) (b.before i (Map 0 Nil) (omega arith) lt)

gap_before : (size : PageSize) → (r : Region) (items : List Item) (p q : ℕ) → IsLeastGap size r items p → IsLeastGap size r items q → p < q → ⊥
gap_before size r items p q a b lt = a.gap (b.before p a.from lt)

outside_before : (r : Region) (pages : List ℕ) (i j : ℕ) → IsFirstOutside r pages i → IsFirstOutside r pages j → i < j → ⊥
outside_before r pages i j a b lt = a.outside (b.before i lt)

pair_before : (r : Region) (pages : List ℕ) (i j : ℕ) → IsFirstPair r pages i → IsFirstPair r pages j → i < j → ⊥
pair_before r pages i j a b lt = b.before i lt a.pair

bad_same : (size : PageSize) → (r : Region) (items : List Item) (i j : ℕ) → IsFirstBad size r items i → IsFirstBad size r items j → i ≡ j
bad_same size r items i j a b = same_number i j (bad_before size r items i j a b) (bad_before size r items j i b a)

gap_same : (size : PageSize) → (r : Region) (items : List Item) (p q : ℕ) → IsLeastGap size r items p → IsLeastGap size r items q → p ≡ q
gap_same size r items p q a b = same_number p q (gap_before size r items p q a b) (gap_before size r items q p b a)

outside_same : (r : Region) (pages : List ℕ) (i j : ℕ) → IsFirstOutside r pages i → IsFirstOutside r pages j → i ≡ j
outside_same r pages i j a b = same_number i j (outside_before r pages i j a b) (outside_before r pages j i b a)

pair_same : (r : Region) (pages : List ℕ) (i j : ℕ) → IsFirstPair r pages i → IsFirstPair r pages j → i ≡ j
pair_same r pages i j a b = same_number i j (pair_before r pages i j a b) (pair_before r pages j i b a)

fault_same : (size : PageSize) → (r : Region) (items : List Item) (pages : List ℕ) (f g : Fault) → rank f ≡ rank g → Holds size r items pages f → Holds size r items pages g → f ≡ g
fault_same size r items pages InRegion InRegion e a b = refl
fault_same size r items pages (InItem i) (InItem j) e a b = ap InItem (bad_same size r items i j a b)
fault_same size r items pages (Gap p) (Gap q) e a b = ap Gap (gap_same size r items p q a b)
fault_same size r items pages Count Count e a b = refl
fault_same size r items pages (Page i) (Page j) e a b = ap Page (outside_same r pages i j a b)
fault_same size r items pages (Pair i) (Pair j) e a b = ap Pair (pair_same r pages i j a b)
fault_same size r items pages f g e a b = absurd (omega (arith, e))

long_same : (size : PageSize) → (r : Region) (pages : List ℕ) (f g : Fault) → rank f ≡ rank g → LongHolds size r pages f → LongHolds size r pages g → f ≡ g
long_same size r pages InRegion InRegion e a b = refl
long_same size r pages (InItem i) (InItem j) e a b = absurd a
long_same size r pages (Gap p) (Gap q) e a b = absurd a
long_same size r pages Count Count e a b = refl
long_same size r pages (Page i) (Page j) e a b = ap Page (outside_same r pages i j a b)
long_same size r pages (Pair i) (Pair j) e a b = ap Pair (pair_same r pages i j a b)
long_same size r pages f g e a b = absurd (omega (arith, e))

one_fault : (size : PageSize) → (r : Region) (items : List Item) (pages : List ℕ) (f g : Fault) → IsFirstFault size r items pages f → IsFirstFault size r items pages g → f ≡ g
one_fault size r items pages f g a b = fault_same size r items pages f g (same_number (rank f) (rank g) (λ lt. b.earlier f lt a.holds) (λ lt. a.earlier g lt b.holds)) a.holds b.holds

one_long_fault : (size : PageSize) → (r : Region) (pages : List ℕ) (f g : Fault) → IsFirstLongFault size r pages f → IsFirstLongFault size r pages g → f ≡ g
one_long_fault size r pages f g a b = long_same size r pages f g (same_number (rank f) (rank g) (λ lt. b.earlier f lt a.holds) (λ lt. a.earlier g lt b.holds)) a.holds b.holds

-- ---- what is answered to a claim

PlanAnswer : PageSize → Region → List ℕ → List Item → List ℕ → Answer → Type 0
PlanAnswer size r tags items pages (Refused wrong) = (k : ℕ) × IsFirstWrongTag tags items k × (wrong.number ≡ 32 * k + 1) × (wrong.fault ≡ BadTokens)
PlanAnswer size r tags items pages (Faulty fault) = AreRightTags tags items × IsFirstFault size r items pages fault
PlanAnswer size r tags items pages (ProvedPlan n) = AreRightTags tags items × (n ≡ length items) × ((fault : Fault) → Holds size r items pages fault → ⊥)
PlanAnswer size r tags items pages ProvedTooLong = ⊥

wrong_tag_before : (tags : List ℕ) (items : List Item) (i j : ℕ) → IsFirstWrongTag tags items i → IsFirstWrongTag tags items j → i < j → ⊥
wrong_tag_before tags items i j a b lt = a.other (b.before i lt)

same_wrong_tag : (tags : List ℕ) (items : List Item) (i j : ℕ) → IsFirstWrongTag tags items i → IsFirstWrongTag tags items j → i ≡ j
same_wrong_tag tags items i j a b = same_number i j (wrong_tag_before tags items i j a b) (wrong_tag_before tags items j i b a)

not_right : (tags : List ℕ) (items : List Item) (k : ℕ) → IsFirstWrongTag tags items k → AreRightTags tags items → ⊥
not_right tags items k a b = a.other (b k a.inside)

LongAnswer : (size : PageSize) → Region → List ℕ → Answer → Type 0
LongAnswer size r pages (Refused wrong) = ⊥
LongAnswer size r pages (Faulty fault) = IsFirstLongFault size r pages fault
LongAnswer size r pages (ProvedPlan n) = ⊥
LongAnswer size r pages ProvedTooLong = (fault : Fault) → LongHolds size r pages fault → ⊥

plan_answer : (size : PageSize) (r : Region) (tags : List ℕ) (items : List Item) (pages : List ℕ) (a b : Answer) → PlanAnswer size r tags items pages a → PlanAnswer size r tags items pages b → a ≡ b
unfolding PlanAnswer
plan_answer size r tags items pages (Refused v) (Refused w) x y =
    let k : x.0 ≡ y.0 = same_wrong_tag tags items x.0 y.0 x.1 y.1 in
    let number : v.number ≡ w.number = x.2 ∙ ap (λ (n : ℕ). 32 * n + 1) k ∙ sym y.2 in
    let fault : v.fault ≡ w.fault = x.3 ∙ sym y.3 in
    λ i. Refused (record { number = number i; fault = fault i })
plan_answer size r tags items pages (Refused v) (Faulty g) x y = absurd (not_right tags items x.0 x.1 y.0)
plan_answer size r tags items pages (Refused v) (ProvedPlan n) x y = absurd (not_right tags items x.0 x.1 y.0)
plan_answer size r tags items pages (Refused v) ProvedTooLong x y = absurd y
plan_answer size r tags items pages (Faulty f) (Refused w) x y = absurd (not_right tags items y.0 y.1 x.0)
plan_answer size r tags items pages (Faulty f) (Faulty g) x y = ap Faulty (one_fault size r items pages f g x.1 y.1)
plan_answer size r tags items pages (Faulty f) (ProvedPlan n) x y = absurd (y.2 f x.1.holds)
plan_answer size r tags items pages (Faulty f) ProvedTooLong x y = absurd y
plan_answer size r tags items pages (ProvedPlan m) (Refused w) x y = absurd (not_right tags items y.0 y.1 x.0)
plan_answer size r tags items pages (ProvedPlan m) (Faulty g) x y = absurd (x.2 g y.1.holds)
plan_answer size r tags items pages (ProvedPlan m) (ProvedPlan n) x y = ap ProvedPlan (x.1 ∙ sym y.1)
plan_answer size r tags items pages (ProvedPlan m) ProvedTooLong x y = absurd y
plan_answer size r tags items pages ProvedTooLong b x y = absurd x

long_answer : (size : PageSize) (r : Region) (pages : List ℕ) (a b : Answer) → LongAnswer size r pages a → LongAnswer size r pages b → a ≡ b
unfolding LongAnswer
long_answer size r pages (Refused v) b x y = absurd x
long_answer size r pages (Faulty f) (Refused w) x y = absurd y
long_answer size r pages (Faulty f) (Faulty g) x y = ap Faulty (one_long_fault size r pages f g x y)
long_answer size r pages (Faulty f) (ProvedPlan n) x y = absurd y
long_answer size r pages (Faulty f) ProvedTooLong x y = absurd (y f x.holds)
long_answer size r pages (ProvedPlan m) b x y = absurd x
long_answer size r pages ProvedTooLong (Refused w) x y = absurd y
long_answer size r pages ProvedTooLong (Faulty g) x y = absurd (x g y.holds)
long_answer size r pages ProvedTooLong (ProvedPlan n) x y = absurd y
long_answer size r pages ProvedTooLong ProvedTooLong x y = refl

-- ---- the three kinds of input

record IsWrong (input : List ℕ) (answer : Answer) : Type 0 where
  wrong : WrongLine
  refused : IsRefused input wrong
  is : answer ≡ Refused wrong

record OnPlan (size : PageSize) (r : Region) (input : List ℕ) (answer : Answer) : Type 0 where
  claim : Claim
  whole : IsWhole input claim
  head : claim.head ≡ Some Plan
  answered : PlanAnswer size r claim.tags.items claim.items.items claim.pages.items answer

record OnLong (size : PageSize) (r : Region) (input : List ℕ) (answer : Answer) : Type 0 where
  claim : Claim
  whole : IsWhole input claim
  head : claim.head ≡ Some TooLong
  answered : LongAnswer size r claim.pages.items answer

kinds : (size : PageSize) → (r : Region) (input : List ℕ) (a : Answer) → IsAnswer size r input a → IsWrong input a ⊎ (OnPlan size r input a ⊎ OnLong size r input a)
unfolding PlanAnswer LongAnswer
kinds size r input (Refused wrong) x = elim x [
  | inl y ↦ inl (record { wrong = wrong; refused = y; is = refl })
  | inr y ↦ inr (inl (record { claim = y.claim; whole = y.whole; head = y.head; answered = (y.place, y.first, y.number, y.fault) }))
]
kinds size r input (Faulty fault) x = elim x [
  | inl y ↦ inr (inl (record { claim = y.0; whole = y.1.whole; head = y.1.head; answered = (y.1.fits, y.2) }))
  | inr y ↦ inr (inr (record { claim = y.0; whole = y.1.whole; head = y.1.head; answered = y.2 }))
]
kinds size r input (ProvedPlan n) x = inr (inl (record { claim = x.0; whole = x.1.whole; head = x.1.head; answered = (x.1.fits, x.2, x.3) }))
kinds size r input ProvedTooLong x = inr (inr (record { claim = x.0; whole = x.1.whole; head = x.1.head; answered = x.2 }))

one_claim : (input : List ℕ) (c d : Claim) → IsWhole input c → IsWhole input d → SameClaim c.head d.head c.tags.items d.tags.items c.items.items d.items.items c.pages.items d.pages.items
one_claim input c d a b =
    let s = one_split input a.lines b.lines [] [] a.splits b.splits in
    let claimed : IsClaimOf b.lines c = subst (λ (l : List (List ℕ)). IsClaimOf l c) s.lines a.claimed in
    same_claim b.lines c.head d.head c.tags.items d.tags.items c.items.items d.items.items c.pages.items d.pages.items claimed b.claimed

whole_not_wrong : (input : List ℕ) (c : Claim) (w : WrongLine) → IsWhole input c → IsRefused input w → ⊥
whole_not_wrong input c w a b =
    let s = one_split input b.lines a.lines b.rest [] b.splits a.splits in
    let first : IsFirstWrong a.lines [] w.number w.fault = subst (λ (r : List ℕ). IsFirstWrong a.lines r w.number w.fault) s.rest (subst (λ (l : List (List ℕ)). IsFirstWrong l b.rest w.number w.fault) s.lines b.first) in
    none_wrong a.lines w.number w.fault a.some (c.head, c.tags.items, c.items.items, c.pages.items, a.claimed) a.filled first

not_both : (h : Option Head) → h ≡ Some Plan → h ≡ Some TooLong → ⊥
not_both h a b = cc

two_plans : (size : PageSize) → (r : Region) (input : List ℕ) (a b : Answer) → OnPlan size r input a → OnPlan size r input b → a ≡ b
two_plans size r input a b x y =
    let s = one_claim input x.claim y.claim x.whole y.whole in
    let answered : PlanAnswer size r y.claim.tags.items y.claim.items.items y.claim.pages.items a =
    subst (λ (p : List ℕ). PlanAnswer size r y.claim.tags.items y.claim.items.items p a) s.pages
    (subst (λ (l : List Item). PlanAnswer size r y.claim.tags.items l x.claim.pages.items a) s.items
    (subst (λ (t : List ℕ). PlanAnswer size r t x.claim.items.items x.claim.pages.items a) s.tags x.answered)) in
    plan_answer size r y.claim.tags.items y.claim.items.items y.claim.pages.items a b answered y.answered

two_long : (size : PageSize) (r : Region) (input : List ℕ) (a b : Answer) → OnLong size r input a → OnLong size r input b → a ≡ b
two_long size r input a b x y =
    let s = one_claim input x.claim y.claim x.whole y.whole in
    let answered : LongAnswer size r y.claim.pages.items a = subst (λ (p : List ℕ). LongAnswer size r p a) s.pages x.answered in
    long_answer size r y.claim.pages.items a b answered y.answered

plan_not_long : (size : PageSize) → (r : Region) (input : List ℕ) (a b : Answer) → OnPlan size r input a → OnLong size r input b → ⊥
plan_not_long size r input a b x y =
    let s = one_claim input x.claim y.claim x.whole y.whole in
    not_both y.claim.head (sym s.head ∙ x.head) y.head

pub one_answer : (size : PageSize) → (r : Region) (input : List ℕ) (a b : Answer) → IsAnswer size r input a → IsAnswer size r input b → a ≡ b
one_answer size r input a b p q =
    elim (kinds size r input a p) [
      | inl x ↦ elim (kinds size r input b q) [
        | inl y ↦ x.is ∙ ap Refused (one_refused input x.wrong y.wrong x.refused y.refused) ∙ sym y.is
        | inr v ↦ absurd (elim v [ inl y ↦ whole_not_wrong input y.claim x.wrong y.whole x.refused | inr y ↦ whole_not_wrong input y.claim x.wrong y.whole x.refused ])
      ]
      | inr u ↦ elim u [
        | inl x ↦ elim (kinds size r input b q) [
          | inl y ↦ absurd (whole_not_wrong input x.claim y.wrong x.whole y.refused)
          | inr v ↦ elim v [ inl y ↦ two_plans size r input a b x y | inr y ↦ absurd (plan_not_long size r input a b x y) ]
        ]
        | inr x ↦ elim (kinds size r input b q) [
          | inl y ↦ absurd (whole_not_wrong input x.claim y.wrong x.whole y.refused)
          | inr v ↦ elim v [ inl y ↦ absurd (plan_not_long size r input b a y x) | inr y ↦ two_long size r input a b x y ]
        ]
      ]
    ]
