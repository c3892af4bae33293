-- An input is one list of lines, and has one first wrong line.
use Rattle.std.proofs.Common.{◌≡◌, ◌==◌, false, ℕ, suc, ◌+◌, ◌<◌, ◌≤◌, ◌⊎◌, inl, inr, refl, sym, ap, ◌∙◌, subst, arith, List, [], ◌∷◌, ◌++◌, length, get_or, append_assoc}
use Rattle.std.proofs.lemmas.Bool.{false≢true}
use Rattle.std.specs.List.{All, flat_map}
use Rattle.l4_text.proofs.LineSteps.{newline_inside}
use Rattle.l4_text.specs.Lines.{NoNewline}
use Rattle.l4_plan_lines.proofs.ClaimLemmas.{second_tag}
use Rattle.l4_plan_lines.proofs.SameClaims.{begins_before, lines_short, tag_short}
use Rattle.l4_plan_lines.specs.Claims.{IsBeginning, EndsInTag, IsSecondTag}
use Rattle.l4_plan_lines.specs.Inputs.{Splits, IsWrongWhole, IsFirstWrong, IsRefused}
use Rattle.l4_plan_lines.specs.Lines.{ended}
use Rattle.l4_plan_lines.specs.declared.found.LineFault.{LineFault}
use Rattle.l4_plan_lines.specs.declared.found.LineFault.TheVariants.{BadTokens, LineTooLong, CutLine}
use Rattle.l4_plan_lines.specs.declared.found.WrongLine.{WrongLine}

-- ---- the lines of an input

has_newline : (rest x b : List ℕ) → NoNewline rest → rest ≡ x ++ 10 ∷ b → ⊥
has_newline rest x b none e = newline_inside x b (subst (λ (t : List ℕ). NoNewline t) e none)

is_newline : (b : ℕ) → (b == 10) ≡ false → b ≡ 10 → ⊥
is_newline b other e = false≢true (sym other ∙ ap (λ (n : ℕ). n == 10) e)

record SameSplit (x y a b : List ℕ) : Type 0 where
  line : x ≡ y
  others : a ≡ b

same_split : (x y a b : List ℕ) → NoNewline x → NoNewline y → x ++ 10 ∷ a ≡ y ++ 10 ∷ b → SameSplit x y a b
same_split [] [] a b hx hy e = record { line = refl; others = cc }
same_split [] (d ∷ ds) a b hx hy e = let f : 10 ≡ d = ap (λ (l : List ℕ). get_or l 0 0) e in absurd (is_newline d hy.0 (sym f))
same_split (c ∷ cs) [] a b hx hy e = let f : c ≡ 10 = ap (λ (l : List ℕ). get_or l 0 0) e in absurd (is_newline c hx.0 f)
same_split (c ∷ cs) (d ∷ ds) a b hx hy e =
    let h : c ≡ d = cc in
    let t : cs ++ 10 ∷ a ≡ ds ++ 10 ∷ b = cc in
    let m = same_split cs ds a b hx.1 hy.1 t in
    record { line = λ i. h i ∷ m.line i; others = m.others }

first_line : (x f rest : List ℕ) → ((x ++ 10 ∷ []) ++ f) ++ rest ≡ x ++ 10 ∷ (f ++ rest)
first_line x f rest = append_assoc (x ++ 10 ∷ []) f rest ∙ append_assoc x (10 ∷ []) (f ++ rest)

pub record OneSplit (xs ys : List (List ℕ)) (r s : List ℕ) : Type 0 where
  pub lines : xs ≡ ys
  pub rest : r ≡ s

same_lines : (xs ys : List (List ℕ)) (r s : List ℕ) → All NoNewline xs → All NoNewline ys → NoNewline r → NoNewline s → flat_map ended xs ++ r ≡ flat_map ended ys ++ s → OneSplit xs ys r s
same_lines [] [] r s hx hy hr hs e = record { lines = refl; rest = e }
same_lines [] (y ∷ ys) r s hx hy hr hs e = absurd (has_newline r y (flat_map ended ys ++ s) hr (e ∙ first_line y (flat_map ended ys) s))
same_lines (x ∷ xs) [] r s hx hy hr hs e = absurd (has_newline s x (flat_map ended xs ++ r) hs (sym e ∙ first_line x (flat_map ended xs) r))
same_lines (x ∷ xs) (y ∷ ys) r s hx hy hr hs e =
    let m = same_split x y (flat_map ended xs ++ r) (flat_map ended ys ++ s) (hx 0 [] (omega arith)) (hy 0 [] (omega arith)) (sym (first_line x (flat_map ended xs) r) ∙ e ∙ first_line y (flat_map ended ys) s) in
    let t = same_lines xs ys r s (λ k d lt. hx (suc k) d (omega arith)) (λ k d lt. hy (suc k) d (omega arith)) hr hs m.others in
    record { lines = λ i. m.line i ∷ t.lines i; rest = t.rest }

pub one_split : (input : List ℕ) (xs ys : List (List ℕ)) (r s : List ℕ) → Splits input xs r → Splits input ys s → OneSplit xs ys r s
one_split input xs ys r s a b = same_lines xs ys r s a.whole b.whole a.cut b.cut (sym a.text ∙ b.text)

-- ---- the first wrong line

abbrev Place : List (List ℕ) → List ℕ → List (List ℕ) → Type 0
Place b x c = (mid : List (List ℕ)) × (c ≡ b ++ x ∷ mid)

record SamePlace (b c : List (List ℕ)) (x y : List ℕ) : Type 0 where
  before : b ≡ c
  line : x ≡ y

-- of two places in a list, which is first
places : (b c : List (List ℕ)) (x y : List ℕ) (d e : List (List ℕ)) → b ++ x ∷ d ≡ c ++ y ∷ e → Place b x c ⊎ (SamePlace b c x y ⊎ Place c y b)
places [] [] x y d e h = let f : x ≡ y = cc in inr (inl (record { before = refl; line = f }))
places [] (k ∷ c) x y d e h = let f : x ≡ k = cc in inl (c, λ i. sym f i ∷ c)
places (j ∷ b) [] x y d e h = let f : j ≡ y = cc in inr (inr (b, λ i. f i ∷ b))
places (j ∷ b) (k ∷ c) x y d e h =
    let f : j ≡ k = cc in
    let t : b ++ x ∷ d ≡ c ++ y ∷ e = cc in
    elim (places b c x y d e t) [
      | inl p ↦ inl (p.0, λ i. sym f i ∷ p.1 i)
      | inr q ↦ inr (elim q [
        | inl s ↦ inl (record { before = λ i. f i ∷ s.before i; line = s.line })
        | inr p ↦ inr (p.0, λ i. f i ∷ p.1 i)
      ])
    ]

FaultOf : LineFault → ℕ → Type 0
FaultOf CutLine n = ⊥
FaultOf LineTooLong n = 4096 < n
FaultOf BadTokens n = n ≤ 4096

-- a line behind these is the wrong one, or it shows that the one before it is
Names : List (List ℕ) → List ℕ → ℕ → LineFault → Type 0
Names before line number fault = ((IsSecondTag before line → ⊥) × (number ≡ length before + 1) × FaultOf fault (length line)) ⊎ (IsSecondTag before line × (number ≡ length before) × (fault ≡ BadTokens))

-- after this line the lines are no claim any more
record WrongAt (lines : List (List ℕ)) (number : ℕ) (fault : LineFault) : Type 0 where
  before : List (List ℕ)
  line : List ℕ
  after : List (List ℕ)
  split : lines ≡ before ++ line ∷ after
  good : IsBeginning before
  bad : IsBeginning (before ++ line ∷ []) → ⊥
  names : Names before line number fault

long_single : (before : List (List ℕ)) (line : List ℕ) → 4096 < length line → IsSecondTag before line → ⊥
long_single before line many s = omega (arith, many, tag_short line s.1.0 s.1.1)

wrong_at : (lines : List (List ℕ)) (number : ℕ) (fault : LineFault) → IsWrongWhole lines number fault → WrongAt lines number fault
unfolding FaultOf Names
wrong_at lines number CutLine w = absurd w
wrong_at lines number LineTooLong w = record {
  before = w.0.before;
  line = w.0.line;
  after = w.0.after;
  split = w.0.split;
  good = w.0.good;
  bad = λ b. omega (arith, lines_short w.0.before w.0.line [] b, w.1);
  names = inl (long_single w.0.before w.0.line w.1, w.0.place, w.1);
}
wrong_at lines number BadTokens w = elim w [
  | inl x ↦ record { before = x.at.before; line = x.at.line; after = x.at.after; split = x.at.split; good = x.at.good; bad = x.bad; names = inl (x.single, x.at.place, x.short) }
  | inr x ↦ record { before = x.before; line = x.line; after = x.after; split = x.split; good = x.good; bad = second_tag x.before x.line x.second.1.0 x.second.0 x.second.1.1; names = inr (x.second, x.place, refl) }
]

same_kind : (f g : LineFault) (m n : ℕ) → m ≡ n → FaultOf f m → FaultOf g n → f ≡ g
unfolding FaultOf
same_kind CutLine g m n e a b = absurd a
same_kind LineTooLong CutLine m n e a b = absurd b
same_kind LineTooLong LineTooLong m n e a b = refl
same_kind LineTooLong BadTokens m n e a b = absurd (omega (arith, a, b, e))
same_kind BadTokens CutLine m n e a b = absurd b
same_kind BadTokens LineTooLong m n e a b = absurd (omega (arith, a, b, e))
same_kind BadTokens BadTokens m n e a b = refl

record SameWrong (m n : ℕ) (f g : LineFault) : Type 0 where
  number : m ≡ n
  fault : f ≡ g

names_one : (before : List (List ℕ)) (line : List ℕ) (m n : ℕ) (f g : LineFault) → Names before line m f → Names before line n g → SameWrong m n f g
unfolding Names
names_one before line m n f g a b =
    elim a [
      | inl x ↦ elim b [
        | inl y ↦ record { number = x.1 ∙ sym y.1; fault = same_kind f g (length line) (length line) refl x.2 y.2 }
        | inr y ↦ absurd (x.0 y.0)
      ]
      | inr x ↦ elim b [
        | inl y ↦ absurd (y.0 x.0)
        | inr y ↦ record { number = x.1 ∙ sym y.1; fault = x.2 ∙ sym y.2 }
      ]
    ]

-- a claim does not go on past a wrong line
past_wrong : (before : List (List ℕ)) (line : List ℕ) (mid : List (List ℕ)) → (IsBeginning (before ++ line ∷ []) → ⊥) → IsBeginning (before ++ line ∷ mid) → ⊥
past_wrong before line mid bad b = bad (begins_before (before ++ line ∷ []) mid (subst IsBeginning (sym (append_assoc before (line ∷ []) mid)) b))

two_wrong : (lines : List (List ℕ)) (m n : ℕ) (f g : LineFault) → WrongAt lines m f → WrongAt lines n g → SameWrong m n f g
two_wrong lines m n f g a b =
    elim (places a.before b.before a.line b.line a.after b.after (sym a.split ∙ b.split)) [
      | inl p ↦ absurd (past_wrong a.before a.line p.0 a.bad (subst IsBeginning p.1 b.good))
      | inr q ↦ elim q [
        | inl s ↦ names_one b.before b.line m n f g (subst (λ (x : List ℕ). Names b.before x m f) s.line (subst (λ (x : List (List ℕ)). Names x a.line m f) s.before a.names)) b.names
        | inr p ↦ absurd (past_wrong b.before b.line p.0 b.bad (subst IsBeginning p.1 a.good))
      ]
    ]

not_begun : (lines : List (List ℕ)) (n : ℕ) (f : LineFault) → WrongAt lines n f → IsBeginning lines → ⊥
not_begun lines n f a b = past_wrong a.before a.line a.after a.bad (subst IsBeginning a.split b)

not_empty : (b : List (List ℕ)) (x : List ℕ) (a : List (List ℕ)) → b ++ x ∷ a ≡ [] → ⊥
not_empty [] x a e = cc
not_empty (y ∷ b) x a e = cc

record CutAt (lines : List (List ℕ)) (rest : List ℕ) (number : ℕ) (fault : LineFault) : Type 0 where
  begun : IsBeginning lines
  some : 0 < length rest
  place : number ≡ length lines + 1
  kind : fault ≡ CutLine

record EmptyAt (lines : List (List ℕ)) (rest : List ℕ) (number : ℕ) (fault : LineFault) : Type 0 where
  no_lines : lines ≡ []
  no_rest : rest ≡ []
  place : number ≡ 1
  kind : fault ≡ BadTokens

record BareAt (lines : List (List ℕ)) (rest : List ℕ) (number : ℕ) (fault : LineFault) : Type 0 where
  begun : IsBeginning lines
  last : EndsInTag lines
  no_rest : rest ≡ []
  place : number ≡ length lines
  kind : fault ≡ BadTokens

abbrev Kinds : List (List ℕ) → List ℕ → ℕ → LineFault → Type 0
Kinds lines rest n f = CutAt lines rest n f ⊎ (EmptyAt lines rest n f ⊎ (BareAt lines rest n f ⊎ WrongAt lines n f))

first_kinds : (lines : List (List ℕ)) (rest : List ℕ) (n : ℕ) (f : LineFault) → IsFirstWrong lines rest n f → Kinds lines rest n f
first_kinds lines rest n CutLine w = inl (record { begun = w.0; some = w.1; place = w.2; kind = refl })
first_kinds lines rest n LineTooLong w = inr (inr (inr (wrong_at lines n LineTooLong w)))
first_kinds lines rest n BadTokens w = elim w [
  | inl e ↦ inr (inl (record { no_lines = e.0; no_rest = e.1; place = e.2; kind = refl }))
  | inr v ↦ elim v [
    | inl e ↦ inr (inr (inl (record { begun = e.good; last = e.last; no_rest = e.whole; place = e.place; kind = refl })))
    | inr x ↦ inr (inr (inr (wrong_at lines n BadTokens x)))
  ]
]

no_line_wrong : (lines : List (List ℕ)) (n : ℕ) (f : LineFault) → WrongAt lines n f → lines ≡ [] → ⊥
no_line_wrong lines n f a e = not_empty a.before a.line a.after (sym a.split ∙ e)

no_line_bare : (lines : List (List ℕ)) → EndsInTag lines → lines ≡ [] → ⊥
no_line_bare lines a e = not_empty a.before a.line [] (sym a.split ∙ e)

cut_and : (lines : List (List ℕ)) (rest : List ℕ) (m n : ℕ) (f g : LineFault) → CutAt lines rest m f → Kinds lines rest n g → SameWrong m n f g
cut_and lines rest m n f g x k = elim k [
  | inl y ↦ record { number = x.place ∙ sym y.place; fault = x.kind ∙ sym y.kind }
  | inr z ↦ elim z [
    | inl y ↦ absurd (omega (arith, x.some, ap length y.no_rest))
    | inr v ↦ elim v [
      | inl y ↦ absurd (omega (arith, x.some, ap length y.no_rest))
      | inr y ↦ absurd (not_begun lines n g y x.begun)
    ]
  ]
]

empty_and : (lines : List (List ℕ)) (rest : List ℕ) (m n : ℕ) (f g : LineFault) → EmptyAt lines rest m f → Kinds lines rest n g → SameWrong m n f g
empty_and lines rest m n f g x k = elim k [
  | inl y ↦ absurd (omega (arith, y.some, ap length x.no_rest))
  | inr z ↦ elim z [
    | inl y ↦ record { number = x.place ∙ sym y.place; fault = x.kind ∙ sym y.kind }
    | inr v ↦ elim v [
      | inl y ↦ absurd (no_line_bare lines y.last x.no_lines)
      | inr y ↦ absurd (no_line_wrong lines n g y x.no_lines)
    ]
  ]
]

bare_and : (lines : List (List ℕ)) (rest : List ℕ) (m n : ℕ) (f g : LineFault) → BareAt lines rest m f → Kinds lines rest n g → SameWrong m n f g
bare_and lines rest m n f g x k = elim k [
  | inl y ↦ absurd (omega (arith, y.some, ap length x.no_rest))
  | inr z ↦ elim z [
    | inl y ↦ absurd (no_line_bare lines x.last y.no_lines)
    | inr v ↦ elim v [
      | inl y ↦ record { number = x.place ∙ sym y.place; fault = x.kind ∙ sym y.kind }
      | inr y ↦ absurd (not_begun lines n g y x.begun)
    ]
  ]
]

wrong_and : (lines : List (List ℕ)) (rest : List ℕ) (m n : ℕ) (f g : LineFault) → WrongAt lines m f → Kinds lines rest n g → SameWrong m n f g
wrong_and lines rest m n f g x k = elim k [
  | inl y ↦ absurd (not_begun lines m f x y.begun)
  | inr z ↦ elim z [
    | inl y ↦ absurd (no_line_wrong lines m f x y.no_lines)
    | inr v ↦ elim v [
      | inl y ↦ absurd (not_begun lines m f x y.begun)
      | inr y ↦ two_wrong lines m n f g x y
    ]
  ]
]

two_first : (lines : List (List ℕ)) (rest : List ℕ) (m n : ℕ) (f g : LineFault) → IsFirstWrong lines rest m f → IsFirstWrong lines rest n g → SameWrong m n f g
two_first lines rest m n f g a b =
    let k = first_kinds lines rest n g b in
    elim (first_kinds lines rest m f a) [
      | inl x ↦ cut_and lines rest m n f g x k
      | inr z ↦ elim z [
        | inl x ↦ empty_and lines rest m n f g x k
        | inr v ↦ elim v [
          | inl x ↦ bare_and lines rest m n f g x k
          | inr x ↦ wrong_and lines rest m n f g x k
        ]
      ]
    ]

pub one_refused : (input : List ℕ) (v w : WrongLine) → IsRefused input v → IsRefused input w → v ≡ w
one_refused input v w a b =
    let s = one_split input a.lines b.lines a.rest b.rest a.splits b.splits in
    let first : IsFirstWrong b.lines b.rest v.number v.fault = subst (λ (r : List ℕ). IsFirstWrong b.lines r v.number v.fault) s.rest (subst (λ (l : List (List ℕ)). IsFirstWrong l a.rest v.number v.fault) s.lines a.first) in
    let m = two_first b.lines b.rest v.number w.number v.fault w.fault first b.first in
    λ i. record { number = m.number i; fault = m.fault i }

-- lines that are a claim in which each message has an item have no first wrong one
pub none_wrong : (lines : List (List ℕ)) (n : ℕ) (f : LineFault) → 0 < length lines → IsBeginning lines → (EndsInTag lines → ⊥) → IsFirstWrong lines [] n f → ⊥
none_wrong lines n f some begun filled w =
    elim (first_kinds lines [] n f w) [
      | inl x ↦ omega (arith, x.some)
      | inr z ↦ elim z [
        | inl x ↦ omega (arith, some, ap length x.no_lines)
        | inr v ↦ elim v [
          | inl x ↦ filled x.last
          | inr x ↦ not_begun lines n f x begun
        ]
      ]
    ]
