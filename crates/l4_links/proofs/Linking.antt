-- The links of a list of keys once one was put in or taken out.
use Rattle.std.proofs.Common.{◌≡◌, ◌≢◌, ℕ, List, [], ◌∷◌, ◌++◌, Option, Some, None, refl, sym, ap, ◌∙◌, subst, inl, inr, ◌⊎◌}
use Rattle.l4_links.proofs.Writes.{no_some, same_some}
use Rattle.l4_links.specs.Inside.Orders.{IsIn, IsOnce, Link, first_of, last_of, IsLinked, PutsAfter, TakesOut, IsParted}

pub in_left : (xs ys : List ℕ) (a : ℕ) → IsIn xs a → IsIn (xs ++ ys) a
in_left [] ys a i = absurd i
in_left (x ∷ xs) ys a i = elim i [ inl e ↦ inl e | inr j ↦ inr (in_left xs ys a j) ]

pub in_right : (xs ys : List ℕ) (a : ℕ) → IsIn ys a → IsIn (xs ++ ys) a
in_right [] ys a i = i
in_right (x ∷ xs) ys a i = inr (in_right xs ys a i)

pub in_parts : (xs ys : List ℕ) (a : ℕ) → IsIn (xs ++ ys) a → IsIn xs a ⊎ IsIn ys a
in_parts [] ys a i = inr i
in_parts (x ∷ xs) ys a i = elim i [
  | inl e ↦ inl (inl e)
  | inr j ↦ elim (in_parts xs ys a j) [ inl l ↦ inl (inr l) | inr r ↦ inr r ]
]

-- what is known of a list in which each key stands once, at one of its keys
pub once_front : (xs : List ℕ) (k : ℕ) (ys : List ℕ) → IsOnce (xs ++ k ∷ ys) → ¬ (IsIn xs k)
once_front [] k ys once i = absurd i
once_front (x ∷ xs) k ys once i = elim i [
  | inl e ↦ once.0 (in_right xs (k ∷ ys) x (inl (sym e)))
  | inr j ↦ once_front xs k ys once.1 j
]

pub once_back : (xs : List ℕ) (k : ℕ) (ys : List ℕ) → IsOnce (xs ++ k ∷ ys) → ¬ (IsIn ys k)
once_back [] k ys once i = once.0 i
once_back (x ∷ xs) k ys once i = once_back xs k ys once.1 i

pub once_out : (xs : List ℕ) (k : ℕ) (ys : List ℕ) → IsOnce (xs ++ k ∷ ys) → IsOnce (xs ++ ys)
once_out [] k ys once = once.1
once_out (x ∷ xs) k ys once = (
  λ i. once.0 (elim (in_parts xs ys x i) [ inl l ↦ in_left xs (k ∷ ys) x l | inr r ↦ in_right xs (k ∷ ys) x (inr r) ]),
  once_out xs k ys once.1,
)

pub once_in : (xs : List ℕ) (p k : ℕ) (ys : List ℕ) → IsOnce (xs ++ p ∷ ys) → ¬ (IsIn (xs ++ p ∷ ys) k) → IsOnce (xs ++ p ∷ k ∷ ys)
once_in [] p k ys once out = (
  λ i. elim i [ inl e ↦ out (inl (sym e)) | inr j ↦ once.0 j ],
  (λ i. out (inr i), once.1),
)
once_in (x ∷ xs) p k ys once out = (
  λ i. elim (in_parts xs (p ∷ k ∷ ys) x i) [
    | inl l ↦ once.0 (in_left xs (p ∷ ys) x l)
    | inr r ↦ elim r [
      | inl e ↦ once.0 (in_right xs (p ∷ ys) x (inl e))
      | inr s ↦ elim s [ inl e ↦ out (inl (sym e)) | inr j ↦ once.0 (in_right xs (p ∷ ys) x (inr j)) ]
    ]
  ],
  once_in xs p k ys once.1 (λ i. out (inr i)),
)

pub parted : (ks : List ℕ) (k : ℕ) → IsIn ks k → IsParted ks k
parted [] k i = absurd i
parted (x ∷ xs) k i = elim i [
  | inl e ↦ record { front = []; back = xs; is = ap (λ (y : ℕ). y ∷ xs) e }
  | inr j ↦
      let r = parted xs k j in
      record { front = x ∷ r.front; back = r.back; is = ap (λ (zs : List ℕ). x ∷ zs) r.is }
]

-- the first of a longer list, and the last
pub first_in : (ys : List ℕ) (a : ℕ) → first_of ys None ≡ Some a → IsIn ys a
first_in [] a e = no_some a e
first_in (y ∷ ys) a e = inl (same_some e)

pub begins_with : (ys : List ℕ) (a : ℕ) → first_of ys None ≡ Some a → (rest : List ℕ) × (ys ≡ a ∷ rest)
begins_with [] a e = no_some a e
begins_with (y ∷ ys) a e = (ys, ap (λ (z : ℕ). z ∷ ys) (same_some e))

pub last_some : (b : ℕ) (xs : List ℕ) → last_of (Some b) xs ≢ None
last_some b [] e = let w : ◌≡◌ {A = Option ℕ} (Some b) None = e in absurd (let z : ◌≡◌ {A = Option ℕ} (Some b) None = w in cc)
last_some b (x ∷ xs) e = last_some x xs e

pub last_in : (x : ℕ) (xs : List ℕ) (a : ℕ) → last_of (Some x) xs ≡ Some a → IsIn (x ∷ xs) a
last_in x [] a e = inl (let w : ◌≡◌ {A = Option ℕ} (Some x) (Some a) = e in cc)
last_in x (y ∷ xs) a e = inr (last_in y xs a e)

pub first_same : (xs : List ℕ) (p : ℕ) (ys zs : List ℕ) (after : Option ℕ) → first_of (xs ++ p ∷ ys) after ≡ first_of (xs ++ p ∷ zs) after
first_same [] p ys zs after = refl
first_same (x ∷ xs) p ys zs after = refl

-- where a list begins without a key, by the key's neighbours, whatever else has gone with it
pub first_left : (front rest back : List ℕ) (key : ℕ) (prev next begin after : Option ℕ) → prev ≡ last_of None front → next ≡ first_of back None → (prev ≡ None → after ≡ next) → (prev ≢ None → after ≡ begin)
    → first_of (front ++ key ∷ rest) None ≡ begin → first_of (front ++ back) None ≡ after
first_left [] rest back key prev next begin after p n onto stay f = sym n ∙ sym (onto p)
first_left (x ∷ xs) rest back key prev next begin after p n onto stay f = f ∙ sym (stay (λ none. last_some x xs (sym p ∙ none)))

-- the link of one key of the list
pub link_at : (at : ℕ → Option Link) (before : Option ℕ) (xs : List ℕ) (k : ℕ) (ys : List ℕ) (after : Option ℕ) → IsLinked at before (xs ++ k ∷ ys) after
    → at k ≡ Some (record { prev = last_of before xs; next = first_of ys after })
link_at at before [] k ys after l = l.0
link_at at before (x ∷ xs) k ys after l = link_at at (Some x) xs k ys after l.1

-- the links of a list are those of its keys alone
pub linked_same : (old new : ℕ → Option Link) (before : Option ℕ) (ks : List ℕ) (after : Option ℕ) → ((k : ℕ) → IsIn ks k → new k ≡ old k) → IsLinked old before ks after → IsLinked new before ks after
linked_same old new before [] after same l = l
linked_same old new before (k ∷ ks) after same l = (same k (inl refl) ∙ l.0, linked_same old new (Some k) ks after (λ j i. same j (inr i)) l.1)

-- the same link has the same neighbours
same_link : (at : ℕ → Option Link) (k : ℕ) {x y : Link} → at k ≡ Some x → at k ≡ Some y → x ≡ y
same_link at k {x} {y} p q = let w : ◌≡◌ {A = Option Link} (Some x) (Some y) = sym p ∙ q in cc

-- a key was put in behind another one
pub linked_in : (old new : ℕ → Option Link) (before : Option ℕ) (xs : List ℕ) (p k : ℕ) (ys : List ℕ) → IsLinked old before (xs ++ p ∷ ys) None → IsOnce (xs ++ p ∷ ys) → ¬ (IsIn (xs ++ p ∷ ys) k)
    → PutsAfter old new p k → IsLinked new before (xs ++ p ∷ k ∷ ys) None
linked_in old new before [] p k [] l once out c =
    let e : c.link ≡ record { prev = before; next = None } = same_link old p c.was l.0 in (
      c.before ∙ ap (λ (z : Link). Some (record z { next = Some k })) e,
      (c.here ∙ ap (λ (z : Link). Some (record { prev = Some p; next = z.next })) e, tt),
    )
linked_in old new before [] p k (n ∷ ys) l once out c =
    let e : c.link ≡ record { prev = before; next = Some n } = same_link old p c.was l.0 in
    let next_is : c.link.next ≡ Some n = ap (λ (z : Link). z.next) e in (
      c.before ∙ ap (λ (z : Link). Some (record z { next = Some k })) e,
      (
        c.here ∙ ap (λ (z : Link). Some (record { prev = Some p; next = z.next })) e,
        (
          c.after n (record { prev = Some p; next = first_of ys None }) next_is l.1.0,
          linked_same old new (Some n) ys None
              (λ o i. c.others o (λ oe. once.0 (inr (subst (λ (z : ℕ). IsIn ys z) oe i))) (λ oe. out (inr (inr (subst (λ (z : ℕ). IsIn ys z) oe i))))
              (λ w. let ne : ◌≡◌ {A = Option ℕ} (Some n) (Some o) = sym next_is ∙ w in
              let no_e : o ≡ n = cc in once.1.0 (subst (λ (z : ℕ). IsIn ys z) no_e i)))
              l.1.1,
        ),
      ),
    )
linked_in old new before (x ∷ xs) p k ys l once out c =
    let e : c.link ≡ record { prev = last_of (Some x) xs; next = first_of ys None } = same_link old p c.was (link_at old (Some x) xs p ys None l.1) in
    let next_is : c.link.next ≡ first_of ys None = ap (λ (z : Link). z.next) e in (
      c.others x
          (λ xe. once.0 (in_right xs (p ∷ ys) x (inl (sym xe))))
          (λ xe. out (inl xe))
          (λ w. once.0 (in_right xs (p ∷ ys) x (inr (first_in ys x (sym next_is ∙ w)))))
          ∙ l.0 ∙ ap (λ (z : Option ℕ). Some (record { prev = before; next = z })) (first_same xs p ys (k ∷ ys) None),
      linked_in old new (Some x) xs p k ys l.1 once.1 (λ i. out (inr i)) c,
    )

-- a key was taken out
linked_first : (old new : ℕ → Option Link) (before : Option ℕ) (k : ℕ) (ys : List ℕ) → IsLinked old before (k ∷ ys) None → IsOnce (k ∷ ys) → ((o : ℕ) → IsIn (k ∷ ys) o → before ≢ Some o)
    → TakesOut old new k → IsLinked new before ys None
linked_first old new before k [] l once out c = tt
linked_first old new before k (n ∷ ys) l once out c =
    let e : c.link ≡ record { prev = before; next = Some n } = same_link old k c.was l.0 in
    let next_is : c.link.next ≡ Some n = ap (λ (z : Link). z.next) e in
    let prev_is : c.link.prev ≡ before = ap (λ (z : Link). z.prev) e in (
      c.after n (record { prev = Some k; next = first_of ys None }) next_is l.1.0 ∙ ap (λ (z : Option ℕ). Some (record { prev = z; next = first_of ys None })) prev_is,
      linked_same old new (Some n) ys None
          (λ o i. c.others o
          (λ oe. once.0 (inr (subst (λ (z : ℕ). IsIn ys z) oe i)))
          (λ w. out o (inr (inr i)) (sym prev_is ∙ w))
          (λ w. let ne : ◌≡◌ {A = Option ℕ} (Some n) (Some o) = sym next_is ∙ w in
          let no_e : o ≡ n = cc in once.1.0 (subst (λ (z : ℕ). IsIn ys z) no_e i)))
          l.1.1,
    )

-- a key outside of a list is none of it
apart : (x : ℕ) (ks : List ℕ) → ¬ (IsIn ks x) → (o : ℕ) → IsIn ks o → ◌≢◌ {A = Option ℕ} (Some x) (Some o)
apart x ks out o i w = out (subst (λ (z : ℕ). IsIn ks z) (sym (same_some w)) i)

pub linked_out : (old new : ℕ → Option Link) (before : Option ℕ) (xs : List ℕ) (k : ℕ) (ys : List ℕ) → IsLinked old before (xs ++ k ∷ ys) None → IsOnce (xs ++ k ∷ ys)
    → ((o : ℕ) → IsIn (xs ++ k ∷ ys) o → before ≢ Some o) → TakesOut old new k → IsLinked new before (xs ++ ys) None
linked_out old new before [] k ys l once out c = linked_first old new before k ys l once out c
linked_out old new before (x ∷ []) k ys l once out c =
    let e : c.link ≡ record { prev = Some x; next = first_of ys None } = same_link old k c.was l.1.0 in
    let next_is : c.link.next ≡ first_of ys None = ap (λ (z : Link). z.next) e in
    let prev_is : c.link.prev ≡ Some x = ap (λ (z : Link). z.prev) e in (
      c.before x (record { prev = before; next = Some k }) prev_is l.0 ∙ ap (λ (z : Option ℕ). Some (record { prev = before; next = z })) next_is,
      linked_first old new (Some x) k ys l.1 once.1 (apart x (k ∷ ys) once.0) c,
    )
linked_out old new before (x ∷ y ∷ xs) k ys l once out c =
    let e : c.link ≡ record { prev = last_of (Some x) (y ∷ xs); next = first_of ys None } = same_link old k c.was (link_at old (Some x) (y ∷ xs) k ys None l.1) in
    let next_is : c.link.next ≡ first_of ys None = ap (λ (z : Link). z.next) e in
    let prev_is : c.link.prev ≡ last_of (Some y) xs = ap (λ (z : Link). z.prev) e in (
      c.others x
          (λ xe. once.0 (in_right (y ∷ xs) (k ∷ ys) x (inl (sym xe))))
          (λ w. once.0 (in_left (y ∷ xs) (k ∷ ys) x (last_in y xs x (sym prev_is ∙ w))))
          (λ w. once.0 (in_right (y ∷ xs) (k ∷ ys) x (inr (first_in ys x (sym next_is ∙ w)))))
          ∙ l.0,
      linked_out old new (Some x) (y ∷ xs) k ys l.1 once.1 (apart x (y ∷ xs ++ k ∷ ys) once.0) c,
    )

-- the links behind a part of the list
link_behind : (at : ℕ → Option Link) (before : Option ℕ) (run back : List ℕ) (after : Option ℕ) → IsLinked at before (run ++ back) after → (b : Option ℕ) × IsLinked at b back after
link_behind at before [] back after l = (before, l)
link_behind at before (x ∷ run) back after l = link_behind at (Some x) run back after l.1

-- a run was taken out
pub linked_cut : (old new : ℕ → Option Link) (before : Option ℕ) (xs : List ℕ) (top : ℕ) (run back : List ℕ) → IsLinked old before (xs ++ top ∷ (run ++ back)) None
    → ((k : ℕ) → IsIn xs k → new k ≡ old k)
    → ((y : Link) → old top ≡ Some y → new top ≡ Some (record y { next = first_of back None }))
    → ((b : ℕ) (y : Link) → first_of back None ≡ Some b → old b ≡ Some y → new b ≡ Some (record y { prev = Some top }))
    → ((k : ℕ) → IsIn back k → first_of back None ≢ Some k → new k ≡ old k)
    → IsOnce back → IsLinked new before (xs ++ top ∷ back) None
linked_cut old new before (x ∷ xs) top run back l front here first rest once = (
  front x (inl refl) ∙ l.0 ∙ ap (λ (z : Option ℕ). Some (record { prev = before; next = z })) (first_same xs top (run ++ back) back None),
  linked_cut old new (Some x) xs top run back l.1 (λ k i. front k (inr i)) here first rest once,
)
linked_cut old new before [] top run [] l front here first rest once = (here (record { prev = before; next = first_of (run ++ []) None }) l.0, tt)
linked_cut old new before [] top run (b ∷ bs) l front here first rest once =
    let m = link_behind old (Some top) run (b ∷ bs) None l.1 in (
      here (record { prev = before; next = first_of (run ++ b ∷ bs) None }) l.0,
      (
        first b (record { prev = m.0; next = first_of bs None }) refl m.1.0,
        linked_same old new (Some b) bs None
            (λ k i. rest k (inr i) (λ w. let ne : ◌≡◌ {A = Option ℕ} (Some b) (Some k) = w in
            let bk : k ≡ b = cc in once.0 (subst (λ (z : ℕ). IsIn bs z) bk i)))
            m.1.1,
      ),
    )
