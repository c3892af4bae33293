-- What a place becomes is one thing, where the message is not entangled.
use Rattle.std.proofs.Common.{◌≡◌, ◌==◌, true, Option, Some, None, IsTrue, is_some, sym, ap, ◌∙◌, subst, inl, inr, arith}
use Rattle.std.proofs.lemmas.Bool.Decides.{nat_tests}
use Rattle.l4_mapdb.specs.declared.Place.{Place}
use Rattle.l4_mapdb.specs.declared.Mapping.{Mapping}
use Rattle.l4_mapdb.specs.Mappings.{Mappings, shown}
use Rattle.l4_mapdb.specs.Transfer.{PageMove, IsEntangled, IsGone, StandsAt, ParentLater, Becomes, Moved}
use Rattle.l4_mapdb.proofs.EntriesLemmas.{decided}
use Rattle.l4_mapdb.proofs.Filled.{BecomesBy, by_kind}
use Rattle.l4_mapdb.proofs.Unique.{same_value}

-- an item has one used move out of a place, and one into it
pub record KnownMoves (Used : PageMove → Type 0) : Type 0 where
  pub same_source : (u v : PageMove) → Used u → Used v → u.item ≡ v.item → u.source ≡ v.source → u ≡ v
  pub same_target : (u v : PageMove) → Used u → Used v → u.item ≡ v.item → u.target ≡ v.target → u ≡ v

module _ (Used : PageMove → Type 0) (old : Mappings) (known : KnownMoves Used) (free : ¬ (IsEntangled Used old)) where
  -- two used moves with one target are one
  pub one_target : (u v : PageMove) → Used u → Used v → u.target ≡ v.target → u ≡ v
  one_target u v a b e = decided (u.item == v.item)
      (λ t. let i : u.item ≡ v.item = grind (arith, nat_tests) in known.same_target u v a b i e)
      (λ f. absurd (free (record { one = u; other = v; one_used = a; other_used = b; clash = inl (λ i. f (let t : (u.item == v.item) ≡ true = grind (arith, nat_tests) in t), inl e) })))

  -- a granted source is the source of one used move
  pub one_grant : (u v : PageMove) → Used u → Used v → IsTrue u.grant → u.source ≡ v.source → u ≡ v
  one_grant u v a b g e = decided (u.item == v.item)
      (λ t. let i : u.item ≡ v.item = grind (arith, nat_tests) in known.same_source u v a b i e)
      (λ f. absurd (free (record { one = u; other = v; one_used = a; other_used = b; clash = inl (λ i. f (let t : (u.item == v.item) ≡ true = grind (arith, nat_tests) in t), inr (g, e)) })))

  -- a place stands at one place later
  one_place : (c q r : Place) → StandsAt Used c q → StandsAt Used c r → q ≡ r
  one_place c q r (inl g) (inl h) = grind (arith, one_grant, sym, ap)
  one_place c q r (inl g) (inr n) = absurd (n.0 (record { move = g.0; used = g.1; grant = g.2; source = g.3 }))
  one_place c q r (inr n) (inl g) = absurd (n.0 (record { move = g.0; used = g.1; grant = g.2; source = g.3 }))
  one_place c q r (inr n) (inr k) = sym n.1 ∙ k.1

  -- so it has one parent later
  one_parent : (parent a b : Option Place) → ParentLater Used parent a → ParentLater Used parent b → a ≡ b
  one_parent None a b x y = x ∙ sym y
  one_parent (Some p) a b x y = x.2 ∙ ap (λ (q : Place). Some q) (one_place p x.0 y.0 x.1 y.1) ∙ sym y.2

  same_mapping : (a b : Mapping) → a.frame ≡ b.frame → a.rights ≡ b.rights → a.parent ≡ b.parent → a ≡ b
  same_mapping a b f r p = λ i. record { frame = f i; rights = r i; parent = p i }

  -- a present target is gone
  target_gone : (u : PageMove) → Used u → (q : Place) (b : Mapping) → u.target ≡ q → shown old q ≡ Some b → IsGone Used old q
  target_gone u a q b e at = record { move = u; used = a; present = ap is_some (ap (shown old) e ∙ at); below = inl (sym e) }

  one_by_kind : (q : Place) (a b : Mapping) → BecomesBy Used old q a → BecomesBy Used old q b → a ≡ b
  one_by_kind q a b (inl x) (inl y) =
      let e : x.move ≡ y.move = one_target x.move y.move x.used y.used (x.target ∙ sym y.target) in
      same_mapping a b
      (x.frame ∙ ap (λ (v : PageMove). v.shows.frame) e ∙ sym y.frame)
      (x.rights ∙ ap (λ (v : PageMove). v.rights) e ∙ sym y.rights)
      (x.parent ∙ ap (λ (v : PageMove). Some v.source) e ∙ sym y.parent)
  one_by_kind q a b (inl x) (inr (inl y)) = grind arith
  one_by_kind q a b (inl x) (inr (inr y)) = absurd (y.not_gone (target_gone x.move x.used q y.before x.target y.at))
  one_by_kind q a b (inr (inl x)) (inl y) = grind arith
  one_by_kind q a b (inr (inl x)) (inr (inl y)) =
      let e : x.move ≡ y.move = one_target x.move y.move x.used y.used (x.target ∙ sym y.target) in
      let shows : x.move.shows.parent ≡ y.move.shows.parent = ap (λ (v : PageMove). v.shows.parent) e in
      same_mapping a b
      (x.frame ∙ ap (λ (v : PageMove). v.shows.frame) e ∙ sym y.frame)
      (x.rights ∙ ap (λ (v : PageMove). v.rights) e ∙ sym y.rights)
      (one_parent y.move.shows.parent a.parent b.parent (subst (λ (p : Option Place). ParentLater Used p a.parent) shows x.parent) y.parent)
  one_by_kind q a b (inr (inl x)) (inr (inr y)) = absurd (y.not_gone (target_gone x.move x.used q y.before x.target y.at))
  one_by_kind q a b (inr (inr x)) (inl y) = absurd (x.not_gone (target_gone y.move y.used q x.before y.target x.at))
  one_by_kind q a b (inr (inr x)) (inr (inl y)) = absurd (x.not_gone (target_gone y.move y.used q x.before y.target x.at))
  one_by_kind q a b (inr (inr x)) (inr (inr y)) =
      let e : x.before ≡ y.before = same_value (sym x.at ∙ y.at) in
      same_mapping a b
      (x.frame ∙ ap (λ (v : Mapping). v.frame) e ∙ sym y.frame)
      (x.rights ∙ ap (λ (v : Mapping). v.rights) e ∙ sym y.rights)
      (one_parent y.before.parent a.parent b.parent (subst (λ (p : Option Place). ParentLater Used p a.parent) (ap (λ (v : Mapping). v.parent) e) x.parent) y.parent)

  -- what a place becomes is one mapping, so it is enough that places show what they become, and that what becomes something shows something
  pub moved_by : (new : Mappings) → new.spaces ≡ old.spaces → ((q : Place) (m : Mapping) → shown new q ≡ Some m → Becomes Used old q m)
      → ((q : Place) (m : Mapping) → BecomesBy Used old q m → (k : Mapping) × (shown new q ≡ Some k)) → Moved Used old new
  moved_by new spaces becomes shows = record {
    spaces = spaces;
    places = λ q m. (
      becomes q m,
      λ b. let k = shows q m (by_kind b) in k.1 ∙ ap (λ (x : Mapping). Some x) (one_by_kind q k.0 m (by_kind (becomes q k.0 k.1)) (by_kind b)),
    );
  }
