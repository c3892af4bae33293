-- Trees that stand in depth-first order: keys with a parent and a depth, and the place of each key in that order.
use Rattle.std.specs.Prelude.{◌≡◌, ◌≢◌, ℕ, ◌<◌, ◌≤◌, ◌+◌, Option, Some, None, option_and_then, ◌⊎◌}

-- what a key has in its tree: its parent, and how many ancestors there are
pub record Limb : Type 0 where
  pub parent : Option ℕ
  pub depth : ℕ

abbrev pub parent_at : (ℕ → Option Limb) → ℕ → Option ℕ
parent_at at key = option_and_then (λ (x : Limb). x.parent) (at key)

-- the key stands after this parent, one deeper, and all between them are deeper than the parent
pub record IsUnder (at : ℕ → Option Limb) (pos : ℕ → ℕ) (key depth parent : ℕ) : Type 0 where
  pub above : Limb
  pub at_parent : at parent ≡ Some above
  pub after : pos parent < pos key
  pub deeper : depth ≡ above.depth + 1
  pub between : (b : ℕ) (y : Limb) → at b ≡ Some y → pos parent < pos b → pos b < pos key → above.depth < y.depth

-- the keys are trees in depth-first order
pub record IsTree (at : ℕ → Option Limb) (pos : ℕ → ℕ) : Type 0 where
  pub apart : (a b : ℕ) (x y : Limb) → at a ≡ Some x → at b ≡ Some y → pos a ≡ pos b → a ≡ b
  pub top : (a : ℕ) (x : Limb) → at a ≡ Some x → x.parent ≡ None → x.depth ≡ 0
  pub under : (a p : ℕ) (x : Limb) → at a ≡ Some x → x.parent ≡ Some p → IsUnder at pos a x.depth p

-- the key is of the run of deeper keys straight after the other one
pub record IsInRun (at : ℕ → Option Limb) (pos : ℕ → ℕ) (high low : ℕ) : Type 0 where
  pub top : Limb
  pub at_top : at high ≡ Some top
  pub limb : Limb
  pub at_limb : at low ≡ Some limb
  pub after : pos high < pos low
  pub deeper : top.depth < limb.depth
  pub between : (b : ℕ) (y : Limb) → at b ≡ Some y → pos high < pos b → pos b < pos low → top.depth < y.depth

-- a new key stands straight after the parent, and what stood after that has moved on by one
pub record StandsAfter (at : ℕ → Option Limb) (pos later : ℕ → ℕ) (parent new : ℕ) : Type 0 where
  pub here : later new ≡ pos parent + 1
  pub low : (a : ℕ) (x : Limb) → at a ≡ Some x → pos a ≤ pos parent → later a ≡ pos a
  pub high : (a : ℕ) (x : Limb) → at a ≡ Some x → pos parent < pos a → later a ≡ pos a + 1

-- a key without children has come under the parent
pub record Sprouts (old new : ℕ → Option Limb) (parent key : ℕ) : Type 0 where
  pub above : Limb
  pub at_parent : old parent ≡ Some above
  pub vacant : old key ≡ None
  pub filled : new key ≡ Some (record { parent = Some parent; depth = above.depth + 1 })
  pub others : (other : ℕ) → other ≢ key → new other ≡ old other

-- a key without a parent has come
pub record Rises (old new : ℕ → Option Limb) (key : ℕ) : Type 0 where
  pub vacant : old key ≡ None
  pub filled : new key ≡ Some (record { parent = None; depth = 0 })
  pub others : (other : ℕ) → other ≢ key → new other ≡ old other

-- some keys have gone, and of each that is left the parent is left too
pub record Sheds (old new : ℕ → Option Limb) : Type 0 where
  pub left : (a : ℕ) → (new a ≡ None) ⊎ (new a ≡ old a)
  pub closed : (a p : ℕ) (x : Limb) → new a ≡ Some x → x.parent ≡ Some p → new p ≡ old p

-- the keys that are left stand in the same order
pub record SameOrder (at : ℕ → Option Limb) (pos later : ℕ → ℕ) : Type 0 where
  pub onward : (a b : ℕ) (x y : Limb) → at a ≡ Some x → at b ≡ Some y → pos a < pos b → later a < later b
  pub back : (a b : ℕ) (x y : Limb) → at a ≡ Some x → at b ≡ Some y → later a < later b → pos a < pos b
