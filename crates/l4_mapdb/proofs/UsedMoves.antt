-- What is known of the used moves of a message.
use Rattle.std.proofs.Common.{◌≡◌, ℕ, List, arith}
use Rattle.l4_msg.specs.declared.items.ItemMove.{ItemMove}
use Rattle.l4_mapdb.specs.Mappings.{Mappings}
use Rattle.l4_mapdb.specs.Transfer.{PageMove, IsUsed}
use Rattle.l4_mapdb.proofs.Single.{KnownMoves}

module _ (old : Mappings) (sender receiver : ℕ) (items : List ItemMove) where
  abbrev Used : PageMove → Type 0
  Used = IsUsed old sender receiver items

  one_item : (u v : PageMove) (a : Used u) (b : Used v) → u.item ≡ v.item → a.by ≡ b.by
  one_item u v a b e = grind arith

  one_move : (u v : PageMove) → Used u → Used v → u.item ≡ v.item → u.source ≡ v.source → u.target ≡ v.target → u ≡ v
  one_move u v a b item source target = grind arith

  -- an item has one move out of a place
  same_source : (u v : PageMove) → Used u → Used v → u.item ≡ v.item → u.source ≡ v.source → u ≡ v
  same_source u v a b item source = grind arith

  -- an item has one move into a place
  same_target : (u v : PageMove) → Used u → Used v → u.item ≡ v.item → u.target ≡ v.target → u ≡ v
  same_target u v a b item target = grind arith

  pub known_moves : KnownMoves Used
  known_moves = record { same_source = same_source; same_target = same_target }
