-- At the end of the walk over the grant items all used moves are done.
use Rattle.std.proofs.Common.{◌≡◌, ℕ, Bool, true, false, List, length, refl, sym, ◌∙◌, inl, inr}
use Rattle.std.proofs.lemmas.Option.{slice_get_within}
use Rattle.l4_links.specs.Entries.{Linked}
use Rattle.l4_msg.specs.declared.items.ItemMove.{ItemMove}
use Rattle.l4_mapdb.specs.Transfer.{PageMove}
use Rattle.l4_mapdb.specs.Inside.Placing.{Used, earlier, IsDone}

pub all_done : (start : Linked) (from to : ℕ) (items : List ItemMove) (move : PageMove) → Used start from to items move → IsDone start from to items true (length items) 0 move
all_done start from to items move used = by_kind move.grant refl
  where
    by_kind : (k : Bool) → move.grant ≡ k → IsDone start from to items true (length items) 0 move
    by_kind true is = inr (is, earlier (slice_get_within items move.item used.by used.item))
    by_kind false is = inl (refl, λ g. let z : false ≡ true = sym is ∙ g in cc)
