-- Targets are wanted, one used move after another, once the sources are marked.
use Rattle.std.proofs.Common.{◌≡◌, ℕ, List, Option, Some, None, option_map, sym, ap, ◌∙◌, inl, inr, arith}
use Rattle.l4_nodes.specs.declared.Place.{Place as LinkPlace}
use Rattle.l4_links.specs.declared.Standing.{Standing}
use Rattle.l4_links.specs.declared.Entry.{Entry}
use Rattle.l4_links.specs.Entries.{Entries, Linked, entry_at, IsAt}
use Rattle.l4_msg.specs.declared.items.ItemMove.{ItemMove}
use Rattle.l4_mapdb.specs.declared.sources.UsedMove.{UsedMove}
use Rattle.l4_mapdb.specs.Delivering.{IsClean}
use Rattle.l4_mapdb.specs.Inside.Messages.{IsMoved, IsWanted, IsFilled, Wants, AreMarked, Roomed}
use Rattle.l4_mapdb.proofs.Marking.{moved_alike, moved_still}
use Rattle.l4_mapdb.proofs.Rooming.{wants_on, wants_alike}
use Rattle.l4_mapdb.proofs.Restored.{marks_wanted, wants_stands}
use Rattle.l4_mapdb.proofs.Prepared.{clean_at}

-- the target of one more used move is wanted
module _ (old cur new : Entries) (from to : ℕ) (items : List ItemMove) (wants : (key : ℕ) → Wants (IsFilled (IsMoved old from to items)) (entry_at old key) (entry_at cur key))
    (u : UsedMove) (moved : IsMoved cur from to items u) where
  pub moved_before : IsMoved old from to items u
  moved_before = moved_alike old cur from to items (wants_alike (IsFilled (IsMoved old from to items)) old cur wants) u moved

  pub wants_more : ((key : ℕ) → Wants (λ p. p ≡ u.target) (entry_at cur key) (entry_at new key)) → (key : ℕ) → Wants (IsFilled (IsMoved old from to items)) (entry_at old key) (entry_at new key)
  wants_more more key = search (wants_on, moved_before, sym, arith)

-- what is wanted keeps its page
place_wanted : (A : LinkPlace → Type 0) (place : LinkPlace) (o n : Option Entry) → Wants A o n → option_map (λ (e : Entry). e.place) o ≡ Some place → option_map (λ (e : Entry). e.place) n ≡ Some place
place_wanted A place o n (inl same) at = ap (option_map (λ (e : Entry). e.place)) same ∙ at
place_wanted A place o n (inr (inl w)) at = ap (option_map (λ (e : Entry). e.place)) w.3 ∙ sym (ap (option_map (λ (e : Entry). e.place)) w.1) ∙ at
place_wanted A place o n (inr (inr w)) at = absurd (let k : ◌≡◌ {A = Option LinkPlace} None (Some place) = sym (ap (option_map (λ (e : Entry). e.place)) w.1) ∙ at in cc)

pub lacks_before : (A : LinkPlace → Type 0) (old cur : Entries) → ((key : ℕ) → Wants A (entry_at old key) (entry_at cur key)) → (place : LinkPlace) → ((key : ℕ) → ¬ (IsAt cur place key)) → (key : ℕ) → ¬ (IsAt old place key)
lacks_before A old cur wants place none key at = none key (place_wanted A place (entry_at old key) (entry_at cur key) (wants key) at)

module _ (old : Linked) (clean : IsClean old) (from to : ℕ) (items : List ItemMove) where
  abbrev Used : UsedMove → Type 0
  Used = IsMoved old.entries from to items

  module _ (mid : Entries) (marked : AreMarked Used old.entries mid) where
    -- the room is there
    pub roomed : (cur : Entries) → ((key : ℕ) → Wants (IsFilled (IsMoved mid from to items)) (entry_at mid key) (entry_at cur key))
        → ((m : UsedMove) → IsMoved mid from to items m → IsWanted cur m.target) → Roomed Used old.entries cur
    roomed cur wants targets = record {
      marked = record {
        marks = marks_wanted old clean from to items mid cur wants marked.marks;
        sources = λ m used. ap (option_map (λ (x : Standing). x.source)) (wants_stands old clean from to items (IsFilled (IsMoved mid from to items)) (entry_at mid m.source) (entry_at cur m.source) (wants m.source)) ∙ marked.sources m used;
      };
      targets = λ m used. targets m (moved_still old.entries mid from to items marked.marks.alike m used);
    }

    -- or memory was refused
    pub lacks_room : (m : UsedMove) × IsMoved mid from to items m × ((key : ℕ) → ¬ (IsAt mid m.target key)) → (m : UsedMove) × Used m × ((key : ℕ) → ¬ (IsAt old.entries m.target key))
    lacks_room lacks = (lacks.0, moved_alike old.entries mid from to items marked.marks.alike lacks.0 lacks.1, λ key at. lacks.2 key (clean_at old clean mid marked.marks.alike lacks.0.target key at))
