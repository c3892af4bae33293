-- Spaces that are copied one by one.
use Rattle.std.proofs.Common.{◌≡◌, ℕ, ◌≤◌, cond, nat_eq, [], ◌∷◌, length, refl, sym, ap, subst}
use Rattle.std.specs.List.{AllZip}
use Rattle.l4_spaces.specs.Tables.{space_tables}
use Rattle.l4_spaces.specs.Rows.{Rows, entry, is_made, AreWhole}
use Rattle.l4_spaces.specs.Inside.Seen.{Space, Live, numbers, tables_of, shown, IsLaid}
use Rattle.l4_spaces.proofs.Listing.{same_shown}
use Rattle.l4_spaces.proofs.Showing.{once_same}

-- the space has the number of the other one, and its tables
pub record IsSpaceCopy (old new : Space) : Type 0 where
  pub number : new.0 ≡ old.0
  pub tables : new.1.items ≡ old.1.items

abbrev pub AreCopies : Live → Live → Type 0
AreCopies old new = AllZip IsSpaceCopy old new

copied_numbers : (old new : Live) → AreCopies old new → numbers new ≡ numbers old
copied_numbers [] [] h = refl
copied_numbers [] (n ∷ ns) h = elim h [ ]
copied_numbers (s ∷ ss) [] h = elim h [ ]
copied_numbers (s ∷ ss) (n ∷ ns) h = λ i. h.0.number i ∷ copied_numbers ss ns h.1 i

copied_tables : (old new : Live) → AreCopies old new → (k : ℕ) → tables_of new k ≡ tables_of old k
copied_tables [] [] h k = refl
copied_tables [] (n ∷ ns) h k = elim h [ ]
copied_tables (s ∷ ss) [] h k = elim h [ ]
copied_tables (s ∷ ss) (n ∷ ns) h k = λ i. cond (nat_eq (h.0.number i) k) (h.0.tables i) (copied_tables ss ns h.1 k i)

pub copied_shown : (old new : Live) → AreCopies old new → shown new ≡ shown old
copied_shown old new h =
    same_shown new old (λ p. ap (λ (t : Rows). entry t p.1) (copied_tables old new h p.0)) (λ p. ap (λ (t : Rows). is_made t p.1) (copied_tables old new h p.0)) (copied_numbers old new h)

pub copied_laid : (old new : Live) → AreCopies old new → IsLaid old → IsLaid new
copied_laid old new h l = record {
  once = once_same old new (copied_numbers old new h) l.once;
  whole = λ k. subst AreWhole (sym (copied_tables old new h k)) (l.whole k);
  full = λ k. subst (λ (t : Rows). length t ≤ space_tables) (sym (copied_tables old new h k)) (l.full k);
}

-- a copy of each space has its number and copies of its tables
pub copies : (R : Space → Space → Type 0) → ((s n : Space) → R s n → IsSpaceCopy s n) → (old new : Live) → AllZip R old new → AreCopies old new
copies R each [] [] h = tt
copies R each [] (n ∷ ns) h = elim h [ ]
copies R each (s ∷ ss) [] h = elim h [ ]
copies R each (s ∷ ss) (n ∷ ns) h = (each s n h.0, copies R each ss ns h.1)
