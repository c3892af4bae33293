-- The tables of one space, which stand aside while many of its pages are written.
use Rattle.std.proofs.Common.{◌≡◌, ◌≢◌, ◌≤◌, ℕ, false, true, cond, List, length, Some, None, is_some, sym, ap, ◌∙◌, refl, subst, inl, inr}
use Rattle.std.proofs.lemmas.Bool.{cases_lt, cases_eq}
use Rattle.std.specs.Ordering.{nat_cmp}
use Rattle.std.specs.FinMap as map
use Rattle.std.specs.FinSet as set
use Rattle.l4_spaces.specs.Tables.{Tables, place_cmp, key_of, space_tables, KeepsOthersRoom, NonePresentIn, IsNextIn}
use Rattle.l4_spaces.specs.Rows.{Rows, entry, AreWhole, NoneIn, IsFirstIn, AreTablesOf, AreAside}
use Rattle.l4_spaces.specs.Inside.Seen.{Live, tables_of, shown, IsLaid}
use Rattle.l4_spaces.proofs.Below.{places_total, tie, apart}
use Rattle.l4_spaces.proofs.Listing.{key_shown}
use Rattle.l4_spaces.proofs.Showing.{found, found_in, keeps_others, Wrote}

pub tables_are : (ss : Live) (s : Tables) (k : ℕ) (ts : Rows) → shown ss ≡ s → tables_of ss k ≡ ts → IsLaid ss → AreTablesOf s k ts
tables_are ss s k ts view is l = record {
  keys = λ page. found_in ss s k page ts view is;
  whole = subst AreWhole is (l.whole k);
  full = subst (λ (z : Rows). length z ≤ space_tables) is (l.full k);
}

-- one space's tables were exchanged
module _ (k : ℕ) (ss new : Live) (old ts : Rows) (w : Wrote k ss new old ts) (s : Tables) (view : shown ss ≡ s) where
  elsewhere : (other page : ℕ) → other ≢ k → key_of s other page ≡ key_of (shown new) other page
  elsewhere other page ne = found ss s other page view ∙ sym (ap (λ (z : Rows). entry z page) (w.other other ne)) ∙ sym (key_shown new other page)

  names : s.spaces ≡ (shown new).spaces
  names = ap (λ (t : Tables). t.spaces) (sym view) ∙ sym (ap (λ (ks : List ℕ). set.from_list {R = nat_cmp} ks) w.same)

  pub aside_out : (out : Rows) → out ≡ old → IsLaid ss → AreAside k out (shown new) s
  aside_out out is l = record { here = tables_are ss s k out view (w.was ∙ sym is) l; away = elsewhere; spaces = names }

  pub aside_back : IsLaid new → AreAside k ts s (shown new)
  aside_back l = record { here = tables_are new (shown new) k ts refl w.here l; away = λ other page ne. sym (elsewhere other page ne); spaces = sym names }

  pub aside_room : KeepsOthersRoom k s (shown new)
  aside_room = keeps_others ss new s k view w.other

-- a walk over the tables is one over the pages of the space
module _ (s : Tables) (k page end : ℕ) (ts : Rows) (a : AreTablesOf s k ts) where
  pub next_present : (next key : ℕ) → IsFirstIn ts page end next key → IsNextIn s k page end next × (key_of s k next ≡ Some key)
  next_present next key h =
      let shows : key_of s k next ≡ Some key = a.keys next ∙ h.shows in (
        record {
          present = ap is_some shows;
          from = h.from;
          before = h.before;
          least = λ other le here. elim (cases_lt other next) [
            | inl lt ↦ absurd (
                let n : key_of s k other ≡ None = a.keys other ∙ h.least other le lt in
                let e : false ≡ true = sym (ap is_some n) ∙ here in cc)
            | inr more ↦ more
          ];
        },
        shows,
      )

-- what is under each page when one is put or cleared

abbrev Pages : Type 0
Pages = map.FinMap place_cmp ℕ

pub put_here : (m : Pages) (q : ℕ × ℕ) (key : ℕ) → map.get (map.insert m q key) q ≡ Some key
put_here m q key = map.get-insert places_total m q key q ∙ ap (λ b. cond b (Some key) (map.get m q)) (tie q q refl)

pub put_other : (m : Pages) (q p : ℕ × ℕ) (key : ℕ) → p ≢ q → map.get (map.insert m q key) p ≡ map.get m p
put_other m q p key ne = map.get-insert places_total m q key p ∙ ap (λ b. cond b (Some key) (map.get m p)) (apart p q ne)

pub clear_here : (m : Pages) (q : ℕ × ℕ) → map.get (map.remove m q) q ≡ None
clear_here m q = map.get-remove places_total m q q ∙ ap (λ b. cond b None (map.get m q)) (tie q q refl)

pub clear_other : (m : Pages) (q p : ℕ × ℕ) → p ≢ q → map.get (map.remove m q) p ≡ map.get m p
clear_other m q p ne = map.get-remove places_total m q p ∙ ap (λ b. cond b None (map.get m p)) (apart p q ne)

-- a page of the space was cleared, or one of another space was written
module _ (s : Tables) (k page : ℕ) (old new : Rows) (a : AreTablesOf s k old) (others : (other : ℕ) → other ≢ page → entry new other ≡ entry old other) (whole : AreWhole new) (full : length new ≤ space_tables) where
  pub clear_aside : entry new page ≡ None → AreTablesOf (record s { pages = map.remove s.pages (k, page) }) k new
  clear_aside here = record {
    keys = λ p. elim (cases_eq p page) [
      | inl e ↦ ap (λ (n : ℕ). map.get (map.remove s.pages (k, page)) (k, n)) e ∙ clear_here s.pages (k, page) ∙ sym here ∙ sym (ap (entry new) e)
      | inr ne ↦ clear_other s.pages (k, page) (k, p) (λ e. ne (ap (λ (q : ℕ × ℕ). q.1) e)) ∙ a.keys p ∙ sym (others p ne)
    ];
    whole = whole;
    full = full;
  }

module _ (s : Tables) (k other page : ℕ) (ne : other ≢ k) where
  pub put_away : (key p : ℕ) → key_of (record s { pages = map.insert s.pages (k, page) key }) other p ≡ key_of s other p
  put_away key p = put_other s.pages (k, page) (other, p) key (λ e. ne (ap (λ (q : ℕ × ℕ). q.0) e))

  pub clear_away : (p : ℕ) → key_of (record s { pages = map.remove s.pages (k, page) }) other p ≡ key_of s other p
  clear_away p = clear_other s.pages (k, page) (other, p) (λ e. ne (ap (λ (q : ℕ × ℕ). q.0) e))

-- tables were made, which have no keys
pub made_aside : (s : Tables) (k : ℕ) (old new : Rows) → AreTablesOf s k old → ((p : ℕ) → entry new p ≡ entry old p) → AreWhole new → length new ≤ space_tables → AreTablesOf s k new
made_aside s k old new a same whole full = record { keys = λ p. a.keys p ∙ sym (same p); whole = whole; full = full }
