-- One table of a space, of which many pages are written.
use Rattle.std.proofs.Common.{◌≡◌, ◌+◌, ◌*◌, ◌/◌, ◌%◌, ◌<◌, ◌≤◌, ◌⊎◌, ℕ, true, List, [], length, Option, Some, None, slice_index_or, slice_set, sym, ap, ◌∙◌, subst, inl, inr, arith}
use Rattle.std.proofs.lemmas.Bool.{cases_eq}
use Rattle.std.proofs.lemmas.List.{get_or-set_same, get_or-set_other, length-set}
use Rattle.std.specs.FinMap as map
use Rattle.l4_spaces.specs.Tables.{Tables, key_of, table_pages, space_tables}
use Rattle.l4_spaces.specs.Rows.{Rows, row, is_made, AreTablesOf, IsRowOf, InTable}
use Rattle.l4_spaces.proofs.Rows.{row_here, row_other}
use Rattle.l4_spaces.proofs.Aside.{put_here, put_other, clear_here, clear_other}

module _ (s : Tables) (k high : ℕ) where
  pub row_of : (ts : Rows) → AreTablesOf s k ts → is_made ts high ≡ true → IsRowOf s k high (row ts high)
  row_of ts a made = grind arith

  module _ (old : List (Option ℕ)) (a : IsRowOf s k high old) (low : ℕ) (lt : low < table_pages) where
    pub put_row : (key : ℕ) → IsRowOf (record s { pages = map.insert s.pages (k, high * table_pages + low) key }) k high (slice_set old low (Some key))
    put_row key = record {
      keys_are = λ l l_lt. elim (cases_eq l low) [
        | inl e ↦ ap (λ (n : ℕ). map.get (map.insert s.pages (k, high * table_pages + low) key) (k, high * table_pages + n)) e ∙ put_here s.pages (k, high * table_pages + low) key
            ∙ sym (get_or-set_same old low (Some key) None (subst (λ (n : ℕ). low < n) (sym a.whole) lt)) ∙ sym (ap (λ (n : ℕ). slice_index_or (slice_set old low (Some key)) n None) e)
        | inr ne ↦ put_other s.pages (k, high * table_pages + low) (k, high * table_pages + l) key (λ e. ne (let p : high * table_pages + l ≡ high * table_pages + low = ap (λ (q : ℕ × ℕ). q.1) e in omega (arith, p)))
            ∙ a.keys_are l l_lt ∙ sym (get_or-set_other old low l (Some key) None ne)
      ];
      whole = length-set old low (Some key) ∙ a.whole;
    }

    pub clear_row : IsRowOf (record s { pages = map.remove s.pages (k, high * table_pages + low) }) k high (slice_set old low None)
    clear_row = record {
      keys_are = λ l l_lt. elim (cases_eq l low) [
        | inl e ↦ ap (λ (n : ℕ). map.get (map.remove s.pages (k, high * table_pages + low)) (k, high * table_pages + n)) e ∙ clear_here s.pages (k, high * table_pages + low)
            ∙ sym (get_or-set_same old low None None (subst (λ (n : ℕ). low < n) (sym a.whole) lt)) ∙ sym (ap (λ (n : ℕ). slice_index_or (slice_set old low None) n None) e)
        | inr ne ↦ clear_other s.pages (k, high * table_pages + low) (k, high * table_pages + l) (λ e. ne (let p : high * table_pages + l ≡ high * table_pages + low = ap (λ (q : ℕ × ℕ). q.1) e in omega (arith, p)))
            ∙ a.keys_are l l_lt ∙ sym (get_or-set_other old low l None None ne)
      ];
      whole = length-set old low None ∙ a.whole;
    }

-- the keys of a table's pages are as they were
pub still_row : (s t : Tables) (k high : ℕ) (keys : List (Option ℕ)) → ((page : ℕ) → key_of t k page ≡ key_of s k page) → IsRowOf s k high keys → IsRowOf t k high keys
still_row s t k high keys same a = record { keys_are = λ low lt. same (high * table_pages + low) ∙ a.keys_are low lt; whole = a.whole }

-- a table that was written is among the space's tables again
pub tables_back : (s t : Tables) (k high : ℕ) (ts : Rows) (new : List (Option ℕ)) → AreTablesOf s k ts → ((page : ℕ) → ¬ (InTable high page) → key_of t k page ≡ key_of s k page) → IsRowOf t k high new → high < length ts → AreTablesOf t k (slice_set ts high new)
tables_back s t k high ts new a others now within = record {
  keys = λ page. elim (cases_eq (page / table_pages) high) [
    | inl e ↦
        let low : ℕ = page % table_pages in
        let lt : page % table_pages < table_pages = omega arith in
        let is : page ≡ high * table_pages + page % table_pages = omega (arith, e) in
        ap (key_of t k) is ∙ now.keys_are (page % table_pages) lt
        ∙ sym (ap (λ (z : List (Option ℕ)). slice_index_or z (page % table_pages) None) (ap (row (slice_set ts high new)) e ∙ row_here ts high new within))
    | inr ne ↦
        others page (λ i. (let a = i.0 in let b = i.1 in ne (omega (arith, a, b))))
        ∙ a.keys page ∙ sym (ap (λ (z : List (Option ℕ)). slice_index_or z (page % table_pages) None) (row_other ts high (page / table_pages) new ne))
  ];
  whole = λ h. elim (cases_eq h high) [
    | inl e ↦ inr (ap length (ap (row (slice_set ts high new)) e ∙ row_here ts high new within) ∙ now.whole)
    | inr ne ↦ subst (λ (z : List (Option ℕ)). (z ≡ []) ⊎ (length z ≡ table_pages)) (sym (row_other ts high h new ne)) (a.whole h)
  ];
  full = subst (λ (n : ℕ). n ≤ space_tables) (sym (length-set ts high new)) a.full;
}
