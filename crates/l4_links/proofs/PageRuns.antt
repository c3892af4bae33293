-- Pages that move run by run, while the tables of both spaces are aside.
use Rattle.std.proofs.Common.{◌≡◌, ℕ, nat_lt, ◌+◌, ◌-◌, ◌/◌, ◌%◌, ◌<◌, ◌≤◌, List, Option, Some, true, length, slice_set, sym, ap, ◌∙◌, subst, inl, inr, arith}
use Rattle.std.proofs.lemmas.Bool.{cases_eq}
use Rattle.l4_spaces.specs.Tables.{Tables, table_pages}
use Rattle.l4_spaces.specs.Rows.{Rows, row, entry, is_made, AreTablesOf, IsRowOf}
use Rattle.l4_spaces.proofs.RowAside.{row_of, tables_back}
use Rattle.l4_spaces.proofs.Rows.{row_here, row_other}
use Rattle.l4_nodes.specs.declared.Place.{Place}
use Rattle.l4_nodes.specs.Slots.{Store}
use Rattle.l4_links.specs.declared.Entry.{Entry}
use Rattle.l4_links.specs.declared.blocks.Pages.{Pages}
use Rattle.l4_links.specs.Entries.{place_for, IsBrought, Brings}
use Rattle.l4_links.specs.Inside.Keeping.{IsIndexed, entries_of, standing_of}
use Rattle.l4_links.specs.Inside.Growing.{SharesNone, SharesSome, CanRun, BringsRow, AreGrowing, CanBringFrom, BringsPages}
use Rattle.l4_links.proofs.Bringing.{brings_none}
use Rattle.l4_links.proofs.BroughtParts.{nothing_brought, page_due, some_brought, parts_joined, fits_rest, tables_rest, room_passed}
use Rattle.l4_links.proofs.Naming.{is_at}
use Rattle.l4_links.proofs.RowSteps.{shared_none, shared_stands}
use Rattle.l4_links.proofs.TableEntries.{made_within, entry_named, entry_of_page}

-- a table is there still, after one was written
made_still : (rows : Rows) (other : ℕ) (new_row : List (Option ℕ)) → other < length rows → length new_row ≡ table_pages → (h : ℕ) → is_made rows h ≡ true → is_made (slice_set rows other new_row) h ≡ true
made_still rows other new_row within long h is = elim (cases_eq h other) [
  | inl e ↦ ap (λ (z : List (Option ℕ)). nat_lt 0 (length z)) (ap (row (slice_set rows other new_row)) e ∙ row_here rows other new_row within) ∙ ap (nat_lt 0) long
  | inr ne ↦ ap (λ (z : List (Option ℕ)). nat_lt 0 (length z)) (row_other rows other h new_row ne) ∙ is
]

module _ (of : Pages) (page end : ℕ) (sources rows : Rows) (old : Store) where
  -- pages that bring nothing
  pub pages_passed : ((all : Tables) → AreTablesOf all of.source.space sources → IsIndexed old.slots all → (own : Option ℕ) (e : Entry) → ¬ (IsBrought of page end (entries_of old.slots) own e)) → page ≤ end → BringsPages of page end sources sources rows rows old old
  pages_passed nothing le = record {
    brings = λ pages first head stamp all g. (all, g, brings_none (IsBrought of page end (entries_of old.slots)) (entries_of old.slots) (nothing all g.source g.indexed));
    made = λ high is. is;
    room = λ more within h. room_passed of page end more old le within h;
  }

  -- no page shares a right
  pub none_shares : ((k other : ℕ) → page ≤ other → other < end → entry sources other ≡ Some k → SharesNone k of.rights old.slots) → page ≤ end → BringsPages of page end sources sources rows rows old old
  none_shares none = pages_passed (λ all lent indexed. nothing_brought of page end (entries_of old.slots)
      (λ k e x at in_space ge lt. shared_none old.slots of.rights k e x at (none k e.place.page ge lt (sym (lent.keys e.place.page) ∙ entry_named old.slots all indexed of.source.space k e at in_space))))

module _ (of : Pages) (page : ℕ) (sources rows : Rows) (old : Store) (c : CanBringFrom of page sources rows old) where
  -- the place of a page that shares a right has its table
  pub place_made : (key : ℕ) → entry sources page ≡ Some key → SharesSome key of.rights old.slots → page < of.end → is_made rows ((place_for of page).page / table_pages) ≡ true
  place_made key shows x before =
      let here : Place = record { space = of.source.space; page = page } in
      let at = (is_at old.slots here key).0 ((c.growing.indexed.names here key).0 (c.growing.source.keys page ∙ shows)) in
      let e = entry_of_page (entries_of old.slots) key here at in
      let stands = shared_stands old.slots of.rights key e.0 e.1 x in
      let b = some_brought of page (entries_of old.slots) key e.0 e.1 e.2 (standing_of x.0) stands x.2 in
      let due = page_due of page (entries_of old.slots) key e.0 e.1 e.2 (standing_of x.0) stands x.2 of.end before b.0 b.1 b.2 in
      let goes : b.1.place.page ≡ (place_for of page).page = ap (λ (p : Place). p.page) (elim b.2 [ inl m ↦ ap (λ (y : Entry). y.place) m.2 | inr g ↦ ap (λ (y : Entry). y.place) g.2 ]) in
      c.made b.0 b.1 due ((place_for of page).page / table_pages) ((place_for of page).page % table_pages) (omega (arith, goes)) (omega arith)

  -- pages up to one, and then those after it
  module _ (mid : ℕ) (more : page ≤ mid) (le : mid ≤ of.end) (now_sources now_rows : Rows) (now : Store) (a : BringsPages of page mid sources now_sources rows now_rows old now) where
    abbrev grown : (later : Tables) × AreGrowing of.source.space of.target.space c.pages now_sources now_rows now.slots c.first c.head c.stamp later × Brings (IsBrought of page mid (entries_of old.slots)) (entries_of old.slots) (entries_of now.slots)
    grown = a.brings c.pages c.first c.head c.stamp c.all c.growing

    pub pages_left : CanBringFrom of mid now_sources now_rows now
    pages_left = record {
      pages = c.pages;
      first = c.first;
      head = c.head;
      stamp = c.stamp;
      all = grown.0;
      from = (let from = c.from in omega (arith, from, more));
      apart = c.apart;
      growing = grown.1;
      fits = fits_rest of page mid of.end c.from more le c.apart (entries_of old.slots) (entries_of now.slots) grown.2 c.fits;
      made = tables_rest of page mid of.end c.from more le c.apart (entries_of old.slots) (entries_of now.slots) grown.2 rows now_rows a.made c.made;
      room = a.room 0 le c.room;
    }

    pub pages_joined : (last : ℕ) → mid ≤ last → (new_sources new_rows : Rows) (new : Store) → BringsPages of mid last now_sources new_sources now_rows new_rows now new → BringsPages of page last sources new_sources rows new_rows old new
    pages_joined last on new_sources new_rows new b = record {
      brings = λ pages first head stamp all g.
          (let v = a.brings pages first head stamp all g in
          let u = b.brings pages first head stamp v.0 v.1 in
          (u.0, u.1, parts_joined of page mid last c.from more on c.apart (entries_of old.slots) (entries_of now.slots) v.2 (entries_of new.slots) u.2));
      made = λ high is. b.made high (a.made high is);
      room = λ n within h. b.room n within (a.room n (omega (arith, on, within)) h);
    }

  -- a run from the page on, in these two tables
  module _ (f t n : ℕ) (f_is : f ≡ page % table_pages) (t_is : t ≡ (page - of.source.page + of.target.page) % table_pages) (high other : ℕ) (high_is : high ≡ page / table_pages) (other_is : other ≡ (place_for of page).page / table_pages) (line target_line : List (Option ℕ))
      (line_is : row sources high ≡ line) (target_is : row rows other ≡ target_line) (made_source : is_made sources high ≡ true) (made_target : is_made rows other ≡ true) (before : page + n ≤ of.end) (f_in : f + n ≤ table_pages) (t_in : t + n ≤ table_pages) where
    abbrev run_of : (pages : Tables) (first head : Option ℕ) (stamp : ℕ) (all : Tables) → AreGrowing of.source.space of.target.space pages sources rows old.slots first head stamp all → CanRun of page f t n line target_line old
    run_of pages first head stamp all g = record {
      high = high;
      other = other;
      first = first;
      head = head;
      stamp = stamp;
      all = all;
      start = record { from = c.from; page_is = omega (arith, f_is, high_is); there_is = omega (arith, t_is, other_is) };
      rows = record {
        live = g.live;
        stack = g.stack;
        source_row = subst (λ (z : List (Option ℕ)). IsRowOf all of.source.space high z) line_is (row_of all of.source.space high sources g.source made_source);
        target_row = subst (λ (z : List (Option ℕ)). IsRowOf all of.target.space other z) target_is (row_of all of.target.space other rows g.target made_target);
        indexed = g.indexed;
        there = g.there;
        apart = c.apart;
      };
      f_in = f_in;
      t_in = t_in;
      before = before;
      fits = c.fits;
      room = c.room;
    }

    run_ended : (new_line new_row : List (Option ℕ)) (new : Store) → BringsRow of page f t n n line new_line target_line new_row old new
        → BringsPages of page (page + n) sources (slice_set sources high new_line) rows (slice_set rows other new_row) old new
    run_ended new_line new_row new w =
        let v = (w (run_of c.pages c.first c.head c.stamp c.all c.growing)).1 in
        record {
          brings = λ pages first head stamp all g.
              (let u = w (run_of pages first head stamp all g) in (
                u.0,
                record {
                  live = u.1.rows.live;
                  stack = u.1.rows.stack;
                  source = tables_back all u.0 of.source.space high sources new_line g.source (λ p out. u.1.around.away of.source.space p (λ i. out i.1) (λ i. c.apart i.0)) u.1.rows.source_row (made_within sources high made_source);
                  target = tables_back all u.0 of.target.space other rows new_row g.target (λ p out. u.1.around.away of.target.space p (λ i. c.apart (sym i.0)) (λ i. out i.1)) u.1.rows.target_row (made_within rows other made_target);
                  away = λ space p off out. u.1.around.away space p (λ i. off i.0) (λ i. out i.0) ∙ g.away space p off out;
                  spaces = u.1.around.spaces ∙ g.spaces;
                  indexed = u.1.rows.indexed;
                  there = u.1.rows.there;
                },
                u.1.brings,
              ));
          made = made_still rows other new_row (made_within rows other made_target) v.rows.target_row.whole;
          room = v.room;
        }

    -- the run can begin, and then is over
    pub run_both : CanRun of page f t n line target_line old
        × ((new_line new_row : List (Option ℕ)) (new : Store) → BringsRow of page f t n n line new_line target_line new_row old new → BringsPages of page (page + n) sources (slice_set sources high new_line) rows (slice_set rows other new_row) old new)
    run_both = (run_of c.pages c.first c.head c.stamp c.all c.growing, run_ended)
