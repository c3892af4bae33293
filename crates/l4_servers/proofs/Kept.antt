-- Tables and served threads as they are kept, and as a contract sees them.
use Rattle.std.proofs.Common.{◌≡◌, ℕ, ◌<◌, ◌≤◌, subst, arith, Bool, true, false, cond, not, ◌&&◌, ◌||◌, List, [], ◌∷◌, ◌++◌, Option, Some, None, refl, sym, ap, ◌∙◌}
use Rattle.std.specs.Option.{unwrap_or}
use Rattle.std.specs.Map.{lookup}
use Rattle.std.specs.BTreeMap.{is_at, BTreeMap}
use Rattle.std.specs.BTreeMap.Range.{IsRangeOf, IsEntryInRange, IsLeBy}
use Rattle.std.specs.declared.ops.Bound.TheVariants.{Included, Unbounded}
use Rattle.std.specs.Prelude.{slice_get, IfSome, is_some}
use Rattle.std.specs.Ordering.{nat_cmp, eq_by_cmp, is_eq, is_gt}
use Rattle.std.specs.declared.cmp.Ordering.{Ordering}
use Rattle.std.specs.declared.cmp.Ordering.TheVariants.{Less, Equal, Greater}
use Rattle.std.specs.Cmp.{nat_cmp_total, eq_by_cmp_equiv, ranked}
use Rattle.std.specs.FinMap as fin
use Rattle.std.specs.FinMap.{nat_cmp-IsAntisymmetric}
use Rattle.std.specs.FinSet as set
use Rattle.std.proofs.lemmas.Bool.{false≢true}
use Rattle.l4_sigma0.specs.Owners.{Owners}
use Rattle.l4_pager.specs.declared.regions.Entry.{Entry}
use Rattle.l4_servers.specs.Servers.{Servers, servers, regions_of, is_served, with_region, with_served, no_longer_served, without}
use Rattle.l4_pager.specs.Regions.{Regions, no_entries, with_entry}
use Rattle.l4_servers.specs.Listed.{NoTableFrom, IsNextTable}

-- KEYS

same_key : (a b : ℕ) → is_at (nat_cmp a) b ≡ eq_by_cmp nat_cmp b a
same_key a b = (eq_by_cmp_equiv nat_cmp_total).symm a b

is_equal : (r : Ordering) → is_eq r ≡ true → r ≡ Equal
is_equal Less e = absurd (false≢true e)
is_equal Equal e = refl
is_equal Greater e = absurd (false≢true e)

pub equal : (a b : ℕ) → eq_by_cmp nat_cmp a b ≡ true → a ≡ b
equal a b e = nat_cmp-IsAntisymmetric a b (is_equal (nat_cmp a b) e)

-- TABLES

abbrev pub Tables : Type 0
Tables = List (ℕ × Regions)

abbrev pub at : ℕ → Tables → Option Regions
at n es = lookup (is_at (nat_cmp n)) es

abbrev pub seen : Tables → fin.FinMap nat_cmp Regions
seen es = fin.from_entries es

found : (es : Tables) (q : ℕ) → fin.find nat_cmp q es ≡ at q es
found [] q = refl
found (e ∷ es) q = ap (λ (o : Option Regions). cond (is_at (nat_cmp q) e.0) (Some e.1) o) (found es q)

got : (es : Tables) (q : ℕ) → fin.get (seen es) q ≡ at q es
got es q = fin.get-from_entries nat_cmp_total es q ∙ found es q

put : (es new : Tables) (n : ℕ) (v : Regions) → ((q : ℕ) → at q new ≡ cond (is_at (nat_cmp n) q) (Some v) (at q es)) → seen new ≡ fin.insert (seen es) n v
put es new n v h = fin.same_map nat_cmp_total nat_cmp-IsAntisymmetric _ _ (λ q.
    got new q ∙ h q ∙ ap (λ b. cond b (Some v) (at q es)) (same_key n q)
    ∙ ap (cond (eq_by_cmp nat_cmp q n) (Some v)) (sym (got es q)) ∙ sym (fin.get-insert nat_cmp_total (seen es) n v q))

taken : (es new : Tables) (n : ℕ) → ((q : ℕ) → at q new ≡ cond (is_at (nat_cmp n) q) None (at q es)) → seen new ≡ fin.remove (seen es) n
taken es new n h = fin.same_map nat_cmp_total nat_cmp-IsAntisymmetric _ _ (λ q.
    got new q ∙ h q ∙ ap (λ b. cond b None (at q es)) (same_key n q)
    ∙ ap (cond (eq_by_cmp nat_cmp q n) None) (sym (got es q)) ∙ sym (fin.get-remove nat_cmp_total (seen es) n q))

-- the regions of a thread with a table, and of one without
pub has_regions : (s : Servers) (o : Owners) (es : Tables) (served : set.FinSet nat_cmp) (n : ℕ) (v : Regions) → servers o (seen es) served ≡ s → Some v ≡ at n es → v ≡ regions_of s n
has_regions s o es served n v view h = ap (λ (t : Option Regions). unwrap_or t (no_entries o.size)) (h ∙ sym (got es n)) ∙ ap (λ (x : Servers). regions_of x n) view

pub no_regions : (s : Servers) (o : Owners) (es : Tables) (served : set.FinSet nat_cmp) (n : ℕ) → servers o (seen es) served ≡ s → None ≡ at n es → no_entries o.size ≡ regions_of s n
no_regions s o es served n view h = ap (λ (t : Option Regions). unwrap_or t (no_entries o.size)) (h ∙ sym (got es n)) ∙ ap (λ (x : Servers). regions_of x n) view

pub no_table : (s : Servers) (o : Owners) (es : Tables) (served : set.FinSet nat_cmp) (n : ℕ) → servers o (seen es) served ≡ s → None ≡ at n es → fin.get s.tables n ≡ None
no_table s o es served n view h = sym (ap (λ (x : Servers). fin.get x.tables n) view) ∙ got es n ∙ sym h

-- a table with one region more
pub region_added : (s : Servers) (o : Owners) (es mid new : Tables) (served : set.FinSet nat_cmp) (n : ℕ) (entry : Entry) (old v : Regions) → servers o (seen es) served ≡ s
    → old ≡ regions_of s n → v ≡ with_entry old entry → mid ≡ es → ((q : ℕ) → at q new ≡ cond (is_at (nat_cmp n) q) (Some v) (at q mid)) → servers o (seen new) served ≡ with_region s n entry
region_added s o es mid new served n entry old v view is more same h =
    ap (λ (t : fin.FinMap nat_cmp Regions). servers o t served) (put es new n v (λ q. h q ∙ ap (λ (x : Tables). cond (is_at (nat_cmp n) q) (Some v) (at q x)) same) ∙ ap (fin.insert (seen es) n) (more ∙ ap (λ (x : Regions). with_entry x entry) is))
    ∙ ap (λ (x : Servers). servers x.owners (fin.insert x.tables n (with_entry (regions_of s n) entry)) x.served) view

-- the tables as they were
pub same_tables : (s : Servers) (o : Owners) (es new : Tables) (served : set.FinSet nat_cmp) → servers o (seen es) served ≡ s → new ≡ es → servers o (seen new) served ≡ s
same_tables s o es new served view e = ap (λ (x : Tables). servers o (seen x) served) e ∙ view

-- THREADS THAT ARE SERVED

abbrev pub Served : Type 0
Served = set.FinSet nat_cmp

pub is_in : (s : Servers) (o : Owners) (tables : fin.FinMap nat_cmp Regions) (served : Served) (n : ℕ) → servers o tables served ≡ s → is_served s n ≡ set.contains served n
is_in s o tables served n view = ap (λ (x : Servers). is_served x n) (sym view)

pub serves : (s : Servers) (o : Owners) (tables : fin.FinMap nat_cmp Regions) (served new : Served) (n : ℕ) → servers o tables served ≡ s → new ≡ set.insert served n
    → servers o tables new ≡ with_served s n
serves s o tables served new n view is = ap (servers o tables) is ∙ ap (λ (x : Servers). servers x.owners x.tables (set.insert x.served n)) view

pub same_served : (s : Servers) (o : Owners) (tables : fin.FinMap nat_cmp Regions) (served new : Served) → servers o tables served ≡ s → new ≡ served → servers o tables new ≡ s
same_served s o tables served new view e = ap (servers o tables) e ∙ view

pub forgets : (s later : Servers) (o : Owners) (es new : Tables) (served : Served) (n : ℕ) → servers o (seen es) served ≡ s
    → ((q : ℕ) → at q new ≡ cond (is_at (nat_cmp n) q) None (at q es)) → later ≡ no_longer_served (servers o (seen new) served) n → later ≡ without s n
forgets s later o es new served n view h is =
    is ∙ ap (λ (t : fin.FinMap nat_cmp Regions). servers o t (set.remove served n)) (taken es new n h)
    ∙ ap (λ (x : Servers). servers x.owners (fin.remove x.tables n) (set.remove x.served n)) view

-- whom a set does not have is put in and taken out again
put_and_taken : (b was : Bool) → (b ≡ true → was ≡ false) → (not b && (b || was)) ≡ was
put_and_taken true was h = sym (h refl)
put_and_taken false was h = refl

pub set_as_before : (s : Served) (n : ℕ) → set.contains s n ≡ false → set.remove (set.insert s n) n ≡ s
set_as_before s n h = set.same_set nat_cmp_total nat_cmp-IsAntisymmetric _ _ (λ q.
    set.contains-remove nat_cmp_total (set.insert s n) n q ∙ ap (λ b. not (eq_by_cmp nat_cmp q n) && b) (set.contains-insert nat_cmp_total s n q)
    ∙ put_and_taken (eq_by_cmp nat_cmp q n) (set.contains s q) (λ e. ap (set.contains s) (equal q n e) ∙ h))

pub takes_back : (s : Servers) (o : Owners) (tables : fin.FinMap nat_cmp Regions) (served new : Served) (n : ℕ) → servers o tables served ≡ s
    → new ≡ set.remove served n → servers o tables new ≡ no_longer_served s n
takes_back s o tables served new n view gone =
    ap (servers o tables) gone ∙ ap (λ (x : Servers). servers x.owners x.tables (set.remove x.served n)) view

-- who was not served before is so again
pub as_before : (before : Servers) (n : ℕ) → is_served before n ≡ false → no_longer_served (with_served before n) n ≡ before
as_before before n none = ap (servers before.owners before.tables) (set_as_before before.served n none)

-- THE TABLES FROM A NUMBER ON

not_above : (a b : ℕ) → a ≤ b → is_gt (nat_cmp a b) ≡ false
not_above a b le = elim (nat_cmp a b) as (λ r. r ≡ nat_cmp a b → is_gt r ≡ false) [
  | Less ↦ λ e. refl
  | Equal ↦ λ e. refl
  | Greater ↦ λ e. absurd (let lt : b < a = ranked a b Greater e in omega (arith, lt, le))
] refl

from_above : (a b : ℕ) → is_gt (nat_cmp a b) ≡ false → a ≤ b
from_above a b under = elim (nat_cmp a b) as (λ r. r ≡ nat_cmp a b → is_gt r ≡ false → a ≤ b) [
  | Less ↦ λ e h. let lt : a < b = ranked a b Less e in omega (arith, lt)
  | Equal ↦ λ e h. let same : a ≡ b = ranked a b Equal e in omega (arith, same)
  | Greater ↦ λ e h. absurd (false≢true (sym h))
] refl under

abbrev pub IsTail : BTreeMap ℕ Regions → ℕ → Tables → Type 0
IsTail m start tail = IsRangeOf nat_cmp (Included start) Unbounded m tail

pub no_table_from : (s : Servers) (o : Owners) (m : BTreeMap ℕ Regions) (served : set.FinSet nat_cmp) (start : ℕ) (tail : Tables) → servers o (seen m.entries) served ≡ s
    → IsTail m start tail → tail ≡ [] → NoTableFrom s start
no_table_from s o m served start tail view range none other from =
    sym (ap (λ (x : Servers). fin.get x.tables other) view) ∙ got m.entries other ∙ range.5 none other (not_above start other from, tt)

-- the first table of those from a number on
pub next_table_from : (s : Servers) (o : Owners) (m : BTreeMap ℕ Regions) (served : set.FinSet nat_cmp) (start next : ℕ) (table : Regions) (tail later : Tables) → servers o (seen m.entries) served ≡ s
    → IsTail m start tail → tail ≡ (next, table) ∷ later → IsNextTable s start next table
next_table_from s o m served start next table tail later view range is =
    let first = subst (λ (l : Tables). IfSome (slice_get l 0) (IsEntryInRange nat_cmp (Included start) Unbounded m)) is range.1 in
    record {
      there = here next ∙ first.1;
      «from» = from_above start next first.0.0;
      least = λ other from below. here other ∙ elim (at other m.entries) as (λ (r : Option Regions). at other m.entries ≡ r → r ≡ None) [
        | None ↦ λ e. refl
        | Some x ↦ λ e. absurd (let le : next ≤ other = from_above next other (subst (λ (l : Tables). IfSome (slice_get l 0) (λ p. IsLeBy nat_cmp p.0 other)) is (range.2 other (not_above start other from, tt) (ap is_some e))) in omega (arith, le, below))
      ] refl;
    } where
      here : (n : ℕ) → fin.get s.tables n ≡ at n m.entries
      here n = sym (ap (λ (x : Servers). fin.get x.tables n) view) ∙ got m.entries n
