-- A kernel and its servers are known by their words.
use Rattle.std.proofs.Common.{◌≡◌, ℕ, true, false, IsTrue, List, ◌∷◌, ◌++◌, Option, Some, None, is_some, refl, sym, ap, subst, ◌∙◌, arith}
use Rattle.std.proofs.lemmas.Bool.{false≢true}
use Rattle.std.specs.Cmp.{nat_cmp_total}
use Rattle.std.specs.FinMap as fin
use Rattle.std.specs.FinMap.{nat_cmp-IsAntisymmetric}
use Rattle.std.specs.FinSet as set
use Rattle.l4_mapdb.specs.Mappings.{Mappings, shown}
use Rattle.l4_mapdb.specs.declared.Mapping.{Mapping}
use Rattle.l4_mapdb.specs.declared.Place.{Place}
use Rattle.l4_mapdb.proofs.Places.{same_mappings}
use Rattle.l4_sigma0.specs.Owners.{Owners, owner_of}
use Rattle.l4_servers.specs.Servers.{Servers}
use Rattle.l4_threads.specs.Queue.{pairs_of}
use Rattle.l4_threads.specs.Threads.{Threads, thread_at}
use Rattle.l4_ipc.specs.Machine.{Machine}
use Rattle.l4_keys.specs.Listings.{Lists}
use Rattle.l4_keys.specs.Words.{counted, size_word}
use Rattle.l4_keys.specs.Keys.{AreOfThread, AreOfThreads, has_thread, place, has_page, AreOfPage, has_space, AreOfSpace, AreOfMappings, has_table, AreOfTable, has_owner, AreOfFrame, AreOfServers, AreOfKernel}
use Rattle.l4_keys.proofs.Prefixes.{heads, tails, ends_wide, ends_counted, apart}
use Rattle.l4_keys.proofs.Ends.{same_size, ends_thread, ends_mapping, ends_table}
use Rattle.l4_keys.proofs.Listing.{AreSame, ends_lists}

-- two tables that have things at the same numbers, and the same thing at each, are the same
same_at : {X : Type 0} (a b : ℕ → Option X) → AreSame (λ n. is_some (a n)) (λ n. is_some (b n)) (λ n. a n ≡ b n) 0 → (n : ℕ) → a n ≡ b n
same_at {X} a b same n = elim (a n) as (λ o. a n ≡ o → a n ≡ b n) [
  | None ↦ λ e. e ∙ gone (b n) (sym (same.are n (omega arith)) ∙ ap is_some e)
  | Some x ↦ λ e. same.each n (omega arith) (ap is_some e)
] refl where
  gone : (o : Option X) → is_some o ≡ false → None ≡ o
  gone None e = refl
  gone (Some x) e = absurd (false≢true (sym e))

-- THREADS

one_thread : (t u : Threads) (m n : ℕ) (v w x y : List ℕ) → AreOfThread t m v → AreOfThread u n w → v ++ x ≡ w ++ y → (m ≡ n) × (thread_at t m ≡ thread_at u m) × (x ≡ y)
one_thread t u m n v w x y a b e =
    let is = (λ i. sym a.2 i ++ x) ∙ e ∙ (λ i. b.2 i ++ y) in
    let number : m ≡ n = heads is in
    let thread = ends_thread a.0 b.0 x y (tails is) in
    (number, a.1 ∙ ap Some thread.0 ∙ sym b.1 ∙ ap (thread_at u) (sym number), thread.1)

pub same_threads : (t u : Threads) (v w x y : List ℕ) → AreOfThreads t v → AreOfThreads u w → v ++ x ≡ w ++ y → (t ≡ u) × (x ≡ y)
same_threads t u v w x y a b e =
    let is = (λ i. sym a.are i ++ x) ∙ e ∙ (λ i. b.are i ++ y) in
    let next = ends_wide t.next_space u.next_space _ _ is in
    let queue = ends_counted a.queue b.queue _ _ (apart (counted a.queue) a.threads (counted b.queue) b.threads x y next.1) in
    let all = ends_lists (has_thread t) (has_thread u) (AreOfThread t) (AreOfThread u) (λ n. thread_at t n ≡ thread_at u n) (one_thread t u) a.threads b.threads x y a.lists b.lists queue.1 in
    let threads = fin.same_map nat_cmp_total nat_cmp-IsAntisymmetric t.threads u.threads (same_at (thread_at t) (thread_at u) all.0) in
    let before = sym a.is_queue ∙ ap (λ (q : List ℕ). set.from_list (pairs_of q)) queue.0 ∙ b.is_queue in
    ((λ i. record { threads = threads i; before = before i; next_space = next.0 i }), all.1)

-- MAPPINGS

one_page : (s t : Mappings) (space m n : ℕ) (v w x y : List ℕ) → AreOfPage s space m v → AreOfPage t space n w → v ++ x ≡ w ++ y → (m ≡ n) × (shown s (place space m) ≡ shown t (place space m)) × (x ≡ y)
one_page s t space m n v w x y a b e =
    let is = (λ i. sym a.2 i ++ x) ∙ e ∙ (λ i. b.2 i ++ y) in
    let number : m ≡ n = heads is in
    let mapping = ends_mapping a.0 b.0 x y (tails is) in
    (number, a.1 ∙ ap Some mapping.0 ∙ sym b.1 ∙ ap (λ (page : ℕ). shown t (place space page)) (sym number), mapping.1)

SamePages : Mappings → Mappings → ℕ → Type 0
SamePages s t space = (page : ℕ) → shown s (place space page) ≡ shown t (place space page)

one_space : (s t : Mappings) (m n : ℕ) (v w x y : List ℕ) → AreOfSpace s m v → AreOfSpace t n w → v ++ x ≡ w ++ y → (m ≡ n) × SamePages s t m × (x ≡ y)
unfolding SamePages
one_space s t m n v w x y a b e =
    let is = (λ i. sym a.2 i ++ x) ∙ e ∙ (λ i. b.2 i ++ y) in
    let number = ends_wide m n (a.0 ++ x) (b.0 ++ y) is in
    let others = subst (λ (k : ℕ). Lists (has_page t k) (AreOfPage t k) b.0) (sym number.0) b.1 in
    let pages = ends_lists (has_page s m) (has_page t m) (AreOfPage s m) (AreOfPage t m) (λ page. shown s (place m page) ≡ shown t (place m page)) (one_page s t m) a.0 b.0 x y a.1 others number.1 in
    (number.0, same_at (λ page. shown s (place m page)) (λ page. shown t (place m page)) pages.0, pages.1)

pub same_pages : (s t : Mappings) (v w x y : List ℕ) → AreOfMappings s v → AreOfMappings t w → v ++ x ≡ w ++ y → (s ≡ t) × (x ≡ y)
unfolding SamePages
same_pages s t v w x y a b e =
    let all = ends_lists (has_space s) (has_space t) (AreOfSpace s) (AreOfSpace t) (SamePages s t) (one_space s t) v w x y a.lists b.lists e in
    let spaces = set.same_set nat_cmp_total nat_cmp-IsAntisymmetric s.spaces t.spaces (λ n. all.0.are n (omega arith)) in (
      same_mappings s t spaces (λ p. elim (has_space s p.space) as (λ h. has_space s p.space ≡ h → shown s p ≡ shown t p) [
        | true ↦ λ yes. all.0.each p.space (omega arith) yes p.page
        | false ↦ λ lacks. absent s a.in_space p lacks ∙ sym (absent t b.in_space p (sym (all.0.are p.space (omega arith)) ∙ lacks))
      ] refl),
      all.1,
    ) where
      absent : (s : Mappings) → ((p : Place) (mapping : Mapping) → shown s p ≡ Some mapping → IsTrue (has_space s p.space)) → (p : Place) → has_space s p.space ≡ false → shown s p ≡ None
      absent s within p lacks = elim (shown s p) as (λ o. shown s p ≡ o → o ≡ None) [
        | None ↦ λ e. refl
        | Some mapping ↦ λ e. absurd (false≢true (sym lacks ∙ within p mapping e))
      ] refl

-- SERVERS

one_table : (s t : Servers) (m n : ℕ) (v w x y : List ℕ) → AreOfTable s m v → AreOfTable t n w → v ++ x ≡ w ++ y → (m ≡ n) × (fin.get s.tables m ≡ fin.get t.tables m) × (x ≡ y)
one_table s t m n v w x y a b e =
    let is = (λ i. sym a.2 i ++ x) ∙ e ∙ (λ i. b.2 i ++ y) in
    let number : m ≡ n = heads is in
    let table = ends_table a.0 b.0 x y (tails is) in
    (number, a.1 ∙ ap Some table.0 ∙ sym b.1 ∙ ap (fin.get t.tables) (sym number), table.1)

one_frame : (o p : Owners) (m n : ℕ) (v w x y : List ℕ) → AreOfFrame o m v → AreOfFrame p n w → v ++ x ≡ w ++ y → (m ≡ n) × (owner_of o m ≡ owner_of p m) × (x ≡ y)
one_frame o p m n v w x y a b e =
    let is = (λ i. sym a.2 i ++ x) ∙ e ∙ (λ i. b.2 i ++ y) in
    let number : m ≡ n = heads is in
    let space = ends_wide a.0 b.0 x y (tails is) in
    (number, a.1 ∙ ap Some space.0 ∙ sym b.1 ∙ ap (owner_of p) (sym number), space.1)

pub same_servers : (s t : Servers) (v w x y : List ℕ) → AreOfServers s v → AreOfServers t w → v ++ x ≡ w ++ y → (s ≡ t) × (x ≡ y)
same_servers s t v w x y a b e =
    let is = (λ i. sym a.are i ++ x) ∙ e ∙ (λ i. b.are i ++ y) in
    let last = apart (counted a.served ++ a.tables) (size_word s.owners.size ∷ s.owners.frames ∷ a.frames) (counted b.served ++ b.tables) (size_word t.owners.size ∷ t.owners.frames ∷ b.frames) x y is in
    let served = ends_counted a.served b.served _ _ (apart (counted a.served) a.tables (counted b.served) b.tables _ _ last) in
    let tables = ends_lists (has_table s) (has_table t) (AreOfTable s) (AreOfTable t) (λ n. fin.get s.tables n ≡ fin.get t.tables n) (one_table s t) a.tables b.tables _ _ a.lists_tables b.lists_tables served.1 in
    let size = same_size s.owners.size t.owners.size (heads tables.1) in
    let frames = ends_lists (has_owner s.owners) (has_owner t.owners) (AreOfFrame s.owners) (AreOfFrame t.owners) (λ n. owner_of s.owners n ≡ owner_of t.owners n) (one_frame s.owners t.owners) a.frames b.frames x y a.lists_frames b.lists_frames
    (tails (tails tables.1)) in
    let owner = fin.same_map nat_cmp_total nat_cmp-IsAntisymmetric s.owners.owner t.owners.owner (same_at (owner_of s.owners) (owner_of t.owners) frames.0) in
    let table = fin.same_map nat_cmp_total nat_cmp-IsAntisymmetric s.tables t.tables (same_at (fin.get s.tables) (fin.get t.tables) tables.0) in
    let all = sym a.are_served ∙ ap (λ (l : List ℕ). set.from_list l) served.0 ∙ b.are_served in (
      (λ i. record { owners = record { size = size i; frames = heads (tails tables.1) i; owner = owner i }; tables = table i; served = all i }),
      frames.1,
    )

-- KERNELS

pub same_kernel : (m n : Machine) (v w x y : List ℕ) → AreOfKernel m v → AreOfKernel n w → v ++ x ≡ w ++ y → (m ≡ n) × (x ≡ y)
same_kernel m n v w x y a b e =
    let is = (λ i. sym a.are i ++ x) ∙ e ∙ (λ i. b.are i ++ y) in
    let size = same_size m.size n.size (heads is) in
    let threads = same_threads m.threads n.threads a.threads b.threads _ _ a.of_threads b.of_threads (apart a.threads a.mappings b.threads b.mappings x y (tails is)) in
    let mappings = same_pages m.mappings n.mappings a.mappings b.mappings x y a.of_mappings b.of_mappings threads.1 in
    ((λ i. record { size = size i; threads = threads.0 i; mappings = mappings.0 i }), mappings.1)
