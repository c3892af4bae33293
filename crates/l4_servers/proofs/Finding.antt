-- The served threads, looked at one after another by rising number.
use Rattle.std.proofs.Common.{◌≡◌, ℕ, ◌<◌, ◌≤◌, Bool, true, false, ◌||◌, List, [], ◌∷◌, Option, Some, None, refl, sym, ap, ◌∙◌, subst, arith, Bor}
use Rattle.std.specs.Prelude.{IsSome}
use Rattle.std.specs.Option.{is_some, option_copied}
use Rattle.std.specs.List.{list_any, AllByRecursion}
use Rattle.std.specs.List.Sorted.{IsStrictlySortedBy}
use Rattle.std.specs.BTreeMap.{is_at}
use Rattle.std.specs.declared.cmp.Ordering.TheVariants.{Less}
use Rattle.std.specs.Ordering.{nat_cmp}
use Rattle.std.specs.Cmp.{nat_cmp_total, tied_itself, ranked}
use Rattle.std.specs.FinMap as fin
use Rattle.std.specs.FinSet as set
use Rattle.std.proofs.lemmas.Bool.{false≢true}
use Rattle.std.proofs.lemmas.Map.Keys.{sorted_head, sorted_tail}
use Rattle.l4_pager.specs.declared.regions.Entry.{Entry}
use Rattle.l4_sigma0.specs.Owners.{Owners}
use Rattle.l4_threads.specs.Threads.{Threads}
use Rattle.l4_ipc.specs.Reading.{reply_of}
use Rattle.l4_servers.specs.Servers.{Servers, servers, is_served}
use Rattle.l4_servers.specs.Acting.{NoneReady, IsFirstReady}
use Rattle.l4_servers.proofs.Kept.{equal}
use Rattle.l4_servers.proofs.Numbers.{Numbers, has, served_by, held}
use Rattle.l4_pager.specs.Regions.{Regions}

served_is : (s : Servers) (o : Owners) (tables : fin.FinMap nat_cmp Regions) (ks : Numbers) (n : ℕ) → servers o tables (served_by ks) ≡ s → is_served s n ≡ has n ks
served_is s o tables ks n view = ap (λ (x : Servers). is_served x n) (sym view) ∙ held ks n

-- the numbers that are left rise, are served, and whoever is ready is one of them
pub record Looking (t : Threads) (s : Servers) (rest : Numbers) : Type 0 where
  pub sorted : IsStrictlySortedBy nat_cmp rest
  pub within : (q : ℕ) → has q rest ≡ true → is_served s q ≡ true
  pub among : (q : ℕ) → is_served s q ≡ true → IsSome (reply_of t q) → has q rest ≡ true

pub looking_first : (t : Threads) (s : Servers) (o : Owners) (tables : fin.FinMap nat_cmp Regions) (ks : Numbers) (served : set.FinSet nat_cmp) → servers o tables served ≡ s → served_by ks ≡ served
    → IsStrictlySortedBy nat_cmp ks → Looking t s ks
looking_first t s o tables ks served view is sorted =
    let seen : servers o tables (served_by ks) ≡ s = ap (servers o tables) is ∙ view in
    record {
      sorted = sorted;
      within = λ q h. served_is s o tables ks q seen ∙ h;
      among = λ q h ready. sym (served_is s o tables ks q seen) ∙ h;
    }

-- a number is the first of some, or one of the others
one_of : (A : Type 0) (b c : Bool) → (b || c) ≡ true → (b ≡ true → A) → (c ≡ true → A) → A
one_of A true c h first other = first refl
one_of A false c h first other = other h

here : (x : ℕ) (rest : Numbers) → has x (x ∷ rest) ≡ true
here x rest = ap (λ r. Rattle.std.specs.Ordering.is_eq r || has x rest) (tied_itself nat_cmp_total x)

there : (b c : Bool) → c ≡ true → (b || c) ≡ true
there true c h = refl
there false c h = h

-- who was looked at and has no reply is not ready
pub looking_more : (t : Threads) (s : Servers) (rest later : Numbers) (x : ℕ) → Looking t s rest → rest ≡ x ∷ later → is_some (reply_of t x) ≡ false → Looking t s later
looking_more t s rest later x l is none =
    let sorted = subst (λ (k : Numbers). IsStrictlySortedBy nat_cmp k) is l.sorted in
    record {
      sorted = sorted_tail nat_cmp x later sorted;
      within = λ q h. l.within q (ap (has q) is ∙ there (is_at (nat_cmp q) x) (has q later) h);
      among = λ q h ready.
          one_of (has q later ≡ true) (is_at (nat_cmp q) x) (has q later) (sym (ap (has q) is) ∙ l.among q h ready)
          (λ e. absurd (false≢true (sym none ∙ ap (λ k. is_some (reply_of t k)) (sym (equal q x e)) ∙ ready)))
          (λ e. e);
    }

above : (x q : ℕ) (later : Numbers) → AllByRecursion (λ y. nat_cmp x y ≡ Less) later → has q later ≡ true → x ≤ q
above x q [] all h = absurd (false≢true h)
above x q (y ∷ later) all h =
    one_of (x ≤ q) (is_at (nat_cmp q) y) (has q later) h
    (λ e. let lt : x < y = ranked x y Less (sym all.0) in let same : q ≡ y = equal q y e in omega (arith, lt, same))
    (above x q later all.1)

-- the first that has a reply
pub looking_found : (t : Threads) (s : Servers) (rest later : Numbers) (x : ℕ) → Looking t s rest → rest ≡ x ∷ later → is_some (reply_of t x) ≡ true → IsFirstReady t s x
looking_found t s rest later x l is some =
    let sorted = subst (λ (k : Numbers). IsStrictlySortedBy nat_cmp k) is l.sorted in
    record {
      ready = (l.within x (ap (has x) is ∙ here x later), some);
      least = λ q h.
          one_of (x ≤ q) (is_at (nat_cmp q) x) (has q later) (sym (ap (has q) is) ∙ l.among q h.0 h.1)
          (λ e. let same : q ≡ x = equal q x e in omega (arith, same))
          (above x q later (sorted_head nat_cmp x later sorted));
    }

-- nobody is left
pub looking_none : (t : Threads) (s : Servers) (rest : Numbers) → Looking t s rest → rest ≡ [] → NoneReady t s
looking_none t s rest l is = λ q h. false≢true (sym (ap (has q) is) ∙ l.among q h.0 h.1)

copied_some : {X : Type 0} (r : Option (Bor X)) → is_some (option_copied r) ≡ is_some r
copied_some None = refl
copied_some (Some x) = refl

-- whether there is a reply
pub has_reply : {X : Type 0} (r : Option (Bor X)) (o : Option X) (b : Bool) → b ≡ is_some r → option_copied r ≡ o → is_some o ≡ b
has_reply r o b is e = sym (ap is_some e) ∙ copied_some r ∙ sym is
