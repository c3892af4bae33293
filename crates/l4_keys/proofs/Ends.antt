-- The words of the parts of a state end by themselves.
use Rattle.std.proofs.Common.{◌≡◌, ℕ, ◌<◌, ◌≤◌, ◌==◌, get_or, Bool, true, false, if◌then◌else◌, List, ◌∷◌, ◌++◌, length, take, drop, Option, Some, None, refl, sym, ap, subst, ◌∙◌, arith}
use Rattle.std.proofs.lemmas.List.{take_at, drop_at}
use Rattle.l4_fpage.specs.Fpages.{fpage_word, ReadsAs}
use Rattle.l4_fpage.specs.Rights.{RightsSet, bits_of, set_of_bits}
use Rattle.l4_fpage.specs.declared.fpages.Fpage.{Fpage}
use Rattle.l4_fpage.specs.declared.sizes.PageSize.{PageSize}
use Rattle.l4_fpage.specs.declared.sizes.PageSize.TheVariants.{Kib4, Kib1}
use Rattle.l4_fpage.proofs.Same.{reads_same}
use Rattle.l4_fpage.proofs.Written.{word_reads}
use Rattle.l4_msg.specs.declared.items.Item.{Item}
use Rattle.l4_msg.specs.declared.items.Item.TheVariants.{Map, Grant}
use Rattle.l4_mapdb.specs.declared.Mapping.{Mapping}
use Rattle.l4_mapdb.specs.declared.Place.{Place}
use Rattle.l4_names.specs.Names.{Names}
use Rattle.l4_names.specs.declared.names.NamedThread.{NamedThread}
use Rattle.l4_pager.specs.Regions.{Regions}
use Rattle.l4_pager.specs.declared.regions.Entry.{Entry}
use Rattle.l4_threads.specs.declared.ThreadId.{ThreadId}
use Rattle.l4_threads.specs.declared.Later.{Later}
use Rattle.l4_threads.specs.declared.Receiving.{Receiving}
use Rattle.l4_threads.specs.declared.Reply.{Reply}
use Rattle.l4_threads.specs.declared.Reply.TheVariants.{Ipc, Hit, Answered, FaultFailed, Unmapped, Controlled, Gone}
use Rattle.l4_threads.specs.declared.Sending.{Sending}
use Rattle.l4_threads.specs.declared.Source.{Source}
use Rattle.l4_threads.specs.declared.Source.TheVariants.{Anyone, Thread as One}
use Rattle.l4_threads.specs.declared.State.{State}
use Rattle.l4_threads.specs.declared.State.TheVariants.{Running, Sending as Sends, Receiving as Receives}
use Rattle.l4_threads.specs.declared.Thread.{Thread}
use Rattle.l4_keys.specs.Words.{counted, size_word, item_words, items_words, source_words, receiving_words, then_words, sending_words, state_words, thread_words, parent_words, mapping_words, entry_words, table_words, name_words, names_words}
use Rattle.l4_keys.proofs.Prefixes.{heads, tails, same_bit, ends_wide, ends_counted, ends_each, apart}

pub same_size : (a b : PageSize) → size_word a ≡ size_word b → a ≡ b
same_size Kib4 Kib4 e = refl
same_size Kib4 Kib1 e = absurd (omega (arith, e))
same_size Kib1 Kib4 e = absurd (omega (arith, e))
same_size Kib1 Kib1 e = refl

pub same_fpage : (f g : Fpage) → fpage_word f ≡ fpage_word g → f ≡ g
same_fpage f g e = reads_same (fpage_word f) f g (word_reads f) (subst (λ w. ReadsAs w g) (sym e) (word_reads g))

bits_back : (r w x : Bool) → set_of_bits (bits_of (record { r = r; w = w; x = x })) ≡ record { r = r; w = w; x = x }
bits_back true true true = refl
bits_back true true false = refl
bits_back true false true = refl
bits_back true false false = refl
bits_back false true true = refl
bits_back false true false = refl
bits_back false false true = refl
bits_back false false false = refl

pub same_rights : (a b : RightsSet) → bits_of a ≡ bits_of b → a ≡ b
same_rights a b e = sym (bits_back a.r a.w a.x) ∙ ap set_of_bits e ∙ bits_back b.r b.w b.x

same_id : (a b : ThreadId) → a.0 ≡ b.0 → a ≡ b
same_id a b e = λ i. record { 0 = e i }

-- THREADS

ends_item : (a b : Item) (x y : List ℕ) → item_words a ++ x ≡ item_words b ++ y → (a ≡ b) × (x ≡ y)
ends_item (Map m f) (Map n g) x y e =
    ((λ i. Map (heads (tails e) i) (same_fpage f g (heads (tails (tails e))) i)), tails (tails (tails e)))
ends_item (Map m f) (Grant n g) x y e = absurd (let k = heads e in omega (arith, k))
ends_item (Grant m f) (Map n g) x y e = absurd (let k = heads e in omega (arith, k))
ends_item (Grant m f) (Grant n g) x y e =
    ((λ i. Grant (heads (tails e) i) (same_fpage f g (heads (tails (tails e))) i)), tails (tails (tails e)))

ends_items : (xs ys : List Item) (x y : List ℕ) → items_words xs ++ x ≡ items_words ys ++ y → (xs ≡ ys) × (x ≡ y)
ends_items xs ys x y e = ends_each item_words ends_item xs ys x y (heads e) (tails e)

ends_source : (a b : Source) (x y : List ℕ) → source_words a ++ x ≡ source_words b ++ y → (a ≡ b) × (x ≡ y)
ends_source Anyone Anyone x y e = (refl, tails e)
ends_source Anyone (One n) x y e = absurd (let k = heads e in omega (arith, k))
ends_source (One m) Anyone x y e = absurd (let k = heads e in omega (arith, k))
ends_source (One m) (One n) x y e = (ap One (heads (tails e)), tails (tails e))

ends_receiving : (a b : Receiving) (x y : List ℕ) → receiving_words a ++ x ≡ receiving_words b ++ y → (a ≡ b) × (x ≡ y)
ends_receiving a b x y e =
    let expires : a.expires ≡ b.expires = same_bit a.expires b.expires (heads (tails e)) in
    let fault : a.fault ≡ b.fault = same_bit a.fault b.fault (heads (tails (tails e))) in
    let window : a.window ≡ b.window = same_fpage a.window b.window (heads (tails (tails (tails e)))) in
    let source = ends_source a.«from» b.«from» x y (tails (tails (tails (tails e)))) in
    ((λ i. record { «from» = source.0 i; window = window i; expires = expires i; fault = fault i }), source.1)

ends_then : (a b : Option Later) (x y : List ℕ) → then_words a ++ x ≡ then_words b ++ y → (a ≡ b) × (x ≡ y)
ends_then None None x y e = (refl, tails e)
ends_then None (Some l) x y e = absurd (let k = heads e in omega (arith, k))
ends_then (Some l) None x y e = absurd (let k = heads e in omega (arith, k))
ends_then (Some a) (Some b) x y e =
    let source : a.«from» ≡ b.«from» = same_id a.«from» b.«from» (heads (tails e)) in
    let expires : a.expires ≡ b.expires = same_bit a.expires b.expires (heads (tails (tails e))) in
    let window : a.window ≡ b.window = same_fpage a.window b.window (heads (tails (tails (tails e)))) in
    ((λ i. Some (record { «from» = source i; window = window i; expires = expires i })), tails (tails (tails (tails e))))

ends_sending : (a b : Sending) (x y : List ℕ) → sending_words a ++ x ≡ sending_words b ++ y → (a ≡ b) × (x ≡ y)
ends_sending a b x y e =
    let to : a.to ≡ b.to = heads (tails e) in
    let expires : a.expires ≡ b.expires = same_bit a.expires b.expires (heads (tails (tails e))) in
    let fault : a.fault ≡ b.fault = same_bit a.fault b.fault (heads (tails (tails (tails e)))) in
    let last = apart (then_words a.«then» ++ counted a.words.items) (items_words a.items.items) (then_words b.«then» ++ counted b.words.items) (items_words b.items.items) x y (tails (tails (tails (tails e)))) in
    let later = ends_then a.«then» b.«then» _ _ (apart (then_words a.«then») (counted a.words.items) (then_words b.«then») (counted b.words.items) (items_words a.items.items ++ x) (items_words b.items.items ++ y) last) in
    let words = ends_counted a.words.items b.words.items (items_words a.items.items ++ x) (items_words b.items.items ++ y) later.1 in
    let items = ends_items a.items.items b.items.items x y words.1 in (
      (λ i. record { words = record { items = words.0 i }; items = record { items = items.0 i }; to = to i; expires = expires i; «then» = later.0 i; fault = fault i }),
      items.1,
    )

-- the first word of a running thread's state tells which reply it has
kind_of : Option Reply → ℕ
kind_of None = 0
kind_of (Some (Ipc reply)) = 1
kind_of (Some Hit) = 2
kind_of (Some Answered) = 3
kind_of (Some (FaultFailed code)) = 4
kind_of (Some Unmapped) = 5
kind_of (Some Controlled) = 6
kind_of (Some Gone) = 7

few_kinds : (o : Option Reply) → kind_of o < 8
unfolding kind_of
few_kinds None = omega arith
few_kinds (Some (Ipc reply)) = omega arith
few_kinds (Some Hit) = omega arith
few_kinds (Some Answered) = omega arith
few_kinds (Some (FaultFailed code)) = omega arith
few_kinds (Some Unmapped) = omega arith
few_kinds (Some Controlled) = omega arith
few_kinds (Some Gone) = omega arith

-- a running thread's state, read from its first word and the words behind it
read_running : ℕ → List ℕ → Option Reply × List ℕ
read_running kind words =
    if kind == 1 then (Some (Ipc (record { tag = at 0 words; error = at 1 words; «from» = record { 0 = at 2 words }; words = record { items = take (at 3 words) (drop 4 words) } })), drop (at 3 words) (drop 4 words))
    else (if kind == 2 then (Some Hit, words)
    else (if kind == 3 then (Some Answered, words)
    else (if kind == 4 then (Some (FaultFailed (at 0 words)), drop 1 words)
    else (if kind == 5 then (Some Unmapped, words)
    else (if kind == 6 then (Some Controlled, words)
    else (if kind == 7 then (Some Gone, words)
    else (None, words))))))) where
      at : ℕ → List ℕ → ℕ
      at i words = get_or words i 0

running_again : (o : Option Reply) (x : List ℕ) → read_running (kind_of o) (drop 1 (state_words (Running o) ++ x)) ≡ (o, x)
unfolding read_running kind_of
running_again None x = refl
running_again (Some (Ipc r)) x = rw (take_at r.words.items x (length r.words.items) refl, drop_at r.words.items x (length r.words.items) refl) refl
running_again (Some Hit) x = refl
running_again (Some Answered) x = refl
running_again (Some (FaultFailed code)) x = refl
running_again (Some Unmapped) x = refl
running_again (Some Controlled) x = refl
running_again (Some Gone) x = refl

-- the first word of a running thread's state, and what follows it
running_first : (o : Option Reply) (x : List ℕ) → state_words (Running o) ++ x ≡ kind_of o ∷ drop 1 (state_words (Running o) ++ x)
unfolding kind_of
running_first None x = refl
running_first (Some (Ipc r)) x = refl
running_first (Some Hit) x = refl
running_first (Some Answered) x = refl
running_first (Some (FaultFailed code)) x = refl
running_first (Some Unmapped) x = refl
running_first (Some Controlled) x = refl
running_first (Some Gone) x = refl

ends_running : (a b : Option Reply) (x y : List ℕ) → state_words (Running a) ++ x ≡ state_words (Running b) ++ y → (a ≡ b) × (x ≡ y)
ends_running a b x y e =
    let kinds : kind_of a ≡ kind_of b = heads (sym (running_first a x) ∙ e ∙ running_first b y) in
    let both : (a, x) ≡ (b, y) = sym (running_again a x) ∙ (λ i. read_running (kinds i) (drop 1 (e i))) ∙ running_again b y in
    (ap (λ p. p.0) both, ap (λ p. p.1) both)

-- a running thread's state begins with another word than that of a waiting one
not_running : (o : Option Reply) (x y : List ℕ) (kind : ℕ) → 8 ≤ kind → state_words (Running o) ++ x ≡ kind ∷ y → ⊥
not_running o x y kind many e =
    let k : kind_of o ≡ kind = heads (sym (running_first o x) ∙ e) in
    let few = few_kinds o in
    omega (arith, k, few, many)

ends_state : (a b : State) (x y : List ℕ) → state_words a ++ x ≡ state_words b ++ y → (a ≡ b) × (x ≡ y)
ends_state (Running o) (Running p) x y e = let k = ends_running o p x y e in (ap Running k.0, k.1)
ends_state (Running o) (Sends s) x y e = absurd (not_running o x _ 9 (omega arith) e)
ends_state (Running o) (Receives r) x y e = absurd (not_running o x _ 8 (omega arith) e)
ends_state (Sends s) (Running p) x y e = absurd (not_running p y _ 9 (omega arith) (sym e))
ends_state (Sends s) (Sends t) x y e = let k = ends_sending s t x y e in (ap Sends k.0, k.1)
ends_state (Sends s) (Receives r) x y e = absurd (let k = heads e in omega (arith, k))
ends_state (Receives r) (Running p) x y e = absurd (not_running p y _ 8 (omega arith) (sym e))
ends_state (Receives r) (Sends s) x y e = absurd (let k = heads e in omega (arith, k))
ends_state (Receives r) (Receives s) x y e = let k = ends_receiving r s x y e in (ap Receives k.0, k.1)

pub ends_thread : (a b : Thread) (x y : List ℕ) → thread_words a ++ x ≡ thread_words b ++ y → (a ≡ b) × (x ≡ y)
ends_thread a b x y e =
    let id : a.id ≡ b.id = same_id a.id b.id (heads e) in
    let pager : a.pager ≡ b.pager = same_id a.pager b.pager (heads (tails e)) in
    let space = ends_wide a.space b.space (state_words a.state ++ x) (state_words b.state ++ y) (tails (tails e)) in
    let state = ends_state a.state b.state x y space.1 in
    ((λ i. record { id = id i; space = space.0 i; pager = pager i; state = state.0 i }), state.1)

-- PAGES

ends_parent : (a b : Option Place) (x y : List ℕ) → parent_words a ++ x ≡ parent_words b ++ y → (a ≡ b) × (x ≡ y)
ends_parent None None x y e = (refl, tails e)
ends_parent None (Some p) x y e = absurd (let k = heads e in omega (arith, k))
ends_parent (Some p) None x y e = absurd (let k = heads e in omega (arith, k))
ends_parent (Some p) (Some q) x y e =
    let space = ends_wide p.space q.space x y (tails (tails e)) in
    ((λ i. Some (record { space = space.0 i; page = heads (tails e) i })), space.1)

pub ends_mapping : (a b : Mapping) (x y : List ℕ) → mapping_words a ++ x ≡ mapping_words b ++ y → (a ≡ b) × (x ≡ y)
ends_mapping a b x y e =
    let rights : a.rights ≡ b.rights = same_rights a.rights b.rights (heads (tails e)) in
    let parent = ends_parent a.parent b.parent x y (tails (tails e)) in
    ((λ i. record { frame = heads e i; rights = rights i; parent = parent.0 i }), parent.1)

-- TABLES

ends_entry : (a b : Entry) (x y : List ℕ) → entry_words a ++ x ≡ entry_words b ++ y → (a ≡ b) × (x ≡ y)
ends_entry a b x y e =
    let rights : a.rights ≡ b.rights = same_rights a.rights b.rights (heads (tails (tails (tails e)))) in
    ((λ i. record { first = heads e i; source = heads (tails e) i; count = heads (tails (tails e)) i; rights = rights i }), tails (tails (tails (tails e))))

pub ends_table : (a b : Regions) (x y : List ℕ) → table_words a ++ x ≡ table_words b ++ y → (a ≡ b) × (x ≡ y)
ends_table a b x y e =
    let entries = ends_each entry_words ends_entry a.entries b.entries x y (heads (tails e)) (tails (tails e)) in
    ((λ i. record { size = same_size a.size b.size (heads e) i; entries = entries.0 i }), entries.1)

-- NAMES

ends_name : (a b : NamedThread) (x y : List ℕ) → name_words a ++ x ≡ name_words b ++ y → (a ≡ b) × (x ≡ y)
ends_name a b x y e =
    let number : a.number ≡ b.number = heads e in
    let name = ends_counted a.name b.name x y (tails e) in
    ((λ i. record { name = name.0 i; number = number i }), name.1)

pub ends_names : (xs ys : Names) (x y : List ℕ) → names_words xs ++ x ≡ names_words ys ++ y → (xs ≡ ys) × (x ≡ y)
ends_names xs ys x y e = ends_each name_words ends_name xs ys x y (heads e) (tails e)
