-- Lists that are written: the next thing, and the end.
use Rattle.std.proofs.Common.{◌≡◌, ℕ, ◌+◌, ◌≤◌, Bool, true, false, IsTrue, Some, arith, List, [], ◌∷◌, ◌++◌, is_some, Result, Ok, Err, OnOk, refl, sym, ap, subst, ◌∙◌, append_assoc}
use Rattle.l4_pager.specs.Regions.{Regions}
use Rattle.l4_sigma0.specs.Owners.{Owners}
use Rattle.l4_sigma0.specs.Listed.{NoneOwnedFrom, IsNextOwned}
use Rattle.l4_servers.specs.Servers.{Servers}
use Rattle.l4_servers.specs.Listed.{NoTableFrom, IsNextTable}
use Rattle.l4_threads.specs.Threads.{Threads, thread_at}
use Rattle.l4_threads.specs.Listed.{NoThreadFrom, IsNextThread}
use Rattle.l4_threads.specs.declared.Thread.{Thread}
use Rattle.l4_mapdb.specs.Mappings.{Mappings, shown, IsForest}
use Rattle.l4_ipc.specs.Machine.{Machine}
use Rattle.l4_mapdb.specs.declared.Mapping.{Mapping}
use Rattle.l4_forest.specs.Places.{NonePresentFrom, IsNextPresent}
use Rattle.l4_forest.specs.Listed.{NoSpaceFrom, IsNextSpace}
use Rattle.l4_keys.specs.Listings.{Lists, IsNext}
use Rattle.l4_keys.specs.Words.{wide, counted, size_word, table_words, thread_words, mapping_words}
use Rattle.l4_keys.specs.Keys.{AreOfKernel, IsQueue, has_table, AreOfTable, has_owner, AreOfFrame, has_thread, AreOfThread, place, has_page, AreOfPage, has_space, AreOfSpace}
use Rattle.l4_keys.proofs.Listing.{IsBegun, begun_more, begun_end}

-- what follows from what is known after a success
pub on_ok : {T E : Type 0} {A B : Type 0} (r : Result T E) → (A → B) → OnOk r A → OnOk r B
on_ok (Ok x) f h = f h
on_ok (Err e) f h = tt

pub table_more : (s : Servers) (before : List ℕ) (start thread next : ℕ) (table : Regions) (old between new : List ℕ) → IsBegun (has_table s) (AreOfTable s) before start old → IsNextTable s start thread table
    → between ≡ old ++ 1 ∷ thread ∷ [] → new ≡ between ++ table_words table → next ≡ thread + 1 → IsBegun (has_table s) (AreOfTable s) before next new
table_more s before start thread next table old between new so is first then number =
    let more = begun_more (has_table s) (AreOfTable s) before start thread old (thread ∷ table_words table) so
    (record { is = ap is_some is.there; «from» = is.«from»; least = λ n from below. ap is_some (is.least n from below) }) (table, is.there, refl) in
    let same : new ≡ old ++ 1 ∷ thread ∷ table_words table = then ∙ ap (λ (l : List ℕ). l ++ table_words table) first ∙ append_assoc old (1 ∷ thread ∷ []) (table_words table) in
    subst (λ (p : ℕ × List ℕ). IsBegun (has_table s) (AreOfTable s) before p.0 p.1) (λ i. (sym number i, sym same i)) more

pub tables_end : (s : Servers) (before written new : List ℕ) (start : ℕ) → IsBegun (has_table s) (AreOfTable s) before start written → NoTableFrom s start → new ≡ written ++ 0 ∷ []
    → (words : List ℕ) × Lists (has_table s) (AreOfTable s) words × (new ≡ before ++ words)
tables_end s before written new start so none is =
    let all = begun_end (has_table s) (AreOfTable s) before start written so (λ n from. ap is_some (none n from)) in
    (all.0, all.1, is ∙ all.2)

pub owner_more : (o : Owners) (before : List ℕ) (start frame next space : ℕ) (old new : List ℕ) → IsBegun (has_owner o) (AreOfFrame o) before start old → IsNextOwned o start frame space
    → new ≡ old ++ 1 ∷ frame ∷ wide space → next ≡ frame + 1 → IsBegun (has_owner o) (AreOfFrame o) before next new
owner_more o before start frame next space old new so is same number =
    let more = begun_more (has_owner o) (AreOfFrame o) before start frame old (frame ∷ wide space) so
    (record { is = ap is_some is.owned; «from» = is.«from»; least = λ n from below. ap is_some (is.least n from below) }) (space, is.owned, refl) in
    subst (λ (p : ℕ × List ℕ). IsBegun (has_owner o) (AreOfFrame o) before p.0 p.1) (λ i. (sym number i, sym same i)) more

pub owners_end : (o : Owners) (before written new : List ℕ) (start : ℕ) → IsBegun (has_owner o) (AreOfFrame o) before start written → NoneOwnedFrom o start → new ≡ written ++ 0 ∷ []
    → (words : List ℕ) × Lists (has_owner o) (AreOfFrame o) words × (new ≡ before ++ words)
owners_end o before written new start so none is =
    let all = begun_end (has_owner o) (AreOfFrame o) before start written so (λ n from. ap is_some (none n from)) in
    (all.0, all.1, is ∙ all.2)

-- KERNELS

not_there : (b : Bool) → ¬ (IsTrue b) → b ≡ false
not_there true h = absurd (h refl)
not_there false h = refl

-- the next thing, if what comes before it is not there
is_next : (there : ℕ → Bool) (start next : ℕ) → IsTrue (there next) → start ≤ next → ((n : ℕ) → start ≤ n → IsTrue (there n) → next ≤ n) → IsNext there start next
is_next there start next is from least =
    record { is = is; «from» = from; least = λ n above below. not_there (there n) (λ yes. let le = least n above yes in omega (arith, le, below)) }

-- one thing more, whose number is one word
more : (there : ℕ → Bool) (HasWords : ℕ → List ℕ → Type 0) (before : List ℕ) (start number next : ℕ) (words old between new : List ℕ) → IsBegun there HasWords before start old → IsNext there start number
    → HasWords number (number ∷ words) → between ≡ old ++ 1 ∷ number ∷ [] → new ≡ between ++ words → next ≡ number + 1 → IsBegun there HasWords before next new
more there HasWords before start number next words old between new so is has first then count =
    let same : new ≡ old ++ 1 ∷ number ∷ words = then ∙ ap (λ (l : List ℕ). l ++ words) first ∙ append_assoc old (1 ∷ number ∷ []) words in
    subst (λ (p : ℕ × List ℕ). IsBegun there HasWords before p.0 p.1) (λ i. (sym count i, sym same i)) (begun_more there HasWords before start number old (number ∷ words) so is has)

pub thread_more : (t : Threads) (before : List ℕ) (start number next : ℕ) (thread : Thread) (old between new : List ℕ) → IsBegun (has_thread t) (AreOfThread t) before start old → IsNextThread t start number
    → Some thread ≡ thread_at t number → between ≡ old ++ 1 ∷ number ∷ [] → new ≡ between ++ thread_words thread → next ≡ number + 1 → IsBegun (has_thread t) (AreOfThread t) before next new
thread_more t before start number next thread old between new so is at first then count =
    more (has_thread t) (AreOfThread t) before start number next (thread_words thread) old between new so (is_next (has_thread t) start number is.there is.«from» is.least) (thread, sym at, refl) first then count

pub threads_end : (t : Threads) (before written new : List ℕ) (start : ℕ) → IsBegun (has_thread t) (AreOfThread t) before start written → NoThreadFrom t start → new ≡ written ++ 0 ∷ []
    → (words : List ℕ) × Lists (has_thread t) (AreOfThread t) words × (new ≡ before ++ words)
threads_end t before written new start so none is =
    let all = begun_end (has_thread t) (AreOfThread t) before start written so (λ n from. not_there (has_thread t n) (none n from)) in
    (all.0, all.1, is ∙ all.2)

pub page_more : (s : Mappings) (space : ℕ) (before : List ℕ) (start number next : ℕ) (mapping : Mapping) (old between new : List ℕ) → IsBegun (has_page s space) (AreOfPage s space) before start old
    → IsNextPresent s space start number → Some mapping ≡ shown s (place space number) → between ≡ old ++ 1 ∷ number ∷ [] → new ≡ between ++ mapping_words mapping → next ≡ number + 1
    → IsBegun (has_page s space) (AreOfPage s space) before next new
page_more s space before start number next mapping old between new so is at first then count =
    more (has_page s space) (AreOfPage s space) before start number next (mapping_words mapping) old between new so (is_next (has_page s space) start number is.present is.«from» is.least) (mapping, sym at, refl) first then count

pub pages_end : (s : Mappings) (space : ℕ) (before written new : List ℕ) (start : ℕ) → IsBegun (has_page s space) (AreOfPage s space) before start written → NonePresentFrom s space start → new ≡ written ++ 0 ∷ []
    → (words : List ℕ) × Lists (has_page s space) (AreOfPage s space) words × (new ≡ before ++ words)
pages_end s space before written new start so none is =
    let all = begun_end (has_page s space) (AreOfPage s space) before start written so (λ n from. not_there (has_page s space n) (none n from)) in
    (all.0, all.1, is ∙ all.2)

pub space_more : (s : Mappings) (before : List ℕ) (start number next : ℕ) (old between new : List ℕ) → IsBegun (has_space s) (AreOfSpace s) before start old → IsNextSpace s start number
    → between ≡ old ++ 1 ∷ wide number → ((pages : List ℕ) × Lists (has_page s number) (AreOfPage s number) pages × (new ≡ between ++ pages)) → next ≡ number + 1 → IsBegun (has_space s) (AreOfSpace s) before next new
space_more s before start number next old between new so is first then count =
    let same : new ≡ old ++ 1 ∷ (wide number ++ then.0) = then.2 ∙ ap (λ (l : List ℕ). l ++ then.0) first ∙ append_assoc old (1 ∷ wide number) then.0 in
    subst (λ (p : ℕ × List ℕ). IsBegun (has_space s) (AreOfSpace s) before p.0 p.1) (λ i. (sym count i, sym same i))
    (begun_more (has_space s) (AreOfSpace s) before start number old (wide number ++ then.0) so (is_next (has_space s) start number is.there is.«from» is.least) (then.0, then.1, refl))

pub spaces_end : (s : Mappings) (before written new : List ℕ) (start : ℕ) → IsBegun (has_space s) (AreOfSpace s) before start written → NoSpaceFrom s start → new ≡ written ++ 0 ∷ []
    → (words : List ℕ) × Lists (has_space s) (AreOfSpace s) words × (new ≡ before ++ words)
spaces_end s before written new start so none is =
    let all = begun_end (has_space s) (AreOfSpace s) before start written so (λ n from. not_there (has_space s n) (none n from)) in
    (all.0, all.1, is ∙ all.2)

pub kernel_written : (m : Machine) (queue : List ℕ) (before first second third new : List ℕ) → IsForest m.mappings → IsQueue m.threads queue
    → first ≡ before ++ size_word m.size ∷ wide m.threads.next_space → second ≡ first ++ counted queue
    → ((threads : List ℕ) × Lists (has_thread m.threads) (AreOfThread m.threads) threads × (third ≡ second ++ threads))
    → ((spaces : List ℕ) × Lists (has_space m.mappings) (AreOfSpace m.mappings) spaces × (new ≡ third ++ spaces))
    → (words : List ℕ) × AreOfKernel m words × (new ≡ before ++ words)
kernel_written m queue before first second third new forest is_queue a b threads spaces = (
  size_word m.size ∷ (wide m.threads.next_space ++ counted queue ++ threads.0) ++ spaces.0,
  record {
    threads = wide m.threads.next_space ++ counted queue ++ threads.0;
    of_threads = record { queue = queue; is_queue = is_queue; threads = threads.0; lists = threads.1; are = refl };
    mappings = spaces.0;
    of_mappings = record { lists = spaces.1; in_space = forest.in_space };
    are = refl;
  },
  spaces.2 ∙ ap (λ (l : List ℕ). l ++ spaces.0) (threads.2 ∙ ap (λ (l : List ℕ). l ++ threads.0) (b ∙ ap (λ (l : List ℕ). l ++ counted queue) a))
      ∙ ap (λ (l : List ℕ). (l ++ threads.0) ++ spaces.0) (append_assoc before (size_word m.size ∷ wide m.threads.next_space) (counted queue))
      ∙ ap (λ (l : List ℕ). l ++ spaces.0) (append_assoc before (size_word m.size ∷ wide m.threads.next_space ++ counted queue) threads.0)
      ∙ append_assoc before (size_word m.size ∷ wide m.threads.next_space ++ counted queue ++ threads.0) spaces.0,
)
