-- Records that are cut out of words where they end: how many there are, the one at a place, and one more.
use Rattle.std.proofs.Common.{◌≡◌, ℕ, zero, suc, ◌+◌, ◌-◌, ◌≤◌, ◌<◌, List, [], ◌∷◌, ◌++◌, length, take, drop, get_or, Some, None, refl, sym, ap, subst, ◌∙◌, ◌^◌, arith}
use Rattle.std.specs.Prelude.{slice_get}
use Rattle.std.proofs.lemmas.List.{length-append, length_push, drop-append-le, take-append-le, take_all, drop_at, length-drop}
use Rattle.std.proofs.lemmas.Option.{slice_get-get_or, slice_get_past}
use Rattle.l4_journal.specs.Inside.Stored.{AreEnds, IsStore, RecordList, cut, record_list, start_at}

pub cut_length : (start : ℕ) (ends words : List ℕ) → length (cut start ends words) ≡ length ends
cut_length start [] words = refl
cut_length start (end ∷ ends) words = ap suc (cut_length end ends words)

below : (start : ℕ) (ends : List ℕ) (all : ℕ) → AreEnds start ends all → start ≤ all
below start [] all is = omega (arith, is)
below start (end ∷ ends) all is = omega (arith, is.0, below end ends all is.1)

-- a record begins before it ends, and ends within the words
pub bounds_at : (start : ℕ) (ends : List ℕ) (all place : ℕ) → AreEnds start ends all → place < length ends → (start_at start ends place ≤ get_or ends place 0) × (get_or ends place 0 ≤ all)
bounds_at start [] all place is lt = absurd (omega (arith, lt))
bounds_at start (end ∷ ends) all zero is lt = (is.0, below end ends all is.1)
bounds_at start (end ∷ ends) all (suc zero) is lt = bounds_at end ends all zero is.1 (omega (arith, lt))
bounds_at start (end ∷ ends) all (suc (suc place)) is lt = bounds_at end ends all (suc place) is.1 (omega (arith, lt))

cut_at : (start : ℕ) (ends words : List ℕ) (place : ℕ) (d : List ℕ) → place < length ends
    → get_or (cut start ends words) place d ≡ take (get_or ends place 0 - start_at start ends place) (drop (start_at start ends place) words)
cut_at start [] words place d lt = absurd (omega (arith, lt))
cut_at start (end ∷ ends) words zero d lt = refl
cut_at start (end ∷ ends) words (suc zero) d lt = cut_at end ends words zero d (omega (arith, lt))
cut_at start (end ∷ ends) words (suc (suc place)) d lt = cut_at end ends words (suc place) d (omega (arith, lt))

pub no_record : (start : ℕ) (ends words : List ℕ) (place : ℕ) → length ends ≤ place → slice_get (cut start ends words) place ≡ None
no_record start ends words place past = slice_get_past (cut start ends words) place (omega (arith, past, cut_length start ends words))

pub record_at : (ends words : List ℕ) (place start end : ℕ) (here : List ℕ) → place < length ends → start ≡ start_at 0 ends place → end ≡ get_or ends place 0
    → here ≡ take (end - start) (drop start words) → Some here ≡ slice_get (cut 0 ends words) place
record_at ends words place start end here lt first last is =
    let within : place < length (cut 0 ends words) = omega (arith, lt, cut_length 0 ends words) in
    let same : here ≡ get_or (cut 0 ends words) place [] =
    is ∙ ap (λ k. take (k - start) (drop start words)) last ∙ ap (λ k. take (get_or ends place 0 - k) (drop k words)) first ∙ sym (cut_at 0 ends words place [] lt) in
    ap (λ (l : List ℕ). Some l) same ∙ sym (slice_get-get_or (cut 0 ends words) place [] within)

-- a part of words is the same where others follow them
part : (n start : ℕ) (words more : List ℕ) → n + start ≤ length words → take n (drop start (words ++ more)) ≡ take n (drop start words)
part n start words more within =
    ap (take n) (drop-append-le start words more (omega (arith, within))) ∙ take-append-le n (drop start words) more (omega (arith, within, length-drop start words))

-- one record more
cut_more : (start : ℕ) (ends words more : List ℕ) (end : ℕ) → AreEnds start ends (length words) → end ≡ length words + length more
    → cut start (ends ++ end ∷ []) (words ++ more) ≡ cut start ends words ++ more ∷ []
cut_more start [] words more end is last =
    let rest : drop start (words ++ more) ≡ more = drop_at words more start (sym is) in
    ap (λ (l : List ℕ). take (end - start) l ∷ []) rest ∙ ap (λ (l : List ℕ). l ∷ []) (take_all (end - start) more (omega (arith, is, last)))
cut_more start (e ∷ ends) words more end is last =
    let within : (e - start) + start ≤ length words = omega (arith, is.0, below e ends (length words) is.1) in
    ap (λ (l : List ℕ). l ∷ cut e (ends ++ end ∷ []) (words ++ more)) (part (e - start) start words more within)
    ∙ ap (λ (l : List (List ℕ)). take (e - start) (drop start words) ∷ l) (cut_more e ends words more end is.1 last)

ends_more : (start : ℕ) (ends : List ℕ) (all end : ℕ) → AreEnds start ends all → all ≤ end → AreEnds start (ends ++ end ∷ []) end
ends_more start [] all end is le = (omega (arith, is, le), refl)
ends_more start (e ∷ ends) all end is le = (is.0, ends_more e ends all end is.1 le)

-- a store with room for one record more
module _
    (ends words : List ℕ) (ends_capacity words_capacity room : ℕ) (old : RecordList) (view : record_list (cut 0 ends words) room ≡ old) (lt : length old.records < old.room)
    (store : IsStore ends words ends_capacity words_capacity room)
  where
    pub one_more : length ends < room
    one_more = omega (arith, lt, cut_length 0 ends words, ap (λ (l : RecordList). length l.records) view, ap (λ (l : RecordList). l.room) view)

    pub enough_words : (length words + 144 ≤ words_capacity) × (length words + 144 < 2 ^ 32)
    enough_words = (omega (arith, one_more, store.enough), omega (arith, one_more, store.few))

    module _ (more longer new : List ℕ) (end : ℕ) (few : length more ≤ 144) (last : end ≡ length words + length more) (ends_are : longer ≡ ends ++ end ∷ []) (words_are : new ≡ words ++ more) where
      pub records_pushed : cut 0 longer new ≡ old.records ++ more ∷ []
      records_pushed =
          ap (λ (l : List ℕ). cut 0 l new) ends_are ∙ ap (cut 0 (ends ++ end ∷ [])) words_are ∙ cut_more 0 ends words more end store.cuts last
          ∙ ap (λ (l : RecordList). l.records ++ more ∷ []) view

      pub store_pushed : (longer_capacity new_capacity : ℕ) → ends_capacity ≤ longer_capacity → words_capacity ≤ new_capacity → IsStore longer new longer_capacity new_capacity room
      store_pushed longer_capacity new_capacity wider larger =
          let count : length longer ≡ length ends + 1 = ap length ends_are ∙ length_push ends end in
          let all : length new ≡ end = omega (arith, ap length words_are, length-append words more, last) in
          record {
            cuts = subst (λ (l : List ℕ). AreEnds 0 l (length new)) (sym ends_are) (subst (λ n. AreEnds 0 (ends ++ end ∷ []) n) (sym all) (ends_more 0 ends (length words) end store.cuts (omega (arith, last))));
            within = omega (arith, count, one_more);
            listed = omega (arith, store.listed, wider);
            enough = omega (arith, store.enough, larger, count, one_more, all, last, few);
            few = omega (arith, store.few, count, one_more, all, last, few);
          }
