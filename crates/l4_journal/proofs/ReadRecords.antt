-- Records that can be read are as many items, each where its record stands.
use Rattle.std.proofs.Common.{◌≡◌, ℕ, zero, suc, ◌+◌, ◌<◌, List, [], ◌∷◌, ◌++◌, length, drop, Option, Some, None, MatchOption, refl, sym, ap, subst, ◌∙◌, arith}
use Rattle.std.specs.Prelude.{slice_get, is_some, IsTrue}
use Rattle.std.specs.Option.{option_to_list, option_and_then}
use Rattle.std.proofs.lemmas.Bool.{false≢true}
use Rattle.std.specs.Iterator.{YieldsFirst}
use Rattle.std.proofs.lemmas.Option.{slice_get-get_or, slice_get_within, get_or_from_slice_get}
use Rattle.std.proofs.lemmas.List.{append-nil, drop_more, length_push}
use Rattle.std.proofs.lemmas.List.Elements.{All-push}
use Rattle.std.proofs.lemmas.List.Concat.{flat_map-append}
use Rattle.l4_journal.specs.ItemLists.{ItemList, item_list}
use Rattle.l4_journal.specs.Inside.ReadRecords.{read_all, AreRead}

module _ {X : Type 0} where
  -- a record that can be read, before others
  step : (read : List ℕ → Option X) (words : List ℕ) (records : List (List ℕ)) (next : Option X) → read words ≡ next → IsTrue (is_some next) → length (option_to_list next ++ read_all read records) ≡ suc (length (read_all read records))
  step read words records None here some = absurd (false≢true some)
  step read words records (Some x) here some = refl

  others : (read : List ℕ → Option X) (words : List ℕ) (records : List (List ℕ)) → AreRead read (words ∷ records) → AreRead read records
  others read words records each = λ k d lt. each (suc k) d (omega (arith, lt))

  pub length_read : (read : List ℕ → Option X) (records : List (List ℕ)) → AreRead read records → length (read_all read records) ≡ length records
  length_read read [] each = refl
  length_read read (words ∷ records) each =
      step read words records (read words) refl (each 0 words (omega arith)) ∙ ap suc (length_read read records (others read words records each))

  get_first : (read : List ℕ → Option X) (records : List (List ℕ)) (next : Option X) → IsTrue (is_some next) → slice_get (option_to_list next ++ read_all read records) 0 ≡ next
  get_first read records None some = absurd (false≢true some)
  get_first read records (Some x) some = refl

  get_other : (read : List ℕ → Option X) (records : List (List ℕ)) (next : Option X) (place : ℕ) → IsTrue (is_some next) → slice_get (option_to_list next ++ read_all read records) (suc place) ≡ slice_get (read_all read records) place
  get_other read records None place some = absurd (false≢true some)
  get_other read records (Some x) place some = refl

  pub get_read : (read : List ℕ → Option X) (records : List (List ℕ)) (place : ℕ) → AreRead read records → slice_get (read_all read records) place ≡ option_and_then read (slice_get records place)
  get_read read [] place each = refl
  get_read read (words ∷ records) zero each = get_first read records (read words) (each 0 words (omega arith))
  get_read read (words ∷ records) (suc place) each =
      get_other read records (read words) place (each 0 words (omega arith)) ∙ get_read read records place (others read words records each)

  -- the words that stand in a place, if any do
  pub words_read : (read : List ℕ → Option X) (records : List (List ℕ)) (place : ℕ) (here : Option (List ℕ)) → AreRead read records → here ≡ slice_get records place
      → MatchOption here (slice_get (read_all read records) place ≡ None) (λ words. (slice_get (read_all read records) place ≡ read words) × IsTrue (is_some (read words)))
  words_read read records place None each is = get_read read records place each ∙ ap (option_and_then read) (sym is)
  words_read read records place (Some words) each is = (
    get_read read records place each ∙ ap (option_and_then read) (sym is),
    ap (λ ws. is_some (read ws)) (sym (get_or_from_slice_get records place words [] (sym is))) ∙ each place [] (slice_get_within records place words (sym is)),
  )

  read_more : (read : List ℕ → Option X) (records : List (List ℕ)) (words : List ℕ) → read_all read (records ++ words ∷ []) ≡ read_all read records ++ option_to_list (read words)
  read_more read records words =
      flat_map-append (λ ws. option_to_list (read ws)) records (words ∷ []) ∙ ap (λ (xs : List X). read_all read records ++ xs) (append-nil (option_to_list (read words)))

  are_read_more : (read : List ℕ → Option X) (records : List (List ℕ)) (words : List ℕ) → IsTrue (is_some (read words)) → AreRead read records → AreRead read (records ++ words ∷ [])
  are_read_more read records words some each = All-push (λ ws. IsTrue (is_some (read ws))) records words each some

  -- what a list of items sees of its records
  module _ (read : List ℕ → Option X) (records : List (List ℕ)) (room : ℕ) (old : ItemList X) (view : item_list (read_all read records) room ≡ old) (each : AreRead read records) where
    -- there is room for a record where there is for an item
    pub room_read : length old.items < old.room → length records < room
    room_read lt = omega (arith, length_read read records each, ap (λ (l : ItemList X). length l.items) view, ap (λ (l : ItemList X). l.room) view, lt)

    -- a record more, which can be read
    module _ (new : List (List ℕ)) (words : List ℕ) (more : new ≡ records ++ words ∷ []) (some : IsTrue (is_some (read words))) where
      pub are_read_pushed : AreRead read new
      are_read_pushed = subst (λ (rs : List (List ℕ)). AreRead read rs) (sym more) (are_read_more read records words some each)

      pub items_pushed : read_all read new ≡ old.items ++ option_to_list (read words)
      items_pushed = ap (read_all read) more ∙ read_more read records words ∙ ap (λ (l : ItemList X). l.items ++ option_to_list (read words)) view

      pub length_pushed : length (read_all read new) ≡ length old.items + 1
      length_pushed =
          omega (arith, length_read read new are_read_pushed, ap length more, length_push records words, length_read read records each, ap (λ (l : ItemList X). length l.items) view)

  -- the next of what is left
  pub yields : (xs : List X) (place : ℕ) (next : Option X) → place < length xs → next ≡ slice_get xs place → YieldsFirst (λ (s : List X). s) (drop place xs) next (drop (place + 1) xs)
  yields [] place next lt here = absurd (omega (arith, lt))
  yields (x ∷ xs) place next lt here =
      subst (λ (o : Option X). YieldsFirst (λ (s : List X). s) (drop place (x ∷ xs)) o (drop (place + 1) (x ∷ xs)))
      (sym (here ∙ slice_get-get_or (x ∷ xs) place x lt)) (drop_more (x ∷ xs) place x lt)
