-- What the fields of a word say of the fpage that it is read as.
use Rattle.std.proofs.Common.{◌≡◌, ℕ, ◌*◌, ◌/◌, ◌%◌, ◌^◌, ◌≤◌, ◌<◌, ◌==◌, ◌⊎◌, true, false, nat_le, ◌++◌, refl, sym, ◌∙◌, inl, inr, subst, arith}
use Rattle.std.proofs.lemmas.Bool.{ne_eqb}
use Rattle.std.proofs.lemmas.Bool.Decides.{nat_tests}
use Rattle.l4_fpage.specs.Fpages.{ReadsAs, IsMalformed, size_field, base_field, rights_field}
use Rattle.l4_fpage.specs.declared.fpages.Fpage.{Fpage}
use Rattle.l4_fpage.specs.declared.fpages.Fpage.TheVariants.{Nil, Complete, Sized}
use Rattle.l4_fpage.specs.declared.sizes.PageSize.{PageSize}
use Rattle.l4_msg.specs.declared.messages.MsgFault.TheVariants.{BadWindow}
use Rattle.l4_msg.specs.Words.{ItemReads}
use Rattle.l4_msg.specs.declared.items.Item.{Item}
use Rattle.l4_msg.specs.declared.items.Item.TheVariants.{Map, Grant}
use Rattle.l4_decode.specs.Items.{item_text, read_item_text, carrying_text}
use Rattle.l4_decode.specs.Refusals.{refusal_text}
use Rattle.l4_decode.specs.Fpages.{is_fpage, is_complete, place_of, granted_of, place_text, granted_text, fpage_text, no_fpage_text, window_text, window_word, taken_of, taken_text, extent_text}

-- ---- by the fields alone

complete_is : (log base : ℕ) → ((log ≡ 1) × (base ≡ 0)) ⊎ (log ≡ 32) → is_complete log base ≡ true
unfolding is_complete
complete_is log base (inl (one, none)) = rw (one, none) refl
complete_is log base (inr most) = rw most refl

sized_is_no_complete : (log base : ℕ) → 10 ≤ log → log ≤ 31 → is_complete log base ≡ false
unfolding is_complete
sized_is_no_complete log base large small =
    let one : (log == 1) ≡ false = ne_eqb log 1 (λ e. omega (arith, e, large)) in
    let most : (log == 32) ≡ false = ne_eqb log 32 (λ e. omega (arith, e, small)) in
    rw (one, most) refl

no_nil : (log : ℕ) → 1 ≤ log → (log == 0) ≡ false
no_nil log some = ne_eqb log 0 (λ e. omega (arith, e, some))

at_least_one : (log base : ℕ) → ((log ≡ 1) × (base ≡ 0)) ⊎ (log ≡ 32) → 1 ≤ log
at_least_one log base (inl (one, none)) = omega (arith, one)
at_least_one log base (inr most) = omega (arith, most)

fpage_if_complete : (log base : ℕ) → ((log ≡ 1) × (base ≡ 0)) ⊎ (log ≡ 32) → is_fpage log base ≡ true
unfolding is_fpage
fpage_if_complete log base is = rw (no_nil log (at_least_one log base is), complete_is log base is) refl

fpage_if_sized : (log base : ℕ) → 10 ≤ log → log ≤ 31 → is_fpage log base ≡ true
unfolding is_fpage
fpage_if_sized log base large small =
    let low : nat_le 10 log ≡ true = grind (arith, nat_tests) in
    let high : nat_le log 31 ≡ true = grind (arith, nat_tests) in
    rw (no_nil log (omega (arith, large)), sized_is_no_complete log base large small, low, high) refl

none_if_malformed : (log base : ℕ) → ((log ≡ 1) × (0 < base)) ⊎ (((2 ≤ log) × (log ≤ 9)) ⊎ (33 ≤ log)) → is_fpage log base ≡ false
unfolding is_fpage is_complete
none_if_malformed log base (inl (one, some)) =
    let e : (base == 0) ≡ false = ne_eqb base 0 (λ none. omega (arith, none, some)) in
    rw (one, e) refl
none_if_malformed log base (inr (inl (low, high))) =
    let one : (log == 1) ≡ false = ne_eqb log 1 (λ e. omega (arith, e, low)) in
    let most : (log == 32) ≡ false = ne_eqb log 32 (λ e. omega (arith, e, high)) in
    let small : nat_le 10 log ≡ false = grind (arith, nat_tests) in
    rw (no_nil log (omega (arith, low)), one, most, small) refl
none_if_malformed log base (inr (inr large)) =
    let one : (log == 1) ≡ false = ne_eqb log 1 (λ e. omega (arith, e, large)) in
    let most : (log == 32) ≡ false = ne_eqb log 32 (λ e. omega (arith, e, large)) in
    let high : nat_le log 31 ≡ false = grind (arith, nat_tests) in
    let low : nat_le 10 log ≡ true = grind (arith, nat_tests) in
    rw (no_nil log (omega (arith, large)), one, most, low, high) refl

-- ---- of a word

reads_fpage : (word : ℕ) (fpage : Fpage) → ReadsAs word fpage → is_fpage (size_field word) (base_field word) ≡ true
unfolding is_fpage
reads_fpage word Nil is = rw is refl
reads_fpage word (Complete rights) is = fpage_if_complete (size_field word) (base_field word) is.0
reads_fpage word (Sized e) is =
    fpage_if_sized (size_field word) (base_field word) (subst (λ (n : ℕ). 10 ≤ n) is.0 e.large) (subst (λ (n : ℕ). n ≤ 31) is.0 e.small)

reads_place : (size : PageSize) (word : ℕ) (fpage : Fpage) → ReadsAs word fpage → place_of size (size_field word) (base_field word) ≡ place_text size fpage
unfolding place_of place_text
reads_place size word Nil is = rw is refl
reads_place size word (Complete rights) is =
    rw (no_nil (size_field word) (at_least_one (size_field word) (base_field word) is.0), complete_is (size_field word) (base_field word) is.0) refl
reads_place size word (Sized e) is =
    let large : 10 ≤ size_field word = subst (λ (n : ℕ). 10 ≤ n) is.0 e.large in
    let small : size_field word ≤ 31 = subst (λ (n : ℕ). n ≤ 31) is.0 e.small in
    rw (no_nil (size_field word) (omega (arith, large)), sized_is_no_complete (size_field word) (base_field word) large small)
    (sym ((λ i. extent_text size (is.1 i) e.log) ∙ (λ i. extent_text size (base_field word / 2 ^ is.0 i * 2 ^ is.0 i) (is.0 i))))

reads_granted : (word : ℕ) (fpage : Fpage) → ReadsAs word fpage → granted_of (size_field word) (rights_field word) ≡ granted_text fpage
unfolding granted_of granted_text
reads_granted word Nil is = rw is refl
reads_granted word (Complete rights) is = rw (no_nil (size_field word) (at_least_one (size_field word) (base_field word) is.0), is.1) refl
reads_granted word (Sized e) is =
    rw (no_nil (size_field word) (subst (λ (n : ℕ). 1 ≤ n) is.0 (omega (arith, e.large))), is.2) refl

-- ---- the texts of a word

pub fpage_is : (size : PageSize) (word : ℕ) (fpage : Fpage) → ReadsAs word fpage → fpage_text size word ≡ place_text size fpage ++ granted_text fpage
unfolding fpage_text
fpage_is size word fpage is =
    rw (reads_fpage word fpage is) (λ i. reads_place size word fpage is i ++ reads_granted word fpage is i)

pub no_fpage_is : (size : PageSize) (word : ℕ) → IsMalformed word → fpage_text size word ≡ no_fpage_text (size_field word)
unfolding fpage_text
no_fpage_is size word bad = rw (none_if_malformed (size_field word) (base_field word) bad) refl

reads_taken : (size : PageSize) (word : ℕ) (window : Fpage) → ReadsAs word window → taken_of size (size_field word) (base_field word) ≡ taken_text size window
unfolding taken_of taken_text place_text
reads_taken size word Nil is = rw is refl
reads_taken size word (Complete rights) is = rw (no_nil (size_field word) (at_least_one (size_field word) (base_field word) is.0)) (reads_place size word (Complete rights) is)
reads_taken size word (Sized e) is =
    rw (no_nil (size_field word) (subst (λ (n : ℕ). 1 ≤ n) is.0 (omega (arith, e.large)))) (reads_place size word (Sized e) is)

pub window_is : (size : PageSize) (word : ℕ) (window : Fpage) → ReadsAs (window_word word) window → window_text size word ≡ taken_text size window
unfolding window_text
window_is size word window is = rw (reads_fpage (window_word word) window is) (reads_taken size (window_word word) window is)

pub no_window_is : (size : PageSize) (word : ℕ) → IsMalformed (window_word word) → window_text size word ≡ refusal_text BadWindow
unfolding window_text
no_window_is size word bad = rw (none_if_malformed (size_field (window_word word)) (base_field (window_word word)) bad) refl

-- ---- the text of an item

pub item_is : (size : PageSize) (first second : ℕ) (item : Item) → ItemReads first second item → item_text size first second ≡ read_item_text size (first % 2) item
unfolding item_text read_item_text carrying_text
item_is size first second (Map base fpage) is =
    rw (is.0, is.1, fpage_is size second fpage is.2) refl
item_is size first second (Grant base fpage) is =
    rw (is.0, is.1, fpage_is size second fpage is.2) refl
