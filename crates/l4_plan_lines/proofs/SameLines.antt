-- A line spells one thing.
use Rattle.std.proofs.Common.{◌≡◌, ℕ, ◌^◌, ◌<◌, sym, ap, ◌∙◌, subst, arith, List, take, drop, Option, Some, None}
use Rattle.std.proofs.lemmas.Fmt.{decimal_injective}
use Rattle.std.specs.Fmt.{decimal}
use Rattle.l4_fpage.proofs.Same.{reads_same}
use Rattle.l4_msg.specs.Moves.{IsMap}
use Rattle.l4_msg.specs.Words.{ItemReads}
use Rattle.l4_msg.specs.declared.items.Item.{Item}
use Rattle.l4_msg.specs.declared.items.Item.TheVariants.{Map, Grant}
use Rattle.l4_plan_lines.specs.Claims.{IsTagLine, IsPageLine, IsItemLine}
use Rattle.l4_plan_lines.specs.Lines.{item_line}
use Rattle.l4_text.proofs.Spelled.{word_back}
use Rattle.l4_text.specs.Numbers.{word_of}
use Rattle.l4_text.specs.Texts.{word_text}

some_word : Option ℕ → ℕ
some_word None = 0
some_word (Some w) = w

pub word_same : (a b : ℕ) → a < 2 ^ 32 → b < 2 ^ 32 → word_text a ≡ word_text b → a ≡ b
unfolding some_word
word_same a b p q e = ap some_word (sym (word_back a p) ∙ ap word_of e ∙ word_back b q)

pub tag_same : (line : List ℕ) (a b : ℕ) → IsTagLine line a → IsTagLine line b → a ≡ b
tag_same line a b x y = word_same a b x.0 y.0 (ap (λ (l : List ℕ). drop 4 l) (sym x.1 ∙ y.1))

number_same : (a b : ℕ) → a < 2 ^ 32 → b < 2 ^ 32 → decimal a ≡ decimal b → a ≡ b
number_same a b p q e = decimal_injective a b (omega arith) (omega arith) e

pub page_same : (line : List ℕ) (a b : ℕ) → IsPageLine line a → IsPageLine line b → a ≡ b
page_same line a b x y = number_same a b x.0 y.0 (ap (λ (l : List ℕ). drop 5 l) (sym x.1 ∙ y.1))

words_read : (a b : ℕ) (x y : Item) → IsMap x → IsMap y → ItemReads a b x → ItemReads a b y → x ≡ y
words_read a b (Map c f) (Map d g) m n h k =
    let base : c ≡ d = h.1 ∙ sym k.1 in
    let fpage = reads_same b f g h.2 k.2 in
    λ i. Map (base i) (fpage i)
words_read a b (Map c f) (Grant d g) m n h k = absurd n
words_read a b (Grant c f) y m n h k = absurd m

pub record SameItem (x y : Item) (p q : ℕ) : Type 0 where
  pub item : x ≡ y
  pub page : p ≡ q

pub item_same : (line : List ℕ) (x y : Item) (p q : ℕ) → IsItemLine line x p → IsItemLine line y q → SameItem x y p q
item_same line x y p q a b =
    let e : item_line a.first a.second p ≡ item_line b.first b.second q = sym a.spelled ∙ b.spelled in
    let first : a.first ≡ b.first = word_same a.first b.first a.first_word b.first_word (ap (λ (l : List ℕ). take 8 (drop 5 l)) e) in
    let second : a.second ≡ b.second = word_same a.second b.second a.second_word b.second_word (ap (λ (l : List ℕ). take 8 (drop 14 l)) e) in
    let reads : ItemReads b.first b.second x = subst (λ (n : ℕ). ItemReads n b.second x) first (subst (λ (n : ℕ). ItemReads a.first n x) second a.reads) in
    record {
      item = words_read b.first b.second x y a.map b.map reads b.reads;
      page = number_same p q a.page_word b.page_word (ap (λ (l : List ℕ). drop 28 l) e);
    }

-- the parts of two triples that are one
pub record SameWords (a b p x y z : ℕ) : Type 0 where
  pub first : a ≡ x
  pub second : b ≡ y
  pub page : p ≡ z

words_of : Option (ℕ × ℕ × ℕ) → ℕ × ℕ × ℕ
words_of None = (0, 0, 0)
words_of (Some w) = w

pub same_words : (a b p x y z : ℕ) → ◌≡◌ {A = Option (ℕ × ℕ × ℕ)} (Some (a, b, p)) (Some (x, y, z)) → SameWords a b p x y z
unfolding words_of
same_words a b p x y z h = record { first = λ i. (words_of (h i)).0; second = λ i. (words_of (h i)).1; page = λ i. (words_of (h i)).2 }
