-- Words that are read from the front of a list (this profile's own).
use Rattle.std.specs.Prelude.{◌≡◌, ℕ, List, [], ◌∷◌, length, take, drop, Option, Some, None, nat_lt, if◌then◌else◌}
use Rattle.std.specs.Borrow.{Bor}

-- the result of a reader, seen through `view`, is what the definition reads: None if nothing can be read
abbrev pub Gives : {X Y : Type 0} → (X → Y) → Option X → Option Y → Type 0
Gives view None read = read ≡ None
Gives view (Some x) read = read ≡ Some (view x)

-- what a contract sees of the words of a record
pub record WordList : Type 0 where
  pub items : List ℕ

abbrev pub word_list : List ℕ → WordList
word_list items = record { items = items }

infixl 10 ◌>>=◌
abbrev pub ◌>>=◌ : {A B : Type 0} → Option A → (A → Option B) → Option B
None >>= f = None
(Some x) >>= f = f x

-- the first word, and the words after it
abbrev pub word_at : List ℕ → Option (ℕ × List ℕ)
word_at [] = None
word_at (word ∷ rest) = Some (word, rest)

-- the first `count` words, and the words after them
abbrev pub words_at : ℕ → List ℕ → Option (List ℕ × List ℕ)
words_at count words = if nat_lt (length words) count then None else Some (take count words, drop count words)

-- a reader lends words, and returns those after them
abbrev pub Lends : Option (Bor (List ℕ) × List ℕ) → Option (List ℕ × List ℕ) → Type 0
Lends result read = Gives (λ x. (x.0.now, x.1)) result read
