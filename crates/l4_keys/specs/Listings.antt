-- The words of a list of numbered things, and what they say (this profile's own).
use Rattle.std.specs.Prelude.{◌≡◌, ℕ, ◌+◌, ◌<◌, ◌≤◌, Bool, true, false, List, [], ◌∷◌, ◌++◌}

-- a thing: its number, and its words
pub record Thing : Type 0 where
  pub number : ℕ
  pub words : List ℕ

-- no thing from this number on is there
abbrev pub NoneFrom : (ℕ → Bool) → ℕ → Type 0
NoneFrom there from = (n : ℕ) → from ≤ n → there n ≡ false

-- the first thing that is there from this number on
pub record IsNext (there : ℕ → Bool) (start next : ℕ) : Type 0 where
  pub is : there next ≡ true
  pub from : start ≤ next
  pub least : (n : ℕ) → start ≤ n → n < next → there n ≡ false

-- these are all things that are there from this number on, in rising order, each with its words
abbrev pub AreAll : (ℕ → Bool) → (ℕ → List ℕ → Type 0) → ℕ → List Thing → Type 0
AreAll there HasWords from [] = NoneFrom there from
AreAll there HasWords from (thing ∷ things) =
    IsNext there from thing.number × HasWords thing.number thing.words × AreAll there HasWords (thing.number + 1) things

-- 1 and the words of each thing, and 0 behind the last one
abbrev pub words_of : List Thing → List ℕ
words_of [] = 0 ∷ []
words_of (thing ∷ things) = 1 ∷ thing.words ++ words_of things

-- the words list all things that are there
abbrev pub Lists : (ℕ → Bool) → (ℕ → List ℕ → Type 0) → List ℕ → Type 0
Lists there HasWords words = (things : List Thing) × AreAll there HasWords 0 things × (words ≡ words_of things)
