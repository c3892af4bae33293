-- The message that tokens name, one token after another (this profile's own).
use Rattle.std.specs.Prelude.{◌≡◌, ℕ, ◌+◌, ◌*◌, ◌<◌, ◌≤◌, ◌⊎◌, List, [], ◌∷◌, ◌++◌, length, Some, None, Ok}
use Rattle.l4_fpage.specs.declared.sizes.PageSize.{PageSize}
use Rattle.l4_msg.specs.Sizes.{max_untyped}
use Rattle.l4_msg.specs.declared.items.Item.{Item}
use Rattle.l4_msg.specs.declared.messages.Message.{Message}
use Rattle.l4_symbols.specs.Items.{NamesItem, ItemRefused}
use Rattle.l4_symbols.specs.Spelling.{label_in}
use Rattle.l4_symbols.specs.declared.reasons.Reason.{Reason}
use Rattle.l4_symbols.specs.declared.reasons.Reason.TheVariants.{Behind, Full}
use Rattle.l4_text.specs.Numbers.{number_of}

-- the words behind the tag
abbrev pub words_in : Message → ℕ
words_in m = length m.untyped.items + 2 * length m.items.items

-- THE MESSAGE OF A TAG: nothing follows it yet
pub record Begins (token : List ℕ) (m : Message) : Type 0 where
  pub label : label_in token ≡ Ok m.label
  pub untyped : m.untyped.items ≡ []
  pub items : m.items.items ≡ []

-- an untyped word comes behind the others, and stands before the items
pub record AddsWord (word : ℕ) (before after : Message) : Type 0 where
  pub first : before.items.items ≡ []
  pub room : words_in before + 1 ≤ max_untyped
  pub label : after.label ≡ before.label
  pub untyped : after.untyped.items ≡ before.untyped.items ++ word ∷ []
  pub items : after.items.items ≡ before.items.items

-- an item comes behind the others
pub record AddsItem (item : Item) (before after : Message) : Type 0 where
  pub room : words_in before + 2 ≤ max_untyped
  pub label : after.label ≡ before.label
  pub untyped : after.untyped.items ≡ before.untyped.items
  pub items : after.items.items ≡ before.items.items ++ item ∷ []

-- THE MESSAGE WITH ONE MORE TOKEN: a number is a word, and any other token names an item
abbrev pub Adds : PageSize → List ℕ → Message → Message → Type 0
Adds size token before after =
    ((word : ℕ) × (number_of token ≡ Some word) × AddsWord word before after)
    ⊎ ((item : Item) × (number_of token ≡ None) × NamesItem size token item × AddsItem item before after)

-- why a word cannot follow
abbrev pub WordRefused : Message → Reason → Type 0
WordRefused m Behind = 0 < length m.items.items
WordRefused m Full = max_untyped < words_in m + 1
WordRefused m reason = ⊥

-- why an item cannot follow
abbrev pub ItemFull : Message → Reason → Type 0
ItemFull m Full = max_untyped < words_in m + 2
ItemFull m reason = ⊥

-- WHY A TOKEN CANNOT FOLLOW: it is a word after an item, there is no room, or it names no item
abbrev pub AddRefused : PageSize → List ℕ → Message → Reason → Type 0
AddRefused size token m reason =
    ((word : ℕ) × (number_of token ≡ Some word) × WordRefused m reason)
    ⊎ (((item : Item) × (number_of token ≡ None) × NamesItem size token item × ItemFull m reason)
    ⊎ ((number_of token ≡ None) × ItemRefused size token reason))

-- THE MESSAGE WITH THESE TOKENS behind its own, one after another
abbrev pub AddsEach : PageSize → List (List ℕ) → Message → Message → Type 0
AddsEach size [] before after = before ≡ after
AddsEach size (token ∷ tokens) before after = (next : Message) × Adds size token before next × AddsEach size tokens next after

-- THE MESSAGE OF TOKENS: of a tag and the tokens behind it
abbrev pub IsMessageOf : PageSize → List (List ℕ) → Message → Type 0
IsMessageOf size [] message = ⊥
IsMessageOf size (tag ∷ tokens) message = (begun : Message) × Begins tag begun × AddsEach size tokens begun message
