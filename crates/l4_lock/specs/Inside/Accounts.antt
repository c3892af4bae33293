-- The books of the numbers whose seats were given, and how many of them have a reply (this profile's own).
use Rattle.std.specs.Prelude.{◌≡◌, ℕ, ◌+◌, ◌≤◌, length, Bool, false, if◌then◌else◌, List, [], ◌∷◌, Option, Some, None, slice_get, slice_set}
use Rattle.std.specs.Option.{option_map_or}
use Rattle.l4_threads.specs.declared.Reply.{Reply}
use Rattle.l4_record.specs.Sizes.{max_handed_out}
use Rattle.l4_lock.specs.declared.entries.Awaited.{Awaited}
use Rattle.l4_lock.specs.declared.entries.Pending.{Pending}
use Rattle.l4_lock.specs.Books.{SeatState, Book, has_ended, Settles}

-- what a contract sees of the accounts: their books
pub record BookList : Type 0 where
  pub items : List Book

abbrev pub book_list : List Book → BookList
book_list items = record { items = items }

-- the book's call has ended and has not been taken yet
abbrev pub has_reply : Book → Bool
has_reply b = option_map_or has_ended b.pending false

abbrev pub reply_count : Book → ℕ
reply_count b = if has_reply b then 1 else 0

-- the number of books that have such a call
abbrev pub replies_in : List Book → ℕ
replies_in [] = 0
replies_in (b ∷ bs) = reply_count b + replies_in bs

-- the call that has not been taken yet is this one
abbrev pub Awaits : Option Pending → Awaited → Type 0
Awaits None own = ⊥
Awaits (Some p) own = (p.call ≡ own.call) × (p.start ≡ own.start)

-- the receipts of the book can be forgotten
abbrev pub HasFewReceipts : Book → Type 0
HasFewReceipts b = length b.receipts ≤ max_handed_out

-- The call of the book at this place has ended, and the seat takes it. The other books are unchanged.
pub record SettlesAt (books later : List Book) (place : ℕ) (before after : SeatState) (reply : Reply) : Type 0 where
  pub former : Book
  pub at : slice_get books place ≡ Some former
  pub settled : Book
  pub changed : later ≡ slice_set books place settled
  pub settles : Settles former settled before after reply

-- the call of the book at this place has not ended, and nothing has changed
pub record IsUnsettled (books later : List Book) (place : ℕ) (before after : SeatState) : Type 0 where
  pub same : later ≡ books
  pub seat : after ≡ before
  pub none : (b : Book) → slice_get books place ≡ Some b → has_reply b ≡ false
