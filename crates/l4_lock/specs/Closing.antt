-- How the seats that come back agree with the seats that were given (this profile's own).
use Rattle.std.specs.Prelude.{◌≡◌, ℕ, ◌<◌, ◌⊎◌, max, List, length, drop, Option, Some, None, slice_get}
use Rattle.std.specs.List.{All, AllPairs}
use Rattle.std.specs.Option.{option_map_or}
use Rattle.l4_record.specs.declared.entries.Entry.{Entry}
use Rattle.l4_lock.specs.declared.closing.Mismatch.{Mismatch}
use Rattle.l4_lock.specs.declared.closing.Mismatch.TheVariants.{Missing, Foreign, Receipt as WrongReceipt}
use Rattle.l4_lock.specs.Receipts.{Proves}
use Rattle.l4_lock.specs.declared.entries.Receipt.{Receipt}
use Rattle.l4_lock.specs.Books.{SeatState, starts, Book, book_at, starts_of}
use Rattle.l4_lock.specs.Locked.{Lock}

-- one of the first `before` books, or seats, has this number
pub record HasBook (books : List Book) (before n : ℕ) : Type 0 where
  pub at : ℕ
  pub early : at < before
  pub book : Book
  pub there : slice_get books at ≡ Some book
  pub number : book.number ≡ n

pub record HasSeat (seats : List SeatState) (before n : ℕ) : Type 0 where
  pub at : ℕ
  pub early : at < before
  pub seat : SeatState
  pub there : slice_get seats at ≡ Some seat
  pub number : seat.number ≡ n

-- the seat of this number was given, or came back
abbrev pub IsGiven : List Book → ℕ → Type 0
IsGiven books n = HasBook books (length books) n

abbrev pub IsBack : List SeatState → ℕ → Type 0
IsBack seats n = HasSeat seats (length seats) n

-- two seats of this number came back
pub record IsTwice (seats : List SeatState) (n : ℕ) : Type 0 where
  pub at : ℕ
  pub second : SeatState
  pub there : slice_get seats at ≡ Some second
  pub number : second.number ≡ n
  pub first : HasSeat seats at n

-- the number of the first receipt that neither the book nor the seat has forgotten
abbrev pub kept_by_both : Book → SeatState → ℕ
kept_by_both b p = max b.kept_from p.kept_from

-- these are as many receipts, and the same ones from this number on
abbrev pub AreSameFrom : ℕ → List Receipt → List Receipt → Type 0
AreSameFrom number xs ys = (length xs ≡ length ys) × (drop number xs ≡ drop number ys)

-- The seat has as many starts as `counts` says, as many receipts as the book, and the same ones, where both keep them.
abbrev pub Agrees : (Book → ℕ) → Book → SeatState → Type 0
Agrees counts b p = (counts b ≡ starts p) × AreSameFrom (kept_by_both b p) b.receipts p.receipts

-- each book with the seat's number agrees with the seat
abbrev pub AllAgree : (Book → ℕ) → List Book → SeatState → Type 0
AllAgree counts books p = (k : ℕ) (b : Book) → slice_get books k ≡ Some b → b.number ≡ p.number → Agrees counts b p

-- X1: the seat of this number was given, but did not come back
abbrev pub IsMissing : List Book → List SeatState → ℕ → Type 0
IsMissing books seats n = IsGiven books n × ¬ (IsBack seats n)

-- X2: a seat of this number came back that was not given, or the seat of this number came back twice
abbrev pub IsForeign : List Book → List SeatState → ℕ → Type 0
IsForeign books seats n = (IsBack seats n × ¬ (IsGiven books n)) ⊎ IsTwice seats n

-- X3: a seat of this number came back that does not agree with its book
pub record IsWrong (counts : Book → ℕ) (books : List Book) (seats : List SeatState) (n : ℕ) : Type 0 where
  pub at : ℕ
  pub seat : SeatState
  pub there : slice_get seats at ≡ Some seat
  pub number : seat.number ≡ n
  pub place : ℕ
  pub book : Book
  pub given : slice_get books place ≡ Some book
  pub same : book.number ≡ n
  pub differs : ¬ (Agrees counts book seat)

-- the lowest number for which P holds, or None if it holds for no number
abbrev pub Least : (ℕ → Type 0) → Option ℕ → Type 0
Least P None = (n : ℕ) → ¬ (P n)
Least P (Some n) = P n × ((k : ℕ) → k < n → ¬ (P k))

-- the first mismatch: missing seats before foreign ones, and these before wrong ones; of each kind, the one with the lowest number
abbrev pub Mismatches : (Book → ℕ) → List Book → List SeatState → Mismatch → Type 0
Mismatches counts books seats (Missing n) = Least (IsMissing books seats) (Some n)
Mismatches counts books seats (Foreign n) = Least (IsMissing books seats) None × Least (IsForeign books seats) (Some n)
Mismatches counts books seats (WrongReceipt n) =
    Least (IsMissing books seats) None × Least (IsForeign books seats) None × Least (IsWrong counts books seats) (Some n)

-- Exactly the seats that were given came back, each once, and each agrees with its book.
pub record AreBack (counts : Book → ℕ) (books : List Book) (seats : List SeatState) : Type 0 where
  pub back : (n : ℕ) → IsGiven books n → IsBack seats n
  pub given : (n : ℕ) → IsBack seats n → IsGiven books n
  pub once : (n : ℕ) → ¬ (IsTwice seats n)
  pub agree : (k : ℕ) (p : SeatState) → slice_get seats k ≡ Some p → AllAgree counts books p

-- the number of starts of the book's thread in the history
abbrev pub by_history : List Entry → Book → ℕ
by_history history b = starts_of b.number history

-- What is proved about a seat that came back: the history has as many starts of its thread as the seat counted, each of its receipts from
-- this number on is right about the history, and the starts of these receipts rise.
pub record IsShownFrom (l : Lock) (number : ℕ) (p : SeatState) : Type 0 where
  pub count : starts_of p.number l.history ≡ starts p
  pub receipts : All (Proves l.frames l.history p.number) (drop number p.receipts)
  pub rising : AllPairs (λ r s. r.start < s.start) (drop number p.receipts)

-- the same about all receipts of the seat
abbrev pub IsShown : Lock → SeatState → Type 0
IsShown l p = IsShownFrom l 0 p

-- the number of the first receipt of a seat that neither the lock nor the seat has forgotten
abbrev pub kept_in : List Book → SeatState → ℕ
kept_in books p = option_map_or (λ b. kept_by_both b p) (book_at books p.number) 0

-- what is proved once the lock is closed
pub record Closes (l : Lock) (seats : List SeatState) : Type 0 where
  pub back : AreBack (by_history l.history) l.books seats
  pub shown : (k : ℕ) (p : SeatState) → slice_get seats k ≡ Some p → IsShownFrom l (kept_in l.books p) p
