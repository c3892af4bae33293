-- Seats that forget their receipts agree with the books that forget theirs.
use Rattle.std.proofs.Common.{◌≡◌, ℕ, nat_eq, Bool, true, false, if◌then◌else◌, List, [], ◌∷◌, length, map, Option, Some, None, IfSome, is_some, refl, sym, ap, ◌∙◌, arith}
use Rattle.std.specs.Prelude.{nat_le}
use Rattle.std.specs.Option.{option_map}
use Rattle.std.specs.List.{All}
use Rattle.std.proofs.lemmas.Bool.{false≢true, le-leb}
use Rattle.l4_record.specs.declared.segments.Segment.{Segment}
use Rattle.l4_record.specs.Sizes.{max_handed_out}
use Rattle.l4_lock.specs.Books.{SeatState, Book, book_at, forgotten_book, forgotten_seat}
use Rattle.l4_lock.specs.Inside.Accounts.{HasFewReceipts}
use Rattle.l4_lock.specs.Locked.{Lock, IsKept, HandsOut}
use Rattle.l4_lock.proofs.Forgetting.{few_receipts, forgotten_at}
use Rattle.l4_seated_lock.specs.Seated.{seat_of, seat_at}
use Rattle.l4_seated_lock.specs.Inside.Places.{found}
use Rattle.l4_seated_lock.proofs.Numbers.{of_book}
use Rattle.l4_seated_lock.proofs.Keeping.{Agree}

same_number : (p : SeatState) → (forgotten_seat p).number ≡ p.number
same_number p = elim (nat_le (length p.receipts) max_handed_out) as (λ t. (if t then record p { kept_from = length p.receipts } else p).number ≡ p.number) [ true ↦ refl | false ↦ refl ]

found_forgotten : (ps : List SeatState) (n : ℕ) → found (map forgotten_seat ps) n ≡ option_map forgotten_seat (found ps n)
found_forgotten [] n = refl
found_forgotten (p ∷ ps) n =
    ap (λ (k : ℕ). if nat_eq k n then Some (forgotten_seat p) else found (map forgotten_seat ps) n) (same_number p)
    ∙ elim (nat_eq p.number n) as (λ t. (if t then Some (forgotten_seat p) else found (map forgotten_seat ps) n) ≡ option_map forgotten_seat (if t then Some p else found ps n)) [
      | true ↦ refl
      | false ↦ found_forgotten ps n
    ]

-- the seat of a book with few receipts forgets as the book does
seat_forgets : (b : Book) → HasFewReceipts b → forgotten_seat (seat_of b) ≡ seat_of (forgotten_book b)
seat_forgets b few = ap (λ (t : Bool). if t then record (seat_of b) { kept_from = length b.receipts } else seat_of b) (le-leb (length b.receipts) max_handed_out few)

module _ (seats : List SeatState) (books : List Book) (agree : Agree seats books) (few : All HasFewReceipts books) (n : ℕ) where
  of_option : (o : Option Book) → book_at books n ≡ o → option_map forgotten_seat (option_map seat_of o) ≡ option_map seat_of (option_map forgotten_book o)
  of_option None at = refl
  of_option (Some b) at = ap (λ (p : SeatState). Some p) (seat_forgets b (of_book HasFewReceipts books n b at few))

  pub agree_forgotten : found (map forgotten_seat seats) n ≡ seat_at (map forgotten_book books) n
  agree_forgotten =
      found_forgotten seats n ∙ ap (option_map forgotten_seat) (agree n) ∙ of_option (book_at books n) refl ∙ ap (option_map seat_of) (sym (forgotten_at books n))

-- the seats once the lock handed out a segment
pub handed_agree : (old new : Lock) (r : Option Segment) (seats later : List SeatState) → Agree seats old.books → IsKept old → IsKept new → IfSome r (HandsOut old new) → is_some r ≡ true → later ≡ map forgotten_seat seats → Agree later new.books
handed_agree old new None seats later agree was_kept kept some is same = absurd (false≢true is)
handed_agree old new (Some segment) seats later agree was_kept kept some is same = λ n.
    let all = ap (λ (l : Lock). l.kept_from) some.new_is in
    let handed = kept.handed_out in
    let few : All HasFewReceipts old.books = few_receipts old.frames old.history old.kernel old.books was_kept.right.each (omega (arith, all, handed)) in
    ap (λ (ps : List SeatState). found ps n) same ∙ agree_forgotten seats old.books agree few n ∙ ap (λ (l : Lock). seat_at l.books n) (sym some.new_is)
