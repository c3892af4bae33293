-- The receipts of a seat as a list (this profile's own).
use Rattle.std.specs.Prelude.{ℕ, ◌-◌, max, nat_le, if◌then◌else◌, List, Option, None, length, drop, slice_get}
use Rattle.l4_lock.specs.declared.entries.Receipt.{Receipt}

-- What a contract sees of the receipts of a seat: all receipts that it got, the number of the first one that is kept, and the number of
-- receipts for which there is room. Those with lower numbers than `kept_from` were forgotten.
pub record ReceiptList : Type 0 where
  pub items : List Receipt
  pub kept_from : ℕ
  pub room : ℕ

abbrev pub receipt_list : List Receipt → ℕ → ℕ → ReceiptList
receipt_list items kept_from room = record { items = items; kept_from = kept_from; room = room }

-- the number of receipts that are kept
abbrev pub kept_receipt_count : ReceiptList → ℕ
kept_receipt_count r = length r.items - r.kept_from

-- the receipt with this number, if it is kept
abbrev pub kept_receipt : ReceiptList → ℕ → Option Receipt
kept_receipt r number = if nat_le r.kept_from number then slice_get r.items number else None

-- the receipts that are kept, from this number on
abbrev pub kept_receipts : ReceiptList → ℕ → List Receipt
kept_receipts r number = drop (max r.kept_from number) r.items
