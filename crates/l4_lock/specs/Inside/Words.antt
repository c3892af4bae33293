-- Receipts as words (this profile's own).
use Rattle.std.specs.Prelude.{ℕ, List, ◌∷◌, ◌++◌, Option, Some}
use Rattle.l4_journal.specs.Words.{◌>>=◌, word_at}
use Rattle.l4_journal.specs.Codes.{call_tag, call_fields, place_code, reply_code}
use Rattle.l4_journal.specs.Reading.{call_of, place_at, reply_at}
use Rattle.l4_lock.specs.declared.entries.Receipt.{Receipt}

-- the reply, the places of the start and of the end, and then the call, whose fields are the last words
abbrev pub receipt_code : Receipt → List ℕ
receipt_code receipt = reply_code receipt.reply ++ (place_code receipt.start ++ (place_code receipt.end ++ call_tag receipt.call ∷ call_fields receipt.call))

-- the receipt that these words are, or None
unfoldable pub receipt_at : List ℕ → Option Receipt
receipt_at words = do
  reply ← reply_at words
  start ← place_at reply.1
  last ← place_at start.1
  tag ← word_at last.1
  call ← call_of tag.0 tag.1
  Some (record { call = call; start = start.0; end = last.0; reply = reply.0 })
