-- The message of a page fault has no items.
use Rattle.std.proofs.Common.{ℕ, Bool, true, false, [], refl, arith}
use Rattle.l4_msg.specs.Messages.{typed_words, message_words}
use Rattle.l4_msg.specs.Protocols.{fault_message}
use Rattle.l4_msg.specs.Words.{ItemsRead}
use Rattle.l4_ipc.specs.declared.calls.FaultCall.{FaultCall}
use Rattle.l4_ipc.specs.Start.{fault_words}

-- the words of a fault with this access are a tag with two untyped words, and no typed ones
abbrev NoItems : ℕ → ℕ → Bool → Bool → Bool → Type 0
NoItems address ip r w x = ItemsRead (typed_words (message_words (fault_message (record { address = address; ip = ip; access = record { r = r; w = w; x = x } })))) []

no_items : (address ip : ℕ) (r w x : Bool) → NoItems address ip r w x
no_items address ip true true true = record { count = refl; each = λ k less. absurd (omega (arith, less)) }
no_items address ip true true false = record { count = refl; each = λ k less. absurd (omega (arith, less)) }
no_items address ip true false true = record { count = refl; each = λ k less. absurd (omega (arith, less)) }
no_items address ip true false false = record { count = refl; each = λ k less. absurd (omega (arith, less)) }
no_items address ip false true true = record { count = refl; each = λ k less. absurd (omega (arith, less)) }
no_items address ip false true false = record { count = refl; each = λ k less. absurd (omega (arith, less)) }
no_items address ip false false true = record { count = refl; each = λ k less. absurd (omega (arith, less)) }
no_items address ip false false false = record { count = refl; each = λ k less. absurd (omega (arith, less)) }

pub items_of_fault : (call : FaultCall) → ItemsRead (typed_words (fault_words call)) []
items_of_fault call = no_items call.address call.ip call.access.r call.access.w call.access.x
