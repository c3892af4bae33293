-- What a gate gains by a call that it enters.
use Rattle.std.proofs.Common.{◌≡◌, ℕ, ◌≤◌, List, [], ◌∷◌, ◌++◌, length, map, drop, ap, ◌∙◌}
use Rattle.std.proofs.lemmas.List.{drop-append-le, map-append}
use Rattle.l4_threads.specs.declared.Reply.{Reply}
use Rattle.l4_ipc.specs.declared.calls.Call.{Call}
use Rattle.l4_lock.specs.declared.entries.Receipt.{Receipt}
use Rattle.l4_lock.specs.Books.{SeatState}
use Rattle.l4_lock.specs.Shared.{IsAnswered, gate_state, pairs_of}

pub gains_pair : (first : ℕ) (before after : SeatState) (call : Call) (reply : Reply) → first ≤ length before.receipts → IsAnswered before after call reply
    → pairs_of (gate_state first after) ≡ pairs_of (gate_state first before) ++ (call, reply) ∷ []
gains_pair first before after call reply le a =
    ap (λ (rs : List Receipt). map (λ r. (r.call, r.reply)) (drop first rs)) a.receipts
    ∙ ap (map (λ (r : Receipt). (r.call, r.reply))) (drop-append-le first before.receipts (a.receipt ∷ []) le)
    ∙ map-append (λ (r : Receipt). (r.call, r.reply)) (drop first before.receipts) (a.receipt ∷ [])
    ∙ (λ i. map (λ (r : Receipt). (r.call, r.reply)) (drop first before.receipts) ++ (a.gives i, a.answers i) ∷ [])
