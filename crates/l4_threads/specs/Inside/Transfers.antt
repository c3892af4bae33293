-- The enabled transfers as a list: of each, the sender's number and the receiver's. (this profile's own)
use Rattle.std.specs.Prelude.{ℕ, ◌==◌, ◌&&◌, ◌++◌, ◌∷◌, [], not, nat_eq, Bool, false, if◌then◌else◌, List, Option, Some, is_some, MatchOption}
use Rattle.std.specs.List.{find}
use Rattle.std.specs.Option.{option_map, option_eq}
use Rattle.l4_threads.specs.declared.State.{State}
use Rattle.l4_threads.specs.declared.State.TheVariants.{Running, Sending as Sends, Receiving as Receives}
use Rattle.l4_threads.specs.Threads.{Threads}
use Rattle.l4_threads.specs.Enabled.{Offers, IsFirstSender}

-- who sends in the transfer to this receiver
abbrev pub sender_to : List (ℕ × ℕ) → ℕ → Option ℕ
sender_to transfers receiver = option_map (λ pair. pair.0) (find (λ pair. pair.1 == receiver) transfers)

-- the list with one transfer more, where it has none to this receiver
abbrev pub with_transfer : List (ℕ × ℕ) → ℕ → ℕ → List (ℕ × ℕ)
with_transfer transfers sender receiver =
    if is_some (sender_to transfers receiver) then transfers else transfers ++ (sender, receiver) ∷ []

-- the list has the enabled transfer to each receiver, where there is one
abbrev pub AreTransfers : Threads → List (ℕ × ℕ) → Type 0
AreTransfers t transfers =
    (receiver : ℕ) → MatchOption (sender_to transfers receiver) ((s : ℕ) → ¬ (Offers t s receiver)) (IsFirstSender t receiver)

-- the thread n waits in this state with a timeout of zero, and takes part in none of these transfers
abbrev pub expires_beside : List (ℕ × ℕ) → ℕ → State → Bool
expires_beside transfers n (Running reply) = false
expires_beside transfers n (Sends s) = s.expires && not (option_eq nat_eq (sender_to transfers s.to) (Some n))
expires_beside transfers n (Receives r) = r.expires && not (is_some (sender_to transfers n))
