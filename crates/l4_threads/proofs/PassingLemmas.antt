-- What becomes of the table where a message is taken.
use Rattle.std.proofs.Common.{◌≡◌, ℕ, zero, true, false, map, Option, suc, ◌<◌, List, [], ◌∷◌, ◌++◌, length, Some, refl, sym, ap, ◌∙◌, subst, drop, slice_get, slice_set, slice_index_or, arith}
use Rattle.std.proofs.lemmas.Option.{get_or_from_slice_get}
use Rattle.std.proofs.lemmas.Bool.{false≢true}
use Rattle.std.specs.List.{refill}
use Rattle.std.specs.Option.{option_map_or, option_map}
use Rattle.l4_threads.specs.Activities.{sending_in}
use Rattle.l4_threads.specs.Threads.{Threads, state_of, is_sending, end_call, message_of}
use Rattle.l4_threads.specs.Enabled.{IsFirstSender}
use Rattle.l4_threads.specs.Inside.Kept.{threads_of}
use Rattle.l4_threads.specs.Inside.Entries.{Entries, IsAt, IsTable, found, changed_in, sends_in, is_receiving, in_state}
use Rattle.l4_threads.specs.Inside.Numbers.{IsRoster}
use Rattle.l4_threads.proofs.TableLemmas.{found_first, changed_at, refill_same, length-changed_in, numbers-changed_in}
use Rattle.l4_threads.specs.Inside.Passing.{taken, HandsOver}
use Rattle.l4_threads.proofs.QueueLemmas.{left_by, left_by_none}
use Rattle.l4_threads.proofs.EnabledLemmas.{offer_sends, offer_receives}
use Rattle.l4_threads.proofs.ViewLemmas.{thread_at_seen, found_seen, left_table, seen_left}
use Rattle.l4_threads.specs.declared.Envelope.{Envelope}
use Rattle.l4_threads.specs.declared.Sending.{Sending}
use Rattle.l4_threads.specs.declared.State.{State}
use Rattle.l4_threads.specs.declared.State.TheVariants.{Running, Sending as Sends, Receiving as Receives}
use Rattle.l4_threads.specs.declared.Reply.TheVariants.{Ipc}
use Rattle.l4_threads.specs.declared.Thread.{Thread}

set_low : (low high : Entries) (at : ℕ) (x : ℕ × Thread) → at < length low → slice_set low at x ++ high ≡ slice_set (low ++ high) at x
set_low [] high at x lt = absurd (omega arith)
set_low (y ∷ low) high zero x lt = refl
set_low (y ∷ low) high (suc at) x lt = ap (λ (l : Entries). y ∷ l) (set_low low high at x (omega arith))

set_high : (low high : Entries) (x : ℕ × Thread) → low ++ slice_set high 0 x ≡ slice_set (low ++ high) (length low) x
set_high [] high x = refl
set_high (y ∷ low) high x = ap (λ (l : Entries). y ∷ l) (set_high low high x)

get_low : (low high : Entries) (at : ℕ) → at < length low → slice_get (low ++ high) at ≡ slice_get low at
get_low [] high at lt = absurd (omega arith)
get_low (y ∷ low) high zero lt = refl
get_low (y ∷ low) high (suc at) lt = get_low low high at (omega arith)

get_high : (low high : Entries) → slice_get (low ++ high) (length low) ≡ slice_get high 0
get_high [] high = refl
get_high (y ∷ low) high = get_high low high

-- the state is what was taken from this state
abbrev Takes : State → Envelope → State → Type 0
Takes sends envelope state = (sending : Sending) → sending_in sends ≡ Some sending → state ≡ taken envelope sending

-- the receiver stands in the lower part
pub handed_low : (es low high : Entries) («from» at : ℕ) (envelope : Envelope) (state : State) (d e : ℕ × Thread) → es ≡ low ++ high → length low ≡ «from» → at < «from»
    → Takes (slice_index_or high 0 e).1.state envelope state
    → (sender receiver : ℕ) (sends takes : Thread) (sending : Sending) → slice_get es «from» ≡ Some (sender, sends) → sending_in sends.state ≡ Some sending → slice_get es at ≡ Some (receiver, takes)
    → slice_set low at ((slice_index_or low at d).0, in_state state (slice_index_or low at d).1) ++ high ≡ slice_set es at (receiver, in_state (taken envelope sending) takes)
handed_low es low high «from» at envelope state d e same size lt took sender receiver sends takes sending sent_there sent there =
    let within : at < length low = omega arith in
    let it : slice_index_or low at d ≡ (receiver, takes) = get_or_from_slice_get low at (receiver, takes) d (sym (get_low low high at within) ∙ ap (λ (l : Entries). slice_get l at) (sym same) ∙ there) in
    let other : slice_index_or high 0 e ≡ (sender, sends) =
    get_or_from_slice_get high 0 (sender, sends) e (sym (get_high low high) ∙ ap (slice_get (low ++ high)) size ∙ ap (λ (l : Entries). slice_get l «from») (sym same) ∙ sent_there) in
    let is : state ≡ taken envelope sending = took sending (ap (λ (x : ℕ × Thread). sending_in x.1.state) other ∙ sent) in
    (λ i. slice_set low at ((it i).0, in_state (is i) (it i).1) ++ high)
    ∙ set_low low high at (receiver, in_state (taken envelope sending) takes) within
    ∙ ap (λ (l : Entries). slice_set l at (receiver, in_state (taken envelope sending) takes)) (sym same)

-- the receiver stands in the higher part
pub handed_high : (es low high : Entries) («from» at : ℕ) (envelope : Envelope) (state : State) (d e : ℕ × Thread) → es ≡ low ++ high → length low ≡ at → «from» < at
    → Takes (slice_index_or low «from» e).1.state envelope state
    → (sender receiver : ℕ) (sends takes : Thread) (sending : Sending) → slice_get es «from» ≡ Some (sender, sends) → sending_in sends.state ≡ Some sending → slice_get es at ≡ Some (receiver, takes)
    → low ++ slice_set high 0 ((slice_index_or high 0 d).0, in_state state (slice_index_or high 0 d).1) ≡ slice_set es at (receiver, in_state (taken envelope sending) takes)
handed_high es low high «from» at envelope state d e same size lt took sender receiver sends takes sending sent_there sent there =
    let it : slice_index_or high 0 d ≡ (receiver, takes) =
    get_or_from_slice_get high 0 (receiver, takes) d (sym (get_high low high) ∙ ap (slice_get (low ++ high)) size ∙ ap (λ (l : Entries). slice_get l at) (sym same) ∙ there) in
    let other : slice_index_or low «from» e ≡ (sender, sends) =
    get_or_from_slice_get low «from» (sender, sends) e (sym (get_low low high «from» (omega arith)) ∙ ap (λ (l : Entries). slice_get l «from») (sym same) ∙ sent_there) in
    let is : state ≡ taken envelope sending = took sending (ap (λ (x : ℕ × Thread). sending_in x.1.state) other ∙ sent) in
    (λ i. low ++ slice_set high 0 ((it i).0, in_state (is i) (it i).1))
    ∙ set_high low high (receiver, in_state (taken envelope sending) takes)
    ∙ ap (λ (n : ℕ). slice_set (low ++ high) n (receiver, in_state (taken envelope sending) takes)) size
    ∙ ap (λ (l : Entries). slice_set l at (receiver, in_state (taken envelope sending) takes)) (sym same)

-- a thread that sends has a send phase
pub sends_what : (es : Entries) (n at : ℕ) (first : IsAt es n at) → sends_in es n ≡ true → (sending : Sending) × (first.thread.state ≡ Sends sending)
sends_what es n at first sends =
    of first.thread.state refl (sym (ap (λ (o : Option Thread). option_map_or is_sending (option_map (λ thread. thread.state) o) false) (found_first es n at first.thread first.there first.first)) ∙ sends) where
      of : (s : State) → first.thread.state ≡ s → is_sending s ≡ true → (sending : Sending) × (first.thread.state ≡ Sends sending)
      of (Running reply) is h = absurd (false≢true h)
      of (Sends s) is h = (s, is)
      of (Receives r) is h = absurd (false≢true h)

-- the table after the slice that was lent: the receiver's state alone has changed
pub passed : (es xs new : Entries) (size sender receiver «from» at : ℕ) (envelope : Envelope) → size ≡ length es → IsAt es sender «from» → IsAt es receiver at → xs ≡ es → HandsOver xs «from» at envelope new
    → (sends : Thread) (sending : Sending) → found es sender ≡ Some sends → sends.state ≡ Sends sending → refill size es new ≡ changed_in es receiver (in_state (taken envelope sending))
passed es xs new size sender receiver «from» at envelope long first to same hands sends sending there is =
    let both : ◌≡◌ {A = Option Thread} (Some sends) (Some first.thread) = sym there ∙ found_first es sender «from» first.thread first.there first.first in
    let v : sends ≡ first.thread = cc in
    let all : new ≡ changed_in es receiver (in_state (taken envelope sending)) =
    hands sender receiver first.thread to.thread sending (ap (λ (l : Entries). slice_get l «from») same ∙ first.there) (ap (λ (t : Thread). t.state) (sym v) ∙ is) (ap (λ (l : Entries). slice_get l at) same ∙ to.there)
    ∙ ap (λ (l : Entries). slice_set l at (receiver, in_state (taken envelope sending) to.thread)) same
    ∙ changed_at es receiver at to.thread (in_state (taken envelope sending)) to.there to.first in
    refill_same es new size long (ap length all ∙ length-changed_in es receiver (in_state (taken envelope sending))) ∙ all

-- the numbers stay
pub passed_numbers : (es xs new : Entries) (numbers hints : List ℕ) (capacity size sender receiver «from» at : ℕ) (envelope : Envelope) → IsRoster numbers hints es capacity → size ≡ length es → IsAt es sender «from» → IsAt es receiver at → xs ≡ es
    → HandsOver xs «from» at envelope new → sends_in es sender ≡ true → IsRoster numbers hints (refill size es new) capacity
passed_numbers es xs new numbers hints capacity size sender receiver «from» at envelope kept long first to same hands sends =
    let what = sends_what es sender «from» first sends in
    let all = passed es xs new size sender receiver «from» at envelope long first to same hands first.thread what.0 (found_first es sender «from» first.thread first.there first.first) what.1 in
    record {
      numbered = record {
        listed = kept.numbered.listed ∙ sym (ap (λ (l : Entries). map (λ e. e.0) l) all ∙ numbers-changed_in es receiver (in_state (taken envelope what.0)));
        once = kept.numbered.once;
        counted = kept.numbered.counted;
      };
      few = kept.few;
      room = kept.room;
    }

-- The two threads of an enabled transfer, as they are found.
module _ (es : Entries) (queue : List ℕ) (next : ℕ) (t : Threads) (table : IsTable es queue next) (is : threads_of es queue next ≡ t) (sender receiver : ℕ) (enabled : IsFirstSender t receiver sender) where
  pub giver : (thread : Thread) × (found es sender ≡ Some thread) × (is_sending thread.state ≡ true)
  giver = found_seen es queue next t is is_sending sender (offer_sends (state_of t sender) (state_of t receiver) sender receiver enabled.offers)

  pub giver_sends : sends_in es sender ≡ true
  giver_sends = ap (λ (o : Option Thread). option_map_or is_sending (option_map (λ thread. thread.state) o) false) giver.1 ∙ giver.2

  pub gives : (sending : Sending) × (giver.0.state ≡ Sends sending)
  gives = of giver.0.state refl giver.2 where
    of : (s : State) → giver.0.state ≡ s → is_sending s ≡ true → (sending : Sending) × (giver.0.state ≡ Sends sending)
    of (Running reply) same h = absurd (false≢true h)
    of (Sends s) same h = (s, same)
    of (Receives r) same h = absurd (false≢true h)

  -- this is what it sends
  pub gives_this : (sending : Sending) → state_of t sender ≡ Some (Sends sending) → giver.0.state ≡ Sends sending
  gives_this sending sent =
      let both : ◌≡◌ {A = Option State} (Some giver.0.state) (Some (Sends sending)) =
      sym (ap (option_map (λ thread. thread.state)) (thread_at_seen es queue next t is sender ∙ giver.1)) ∙ sent in
      cc

  pub taker_found : (thread : Thread) × (found es receiver ≡ Some thread) × (is_receiving thread.state ≡ true)
  taker_found = found_seen es queue next t is is_receiving receiver (offer_receives (state_of t sender) (state_of t receiver) sender receiver enabled.offers)

  -- the receiver is not in the queue
  out : left_by receiver queue ≡ queue
  out = left_by_none receiver queue (table.queued receiver ∙ ap (λ (o : Option Thread). option_map_or is_sending (option_map (λ thread. thread.state) o) false) taker_found.1 ∙ quiet taker_found.0.state taker_found.2) where
    quiet : (s : State) → is_receiving s ≡ true → is_sending s ≡ false
    quiet (Running reply) h = refl
    quiet (Sends s) h = absurd (false≢true h)
    quiet (Receives r) h = refl

  pub passed_table : (envelope : Envelope) (sending : Sending) → IsTable (changed_in es receiver (in_state (taken envelope sending))) queue next
  passed_table envelope sending =
      subst (λ (q : List ℕ). IsTable (changed_in es receiver (in_state (taken envelope sending))) q next) out
      (left_table es queue next receiver taker_found.0 (taken envelope sending) table taker_found.1 refl)

  pub passed_seen : (envelope : Envelope) (sending : Sending) → threads_of (changed_in es receiver (in_state (taken envelope sending))) queue next ≡ end_call (threads_of es queue next) receiver (Ipc (message_of envelope (drop 1 sending.words.items)))
  passed_seen envelope sending =
      ap (λ (q : List ℕ). threads_of (changed_in es receiver (in_state (taken envelope sending))) q next) (sym out)
      ∙ seen_left es queue next receiver taker_found.0 (taken envelope sending) table taker_found.1
