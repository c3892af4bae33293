-- A delivered transfer moves what was computed before it.
use Rattle.std.proofs.Common.{◌≡◌, ℕ, List, Some, Ok, Result, Contains, slice_get, refl, sym, ap, ◌∙◌, subst}
use Rattle.std.proofs.lemmas.Option.{slice_get_read, slice_get_within, get_or_from_slice_get}
use Rattle.l4_fpage.specs.Fpages.{rights_of}
use Rattle.l4_fpage.specs.declared.fpages.Fpage.{Fpage}
use Rattle.l4_fpage.specs.Rights.{common}
use Rattle.l4_msg.specs.Moves.{ItemMoves, fpage_of, is_grant}
use Rattle.l4_msg.specs.declared.items.Item.{Item}
use Rattle.l4_mapdb.specs.Transfer.{PageMove}
use Rattle.l4_threads.specs.declared.Receiving.{Receiving}
use Rattle.l4_threads.specs.declared.Sending.{Sending}
use Rattle.l4_threads.specs.declared.State.TheVariants.{Sending as IsSender, Receiving as IsReceiver}
use Rattle.l4_threads.specs.declared.Thread.{Thread}
use Rattle.l4_threads.specs.Threads.{thread_at}
use Rattle.l4_ipc.specs.declared.steps.Answer.{Answer}
use Rattle.l4_ipc.specs.declared.steps.Outcome.TheVariants.{Done}
use Rattle.l4_ipc.specs.declared.steps.Refused.{Refused}
use Rattle.l4_ipc.specs.declared.steps.Step.{Step}
use Rattle.l4_ipc.specs.declared.steps.Step.TheVariants.{Transfer}
use Rattle.l4_ipc.specs.Machine.{Machine}
use Rattle.l4_ipc.specs.Moving.{IsUsedBy}
use Rattle.l4_ipc.specs.Provenance.{Link, Brings}
use Rattle.l4_ipc.specs.Steps.{Steps, Meets}
use Rattle.l4_ipc.proofs.OneState.{same_value}
use Rattle.l4_record.specs.declared.entries.Entry.{Entry}
use Rattle.l4_record.specs.declared.links.ChainLink.{ChainLink}
use Rattle.l4_record.specs.Chains.{told}
use Rattle.l4_record.specs.Inside.Carrying.{AreParties, IsCarriedBy, IsCarried}
use Rattle.l4_record.specs.Inside.Walking.{entry_event, Does, BringsTold}

-- a step has one sender and one receiver
pub record SameParties (a b c d : ℕ) (xs ys : List Item) (v w : Fpage) : Type 0 where
  pub «from» : a ≡ b
  pub to : c ≡ d
  pub items : xs ≡ ys
  pub window : v ≡ w

pub same_parties : (m : Machine) (step : Step) (a b c d : ℕ) (xs ys : List Item) (v w : Fpage) → AreParties m step a c xs v → AreParties m step b d ys w → SameParties a b c d xs ys v w
same_parties m step a b c d xs ys v w x y =
    let step_same : Transfer x.sender x.receiver ≡ Transfer y.sender y.receiver = sym x.step_is ∙ y.step_is in
    let sender : x.sender ≡ y.sender = cc in
    let receiver : x.receiver ≡ y.receiver = cc in
    let giver : x.giver ≡ y.giver = same_value (sym x.giver_at ∙ ap (thread_at m.threads) sender ∙ y.giver_at) in
    let taker : x.taker ≡ y.taker = same_value (sym x.taker_at ∙ ap (thread_at m.threads) receiver ∙ y.taker_at) in
    let sends_both : IsSender x.sends ≡ IsSender y.sends = sym x.giver_state ∙ ap (λ (t : Thread). t.state) giver ∙ y.giver_state in
    let takes_both : IsReceiver x.takes ≡ IsReceiver y.takes = sym x.taker_state ∙ ap (λ (t : Thread). t.state) taker ∙ y.taker_state in
    let sends : x.sends ≡ y.sends = cc in
    let takes : x.takes ≡ y.takes = cc in
    record {
      «from» = x.from_is ∙ ap (λ (t : Thread). t.space) giver ∙ sym y.from_is;
      to = x.to_is ∙ ap (λ (t : Thread). t.space) taker ∙ sym y.to_is;
      items = x.items_is ∙ ap (λ (s : Sending). s.items.items) sends ∙ sym y.items_is;
      window = x.window_is ∙ ap (λ (r : Receiving). r.window) takes ∙ sym y.window_is;
    }

-- an element of a list has a place in it, and the other way round
get_of : (items : List Item) (item : Item) → Contains items item → (n : ℕ) × (slice_get items n ≡ Some item)
get_of items item h = (h.0, slice_get_read items _ h.0 item refl h.1 (sym h.2))

contains_of : (items : List Item) (n : ℕ) (item : Item) → slice_get items n ≡ Some item → Contains items item
contains_of items n item at = (n, slice_get_within items n item at, get_or_from_slice_get items n item item at)

-- the threads of a step that delivers are those of the delivery
meets_of : (before after : Machine) (step : Step) (answer : Answer) (from to : ℕ) (items : List Item) (window : Fpage) → Steps before step (Ok answer) after
    → (p : AreParties before step from to items window) → Meets before.threads p.sender p.receiver p.giver p.taker p.sends p.takes
meets_of before after step answer from to items window steps p =
    let x : Steps before (Transfer p.sender p.receiver) (Ok answer) after = subst (λ (s : Step). Steps before s (Ok answer) after) p.step_is steps in
    record { from_at = p.giver_at; to_at = p.taker_at; from_state = p.giver_state; to_state = p.taker_state; enabled = x.4.enabled }

pub carried_brings : (before after : Machine) (entry : Entry) (link : ChainLink) → Does before entry after → entry.answer.outcome ≡ Done → IsCarried before entry.step link
    → BringsTold before entry after link
carried_brings before after entry link does done c =
    let p : AreParties before entry.step c.0 c.1 c.2 c.3 = c.4 in
    let item : Item = c.5.0 in
    let at = get_of c.2 item c.5.1 in
    let by : IsCarriedBy before.size before.mappings c.0 c.1 c.3 item link = c.5.2 in
    let move : PageMove = record {
      item = at.0;
      source = link.source;
      target = link.target;
      grant = link.grant;
      shows = by.shows;
      rights = common by.shows.rights (rights_of (fpage_of item));
    } in
    let item_at : slice_get p.sends.items.items at.0 ≡ Some item = subst (λ (l : List Item). slice_get l at.0 ≡ Some item) p.items_is at.1 in
    let in_window : IsCarriedBy before.size before.mappings c.0 c.1 p.takes.window item link =
    subst (λ (w : Fpage). IsCarriedBy before.size before.mappings c.0 c.1 w item link) p.window_is by in
    let used : IsUsedBy before.size before.mappings p.giver.space p.taker.space p.sends.items.items p.takes.window move = record {
      by = item;
      item = item_at;
      moves = record {
        from_space = by.from_space ∙ p.from_is;
        to_space = by.to_space ∙ p.to_is;
        pages = in_window.pages;
        grant_is = by.grant;
        present = by.at;
        rights_are = refl;
        some_right = by.some_right;
      };
    } in
    record {
      brought = record { move = move; item = item };
      brings = record {
        «from» = p.giver;
        to = p.taker;
        sends = p.sends;
        takes = p.takes;
        delivery = record {
          sender = p.sender;
          receiver = p.receiver;
          step = p.step_is;
          meets = meets_of before after entry.step entry.answer c.0 c.1 c.2 c.3 does p;
          answer = entry.answer;
          ok = refl;
          done = done;
        };
        used = used;
        item = item_at;
      };
      is_told = λ i. record {
        entry = link.entry;
        source = link.source;
        target = link.target;
        grant = link.grant;
        source_rights = by.source_rights i;
        item_rights = by.item_rights i;
      };
    }

-- what a delivered transfer moved was computed before it
pub brings_done : (before after : Machine) (entry : Entry) (l : Link) → Brings (entry_event before entry after) l → entry.answer.outcome ≡ Done
brings_done before after entry l b =
    let both : ◌≡◌ {A = Result Answer Refused} (Ok entry.answer) (Ok b.delivery.answer) = b.delivery.ok in
    let one : entry.answer ≡ b.delivery.answer = cc in
    ap (λ (a : Answer). a.outcome) one ∙ b.delivery.done

pub brings_carried : (before after : Machine) (entry : Entry) (number : ℕ) (l : Link) → Brings (entry_event before entry after) l → IsCarried before entry.step (told number l)
brings_carried before after entry number l b =
    let meets = b.delivery.meets in
    let same : b.used.by ≡ l.item = same_value (sym b.used.item ∙ b.item) in
    let rights : l.move.rights ≡ common l.move.shows.rights (rights_of (fpage_of l.item)) =
    b.used.moves.rights_are ∙ ap (λ (i : Item). common l.move.shows.rights (rights_of (fpage_of i))) same in
    let carried : IsCarriedBy before.size before.mappings b.«from».space b.to.space b.takes.window l.item (told number l) = record {
      from_space = b.used.moves.from_space;
      to_space = b.used.moves.to_space;
      pages = subst (λ (i : Item). ItemMoves before.size i b.takes.window l.move.source.page l.move.target.page) same b.used.moves.pages;
      grant = b.used.moves.grant_is ∙ ap is_grant same;
      shows = l.move.shows;
      at = b.used.moves.present;
      source_rights = refl;
      item_rights = refl;
      some_right = λ none. b.used.moves.some_right (rights ∙ none);
    } in
    let parties : AreParties before entry.step b.«from».space b.to.space b.sends.items.items b.takes.window = record {
      sender = b.delivery.sender;
      receiver = b.delivery.receiver;
      step_is = b.delivery.step;
      giver = b.«from»;
      taker = b.to;
      sends = b.sends;
      takes = b.takes;
      giver_at = meets.from_at;
      taker_at = meets.to_at;
      giver_state = meets.from_state;
      taker_state = meets.to_state;
      from_is = refl;
      to_is = refl;
      items_is = refl;
      window_is = refl;
    } in
    (b.«from».space, b.to.space, b.sends.items.items, b.takes.window, parties, (l.item, contains_of b.sends.items.items l.move.item l.item b.item, carried))
