-- What a transfer would move, read from the machine before it.
use Rattle.std.specs.Prelude.{◌≡◌, ◌≢◌, ℕ, List, Some, Contains}
use Rattle.l4_fpage.specs.Rights.{RightsSet, common, no_rights}
use Rattle.l4_fpage.specs.Fpages.{rights_of}
use Rattle.l4_fpage.specs.declared.fpages.Fpage.{Fpage}
use Rattle.l4_fpage.specs.declared.sizes.PageSize.{PageSize}
use Rattle.l4_msg.specs.Moves.{ItemMoves, fpage_of, is_grant}
use Rattle.l4_msg.specs.declared.items.Item.{Item}
use Rattle.l4_mapdb.specs.Mappings.{Mappings, shown}
use Rattle.l4_mapdb.specs.declared.Place.{Place}
use Rattle.l4_mapdb.specs.declared.Mapping.{Mapping}
use Rattle.l4_threads.specs.declared.Receiving.{Receiving}
use Rattle.l4_threads.specs.declared.Sending.{Sending}
use Rattle.l4_threads.specs.declared.State.TheVariants.{Sending as IsSender, Receiving as IsReceiver}
use Rattle.l4_threads.specs.declared.Thread.{Thread}
use Rattle.l4_threads.specs.Threads.{thread_at}
use Rattle.l4_ipc.specs.declared.steps.Step.{Step}
use Rattle.l4_ipc.specs.declared.steps.Step.TheVariants.{Transfer}
use Rattle.l4_ipc.specs.Machine.{Machine}
use Rattle.l4_record.specs.declared.links.ChainLink.{ChainLink}

-- the step is a transfer from a thread of one space, which sends these items, to a thread of the other space, which receives in this window
pub record AreParties (m : Machine) (step : Step) («from» to : ℕ) (items : List Item) (window : Fpage) : Type 0 where
  pub sender : ℕ
  pub receiver : ℕ
  pub step_is : step ≡ Transfer sender receiver
  pub giver : Thread
  pub taker : Thread
  pub sends : Sending
  pub takes : Receiving
  pub giver_at : thread_at m.threads sender ≡ Some giver
  pub taker_at : thread_at m.threads receiver ≡ Some taker
  pub giver_state : giver.state ≡ IsSender sends
  pub taker_state : taker.state ≡ IsReceiver takes
  pub from_is : «from» ≡ giver.space
  pub to_is : to ≡ taker.space
  pub items_is : items ≡ sends.items.items
  pub window_is : window ≡ takes.window

-- this item moves the link's page, with the link's rights on both sides
pub record IsCarriedBy (size : PageSize) (s : Mappings) («from» to : ℕ) (window : Fpage) (item : Item) (link : ChainLink) : Type 0 where
  pub from_space : link.source.space ≡ «from»
  pub to_space : link.target.space ≡ to
  pub pages : ItemMoves size item window link.source.page link.target.page
  pub grant : link.grant ≡ is_grant item
  pub shows : Mapping
  pub at : shown s link.source ≡ Some shows
  pub source_rights : link.source_rights ≡ shows.rights
  pub item_rights : link.item_rights ≡ rights_of (fpage_of item)
  pub some_right : common shows.rights (rights_of (fpage_of item)) ≢ no_rights

-- one of these items moves the link's page
abbrev pub AnyCarries : PageSize → Mappings → ℕ → ℕ → List Item → Fpage → ChainLink → Type 0
AnyCarries size s «from» to items window link = (item : Item) × Contains items item × IsCarriedBy size s «from» to window item link

-- the step's message has an item that moves the link's page
abbrev pub IsCarried : Machine → Step → ChainLink → Type 0
IsCarried m step link =
    («from» to : ℕ) × (items : List Item) × (window : Fpage) × AreParties m step «from» to items window × AnyCarries m.size m.mappings «from» to items window link

-- the step's message has an item that moves a page to the place
abbrev pub IsWritten : Machine → Step → Place → Type 0
IsWritten m step place = (link : ChainLink) × IsCarried m step link × (link.target ≡ place)

-- the link has these rights of its source, and the rights and the kind (map or grant) of the item; the rights have one in common
pub record AreRights (item : Item) (shows : RightsSet) (link : ChainLink) : Type 0 where
  pub grant : link.grant ≡ is_grant item
  pub source_rights : link.source_rights ≡ shows
  pub item_rights : link.item_rights ≡ rights_of (fpage_of item)
  pub some_right : common shows (rights_of (fpage_of item)) ≢ no_rights

-- the item moves a page to the place
abbrev pub IsWrittenBy : PageSize → Mappings → ℕ → ℕ → Fpage → Item → Place → Type 0
IsWrittenBy size s «from» to window item place = (link : ChainLink) × IsCarriedBy size s «from» to window item link × (link.target ≡ place)

-- one of these items moves a page to the place
abbrev pub AnyWrites : PageSize → Mappings → ℕ → ℕ → List Item → Fpage → Place → Type 0
AnyWrites size s «from» to items window place = (item : Item) × Contains items item × IsWrittenBy size s «from» to window item place
