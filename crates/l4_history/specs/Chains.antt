-- The text of a chain of moves, link by link, and of the page to which it leads (this profile's own).
use Rattle.std.specs.Prelude.{ℕ, Bool, true, false, List, ◌++◌, Option, Some, None, codes, decimal, slice_get}
use Rattle.std.specs.List.{flat_map}
use Rattle.l4_mapdb.specs.declared.Mapping.{Mapping}
use Rattle.l4_mapdb.specs.declared.Place.{Place}
use Rattle.l4_ipc.specs.declared.steps.Step.{Step}
use Rattle.l4_ipc.specs.declared.steps.Step.TheVariants.{Start, Transfer, Expire, Cancel}
use Rattle.l4_record.specs.declared.entries.Entry.{Entry}
use Rattle.l4_record.specs.declared.links.ChainLink.{ChainLink}
use Rattle.l4_record.specs.Chains.{origin_of}
use Rattle.l4_answers.specs.Pages.{rights_text, page_text}
use Rattle.l4_answers.specs.Replies.{space, newline}

-- the page of sigma0 at which the chain to a place begins
unfoldable pub sigma0_line : List ChainLink → Place → List ℕ
sigma0_line links place = codes "sigma0 page " ++ decimal (origin_of links place).page ++ newline

-- the sender and the receiver of a transfer
unfoldable pub step_parties : Step → List ℕ
step_parties (Transfer sender receiver) = codes " transfer " ++ decimal sender ++ space ++ decimal receiver
step_parties (Start number call) = codes " start"
step_parties (Expire number) = codes " expire"
step_parties (Cancel number cause) = codes " cancel"

-- the sender and the receiver of an entry, if there is one
unfoldable pub entry_parties : Option Entry → List ℕ
entry_parties (Some entry) = step_parties entry.step
entry_parties None = codes " none"

-- whether the item granted the page or mapped it
unfoldable pub kind_text : Bool → List ℕ
kind_text true = codes " grant "
kind_text false = codes " map "

-- the sender's page and the receiver's, the rights that the sender's page had, and those that the item named
unfoldable pub moved_text : ChainLink → List ℕ
moved_text link =
    kind_text link.grant ++ decimal link.source.page ++ space ++ decimal link.target.page ++ space ++ rights_text link.source_rights ++ space
    ++ rights_text link.item_rights ++ newline

-- a link: the number of its entry, from 0, the sender and the receiver, and what was moved
unfoldable pub link_line : List Entry → ChainLink → List ℕ
link_line history link = codes "entry " ++ decimal link.entry ++ entry_parties (slice_get history link.entry) ++ moved_text link

-- the links in order
abbrev pub link_lines : List Entry → List ChainLink → List ℕ
link_lines history links = flat_map (link_line history) links

-- from sigma0's page to the place and its mapping
abbrev pub chain_text : List Entry → List ChainLink → Place → Mapping → List ℕ
chain_text history links place shows = sigma0_line links place ++ link_lines history links ++ page_text place.page shows
