-- Links of a page's provenance, as C passes and gets them (this profile's own).
use Rattle.std.specs.Prelude.{ℕ, Bool, true, false, nat_eq, if◌then◌else◌, codes}
use Rattle.l4_fpage.specs.Rights.{bits_of, set_of_bits}
use Rattle.l4_record.specs.declared.links.ChainLink.{ChainLink}
use Rattle.l4_record.specs.declared.faults.ReplayFault.TheVariants.{BadFrames, NoMemory, OtherAnswer}
use Rattle.l4_seated_lock.specs.declared.faults.TraceFault.{TraceFault}
use Rattle.l4_seated_lock.specs.declared.faults.TraceFault.TheVariants.{HandedOut, Replay}
use Rattle.l4_refusals.specs.Texts.{spelled}
use Rattle.l4_c_values.specs.Told.{told_place}
use Rattle.l4_c_values.specs.declared.links.Link.{Link}
use Rattle.l4_c_values.specs.declared.links.ChainResult.{ChainResult}

-- a link as C gets it: `grant` is 1 if the item granted the page, and 0 if it mapped the page
abbrev pub link_result : ChainLink → Link
link_result link = record {
  entry = link.entry;
  source_space = link.source.space;
  target_space = link.target.space;
  source_page = link.source.page;
  target_page = link.target.page;
  grant = if link.grant then 1 else 0;
  source_rights = bits_of link.source_rights;
  item_rights = bits_of link.item_rights;
  reserved = 0;
}

-- a link as C passes it: the item granted the page if `grant` is not 0
abbrev pub link_given : Link → ChainLink
link_given link = record {
  entry = link.entry;
  source = record { space = link.source_space; page = link.source_page };
  target = record { space = link.target_space; page = link.target_page };
  grant = if nat_eq link.grant 0 then false else true;
  source_rights = set_of_bits link.source_rights;
  item_rights = set_of_bits link.item_rights;
}

-- the number of the reason why a provenance is not found or checked; and the entry that it names, or 0
abbrev pub fault_code : TraceFault → ℕ
fault_code HandedOut = spelled (codes "L8")
fault_code (Replay BadFrames) = spelled (codes "K6")
fault_code (Replay NoMemory) = spelled (codes "NoMemory")
fault_code (Replay (OtherAnswer entry)) = spelled (codes "L6")

abbrev pub fault_carries : TraceFault → ℕ
fault_carries HandedOut = 0
fault_carries (Replay BadFrames) = 0
fault_carries (Replay NoMemory) = 0
fault_carries (Replay (OtherAnswer entry)) = told_place entry

-- whether a page is present and how many links it has, or the reason why the query was refused
abbrev pub chain_result : ℕ → ℕ → ℕ → ℕ → ChainResult
chain_result code number there count = record { refusal = code; detail = number; there = there; count = count }
