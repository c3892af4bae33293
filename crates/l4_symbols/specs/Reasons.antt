-- What would be right in place of a token, as text (this profile's own).
use Rattle.std.specs.Prelude.{ℕ, List, codes}
use Rattle.l4_symbols.specs.declared.reasons.Reason.{Reason}
use Rattle.l4_symbols.specs.declared.reasons.Reason.TheVariants.{NoTag, Label, Unknown, NoBase, NoRights, Window, Fpage, Timeouts, Number, Rights, Count, Beyond, Unaligned, Base, Behind, Full, Control, FpageCount, Id, BadId}

unfoldable pub reason_text : Reason → List ℕ
reason_text NoTag = codes "the first token must be tag:LABEL"
reason_text Label = codes "a label is a number from 0 to 65535"
reason_text Unknown = codes "expected a number up to 4294967295, map:FIRST+COUNT>BASE:RIGHTS or grant:FIRST+COUNT>BASE:RIGHTS"
reason_text NoBase = codes "an item needs > and the page of its send base after its pages, as in map:16+4>32:rwx"
reason_text NoRights = codes "an item needs : and its rights at its end, as in map:16+4>32:rwx"
reason_text Window = codes "expected all, none or FIRST+COUNT, as in 32+4"
reason_text Fpage = codes "expected FIRST+COUNT:RIGHTS, as in 16+4:rwx"
reason_text Timeouts = codes "expected never or zero for both phases, or SEND,RECEIVE, as in zero,never"
reason_text Number = codes "pages and their count are numbers up to 4294967295, decimal or hexadecimal with a 0x prefix"
reason_text Rights = codes "rights are r, w and x in this order, with - for each right that is left out"
reason_text Count = codes "the number of pages must be a power of two"
reason_text Beyond = codes "the pages must lie in the space, which ends at page 1048575, or at page 4194303 with pages of 1024 bytes"
reason_text Unaligned = codes "the first page must be a multiple of the number of pages"
reason_text Base = codes "the send base must be a page of the space, which ends at page 1048575, or at page 4194303 with pages of 1024 bytes"
reason_text Behind = codes "untyped words must come before the items"
reason_text Full = codes "a message has at most 63 words after its tag; an item takes two"
reason_text Control = codes "expected unmap:COUNT or flush:COUNT, as in flush:1"
reason_text FpageCount = codes "the number of fpages must be from 1 to 64"
reason_text Id = codes "expected nil, any, THREAD or THREAD,VERSION, as in 3 or 3,1"
reason_text BadId = codes "no thread can have this id: its number is from 1 to 262143, and its version from 1 to 16383 and no multiple of 64"
