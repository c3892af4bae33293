-- Words that were read by hand, by the layouts of the L4 X.2 manual.
use Rattle.std.proofs.Common.{◌≡◌, [], ◌∷◌, ◌++◌, codes, refl}
use Rattle.std.specs.Fmt.{digits}
use Rattle.l4_fpage.specs.Rights.{set_of_bits}
use Rattle.l4_fpage.specs.declared.sizes.PageSize.TheVariants.{Kib4, Kib1}
use Rattle.l4_msg.specs.declared.messages.MsgFault.TheVariants.{OddTyped, BadItem, Short}
use Rattle.l4_decode.specs.Spelling.{hex_text, label_text, meaning_line}
use Rattle.l4_decode.specs.Refusals.{refusal_text}
use Rattle.l4_decode.specs.Fpages.{fpage_text, is_fpage, is_complete, place_of, place_text, complete_text, extent_text, pages_text, bytes_text, granted_of, no_fpage_text, window_text, taken_of}
use Rattle.l4_decode.specs.Ids.{id_text, bad_text}
use Rattle.l4_decode.specs.Tags.{tag_text, protocol_text, access_text, tag_line}
use Rattle.l4_decode.specs.Items.{item_text, carrying_text, item_line, item_head}
use Rattle.l4_decode.specs.Meanings.{whole_text, fault_text, request_text}
use Rattle.l4_decode.specs.Decoded.{decoded_text, each_line, words_lines, word_line, items_lines}
use Rattle.l4_decode.specs.declared.meanings.Meaning.TheVariants.{Refused, Fault, Plain}

-- FPAGES: the base in units of 1,024 bytes in bits 31 to 10, the log of the size in bits 9 to 4, r w x in bits 2 to 0

pub one_page : fpage_text Kib4 0x000100c7 ≡ codes "page 16, rwx"
unfolding digits fpage_text is_fpage is_complete place_of complete_text extent_text pages_text bytes_text granted_of no_fpage_text hex_text
one_page = refl

pub four_pages : fpage_text Kib4 0x000040e7 ≡ codes "pages 4 to 7 (4), rwx"
unfolding digits fpage_text is_fpage is_complete place_of complete_text extent_text pages_text bytes_text granted_of no_fpage_text hex_text
four_pages = refl

pub eight_pages : fpage_text Kib4 0x000080f7 ≡ codes "pages 8 to 15 (8), rwx"
unfolding digits fpage_text is_fpage is_complete place_of complete_text extent_text pages_text bytes_text granted_of no_fpage_text hex_text
eight_pages = refl

pub many_pages : fpage_text Kib4 0x080001b7 ≡ codes "pages 32768 to 65535 (32768), rwx"
unfolding digits fpage_text is_fpage is_complete place_of complete_text extent_text pages_text bytes_text granted_of no_fpage_text hex_text
many_pages = refl

pub small_pages : fpage_text Kib1 0x000100c5 ≡ codes "pages 64 to 67 (4), r-x"
unfolding digits fpage_text is_fpage is_complete place_of complete_text extent_text pages_text bytes_text granted_of no_fpage_text hex_text
small_pages = refl

pub whole_space : fpage_text Kib4 0x00000017 ≡ codes "complete, pages 0 to 1048575 (1048576), rwx"
unfolding digits fpage_text is_fpage is_complete place_of complete_text extent_text pages_text bytes_text granted_of no_fpage_text hex_text
whole_space = refl

pub whole_space_of_small_pages : fpage_text Kib1 0x00000207 ≡ codes "complete, pages 0 to 4194303 (4194304), rwx"
unfolding digits fpage_text is_fpage is_complete place_of complete_text extent_text pages_text bytes_text granted_of no_fpage_text hex_text
whole_space_of_small_pages = refl

pub rounded_down : fpage_text Kib4 0x00005cea ≡ codes "pages 4 to 7 (4), -w-"
unfolding digits fpage_text is_fpage is_complete place_of complete_text extent_text pages_text bytes_text granted_of no_fpage_text hex_text
rounded_down = refl

pub less_than_a_page : fpage_text Kib4 0x000014b4 ≡ codes "2048 bytes at 0x00001000, less than a page, r--"
unfolding digits fpage_text is_fpage is_complete place_of complete_text extent_text pages_text bytes_text granted_of no_fpage_text hex_text
less_than_a_page = refl

pub nil_page : fpage_text Kib4 0x00005007 ≡ codes "nil"
unfolding digits fpage_text is_fpage is_complete place_of complete_text extent_text pages_text bytes_text granted_of no_fpage_text hex_text
nil_page = refl

pub too_small : fpage_text Kib4 0x00001020 ≡ codes "not an fpage: its size field is 2"
unfolding digits fpage_text is_fpage is_complete place_of complete_text extent_text pages_text bytes_text granted_of no_fpage_text hex_text
too_small = refl

pub too_large : fpage_text Kib4 0x00000217 ≡ codes "not an fpage: its size field is 33"
unfolding digits fpage_text is_fpage is_complete place_of complete_text extent_text pages_text bytes_text granted_of no_fpage_text hex_text
too_large = refl

pub complete_with_a_base : fpage_text Kib4 0x00000410 ≡ codes "not an fpage: its size field is 1"
unfolding digits fpage_text is_fpage is_complete place_of complete_text extent_text pages_text bytes_text granted_of no_fpage_text hex_text
complete_with_a_base = refl

-- RECEIVE WINDOWS: bits 31 to 4 as of an fpage, the low four bits mean nothing

pub window_of_pages : window_text Kib4 0x000200cf ≡ codes "page 32"
unfolding digits window_text taken_of is_fpage is_complete place_of complete_text extent_text pages_text refusal_text
window_of_pages = refl

pub anywhere : window_text Kib4 0x00000010 ≡ codes "complete, pages 0 to 1048575 (1048576)"
unfolding digits window_text taken_of is_fpage is_complete place_of complete_text extent_text pages_text refusal_text
anywhere = refl

pub no_window : window_text Kib4 0 ≡ codes "nil, accepts no items"
unfolding digits window_text taken_of is_fpage is_complete place_of complete_text extent_text pages_text refusal_text
no_window = refl

pub bad_window : window_text Kib4 0x00000020 ≡ codes "refused M6: the receive window is not a valid fpage"
unfolding digits window_text taken_of is_fpage is_complete place_of complete_text extent_text pages_text refusal_text
bad_window = refl

-- THREAD IDS: the number in bits 31 to 14, the version in bits 13 to 0, of which the low six are not all zero

pub thread_3 : id_text (record { 0 = 0x0000c001 }) ≡ codes "thread 3, version 1"
unfolding digits id_text bad_text
thread_3 = refl

pub nobody : id_text (record { 0 = 0 }) ≡ codes "nilthread"
unfolding digits id_text bad_text
nobody = refl

pub anybody : id_text (record { 0 = 0xffff_ffff }) ≡ codes "anythread"
unfolding digits id_text bad_text
anybody = refl

pub local_mark : id_text (record { 0 = 0x0000c040 }) ≡ codes "local thread id, not supported"
unfolding digits id_text bad_text
local_mark = refl

pub local_zero : id_text (record { 0 = 0x0000c000 }) ≡ codes "local thread id, not supported"
unfolding digits id_text bad_text
local_zero = refl

pub any_of_the_space : id_text (record { 0 = 0xffff_ffc0 }) ≡ codes "anylocalthread, not supported"
unfolding digits id_text bad_text
any_of_the_space = refl

pub beside_anythread : id_text (record { 0 = 0xffff_fffe }) ≡ codes "thread 262143, version 16382"
unfolding digits id_text bad_text
beside_anythread = refl

pub number_for_an_id : id_text (record { 0 = 3 }) ≡ codes "thread 0, version 3, not a valid thread id"
unfolding digits id_text bad_text
number_for_an_id = refl

-- TAGS: the label in bits 31 to 16, flags in 15 to 12, typed words in 11 to 6, untyped words in 5 to 0

pub tag_of_one_item : tag_text 0x00000080 ≡ codes "label 0x0000, flags 0, untyped 0, typed 2"
unfolding digits tag_text protocol_text access_text label_text
tag_of_one_item = refl

pub tag_of_all_fields : tag_text 0x12345fc1 ≡ codes "label 0x1234, flags 5, untyped 1, typed 63"
unfolding digits tag_text protocol_text access_text label_text
tag_of_all_fields = refl

pub tag_of_a_read_fault : tag_text 0xffe40002 ≡ codes "label 0xffe4 (page fault, r--), flags 0, untyped 2, typed 0"
unfolding digits tag_text protocol_text access_text label_text
tag_of_a_read_fault = refl

pub tag_of_a_request : tag_text 0xffa00002 ≡ codes "label 0xffa0 (request to sigma0), flags 0, untyped 2, typed 0"
unfolding digits tag_text protocol_text access_text label_text
tag_of_a_request = refl

pub tag_beside_the_faults : tag_text 0xffe80002 ≡ codes "label 0xffe8, flags 0, untyped 2, typed 0"
unfolding digits tag_text protocol_text access_text label_text
tag_beside_the_faults = refl

-- ITEMS: the send base in bits 31 to 10 of the first word, the kind in bits 3 to 1, C in bit 0; the fpage in the second

pub map_item : item_text Kib4 0x00020008 0x000100c7 ≡ codes "map, send base 0x00020000, C 0, page 16, rwx"
unfolding digits item_text carrying_text fpage_text is_fpage is_complete place_of complete_text extent_text pages_text granted_of no_fpage_text hex_text
map_item = refl

pub map_item_with_another : item_text Kib4 0x0000c009 0x000040e7 ≡ codes "map, send base 0x0000c000, C 1, pages 4 to 7 (4), rwx"
unfolding digits item_text carrying_text fpage_text is_fpage is_complete place_of complete_text extent_text pages_text granted_of no_fpage_text hex_text
map_item_with_another = refl

pub grant_item : item_text Kib4 0x0000500a 0x000050c7 ≡ codes "grant, send base 0x00005000, C 0, page 5, rwx"
unfolding digits item_text carrying_text fpage_text is_fpage is_complete place_of complete_text extent_text pages_text granted_of no_fpage_text hex_text
grant_item = refl

pub item_of_no_fpage : item_text Kib4 0x00000008 0x00001020 ≡ codes "map, send base 0x00000000, C 0, not an fpage: its size field is 2"
unfolding digits item_text carrying_text fpage_text is_fpage is_complete place_of complete_text extent_text pages_text granted_of no_fpage_text hex_text
item_of_no_fpage = refl

pub string : item_text Kib4 0x00000006 0 ≡ codes "string item, not supported"
unfolding digits item_text carrying_text fpage_text is_fpage is_complete place_of complete_text extent_text pages_text granted_of no_fpage_text hex_text
string = refl

pub ctrl_xfer : item_text Kib4 0x0000000c 0 ≡ codes "CtrlXfer item, not supported"
unfolding digits item_text carrying_text fpage_text is_fpage is_complete place_of complete_text extent_text pages_text granted_of no_fpage_text hex_text
ctrl_xfer = refl

pub unknown_kind : item_text Kib4 0x0000000e 0 ≡ codes "unknown item: its kind is 7"
unfolding digits item_text carrying_text fpage_text is_fpage is_complete place_of complete_text extent_text pages_text granted_of no_fpage_text hex_text
unknown_kind = refl

-- MESSAGES

pub message_of_one_item : decoded_text [] Kib4 (0x00000080 ∷ 0x00020008 ∷ 0x000100c7 ∷ []) (Plain 0 1)
    ≡ codes "tag 0x00000080: label 0x0000, flags 0, untyped 0, typed 2" ++ 10 ∷ []
    ++ codes "item 0 0x00020008 0x000100c7: map, send base 0x00020000, C 0, page 16, rwx" ++ 10 ∷ []
    ++ codes "message: untyped 0, items 1" ++ 10 ∷ []
unfolding digits decoded_text each_line words_lines word_line items_lines item_line item_head item_text carrying_text fpage_text is_fpage is_complete place_of complete_text extent_text pages_text granted_of no_fpage_text tag_line meaning_line tag_text protocol_text access_text label_text hex_text whole_text fault_text request_text place_text refusal_text
message_of_one_item = refl

pub message_of_a_fault : decoded_text [] Kib4 (0xffe40002 ∷ 0x00005678 ∷ 0x00400100 ∷ []) (Fault (record { address = 0x5678; ip = 0x400100; access = set_of_bits 4 }))
    ≡ codes "tag 0xffe40002: label 0xffe4 (page fault, r--), flags 0, untyped 2, typed 0" ++ 10 ∷ []
    ++ codes "word 1 0x00005678: untyped, 22136" ++ 10 ∷ []
    ++ codes "word 2 0x00400100: untyped, 4194560" ++ 10 ∷ []
    ++ codes "page fault: address 0x00005678 (page 5), ip 0x00400100, access r--" ++ 10 ∷ []
unfolding digits decoded_text each_line words_lines word_line items_lines item_line item_head item_text carrying_text fpage_text is_fpage is_complete place_of complete_text extent_text pages_text granted_of no_fpage_text tag_line meaning_line tag_text protocol_text access_text label_text hex_text whole_text fault_text request_text place_text refusal_text
message_of_a_fault = refl

pub message_with_an_odd_word : decoded_text [] Kib4 (0x00000040 ∷ 0 ∷ []) (Refused OddTyped)
    ≡ codes "tag 0x00000040: label 0x0000, flags 0, untyped 0, typed 1" ++ 10 ∷ []
    ++ codes "word 1 0x00000000: half an item, 0" ++ 10 ∷ []
    ++ codes "refused M2: the tag counts an odd number of typed words, but every item has two" ++ 10 ∷ []
unfolding digits decoded_text each_line words_lines word_line items_lines item_line item_head item_text carrying_text fpage_text is_fpage is_complete place_of complete_text extent_text pages_text granted_of no_fpage_text tag_line meaning_line tag_text protocol_text access_text label_text hex_text whole_text fault_text request_text place_text refusal_text
message_with_an_odd_word = refl

pub message_with_a_word_behind : decoded_text [] Kib4 (0 ∷ 7 ∷ []) (Plain 0 0)
    ≡ codes "tag 0x00000000: label 0x0000, flags 0, untyped 0, typed 0" ++ 10 ∷ []
    ++ codes "word 1 0x00000007: ignored, 7" ++ 10 ∷ []
    ++ codes "message: untyped 0, items 0" ++ 10 ∷ []
unfolding digits decoded_text each_line words_lines word_line items_lines item_line item_head item_text carrying_text fpage_text is_fpage is_complete place_of complete_text extent_text pages_text granted_of no_fpage_text tag_line meaning_line tag_text protocol_text access_text label_text hex_text whole_text fault_text request_text place_text refusal_text
message_with_a_word_behind = refl

pub message_with_a_bad_item : decoded_text [] Kib4 (0x00000080 ∷ 0x0000000e ∷ 0 ∷ []) (Refused (BadItem 0))
    ≡ codes "tag 0x00000080: label 0x0000, flags 0, untyped 0, typed 2" ++ 10 ∷ []
    ++ codes "item 0 0x0000000e 0x00000000: unknown item: its kind is 7" ++ 10 ∷ []
    ++ codes "refused M3 0: the item has an unknown kind, or its fpage is invalid" ++ 10 ∷ []
unfolding digits decoded_text each_line words_lines word_line items_lines item_line item_head item_text carrying_text fpage_text is_fpage is_complete place_of complete_text extent_text pages_text granted_of no_fpage_text tag_line meaning_line tag_text protocol_text access_text label_text hex_text whole_text fault_text request_text place_text refusal_text
message_with_a_bad_item = refl

pub message_that_is_short : decoded_text [] Kib4 (0x00000080 ∷ 0x00020008 ∷ []) (Refused Short)
    ≡ codes "tag 0x00000080: label 0x0000, flags 0, untyped 0, typed 2" ++ 10 ∷ []
    ++ codes "word 1 0x00020008: half an item, 131080" ++ 10 ∷ []
    ++ codes "refused M7: the tag is missing, or fewer words follow it than it counts" ++ 10 ∷ []
unfolding digits decoded_text each_line words_lines word_line items_lines item_line item_head item_text carrying_text fpage_text is_fpage is_complete place_of complete_text extent_text pages_text granted_of no_fpage_text tag_line meaning_line tag_text protocol_text access_text label_text hex_text whole_text fault_text request_text place_text refusal_text
message_that_is_short = refl
