-- Tokens that were read by hand, by the layouts of the L4 X.2 manual: a window has its base in bits 31 to 10 and the log of its bytes in bits
-- 9 to 4, an fpage its rights in bits 2 to 0 besides, and a timeouts word the send timeout in bits 31 to 16.
use Rattle.std.proofs.Common.{◌≡◌, [], ◌∷◌, codes, Ok, Err, refl, arith}
use Rattle.l4_fpage.specs.Rights.{no_rights, all_rights}
use Rattle.l4_fpage.specs.declared.fpages.Fpage.TheVariants.{Nil, Sized}
use Rattle.l4_fpage.specs.declared.sizes.PageSize.TheVariants.{Kib4, Kib1}
use Rattle.l4_msg.specs.Moves.{complete}
use Rattle.l4_text.specs.Numbers.{number_of, decimal_of, hex_of}
use Rattle.l4_symbols.specs.Computed.{block_log, pages_word, fpage_word_in, window_word_in, parts_words, item_words_in, word_in}
use Rattle.l4_symbols.specs.Rows.{row_begun, row_added, message_words_in}
use Rattle.l4_symbols.specs.Spelling.{cut_at, number_in, counted_in, pages_in, rights_in, item_in, label_in, fpage_in, run_in, window_in, timeout_in, timeouts_in}
use Rattle.l4_symbols.specs.Words.{FpageWord, WindowWord, timeouts_word}
use Rattle.l4_symbols.specs.declared.reasons.Reason.TheVariants.{Number, Rights, Window, Fpage, Timeouts, Count, Beyond, Unaligned, Behind, NoTag}
use Rattle.l4_symbols.specs.declared.words.WordKind.TheVariants.{Fpage as AnFpage, Window as AWindow}

pub never_at_all : timeouts_word (codes "never") ≡ Ok 0
unfolding cut_at timeout_in timeouts_in
never_at_all = refl

pub zero_for_both : timeouts_word (codes "zero") ≡ Ok 0x04000400
unfolding cut_at timeout_in timeouts_in
zero_for_both = refl

pub send_at_once : timeouts_word (codes "zero,never") ≡ Ok 0x04000000
unfolding cut_at timeout_in timeouts_in
send_at_once = refl

pub receive_at_once : timeouts_word (codes "never,zero") ≡ Ok 0x00000400
unfolding cut_at timeout_in timeouts_in
receive_at_once = refl

pub three_timeouts : timeouts_word (codes "zero,never,zero") ≡ Err Timeouts
unfolding cut_at timeout_in timeouts_in
three_timeouts = refl

pub no_timeout : timeouts_word (codes "0,zero") ≡ Err Timeouts
unfolding cut_at timeout_in timeouts_in
no_timeout = refl

pub anywhere : WindowWord Kib4 (codes "all") 0x00000010
unfolding window_in
anywhere = (complete, (_, refl, refl), refl)

pub nowhere : WindowWord Kib4 (codes "none") 0
unfolding window_in
nowhere = (Nil, (_, refl, refl), refl)

pub page_without_count : window_in (codes "32") ≡ Err Window
unfolding window_in run_in cut_at
page_without_count = refl

pub no_window : window_in (codes "al") ≡ Err Window
unfolding window_in run_in cut_at
no_window = refl

pub no_fpage : fpage_in (codes "16+4") ≡ Err Fpage
unfolding fpage_in cut_at
no_fpage = refl

-- pages 32 to 35 of 4,096 bytes are 2 ^ 14 bytes from 0x20000 on
pub four_pages : WindowWord Kib4 (codes "32+4") 0x000200e0
unfolding window_in run_in counted_in number_in number_of decimal_of cut_at
four_pages = (
  Sized (record { base = 0x20000; log = 14; rights = no_rights; large = omega arith; small = omega arith; aligned = refl }),
  (_, refl, record { log = 2; run = record { count = refl; block = record { small = omega arith; aligned = refl; inside = omega arith }; inside = omega arith }; bytes = refl; rights_are = refl }),
  refl,
)

-- pages 16 to 19 of 1,024 bytes are 2 ^ 12 bytes from 0x4000 on
pub four_small_pages : FpageWord Kib1 (codes "16+4:rwx") 0x000040c7
unfolding fpage_in pages_in counted_in number_in number_of decimal_of rights_in cut_at
four_small_pages = (
  Sized (record { base = 0x4000; log = 12; rights = all_rights; large = omega arith; small = omega arith; aligned = refl }),
  (_, refl, record { log = 2; run = record { count = refl; block = record { small = omega arith; aligned = refl; inside = omega arith }; inside = omega arith }; bytes = refl; rights_are = refl }),
  refl,
)

pub rights_in_another_order : fpage_in (codes "16+4:wrx") ≡ Err Rights
unfolding fpage_in pages_in counted_in number_in number_of decimal_of rights_in cut_at
rights_in_another_order = refl

pub count_in_letters : window_in (codes "32+x") ≡ Err Number
unfolding window_in run_in counted_in number_in number_of decimal_of cut_at
count_in_letters = refl

-- COMPUTED WORDS

-- pages 32 to 35 are 2 ^ 14 bytes from 0x20000 on: 0x20000 + 14 * 16
pub window_computed : word_in AWindow Kib4 (codes "32+4") ≡ Ok 0x000200e0
unfolding window_word_in pages_word block_log window_in run_in counted_in number_in number_of decimal_of cut_at
window_computed = refl

-- all pages of the space are the complete fpage, whose size field is 1
pub whole_space : word_in AWindow Kib4 (codes "0+1048576") ≡ Ok 0x00000010
unfolding window_word_in pages_word block_log window_in run_in counted_in number_in number_of decimal_of cut_at
whole_space = refl

pub window_unaligned : word_in AWindow Kib4 (codes "6+4") ≡ Err Unaligned
unfolding window_word_in pages_word block_log window_in run_in counted_in number_in number_of decimal_of cut_at
window_unaligned = refl

pub three_pages : word_in AWindow Kib4 (codes "0+3") ≡ Err Count
unfolding window_word_in pages_word block_log window_in run_in counted_in number_in number_of decimal_of cut_at
three_pages = refl

-- the space of small pages ends at page 4,194,303, and that of large pages at page 1,048,575
pub page_beyond : word_in AWindow Kib4 (codes "1048576+1") ≡ Err Beyond
unfolding window_word_in pages_word block_log window_in run_in counted_in number_in number_of decimal_of cut_at
page_beyond = refl

pub page_within : word_in AWindow Kib1 (codes "1048576+1") ≡ Ok 0x400000a0
unfolding window_word_in pages_word block_log window_in run_in counted_in number_in number_of decimal_of cut_at
page_within = refl

pub fpage_computed : word_in AnFpage Kib1 (codes "16+4:rwx") ≡ Ok 0x000040c7
unfolding fpage_word_in pages_word block_log fpage_in pages_in counted_in number_in number_of decimal_of rights_in cut_at
fpage_computed = refl

-- label 7, two words of items, one untyped word: 0x70000 + 2 * 64 + 1
pub message_computed : message_words_in Kib4 (codes "tag:7" ∷ codes "5" ∷ codes "map:16+4>32:rwx" ∷ []) ≡ Ok (0x00070081 ∷ 5 ∷ 0x00020008 ∷ 0x000100e7 ∷ [])
unfolding message_words_in row_begun row_added label_in item_words_in parts_words pages_word block_log item_in pages_in counted_in number_in number_of decimal_of hex_of rights_in cut_at
message_computed = refl

-- the first of two items says that another one follows
pub items_computed : message_words_in Kib4 (codes "0x100" ∷ codes "grant:5>6:rw-" ∷ codes "map:0>0:r--" ∷ []) ≡ Ok (0x00000100 ∷ 0x0000600b ∷ 0x000050c6 ∷ 0x00000008 ∷ 0x000000c4 ∷ [])
unfolding message_words_in row_begun row_added label_in item_words_in parts_words pages_word block_log item_in pages_in counted_in number_in number_of decimal_of hex_of rights_in cut_at
items_computed = refl

pub word_behind_an_item : message_words_in Kib4 (codes "tag:0" ∷ codes "map:0>0:r--" ∷ codes "5" ∷ []) ≡ Err Behind
unfolding message_words_in row_begun row_added label_in item_words_in parts_words pages_word block_log item_in pages_in counted_in number_in number_of decimal_of hex_of rights_in cut_at
word_behind_an_item = refl

pub item_without_a_tag : message_words_in Kib4 (codes "map:0>0:r--" ∷ []) ≡ Err NoTag
unfolding message_words_in row_begun label_in number_of decimal_of hex_of cut_at
item_without_a_tag = refl
