-- The line of a step, read again.
use Rattle.std.proofs.Common.{◌≡◌, ℕ, zero, suc, ◌+◌, ◌*◌, ◌/◌, ◌%◌, ◌^◌, ◌<◌, ◌≤◌, ◌==◌, ◌||◌, ◌&&◌, ap, sym, subst, ◌∙◌, refl, arith, cond, true, false, nat_lt, nat_le, List, [], ◌∷◌, ◌++◌, map, length, length-append, filter, drop, Option, Some, None, option_map, ok_or, option_and_then, Ok, inl, inr, codes}
use Rattle.std.proofs.lemmas.Bool.{cases_lt}
use Rattle.std.proofs.lemmas.Bool.Decides.{nat_tests}
use Rattle.std.proofs.lemmas.Fmt.{decimal_step, decimal_digit, length-decimal-le}
use Rattle.std.proofs.lemmas.Grind.{flat_map-append}
use Rattle.std.specs.Fmt.{decimal}
use Rattle.std.specs.List.{slice_split, onto_first}
use Rattle.std.proofs.lemmas.List.{append-nil}
use mathlib.Core.List.{append_assoc}
use Rattle.l4_fpage.specs.Rights.{RightsSet, bits_of, set_of_bits}
use Rattle.l4_ipc.specs.declared.calls.IpcCall.{IpcCall}
use Rattle.l4_ipc.specs.declared.calls.FaultCall.{FaultCall}
use Rattle.l4_ipc.specs.declared.calls.UnmapCall.{UnmapCall}
use Rattle.l4_ipc.specs.declared.calls.Call.{Call}
use Rattle.l4_ipc.specs.declared.calls.Call.TheVariants.{Ipc, Fault, Unmap, Control as Controls}
use Rattle.l4_ipc.specs.declared.calls.Control.TheVariants.{Create, SetPager, Delete}
use Rattle.l4_ipc.specs.declared.steps.CancelCause.{CancelCause}
use Rattle.l4_ipc.specs.declared.steps.CancelCause.TheVariants.{Timeout, Canceled}
use Rattle.l4_ipc.specs.declared.steps.Step.{Step}
use Rattle.l4_ipc.specs.declared.steps.Step.TheVariants.{Start, Transfer, Expire, Cancel}
use Rattle.l4_text.specs.Lines.{NoNewline}
use Rattle.l4_text.specs.Numbers.{number_of, is_hex, hex_of, decimal_of, below, decimal_number_of, word_of}
use Rattle.l4_text.specs.Texts.{hex_digit, word_text}
use Rattle.l4_text.specs.Tokens.{tokens_of, is_space, has_bytes}
use Rattle.l4_text.specs.declared.lines.Ending.TheVariants.{Whole, Long as TooLong}
use Rattle.l4_text.proofs.Spelled.{number_back, word_back}
use Rattle.l4_step_lines.specs.declared.requests.Request.TheVariants.{Do}
use Rattle.l4_step_lines.specs.declared.running.Fault.TheVariants.{Unread}
use Rattle.l4_step_lines.specs.Steps.{hex_text, hex_texts, call_words, step_line}
use Rattle.l4_text.specs.Grammar.{TextLine, lines_of, is_comment, is_empty, is_silent, numbers_of}
use Rattle.l4_step_lines.specs.Requests.{call_of, named_of, request_of}
use Rattle.l4_step_lines.specs.Lists.{asked_at, asked_of}
use Rattle.l4_step_lines.specs.Stops.{unread_says}
use Rattle.l4_step_lines.specs.ReadBack.{AreWords, IsStep, ReadsBack}
use Rattle.l4_text.proofs.Grammar.{lines_more}

-- TOKENS

-- neither a space nor a newline
abbrev Plain : List ℕ → Type 0
Plain [] = Unit {0}
Plain (b ∷ bs) = ((b == 32) ≡ false) × ((b == 10) ≡ false) × Plain bs

record IsToken (t : List ℕ) : Type 0 where
  pub plain : Plain t
  pub some : has_bytes t ≡ true
  pub short : length t ≤ 10

abbrev AreTokens : List (List ℕ) → Type 0
AreTokens [] = Unit {0}
AreTokens (t ∷ ts) = IsToken t × AreTokens ts

-- tokens, each after a space
abbrev spaced : List (List ℕ) → List ℕ
spaced [] = []
spaced (t ∷ ts) = 32 ∷ (t ++ spaced ts)

split_front : (name rest : List ℕ) (parts : List (List ℕ)) → Plain name → slice_split is_space rest ≡ [] ∷ parts → slice_split is_space (name ++ rest) ≡ name ∷ parts
split_front [] rest parts h is = is
split_front (b ∷ bs) rest parts h is =
    ap (λ v. cond v ([] ∷ slice_split is_space (bs ++ rest)) (onto_first b (slice_split is_space (bs ++ rest)))) h.0
    ∙ ap (onto_first b) (split_front bs rest parts h.2 is)

split_rest : (ts : List (List ℕ)) → AreTokens ts → slice_split is_space (spaced ts) ≡ [] ∷ ts
split_rest [] h = refl
split_rest (t ∷ ts) h = ap (λ l. [] ∷ l) (split_front t (spaced ts) ts h.0.plain (split_rest ts h.1))

kept_tokens : (ts : List (List ℕ)) → AreTokens ts → filter has_bytes ts ≡ ts
kept_tokens [] h = refl
kept_tokens (t ∷ ts) h = ap (λ v. cond v (t ∷ filter has_bytes ts) (filter has_bytes ts)) h.0.some ∙ ap (λ l. t ∷ l) (kept_tokens ts h.1)

tokens_spaced : (name : List ℕ) (ts : List (List ℕ)) → IsToken name → AreTokens ts → tokens_of (name ++ spaced ts) ≡ name ∷ ts
unfolding tokens_of
tokens_spaced name ts h hs = ap (filter has_bytes) (split_front name (spaced ts) ts h.plain (split_rest ts hs)) ∙ kept_tokens (name ∷ ts) (h, hs)

no_newline : (t rest : List ℕ) → Plain t → NoNewline rest → NoNewline (t ++ rest)
no_newline [] rest h hs = hs
no_newline (b ∷ bs) rest h hs = (h.1, no_newline bs rest h.2 hs)

none_spaced : (ts : List (List ℕ)) → AreTokens ts → NoNewline (spaced ts)
none_spaced [] h = tt
none_spaced (t ∷ ts) h = (refl, no_newline t (spaced ts) h.0.plain (none_spaced ts h.1))

short_spaced : (ts : List (List ℕ)) → AreTokens ts → length (spaced ts) ≤ 11 * length ts
short_spaced [] h = omega arith
short_spaced (t ∷ ts) h = omega (arith, h.0.short, short_spaced ts h.1, length-append t (spaced ts))

-- THE LINE

reads_line : (name : List ℕ) (ts : List (List ℕ)) (text : List ℕ) (number : ℕ) (step : Step) → IsToken name → AreTokens ts → length ts ≤ 70
    → text ≡ (name ++ spaced ts) ++ 10 ∷ [] → is_comment (name ++ spaced ts) ≡ false → request_of (name ∷ ts) ≡ Some (Do step)
    → (line : TextLine) × (lines_of text ≡ line ∷ []) × (asked_of number line ≡ Ok (Some (Do step)))
reads_line name ts text number step h hs few is plain asks =
    let bytes = name ++ spaced ts in
    let len : length bytes ≤ 4096 = omega (arith, few, h.short, short_spaced ts hs, length-append name (spaced ts)) in
    let short : nat_lt 4096 (length bytes) ≡ false = grind (arith, nat_tests) in
    let silent : is_silent bytes ≡ false = (λ i. plain i || is_empty (tokens_spaced name ts h hs i)) in (
      record { bytes = bytes; whole = true },
      ap lines_of is ∙ lines_more bytes [] (no_newline name (spaced ts) h.plain (none_spaced ts hs)),
      ap (λ v. asked_at number (cond v TooLong Whole) bytes) short
          ∙ ap (λ v. cond v (Ok None) (ok_or (option_map (λ r. Some r) (request_of (tokens_of bytes))) (Unread number (unread_says number (tokens_of bytes))))) silent
          ∙ ap (λ q. ok_or (option_map (λ r. Some r) (request_of q)) (Unread number (unread_says number q))) (tokens_spaced name ts h hs)
          ∙ ap (λ o. ok_or (option_map (λ r. Some r) o) (Unread number (unread_says number (name ∷ ts)))) asks,
    )

-- NUMBERS

abbrev Digits : List ℕ → Type 0
Digits [] = Unit {0}
Digits (b ∷ bs) = (48 ≤ b) × (b ≤ 57) × Digits bs

digits_more : (xs : List ℕ) (d : ℕ) → Digits xs → d < 10 → Digits (xs ++ (48 + d) ∷ [])
digits_more [] d h lt = (omega arith, omega (arith, lt), tt)
digits_more (x ∷ xs) d h lt = (h.0, h.1, digits_more xs d h.2 lt)

digits_of_decimal : (fuel n : ℕ) → n < fuel → n < 2 ^ 64 → Digits (decimal n) × (1 ≤ length (decimal n))
digits_of_decimal zero n lt small = absurd (omega (arith, lt))
digits_of_decimal (suc fuel) n lt small =
    elim (cases_lt n 10) [
      | inl few ↦ subst (λ (t : List ℕ). Digits t × (1 ≤ length t)) (sym (decimal_digit n few)) ((omega arith, omega (arith, few), tt), omega arith)
      | inr many ↦
          let last : n % 10 < 10 = omega arith in
          let less : n / 10 < fuel = omega (arith, lt, many) in
          let front = digits_of_decimal fuel (n / 10) less (omega (arith, small)) in
          subst (λ (t : List ℕ). Digits t × (1 ≤ length t)) (sym (decimal_step n many small))
          (digits_more (decimal (n / 10)) (n % 10) front.0 last, omega (arith, length-append (decimal (n / 10)) ((48 + n % 10) ∷ [])))
    ]

plain_digits : (xs : List ℕ) → Digits xs → Plain xs
plain_digits [] h = tt
plain_digits (x ∷ xs) h =
    let low = h.0 in
    (grind (arith, nat_tests), grind (arith, nat_tests), plain_digits xs h.2)

not_hex : (xs : List ℕ) → Digits xs → is_hex xs ≡ false
not_hex [] h = refl
not_hex (a ∷ []) h = refl
not_hex (a ∷ b ∷ xs) h =
    let high = h.2.1 in
    let other : (b == 120) ≡ false = grind (arith, nat_tests) in
    elim (a == 48) as (λ v. (v && (b == 120)) ≡ false) [ true ↦ other | false ↦ refl ]

bytes_some : (xs : List ℕ) → 1 ≤ length xs → has_bytes xs ≡ true
bytes_some [] h = absurd (omega arith)
bytes_some (x ∷ xs) h = refl

decimal_token : (n : ℕ) → n < 2 ^ 32 → IsToken (decimal n)
decimal_token n small =
    let d = digits_of_decimal (n + 1) n (omega arith) (omega arith) in
    record { plain = plain_digits (decimal n) d.0; some = bytes_some (decimal n) d.1; short = length-decimal-le 10 n (omega arith) (omega arith) (omega arith) }

decimal_back : (n : ℕ) → n < 2 ^ 32 → number_of (decimal n) ≡ Some n
unfolding number_of decimal_number_of
decimal_back n small =
    let d = digits_of_decimal (n + 1) n (omega arith) (omega arith) in
    ap (λ v. below (2 ^ 32) (cond v (hex_of (drop 2 (decimal n))) (decimal_of (decimal n)))) (not_hex (decimal n) d.0) ∙ number_back n small

abbrev hex_token : ℕ → List ℕ
hex_token w = 48 ∷ 120 ∷ word_text w

digit_no_space : (v : ℕ) → (hex_digit v == 32) ≡ false
digit_no_space v =
    let a : (48 + v == 32) ≡ false = grind (arith, nat_tests) in
    let b : (87 + v == 32) ≡ false = grind (arith, nat_tests) in
    elim (nat_lt v 10) as (λ t. (cond t (48 + v) (87 + v) == 32) ≡ false) [ true ↦ a | false ↦ b ]

digit_no_newline : (v : ℕ) → (hex_digit v == 10) ≡ false
digit_no_newline v =
    let a : (48 + v == 10) ≡ false = grind (arith, nat_tests) in
    let b : (87 + v == 10) ≡ false = grind (arith, nat_tests) in
    elim (nat_lt v 10) as (λ t. (cond t (48 + v) (87 + v) == 10) ≡ false) [ true ↦ a | false ↦ b ]

plain_map : (f : ℕ → ℕ) (shifts : List ℕ) → Plain (map (λ s. hex_digit (f s)) shifts)
plain_map f [] = tt
plain_map f (s ∷ shifts) = (digit_no_space (f s), digit_no_newline (f s), plain_map f shifts)

hex_is_token : (w : ℕ) → IsToken (hex_token w)
hex_is_token w = record {
  plain = (refl, refl, (refl, refl, plain_map (λ s. w / 2 ^ s % 16) (28 ∷ 24 ∷ 20 ∷ 16 ∷ 12 ∷ 8 ∷ 4 ∷ 0 ∷ [])));
  some = refl;
  short = omega arith;
}

hex_back : (w : ℕ) → w < 2 ^ 32 → number_of (hex_token w) ≡ Some w
unfolding number_of word_of
hex_back w small = word_back w small

hex_tokens : (ws : List ℕ) → AreTokens (map hex_token ws)
hex_tokens [] = tt
hex_tokens (w ∷ ws) = (hex_is_token w, hex_tokens ws)

numbers_back : (ws : List ℕ) → AreWords ws → numbers_of (map hex_token ws) ≡ Some ws
numbers_back [] h = refl
numbers_back (w ∷ ws) h =
    ap (λ o. option_and_then (λ n. option_and_then (λ ns. Some (n ∷ ns)) (numbers_of (map hex_token ws))) o) (hex_back w h.0)
    ∙ ap (λ o. option_and_then (λ ns. Some (w ∷ ns)) o) (numbers_back ws h.1)

length_map : (ws : List ℕ) → length (map hex_token ws) ≡ length ws
length_map [] = refl
length_map (w ∷ ws) = ap suc (length_map ws)

spaced_hex : (ws : List ℕ) → hex_texts ws ≡ spaced (map hex_token ws)
spaced_hex [] = refl
spaced_hex (w ∷ ws) = ap (λ x. hex_text w ++ x) (spaced_hex ws)

-- THE STEPS

-- a line of a name, and of tokens whose text is known
line_of_start : (n : ℕ) (kind : List ℕ) (ts : List (List ℕ)) (words : List ℕ) → words ≡ 32 ∷ (kind ++ spaced ts)
    → codes "start " ++ decimal n ++ words ++ 10 ∷ [] ≡ (codes "start" ++ spaced (decimal n ∷ kind ∷ ts)) ++ 10 ∷ []
line_of_start n kind ts words is = ap (λ w. codes "start " ++ decimal n ++ w ++ 10 ∷ []) is

start_back : (n : ℕ) (kind : List ℕ) (ts : List (List ℕ)) (ns : List ℕ) (call : Call) → n < 2 ^ 32 → numbers_of ts ≡ Some ns → call_of kind ns ≡ Some call
    → request_of (codes "start" ∷ decimal n ∷ kind ∷ ts) ≡ Some (Do (Start n call))
start_back n kind ts ns call small few is =
    ap (λ o. option_map Do (option_and_then (λ m. option_and_then (λ ms. option_and_then (λ c. Some (Start m c)) (call_of kind ms)) (numbers_of ts)) o)) (decimal_back n small)
    ∙ ap (λ o. option_map Do (option_and_then (λ ms. option_and_then (λ c. Some (Start n c)) (call_of kind ms)) o)) few
    ∙ ap (λ o. option_map Do (option_and_then (λ c. Some (Start n c)) o)) is

start_token : IsToken (codes "start")
start_token = record { plain = (refl, refl, (refl, refl, (refl, refl, (refl, refl, (refl, refl, tt))))); some = refl; short = omega arith }

-- a start, by the numbers of its call in hexadecimal
start_hex : (n number : ℕ) (kind : List ℕ) (ns words : List ℕ) (call : Call) → n < 2 ^ 32 → IsToken kind → AreWords ns → length ns ≤ 68 → words ≡ 32 ∷ (kind ++ hex_texts ns) → call_of kind ns ≡ Some call
    → (line : TextLine) × (lines_of (codes "start " ++ decimal n ++ words ++ 10 ∷ []) ≡ line ∷ []) × (asked_of number line ≡ Ok (Some (Do (Start n call))))
start_hex n number kind ns words call small token h few is asks =
    let ts = map hex_token ns in
    reads_line (codes "start") (decimal n ∷ kind ∷ ts) _ number (Start n call) start_token (decimal_token n small, (token, hex_tokens ns))
    (omega (arith, few, length_map ns))
    (line_of_start n kind ts words (is ∙ ap (λ x. 32 ∷ (kind ++ x)) (spaced_hex ns))) refl
    (start_back n kind ts ns call small (numbers_back ns h) asks)

registers_back : (A : Type 0) (words : List ℕ) (f : List ℕ → Option A) → length words ≤ 64 → option_and_then f (cond (nat_le (length words) 64) (Some words) None) ≡ f words
registers_back A words f few =
    let t : nat_le (length words) 64 ≡ true = grind (arith, nat_tests) in
    ap (λ b. option_and_then f (cond b (Some words) None)) t

bits_back : (a : RightsSet) → set_of_bits (bits_of a) ≡ a
bits_back a = elim a.r as (λ r. set_of_bits (bits_of (record { r = r; w = a.w; x = a.x })) ≡ record { r = r; w = a.w; x = a.x }) [
  | true ↦ elim a.w as (λ w. set_of_bits (bits_of (record { r = true; w = w; x = a.x })) ≡ record { r = true; w = w; x = a.x }) [
    | true ↦ elim a.x as (λ x. set_of_bits (bits_of (record { r = true; w = true; x = x })) ≡ record { r = true; w = true; x = x }) [ true ↦ refl | false ↦ refl ]
    | false ↦ elim a.x as (λ x. set_of_bits (bits_of (record { r = true; w = false; x = x })) ≡ record { r = true; w = false; x = x }) [ true ↦ refl | false ↦ refl ]
  ]
  | false ↦ elim a.w as (λ w. set_of_bits (bits_of (record { r = false; w = w; x = a.x })) ≡ record { r = false; w = w; x = a.x }) [
    | true ↦ elim a.x as (λ x. set_of_bits (bits_of (record { r = false; w = true; x = x })) ≡ record { r = false; w = true; x = x }) [ true ↦ refl | false ↦ refl ]
    | false ↦ elim a.x as (λ x. set_of_bits (bits_of (record { r = false; w = false; x = x })) ≡ record { r = false; w = false; x = x }) [ true ↦ refl | false ↦ refl ]
  ]
]

bits_few : (a : RightsSet) → bits_of a ≤ 7
bits_few a = elim a.r as (λ r. bits_of (record { r = r; w = a.w; x = a.x }) ≤ 7) [
  | true ↦ elim a.w as (λ w. bits_of (record { r = true; w = w; x = a.x }) ≤ 7) [
    | true ↦ elim a.x as (λ x. bits_of (record { r = true; w = true; x = x }) ≤ 7) [ true ↦ omega arith | false ↦ omega arith ]
    | false ↦ elim a.x as (λ x. bits_of (record { r = true; w = false; x = x }) ≤ 7) [ true ↦ omega arith | false ↦ omega arith ]
  ]
  | false ↦ elim a.w as (λ w. bits_of (record { r = false; w = w; x = a.x }) ≤ 7) [
    | true ↦ elim a.x as (λ x. bits_of (record { r = false; w = true; x = x }) ≤ 7) [ true ↦ omega arith | false ↦ omega arith ]
    | false ↦ elim a.x as (λ x. bits_of (record { r = false; w = false; x = x }) ≤ 7) [ true ↦ omega arith | false ↦ omega arith ]
  ]
]

kind_ipc : IsToken (codes "ipc")
kind_ipc = record { plain = (refl, refl, (refl, refl, (refl, refl, tt))); some = refl; short = omega arith }

kind_fault : IsToken (codes "fault")
kind_fault = record { plain = (refl, refl, (refl, refl, (refl, refl, (refl, refl, (refl, refl, tt))))); some = refl; short = omega arith }

kind_unmap : IsToken (codes "unmap")
kind_unmap = record { plain = (refl, refl, (refl, refl, (refl, refl, (refl, refl, (refl, refl, tt))))); some = refl; short = omega arith }

kind_create : IsToken (codes "create")
kind_create = record { plain = (refl, refl, (refl, refl, (refl, refl, (refl, refl, (refl, refl, (refl, refl, tt)))))); some = refl; short = omega arith }

kind_setpager : IsToken (codes "setpager")
kind_setpager = record { plain = (refl, refl, (refl, refl, (refl, refl, (refl, refl, (refl, refl, (refl, refl, (refl, refl, (refl, refl, tt)))))))); some = refl; short = omega arith }

kind_delete : IsToken (codes "delete")
kind_delete = record { plain = (refl, refl, (refl, refl, (refl, refl, (refl, refl, (refl, refl, (refl, refl, tt)))))); some = refl; short = omega arith }

name_transfer : IsToken (codes "transfer")
name_transfer = record { plain = (refl, refl, (refl, refl, (refl, refl, (refl, refl, (refl, refl, (refl, refl, (refl, refl, (refl, refl, tt)))))))); some = refl; short = omega arith }

name_expire : IsToken (codes "expire")
name_expire = record { plain = (refl, refl, (refl, refl, (refl, refl, (refl, refl, (refl, refl, (refl, refl, tt)))))); some = refl; short = omega arith }

name_timeout : IsToken (codes "timeout")
name_timeout = record { plain = (refl, refl, (refl, refl, (refl, refl, (refl, refl, (refl, refl, (refl, refl, (refl, refl, tt))))))); some = refl; short = omega arith }

name_cancel : IsToken (codes "cancel")
name_cancel = record { plain = (refl, refl, (refl, refl, (refl, refl, (refl, refl, (refl, refl, (refl, refl, tt)))))); some = refl; short = omega arith }

decimal_tokens : (ns : List ℕ) → AreWords ns → AreTokens (map decimal ns)
decimal_tokens [] h = tt
decimal_tokens (n ∷ ns) h = (decimal_token n h.0, decimal_tokens ns h.1)

decimals_back : (ns : List ℕ) → AreWords ns → numbers_of (map decimal ns) ≡ Some ns
decimals_back [] h = refl
decimals_back (n ∷ ns) h =
    ap (λ o. option_and_then (λ m. option_and_then (λ ms. Some (m ∷ ms)) (numbers_of (map decimal ns))) o) (decimal_back n h.0)
    ∙ ap (λ o. option_and_then (λ ms. Some (n ∷ ms)) o) (decimals_back ns h.1)

abbrev Back : Step → ℕ → Type 0
Back step number = (line : TextLine) × (lines_of (step_line step) ≡ line ∷ []) × (asked_of number line ≡ Ok (Some (Do step)))

ipc_reads : (n number : ℕ) (call : IpcCall) → IsStep (Start n (Ipc call)) → Back (Start n (Ipc call)) number
ipc_reads n number call h =
    let four = call.to.0 ∷ call.from.0 ∷ call.timeouts ∷ call.acceptor ∷ [] in
    start_hex n number (codes "ipc") (four ++ call.words.items) (call_words (Ipc call)) (Ipc call) h.0 kind_ipc h.1.0
    (omega (arith, h.1.1))
    (ap (λ x. codes " ipc" ++ x) (sym (flat_map-append hex_text four call.words.items)))
    (registers_back Call call.words.items (λ ws. Some (Ipc (record { to = call.to; «from» = call.from; timeouts = call.timeouts; acceptor = call.acceptor; words = record { items = ws } }))) h.1.1)

unmap_reads : (n number : ℕ) (call : UnmapCall) → IsStep (Start n (Unmap call)) → Back (Start n (Unmap call)) number
unmap_reads n number call h =
    start_hex n number (codes "unmap") (call.control ∷ call.words.items) (call_words (Unmap call)) (Unmap call) h.0 kind_unmap h.1.0
    (omega (arith, h.1.1))
    (ap (λ x. codes " unmap" ++ x) (sym (flat_map-append hex_text (call.control ∷ []) call.words.items)))
    (registers_back Call call.words.items (λ ws. Some (Unmap (record { control = call.control; words = record { items = ws } }))) h.1.1)

fault_reads : (n number : ℕ) (call : FaultCall) → IsStep (Start n (Fault call)) → Back (Start n (Fault call)) number
fault_reads n number call h =
    let bits = bits_of call.access in
    let few : bits_of call.access ≤ 7 = bits_few call.access in
    let ts = hex_token call.address ∷ hex_token call.ip ∷ decimal bits ∷ [] in
    let small : bits_of call.access < 2 ^ 32 = omega (arith, few) in
    let less : nat_lt (bits_of call.access) 8 ≡ true = grind (arith, nat_tests) in
    reads_line (codes "start") (decimal n ∷ codes "fault" ∷ ts) _ number (Start n (Fault call)) start_token
    (decimal_token n h.0, (kind_fault, (hex_is_token call.address, (hex_is_token call.ip, (decimal_token bits small, tt))))) (omega arith)
    (line_of_start n (codes "fault") ts (call_words (Fault call)) (ap (λ d. codes " fault" ++ hex_texts (call.address ∷ call.ip ∷ []) ++ 32 ∷ d) (sym (append-nil (decimal bits))))) refl
    (start_back n (codes "fault") ts (call.address ∷ call.ip ∷ bits ∷ []) (Fault call) h.0
    (ap (λ o. option_and_then (λ m. option_and_then (λ ms. Some (m ∷ ms)) (numbers_of (hex_token call.ip ∷ decimal bits ∷ []))) o) (hex_back call.address h.1.0)
    ∙ ap (λ o. option_and_then (λ ms. Some (call.address ∷ ms)) (option_and_then (λ m. option_and_then (λ ms. Some (m ∷ ms)) (numbers_of (decimal bits ∷ []))) o)) (hex_back call.ip h.1.1.0)
    ∙ ap (λ o. option_and_then (λ ms. Some (call.address ∷ ms)) (option_and_then (λ ms. Some (call.ip ∷ ms)) o)) (decimals_back (bits ∷ []) (small, tt)))
    (ap (λ v. option_and_then (λ rights. Some (Fault (record { address = call.address; ip = call.ip; access = rights }))) (cond v (Some (set_of_bits bits)) None)) less
    ∙ ap (λ rights. Some (Fault (record { address = call.address; ip = call.ip; access = rights }))) (bits_back call.access)))

transfer_reads : (s r number : ℕ) → IsStep (Transfer s r) → Back (Transfer s r) number
transfer_reads s r number h =
    let ts = map decimal (s ∷ r ∷ []) in
    reads_line (codes "transfer") ts _ number (Transfer s r) name_transfer (decimal_tokens (s ∷ r ∷ []) h) (omega arith)
    (ap (λ x. codes "transfer " ++ x ++ 10 ∷ []) (append_assoc (decimal s) (32 ∷ []) (decimal r) ∙ ap (λ d. decimal s ++ 32 ∷ d) (sym (append-nil (decimal r))))) refl
    (ap (λ o. option_and_then (named_of (codes "transfer")) o) (decimals_back (s ∷ r ∷ []) h))

expire_reads : (n number : ℕ) → IsStep (Expire n) → Back (Expire n) number
expire_reads n number h =
    let ts = map decimal (n ∷ []) in
    reads_line (codes "expire") ts _ number (Expire n) name_expire (decimal_tokens (n ∷ []) h) (omega arith)
    (ap (λ d. codes "expire " ++ d ++ 10 ∷ []) (sym (append-nil (decimal n)))) refl
    (ap (λ o. option_and_then (named_of (codes "expire")) o) (decimals_back (n ∷ []) h))

cancel_reads : (n : ℕ) (cause : CancelCause) (number : ℕ) → IsStep (Cancel n cause) → Back (Cancel n cause) number
cancel_reads n Timeout number h =
    let ts = map decimal (n ∷ []) in
    reads_line (codes "timeout") ts _ number (Cancel n Timeout) name_timeout (decimal_tokens (n ∷ []) h) (omega arith)
    (ap (λ d. codes "timeout " ++ d ++ 10 ∷ []) (sym (append-nil (decimal n)))) refl
    (ap (λ o. option_and_then (named_of (codes "timeout")) o) (decimals_back (n ∷ []) h))
cancel_reads n Canceled number h =
    let ts = map decimal (n ∷ []) in
    reads_line (codes "cancel") ts _ number (Cancel n Canceled) name_cancel (decimal_tokens (n ∷ []) h) (omega arith)
    (ap (λ d. codes "cancel " ++ d ++ 10 ∷ []) (sym (append-nil (decimal n)))) refl
    (ap (λ o. option_and_then (named_of (codes "cancel")) o) (decimals_back (n ∷ []) h))

pub reads_back : ReadsBack
reads_back (Start n (Ipc call)) number h = ipc_reads n number call h
reads_back (Start n (Fault call)) number h = fault_reads n number call h
reads_back (Start n (Unmap call)) number h = unmap_reads n number call h
reads_back (Start n (Controls (Create new))) number h =
    start_hex n number (codes "create") (new.id.0 ∷ new.space.0 ∷ new.pager.0 ∷ []) (call_words (Controls (Create new))) (Controls (Create new)) h.0 kind_create h.1 (omega arith) refl refl
reads_back (Start n (Controls (SetPager set))) number h =
    start_hex n number (codes "setpager") (set.id.0 ∷ set.pager.0 ∷ []) (call_words (Controls (SetPager set))) (Controls (SetPager set)) h.0 kind_setpager h.1 (omega arith) refl refl
reads_back (Start n (Controls (Delete id))) number h =
    start_hex n number (codes "delete") (id.0 ∷ []) (call_words (Controls (Delete id))) (Controls (Delete id)) h.0 kind_delete h.1 (omega arith) refl refl
reads_back (Transfer s r) number h = transfer_reads s r number h
reads_back (Expire n) number h = expire_reads n number h
reads_back (Cancel n cause) number h = cancel_reads n cause number h
