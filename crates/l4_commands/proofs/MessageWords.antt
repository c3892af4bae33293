-- The words of a message and the fpages of a line, token by token.
use Rattle.std.proofs.Common.{◌≡◌, ℕ, ◌+◌, ◌*◌, ◌<◌, ◌≤◌, Bool, true, false, cond, List, [], ◌∷◌, ◌++◌, length, Option, Some, None, Result, Ok, Err, nat_le, option_map, sym, ap, ◌∙◌, refl, arith}
use Rattle.std.proofs.lemmas.List.{append-nil}
use Rattle.std.proofs.lemmas.Bool.Decides.{nat_tests}
use Rattle.std.specs.Option.{option_and_then}
use Rattle.std.specs.Result.{result_ok}
use Rattle.l4_fpage.specs.declared.sizes.PageSize.{PageSize}
use Rattle.l4_symbols.specs.Computed.{item_words_in}
use Rattle.l4_symbols.specs.Rows.{Row, Given, begun_by, row_begun, item_added, added_by, row_added, all_added, row_words, message_words_in}
use Rattle.l4_symbols.specs.Spelling.{◌>>=◌}
use Rattle.l4_symbols.specs.declared.reasons.Reason.{Reason}
use Rattle.l4_symbols.specs.declared.reasons.Reason.TheVariants.{Full}
use Rattle.l4_symbols.specs.declared.words.WordKind.TheVariants.{Fpage}
use Rattle.l4_text.specs.Numbers.{number_of}
use Rattle.l4_commands.specs.Commands.{words_of, symbol_of, each_fpage, fpages_of}

-- ---- numbers in a message

-- the row of a tag's word and of untyped words
abbrev pub given : ℕ → List ℕ → Row
given tag untyped = record { tag = Given tag; untyped = untyped; items = [] }

-- the words of a row with more tokens
abbrev pub words_after : PageSize → Row → List (List ℕ) → Result (List ℕ) Reason
words_after size row rest = all_added size rest row >>= λ r. Ok (row_words r)

-- the words of a message of which these numbers were read
abbrev pub words_from : PageSize → List ℕ → List (List ℕ) → Result (List ℕ) Reason
words_from size [] rest = message_words_in size rest
words_from size (tag ∷ untyped) rest = words_after size (given tag untyped) rest

-- a number is added to fewer than 63 untyped words
number_added : (size : PageSize) (tag n : ℕ) (untyped : List ℕ) (token : List ℕ) → length untyped < 63 → Some n ≡ number_of token → row_added size token (given tag untyped) ≡ Ok (given tag (untyped ++ n ∷ []))
unfolding row_added
number_added size tag n untyped token few is =
    let t : nat_le (length untyped + 2 * 0 + 1) 63 ≡ true = grind (arith, nat_tests) in
    ap (added_by size token (given tag untyped)) (sym is) ∙ ap (λ (b : Bool). cond b (Ok (given tag (untyped ++ n ∷ []))) (Err Full)) t

-- one number more
pub words_next : (size : PageSize) (ws : List ℕ) (n : ℕ) (token : List ℕ) (tokens : List (List ℕ)) → length ws < 64 → Some n ≡ number_of token → words_from size ws (token ∷ tokens) ≡ words_from size (ws ++ n ∷ []) tokens
unfolding message_words_in row_begun
words_next size [] n token tokens few is = ap (λ (o : Option ℕ). begun_by token o >>= λ row. words_after size row tokens) (sym is)
words_next size (tag ∷ untyped) n token tokens few is =
    ap (λ (r : Result Row Reason). r >>= (λ row. all_added size tokens row) >>= λ row. Ok (row_words row)) (number_added size tag n untyped token (omega (arith, few)) is)

-- the end of the line
pub words_end : (size : PageSize) (ws : List ℕ) → words_from size ws [] ≡ Ok ws
unfolding message_words_in
words_end size [] = refl
words_end size (tag ∷ untyped) = ap (λ (u : List ℕ). Ok (tag ∷ u)) (append-nil untyped)

-- no token is added to 63 untyped words
none_added : (size : PageSize) (tag : ℕ) (untyped : List ℕ) (token : List ℕ) → length untyped ≡ 63 → result_ok (row_added size token (given tag untyped)) ≡ None
unfolding row_added
none_added size tag untyped token full =
    let f : nat_le (length untyped + 2 * 0 + 1) 63 ≡ false = grind (arith, nat_tests) in
    let g : nat_le (length untyped + 2 * 0 + 2) 63 ≡ false = grind (arith, nat_tests) in
    elim (number_of token) as (λ (o : Option ℕ). result_ok (added_by size token (given tag untyped) o) ≡ None) [
      | Some n ↦ ap (λ (b : Bool). result_ok (cond b (Ok (given tag (untyped ++ n ∷ []))) (Err Full))) f
      | None ↦ elim (item_words_in size token) as (λ (r : Result (ℕ × ℕ) Reason). result_ok (r >>= λ words. item_added words (given tag untyped)) ≡ None) [
        | Ok words ↦ ap (λ (b : Bool). result_ok (cond b (Ok (record (given tag untyped) { items = words ∷ [] })) (Err Full))) g
        | Err reason ↦ refl
      ]
    ]

-- a token too many
pub words_over : (size : PageSize) (ws : List ℕ) (token : List ℕ) (tokens : List (List ℕ)) → length ws ≡ 64 → result_ok (words_from size ws (token ∷ tokens)) ≡ None
words_over size [] token tokens full = absurd (omega (arith, full))
words_over size (tag ∷ untyped) token tokens full =
    elim (row_added size token (given tag untyped)) as (λ (r : Result Row Reason). result_ok r ≡ None → result_ok ((r >>= λ row. all_added size tokens row) >>= λ row. Ok (row_words row)) ≡ None) [
      | Ok row ↦ λ e. absurd (cc)
      | Err reason ↦ λ e. refl
    ] (none_added size tag untyped token (omega (arith, full)))

-- all numbers were read
pub words_whole : (size : PageSize) (line rest : List (List ℕ)) (ws : List ℕ) → message_words_in size line ≡ words_from size ws rest → rest ≡ [] → Some ws ≡ words_of size line
unfolding words_of
words_whole size line rest ws read none = sym (ap result_ok (read ∙ ap (words_from size ws) none ∙ words_end size ws))

-- a token follows 64 numbers
pub words_many : (size : PageSize) (line rest : List (List ℕ)) (ws : List ℕ) (token : List ℕ) (tokens : List (List ℕ)) → message_words_in size line ≡ words_from size ws rest → rest ≡ token ∷ tokens → length ws ≡ 64 → None ≡ words_of size line
unfolding words_of
words_many size line rest ws token tokens read more full =
    sym (ap result_ok (read ∙ ap (words_from size ws) more) ∙ words_over size ws token tokens full)

-- ---- fpages

-- the fpages of a line of which these were read
abbrev pub fpages_from : PageSize → List ℕ → List (List ℕ) → Option (List ℕ)
fpages_from size ws rest = option_map (λ ns. ws ++ ns) (each_fpage size rest)

pub fpages_whole : (size : PageSize) (line rest : List (List ℕ)) (ws : List ℕ) → each_fpage size line ≡ fpages_from size ws rest → rest ≡ [] → length line ≤ 64 → Some ws ≡ fpages_of size line
unfolding fpages_of
fpages_whole size line rest ws read none few =
    let t : nat_le (length line) 64 ≡ true = grind (arith, nat_tests) in
    ap Some (sym (append-nil ws)) ∙ ap (fpages_from size ws) (sym none) ∙ sym read ∙ ap (λ b. cond b (each_fpage size line) None) (sym t)

pub fpages_many : (size : PageSize) (line : List (List ℕ)) → 64 < length line → None ≡ fpages_of size line
unfolding fpages_of
fpages_many size line many =
    let f : nat_le (length line) 64 ≡ false = grind (arith, nat_tests) in
    ap (λ b. cond b (each_fpage size line) None) (sym f)

no_fpages : (size : PageSize) (token : List ℕ) (tokens : List (List ℕ)) → symbol_of Fpage size token ≡ None → each_fpage size (token ∷ tokens) ≡ None
no_fpages size token tokens none = ap (option_and_then (λ n. option_and_then (λ ns. Some (n ∷ ns)) (each_fpage size tokens))) none

pub fpages_bad : (size : PageSize) (line rest : List (List ℕ)) (ws : List ℕ) (token : List ℕ) (tokens : List (List ℕ)) → each_fpage size line ≡ fpages_from size ws rest → rest ≡ token ∷ tokens → symbol_of Fpage size token ≡ None
    → None ≡ fpages_of size line
unfolding fpages_of
fpages_bad size line rest ws token tokens read is none =
    let e : each_fpage size line ≡ None = read ∙ ap (fpages_from size ws) is ∙ ap (option_map (λ ns. ws ++ ns)) (no_fpages size token tokens none) in
    elim (nat_le (length line) 64) as (λ b. None ≡ cond b (each_fpage size line) None) [ true ↦ sym e | false ↦ refl ]

-- what is read of nothing is nothing
pub none_read : {A : Type 0} (f : A → List ℕ) (r : Option A) (q : Option (List ℕ)) → r ≡ None → None ≡ q → option_map f r ≡ q
none_read f r q none is = ap (option_map f) none ∙ is

-- ---- symbolic tokens

-- a line without tokens has no words
pub message_none : (size : PageSize) (line : List (List ℕ)) → line ≡ [] → Some [] ≡ words_of size line
unfolding words_of message_words_in
message_none size line none = sym (ap (λ (ts : List (List ℕ)). result_ok (message_words_in size ts)) none)

-- what was read so far and what is left make the words of the line
pub message_more : (size : PageSize) (row next : Row) (line rest tokens : List (List ℕ)) (token : List ℕ) → message_words_in size line ≡ words_after size row rest → rest ≡ token ∷ tokens → row_added size token row ≡ Ok next
    → message_words_in size line ≡ words_after size next tokens
message_more size row next line rest tokens token read parts added =
    read ∙ ap (words_after size row) parts ∙ ap (λ (r : Result Row Reason). (r >>= λ x. all_added size tokens x) >>= λ x. Ok (row_words x)) added

pub message_bad : (size : PageSize) (row : Row) (reason : Reason) (line rest tokens : List (List ℕ)) (token : List ℕ) → message_words_in size line ≡ words_after size row rest → rest ≡ token ∷ tokens → row_added size token row ≡ Err reason
    → None ≡ words_of size line
unfolding words_of
message_bad size row reason line rest tokens token read parts fails =
    sym (ap result_ok (read ∙ ap (words_after size row) parts ∙ ap (λ (r : Result Row Reason). (r >>= λ x. all_added size tokens x) >>= λ x. Ok (row_words x)) fails))

pub message_begun : (size : PageSize) (row : Row) (line tokens : List (List ℕ)) (token : List ℕ) → line ≡ token ∷ tokens → row_begun token ≡ Ok row → message_words_in size line ≡ words_after size row tokens
unfolding message_words_in
message_begun size row line tokens token parts begun =
    ap (message_words_in size) parts ∙ ap (λ (r : Result Row Reason). r >>= λ x. words_after size x tokens) begun

pub message_unbegun : (size : PageSize) (reason : Reason) (line tokens : List (List ℕ)) (token : List ℕ) → line ≡ token ∷ tokens → row_begun token ≡ Err reason → None ≡ words_of size line
unfolding message_words_in words_of
message_unbegun size reason line tokens token parts fails =
    sym (ap (λ ts. result_ok (message_words_in size ts)) parts ∙ ap (λ (r : Result Row Reason). result_ok (r >>= λ x. words_after size x tokens)) fails)

pub message_whole : (size : PageSize) (row : Row) (line rest : List (List ℕ)) → message_words_in size line ≡ words_after size row rest → rest ≡ [] → Some (row_words row) ≡ words_of size line
unfolding words_of
message_whole size row line rest read none = sym (ap result_ok (read ∙ ap (words_after size row) none))
