-- A token that may become a name has no other meaning.
use Rattle.std.proofs.Common.{◌≡◌, ℕ, ◌⊎◌, Bool, true, false, ◌&&◌, ◌||◌, cond, nat_le, nat_eq, ◌+◌, ◌*◌, ◌-◌, take, drop, option_map, List, [], ◌∷◌, length, get_or, Option, Some, None, Err, is_some, ok_or, inl, inr, refl, sym, ap, ◌∙◌, arith, codes}
use Rattle.std.proofs.lemmas.Bool.{false≢true}
use Rattle.std.proofs.lemmas.Bool.Decides.{nat_tests}
use Rattle.std.proofs.lemmas.Slice.Eq.{bytes_eq-Decides}
use Rattle.std.proofs.lemmas.List.Quantifiers.{position-Some}
use Rattle.std.proofs.lemmas.List.Sums.{AllPass-from_list_all}
use Rattle.std.specs.List.{position, list_all, list_any}
use Rattle.std.specs.Option.{option_and_then, option_map_or}
use Rattle.std.specs.Result.{result_ok}
use Rattle.std.specs.Str.{bytes_eq}
use Rattle.l4_fpage.specs.Rights.{RightsSet}
use Rattle.l4_fpage.specs.declared.sizes.PageSize.{PageSize}
use Rattle.l4_names.specs.Names.{Names, is_letter, is_name_byte, begins_with_letter, is_name}
use Rattle.l4_symbols.specs.Computed.{fpage_word_in, window_word_in}
use Rattle.l4_symbols.specs.Spelling.{cut_at, control_in, fpage_in, id_in, id_number_in, run_in, window_in, timeout_in, timeouts_in}
use Rattle.l4_symbols.specs.Words.{control_word, id_word, timeouts_word}
use Rattle.l4_symbols.specs.declared.words.WordKind.{WordKind}
use Rattle.l4_symbols.specs.declared.words.WordKind.TheVariants.{Fpage, Window, Timeouts, Control, Id}
use Rattle.l4_text.specs.Grammar.{◌>>=◌}
use Rattle.l4_text.specs.Numbers.{number_of, decimal_of, hex_of, is_hex, digit_of, value_from, below}
use Rattle.l4_commands.specs.declared.commands.ScriptFault.TheVariants.{UnknownCommand, BadTokens}
use Rattle.l4_commands.specs.declared.kinds.TokenKind.{TokenKind}
use Rattle.l4_commands.specs.declared.kinds.TokenKind.TheVariants.{ThreadNumber, ThreadOrNew, ThreadOrNil, ThreadNilOrAny, Number, Symbol, Rights, NewName}
use Rattle.l4_commands.specs.declared.requests.Request.{Request}
use Rattle.l4_commands.specs.Commands.{is_word, thread_of, nil_or_thread_of, partner_of, new_space_of, right_of, rights_of, symbol_of, command_names, token_words, is_one_of, is_language_word, new_name_of, commands, command_in, command_of}
use Rattle.l4_commands.specs.Kinds.{is_of}

-- ---- what a name is not

-- it has the form of a name, and is no word of the language
record IsNew (token : List ℕ) : Type 0 where
  pub letter : begins_with_letter token ≡ true
  pub bytes : list_all is_name_byte token ≡ true
  pub no_command : is_one_of command_names token ≡ false
  pub no_word : is_one_of token_words token ≡ false

and_parts : (a b c : Bool) → (a && (b && c)) ≡ true → (b ≡ true) × (c ≡ true)
and_parts true true true h = (refl, refl)
and_parts true true false h = absurd (false≢true h)
and_parts true false c h = absurd (false≢true h)
and_parts false b c h = absurd (false≢true h)

kept : (c w n : Bool) (token name : List ℕ) → cond (cond c true w) None (cond n (Some token) None) ≡ Some name → (c ≡ false) × (w ≡ false) × (n ≡ true)
kept true w n token name h = absurd (false≢true (ap is_some h))
kept false true n token name h = absurd (false≢true (ap is_some h))
kept false false true token name h = (refl, refl, refl)
kept false false false token name h = absurd (false≢true (ap is_some h))

is_new : (token name : List ℕ) → new_name_of token ≡ Some name → IsNew token
unfolding new_name_of is_language_word is_name
is_new token name h =
    let k = kept (is_one_of command_names token) (is_one_of token_words token) (nat_le (length token) 24 && (begins_with_letter token && list_all is_name_byte token)) token name h in
    let parts = and_parts (nat_le (length token) 24) (begins_with_letter token) (list_all is_name_byte token) k.2 in
    record { letter = parts.0; bytes = parts.1; no_command = k.0; no_word = k.1 }

-- ---- numbers

no_digit : (byte : ℕ) → is_letter byte ≡ true → digit_of byte ≡ None
no_digit byte h =
    let f : (nat_le 48 byte && nat_le byte 57) ≡ false = grind (arith, nat_tests) in
    ap (λ b. cond b (Some (byte - 48)) None) f

no_decimal : (byte : ℕ) (bytes : List ℕ) → digit_of byte ≡ None → decimal_of (byte ∷ bytes) ≡ None
unfolding decimal_of
no_decimal byte bytes h =
    elim (nat_le 1 (length (byte ∷ bytes)) && nat_le (length (byte ∷ bytes)) 10) as (λ b. cond b (option_and_then (λ d. value_from 10 digit_of (0 * 10 + d) bytes) (digit_of byte)) None ≡ None) [
      | true ↦ ap (option_and_then (λ d. value_from 10 digit_of (0 * 10 + d) bytes)) h
      | false ↦ refl
    ]

no_hex : (byte : ℕ) (bytes : List ℕ) → is_letter byte ≡ true → is_hex (byte ∷ bytes) ≡ false
no_hex byte [] h = refl
no_hex byte (next ∷ bytes) h =
    let f : nat_eq byte 48 ≡ false = grind (arith, nat_tests) in
    ap (λ b. b && nat_eq next 120) f

no_number : (token : List ℕ) → begins_with_letter token ≡ true → number_of token ≡ None
unfolding number_of
no_number [] h = absurd (false≢true h)
no_number (byte ∷ bytes) h =
    ap (λ b. below 4294967296 (cond b (hex_of (drop 2 (byte ∷ bytes))) (decimal_of (byte ∷ bytes)))) (no_hex byte bytes h) ∙ ap (below 4294967296) (no_decimal byte bytes (no_digit byte h))

-- ---- words

-- a word of the language is no new name
no_such : (word token : List ℕ) → IsNew token → is_one_of token_words word ≡ true → bytes_eq token word ≡ true → ⊥
no_such word token new is same =
    let t : token ≡ word = (bytes_eq-Decides token word).0 same in
    false≢true (sym new.no_word ∙ ap (is_one_of token_words) t ∙ is)

other : (word token : List ℕ) → IsNew token → is_one_of token_words word ≡ true → bytes_eq token word ≡ false
other word token new is =
    elim (bytes_eq token word) as (λ b. bytes_eq token word ≡ b → b ≡ false) [
      | true ↦ λ e. absurd (no_such word token new is e)
      | false ↦ λ e. refl
    ] refl

-- ---- threads

no_thread : (token : List ℕ) → IsNew token → thread_of [] token ≡ None
unfolding thread_of
no_thread token new = ap (λ o. option_map_or (λ n. below 262144 (Some n)) o None) (no_number token new.letter)

no_pager : (token : List ℕ) → IsNew token → nil_or_thread_of [] token ≡ None
unfolding nil_or_thread_of
no_pager token new = rw (other (codes "nil") token new refl, no_thread token new) refl

no_partner : (token : List ℕ) → IsNew token → partner_of [] token ≡ None
unfolding partner_of
no_partner token new = rw (other (codes "any") token new refl) (no_pager token new)

no_space : (token : List ℕ) → IsNew token → new_space_of [] token ≡ None
unfolding new_space_of
no_space token new = rw (other (codes "new") token new refl, no_thread token new) refl

-- ---- symbolic tokens

-- a byte that no name has
no_byte : (byte : ℕ) (token : List ℕ) → is_name_byte byte ≡ false → list_all is_name_byte token ≡ true → position (λ b. nat_eq b byte) token ≡ None
no_byte byte token not all =
    elim (position (λ b. nat_eq b byte) token) as (λ (o : Option ℕ). position (λ b. nat_eq b byte) token ≡ o → o ≡ None) [
      | None ↦ λ e. refl
      | Some i ↦ λ e.
          let at = position-Some (λ b. nat_eq b byte) token i 0 e in
          let here : get_or token i 0 ≡ byte = grind (arith, nat_tests) in
          absurd (false≢true (sym not ∙ ap is_name_byte (sym here) ∙ AllPass-from_list_all is_name_byte token all i 0 at.0))
    ] refl

no_cut : (byte : ℕ) (token : List ℕ) → is_name_byte byte ≡ false → IsNew token → cut_at byte token ≡ None
unfolding cut_at
no_cut byte token not new = ap (option_map (λ place. (take place token, drop (place + 1) token))) (no_byte byte token not new.bytes)

no_fpage : (size : PageSize) (token : List ℕ) → IsNew token → result_ok (fpage_word_in size token) ≡ None
unfolding fpage_word_in fpage_in
no_fpage size token new = rw (no_cut 58 token refl new) refl

no_window : (size : PageSize) (token : List ℕ) → IsNew token → result_ok (window_word_in size token) ≡ None
unfolding window_word_in window_in run_in
no_window size token new = rw (other (codes "all") token new refl, other (codes "none") token new refl, no_cut 43 token refl new) refl

no_timeouts : (token : List ℕ) → IsNew token → result_ok (timeouts_word token) ≡ None
unfolding timeouts_in timeout_in
no_timeouts token new = rw (no_cut 44 token refl new, other (codes "never") token new refl, other (codes "zero") token new refl) refl

no_control : (token : List ℕ) → IsNew token → result_ok (control_word token) ≡ None
unfolding control_word control_in
no_control token new = rw (no_cut 58 token refl new) refl

no_id : (token : List ℕ) → IsNew token → result_ok (id_word token) ≡ None
unfolding id_word id_in id_number_in
no_id token new = rw (other (codes "nil") token new refl, other (codes "any") token new refl, no_cut 44 token refl new, no_number token new.letter) refl

no_symbol : (kind : WordKind) (size : PageSize) (token : List ℕ) → IsNew token → symbol_of kind size token ≡ None
unfolding symbol_of
no_symbol Fpage size token new = rw (no_number token new.letter) (no_fpage size token new)
no_symbol Window size token new = rw (no_number token new.letter) (no_window size token new)
no_symbol Timeouts size token new = rw (no_number token new.letter) (no_timeouts token new)
no_symbol Control size token new = rw (no_number token new.letter) (no_control token new)
no_symbol Id size token new = rw (no_number token new.letter) (no_id token new)

-- ---- rights

rights_parts : {A : Type 0} (r w x : Option Bool) (make : Bool → Bool → Bool → A) → is_some (r >>= λ a. w >>= λ b. x >>= λ c. Some (make a b c)) ≡ true → (is_some r ≡ true) × (is_some w ≡ true) × (is_some x ≡ true)
rights_parts None w x make h = absurd (false≢true h)
rights_parts (Some a) None x make h = absurd (false≢true h)
rights_parts (Some a) (Some b) None make h = absurd (false≢true h)
rights_parts (Some a) (Some b) (Some c) make h = (refl, refl, refl)

-- the letter, or a hyphen
either : (letter byte : ℕ) → is_some (right_of letter byte) ≡ true → (byte ≡ letter) ⊎ (byte ≡ 45)
either letter byte h =
    elim (nat_eq byte letter) as (λ b. nat_eq byte letter ≡ b → is_some (cond b (Some true) (cond (nat_eq byte 45) (Some false) None)) ≡ true → (byte ≡ letter) ⊎ (byte ≡ 45)) [
      | true ↦ λ e some. inl (grind (arith, nat_tests))
      | false ↦ λ e some. elim (nat_eq byte 45) as (λ b. nat_eq byte 45 ≡ b → is_some (cond b (Some false) None) ≡ true → (byte ≡ letter) ⊎ (byte ≡ 45)) [
        | true ↦ λ f more. inr (grind (arith, nat_tests))
        | false ↦ λ f more. absurd (false≢true more)
      ] refl some
    ] refl h

-- rights that begin with a letter are words of the language
letters : (a b c : ℕ) → IsNew (a ∷ b ∷ c ∷ []) → (a ≡ 114) ⊎ (a ≡ 45) → (b ≡ 119) ⊎ (b ≡ 45) → (c ≡ 120) ⊎ (c ≡ 45) → ⊥
letters a b c new (inr hyphen) second third = false≢true (ap is_letter (sym hyphen) ∙ new.letter)
letters a b c new (inl r) (inl w) (inl x) = false≢true (sym new.no_word ∙ (λ i. is_one_of token_words (r i ∷ w i ∷ x i ∷ [])))
letters a b c new (inl r) (inl w) (inr x) = false≢true (sym new.no_word ∙ (λ i. is_one_of token_words (r i ∷ w i ∷ x i ∷ [])))
letters a b c new (inl r) (inr w) (inl x) = false≢true (sym new.no_word ∙ (λ i. is_one_of token_words (r i ∷ w i ∷ x i ∷ [])))
letters a b c new (inl r) (inr w) (inr x) = false≢true (sym new.no_word ∙ (λ i. is_one_of token_words (r i ∷ w i ∷ x i ∷ [])))

no_rights : (token : List ℕ) → IsNew token → is_some (rights_of token) ≡ true → ⊥
unfolding rights_of
no_rights [] new h = false≢true h
no_rights (a ∷ []) new h = false≢true h
no_rights (a ∷ b ∷ []) new h = false≢true h
no_rights (a ∷ b ∷ c ∷ []) new h =
    let parts = rights_parts (right_of 114 a) (right_of 119 b) (right_of 120 c) (λ r w x. record { r = r; w = w; x = x }) h in
    letters a b c new (either 114 a parts.0) (either 119 b parts.1) (either 120 c parts.2)
no_rights (a ∷ b ∷ c ∷ d ∷ more) new h =
    let f : nat_eq (length (a ∷ b ∷ c ∷ d ∷ more)) 3 ≡ false = grind (arith, nat_tests) in
    false≢true (sym (ap (λ v. is_some {T = RightsSet} (cond v (right_of 114 a >>= λ r. right_of 119 b >>= λ w. right_of 120 c >>= λ x. Some (record { r = r; w = w; x = x })) None)) f) ∙ h)

-- ---- the law

none_true : {A : Type 0} (o : Option A) → o ≡ None → is_some o ≡ true → ⊥
none_true o none some = false≢true (sym (ap is_some none) ∙ some)

pub no_kind : (size : PageSize) (kind : TokenKind) (token name : List ℕ) → new_name_of token ≡ Some name → is_of size [] kind token ≡ true → kind ≡ NewName
unfolding is_of
no_kind size ThreadNumber token name new is = absurd (none_true (thread_of [] token) (no_thread token (is_new token name new)) is)
no_kind size ThreadOrNew token name new is = absurd (none_true (new_space_of [] token) (no_space token (is_new token name new)) is)
no_kind size ThreadOrNil token name new is = absurd (none_true (nil_or_thread_of [] token) (no_pager token (is_new token name new)) is)
no_kind size ThreadNilOrAny token name new is = absurd (none_true (partner_of [] token) (no_partner token (is_new token name new)) is)
no_kind size Number token name new is = absurd (none_true (number_of token) (no_number token (is_new token name new).letter) is)
no_kind size (Symbol kind) token name new is = absurd (none_true (symbol_of kind size token) (no_symbol kind size token (is_new token name new)) is)
no_kind size Rights token name new is = absurd (no_rights token (is_new token name new) is)
no_kind size NewName token name new is = refl

or_parts : (a b : Bool) → (a || b) ≡ false → (a ≡ false) × (b ≡ false)
or_parts true b h = absurd (false≢true (sym h))
or_parts false b h = (refl, h)

-- none of these rows has the name
none_in : (rows : List (List ℕ × (List (List ℕ) → Option Request))) (name : List ℕ) (tokens : List (List ℕ)) → list_any (λ (row : List ℕ × (List (List ℕ) → Option Request)). is_word row.0 name) rows ≡ false
    → command_in rows name tokens ≡ Err UnknownCommand
none_in [] name tokens h = refl
none_in (row ∷ rows) name tokens h =
    let parts = or_parts (is_word row.0 name) (list_any (λ (r : List ℕ × (List (List ℕ) → Option Request)). is_word r.0 name) rows) h in
    ap (λ b. cond b (ok_or (row.1 tokens) BadTokens) (command_in rows name tokens)) parts.0 ∙ none_in rows name tokens parts.1

pub no_command : (size : PageSize) (names : Names) (token name : List ℕ) (tokens : List (List ℕ)) → new_name_of token ≡ Some name → command_of size names (token ∷ tokens) ≡ Err UnknownCommand
unfolding command_of
no_command size names token name tokens new = none_in (commands size names) token tokens (is_new token name new).no_command
