-- Where a line stops, and what that says of the commands.
use Rattle.std.proofs.Common.{◌≡◌, ℕ, zero, suc, ◌+◌, ◌-◌, ◌≤◌, ◌<◌, Bool, true, false, not, ◌&&◌, ◌||◌, cond, nat_le, nat_lt, nat_eq, List, [], ◌∷◌, ◌++◌, length, Option, Some, None, is_some, is_ok, Result, Ok, Err, ok_or, codes, refl, sym, ap, subst, ◌∙◌, arith}
use Rattle.std.proofs.lemmas.Bool.{false≢true}
use Rattle.std.proofs.lemmas.Option.{same_Some}
use mathlib.Core.List.{append_assoc}
use Rattle.std.proofs.lemmas.Bool.Decides.{nat_tests}
use Rattle.std.specs.List.{list_all}
use Rattle.std.specs.Option.{option_and_then}
use Rattle.std.specs.Result.{result_ok}
use Rattle.l4_fpage.specs.Rights.{RightsSet}
use Rattle.l4_fpage.specs.declared.sizes.PageSize.{PageSize}
use Rattle.l4_msg.specs.declared.regions.Region.{Region as Delegated}
use Rattle.l4_names.specs.Names.{Names, is_name}
use Rattle.l4_symbols.specs.Computed.{word_in}
use Rattle.l4_symbols.specs.Rows.{Row, row_begun, row_added, all_added, row_words, message_words_in}
use Rattle.l4_symbols.specs.Spelling.{◌>>=◌}
use Rattle.l4_symbols.specs.declared.reasons.Reason.{Reason}
use Rattle.l4_symbols.specs.declared.words.WordKind.{WordKind}
use Rattle.l4_symbols.specs.declared.words.WordKind.TheVariants.{Fpage, Window, Timeouts, Control}
use Rattle.l4_text.specs.Numbers.{number_of, decimal_of}
use Rattle.l4_commands.specs.declared.kinds.TokenKind.{TokenKind}
use Rattle.l4_commands.specs.declared.kinds.TokenKind.TheVariants.{ThreadNumber, ThreadOrNew, ThreadOrNil, ThreadNilOrAny, Number, Symbol, Rights, NewName}
use Rattle.l4_commands.specs.Commands.{thread_of, nil_or_thread_of, partner_of, new_space_of, rights_of, symbol_of, new_name_of, is_language_word, is_number, each_fpage, fpages_of, counted as counted_fpages, unmap_of, words_of, ◌▹◌, no_more, all_by, last_rights_of, region_of, rule_of, command_of, is_word}
use Rattle.l4_commands.specs.Kinds.{is_of}
use Rattle.l4_sinks.specs.declared.stops.Expected.{Expected}
use Rattle.l4_sinks.specs.declared.stops.Expected.TheVariants.{Token, TagOrEnd, WordOrEnd, FpageOrEnd, CountedFpage, CountedEnd, LineEnd, AnyAnswer}
use Rattle.l4_sinks.specs.declared.stops.Rest.{Rest}
use Rattle.l4_sinks.specs.declared.stops.Rest.TheVariants.{Nothing, Message, Unmap, Answer}
use Rattle.l4_sinks.specs.Stops.{Shape, Place, wrong, missing, shape_of, pager_shape_of, expected_for, expected_at, symbol_expected, end_stop, fpage_wrong, short_stop, token_or_stop, is_symbolic, fpages_stop, control_or_stop, unmap_stop, row_or_stop, row_stop, message_stop, answer_stop, rest_stop, kinds_stop, shape_stop, stop_of, BeginsCommand, StopsThere, IsStop}
use Rattle.l4_unmap.specs.Unmap.{fpage_count}

-- READERS AND KINDS

-- nothing stops
abbrev ends : Option Place → Bool
ends None = true
ends (Some place) = false

-- where pages have this size, a reader reads just what has tokens of these kinds, and then the rest
record Agrees {A : Type 0} (size : PageSize) (names : Names) (asks : List (List ℕ) → Option A) (kinds : List TokenKind) (rest : Rest) : Type 0 where
  pub agrees : (tokens : List (List ℕ)) (number : ℕ) → is_some (asks tokens) ≡ ends (kinds_stop size names number kinds rest tokens)

ends_there : {A : Type 0} (a : A) (tokens : List (List ℕ)) (number : ℕ) → is_some (no_more a tokens) ≡ ends (end_stop number tokens)
ends_there a [] number = refl
ends_there a (token ∷ tokens) number = refl

agrees_end : {A : Type 0} (size : PageSize) (names : Names) (a : A) → Agrees size names (no_more a) [] Nothing
agrees_end size names a = record { agrees = λ tokens number. ends_there a tokens number }

one_read : {A B : Type 0} (o : Option A) (f : Bool) (tokens : List (List ℕ)) (asks : A → List (List ℕ) → Option B) (stop : Option Place) (other : Place) → is_some o ≡ f → ((a : A) → is_some (asks a tokens) ≡ ends stop)
    → is_some (option_and_then (λ (p : A × List (List ℕ)). asks p.0 p.1) (option_and_then (λ a. Some (a, tokens)) o)) ≡ ends (cond f stop (Some other))
one_read None f tokens asks stop other same rest = ap (λ b. ends (cond b stop (Some other))) same
one_read (Some a) f tokens asks stop other same rest = rest a ∙ ap (λ b. ends (cond b stop (Some other))) same

step_there : {A B C : Type 0} (size : PageSize) (names : Names) (read : List ℕ → Option A) (rest : B → List (List ℕ) → Option C) (make : A → B) (kind : TokenKind) (kinds : List TokenKind) (last : Rest) → ((token : List ℕ) → is_some (read token) ≡ is_of size names kind token)
    → ((b : B) → Agrees size names (rest b) kinds last) → (tokens : List (List ℕ)) (number : ℕ) → is_some ((read ▹ rest) make tokens) ≡ ends (kinds_stop size names number (kind ∷ kinds) last tokens)
step_there size names read rest make kind kinds last same agree [] number = refl
step_there size names read rest make kind kinds last same agree (token ∷ tokens) number =
    one_read (read token) (is_of size names kind token) tokens (λ a. rest (make a)) (kinds_stop size names (number + 1) kinds last tokens) (record { number = number; token = Some token; expected = expected_at size kind token }) (same token)
    (λ a. (agree (make a)).agrees tokens (number + 1))

agrees_step : {A B C : Type 0} {size : PageSize} {names : Names} (read : List ℕ → Option A) (kind : TokenKind) → ((token : List ℕ) → is_some (read token) ≡ is_of size names kind token) → {rest : B → List (List ℕ) → Option C} {kinds : List TokenKind} {last : Rest}
    → ((b : B) → Agrees size names (rest b) kinds last) → (make : A → B) → Agrees size names ((read ▹ rest) make) (kind ∷ kinds) last
agrees_step {size} {names} read kind same {rest} {kinds} {last} agree make = record { agrees = λ tokens number. step_there size names read rest make kind kinds last same agree tokens number }

made : {A B : Type 0} (o : Option A) (f : A → B) → is_some (option_and_then (λ a. Some (f a)) o) ≡ is_some o
made None f = refl
made (Some a) f = refl

agrees_all : {A B : Type 0} (size : PageSize) (names : Names) (read : List (List ℕ) → Option A) (make : A → B) (kinds : List TokenKind) (last : Rest) → Agrees size names read kinds last → Agrees size names (all_by read make) kinds last
agrees_all size names read make kinds last h = record { agrees = λ tokens number. made (read tokens) make ∙ h.agrees tokens number }

-- FPAGES

and_false : (b : Bool) → (b && false) ≡ false
and_false true = refl
and_false false = refl

and_zero : (b c : Bool) → (b && false && c) ≡ false
and_zero true c = refl
and_zero false c = refl

or_false : (b : Bool) → (b || false) ≡ b
or_false true = refl
or_false false = refl

same_symbol : (kind : WordKind) (size : PageSize) (names : Names) (token : List ℕ) → is_some (symbol_of kind size token) ≡ is_of size names (Symbol kind) token
unfolding is_of
same_symbol kind size names token = refl

if_some : {A : Type 0} (b : Bool) (o : Option A) → is_some (cond b o None) ≡ (b && is_some o)
if_some true o = refl
if_some false o = refl

-- one fpage, where a token is symbolic or not, and the control word counts more fpages or not
one_counted : (x all s num z e f : Bool) → (z ≡ true → (e ≡ false) × ((all || f) ≡ all)) → (z ≡ false → e ≡ f)
    → (x && ((not s && (num && all)) || e)) ≡ cond ((s || not num) && z) false (x && ((not (s || not num) && all) || f))
one_counted x all true num true e f last more = ap (λ b. x && b) (last refl).0 ∙ and_false x
one_counted x all true num false e f last more = ap (λ b. x && b) (more refl)
one_counted x all false true true e f last more = ap (λ b. x && (all || b)) (last refl).0 ∙ ap (λ b. x && b) (or_false all ∙ sym (last refl).1)
one_counted x all false true false e f last more = ap (λ b. x && (all || b)) (more refl)
one_counted x all false false true e f last more = ap (λ b. x && b) (last refl).0 ∙ and_false x
one_counted x all false false false e f last more = ap (λ b. x && b) (more refl)

-- what a token does, as a test
token_ends : (f c : Bool) (number : ℕ) (token : List ℕ) (over other : Expected) (later : Option Place)
    → ends (token_or_stop number token (cond f (cond c (Some over) None) (Some other)) later) ≡ (f && cond c false (ends later))
token_ends true true number token over other later = refl
token_ends true false number token over other later = refl
token_ends false c number token over other later = refl

each_some : (o : Option ℕ) (size : PageSize) (tokens : List (List ℕ)) → is_some (option_and_then (λ n. option_and_then (λ ns. Some (n ∷ ns)) (each_fpage size tokens)) o) ≡ (is_some o && is_some (each_fpage size tokens))
each_some None size tokens = refl
each_some (Some n) size tokens = made (each_fpage size tokens) (λ ns. n ∷ ns)

turned : (le f each c : Bool) (y : Bool) → ((le && each) && y) ≡ c → ((le && (f && each)) && y) ≡ (f && c)
turned le true each c y same = same
turned le false each c y same = ap (λ b. b && y) (and_false le)

and_true : (b : Bool) → (b && true) ≡ b
and_true true = refl
and_true false = refl

no_words : (words : List ℕ) → ◌≡◌ {A = Option (List ℕ)} None (Some words) → ⊥
no_words words is = false≢true (ap is_some is)

none_left : (tokens : List (List ℕ)) (left : ℕ) → left ≡ 0 → (list_all is_number tokens || nat_eq (length tokens) left) ≡ list_all is_number tokens
none_left [] left is = refl
none_left (token ∷ tokens) left is =
    let f : nat_eq (length (token ∷ tokens)) left ≡ false = grind (arith, nat_tests) in
    ap (λ b. list_all is_number (token ∷ tokens) || b) f ∙ or_false (list_all is_number (token ∷ tokens))

-- Of the fpages that a control word counts, this number is left. Nothing stops just where each token is an fpage, there are no more than may
-- be, and either no token is symbolic or there are as many as are left.
counted : (size : PageSize) (names : Names) (symbolic : Bool) (left most : ℕ) (tokens : List (List ℕ)) (number : ℕ)
    → ((nat_le (length tokens) most && is_some (each_fpage size tokens)) && ((not symbolic && list_all is_number tokens) || nat_eq (length tokens) left))
    ≡ ends (fpages_stop size names symbolic left number most tokens)
counted size names true zero most [] number =
    let t : nat_le 0 most ≡ true = grind (arith, nat_tests) in
    ap (λ b. (b && true) && true) t
counted size names true (suc left) most [] number =
    let t : nat_eq 0 (suc left) ≡ false = grind (arith, nat_tests) in
    let u : nat_lt 0 (suc left) ≡ true = grind (arith, nat_tests) in
    ap (λ b. (nat_le 0 most && true) && b) t ∙ and_false (nat_le 0 most && true) ∙ ap (λ b. ends (cond b (missing number CountedFpage) None)) (sym u)
counted size names false left most [] number =
    let t : nat_le 0 most ≡ true = grind (arith, nat_tests) in
    ap (λ b. (b && true) && true) t
counted size names symbolic left zero (token ∷ tokens) number =
    let f : nat_le (length (token ∷ tokens)) 0 ≡ false = grind (arith, nat_tests) in
    ap (λ b. (b && is_some (each_fpage size (token ∷ tokens))) && ((not symbolic && list_all is_number (token ∷ tokens)) || nat_eq (length (token ∷ tokens)) left)) f
counted size names symbolic left (suc most) (token ∷ tokens) number =
    let s = is_symbolic symbolic token in
    let rest = counted size names s (left - 1) most tokens (number + 1) in
    let le : nat_le (length (token ∷ tokens)) (suc most) ≡ nat_le (length tokens) most = grind (arith, nat_tests) in
    let more : nat_eq left 0 ≡ false → nat_eq (length (token ∷ tokens)) left ≡ nat_eq (length tokens) (left - 1) = λ h. grind (arith, nat_tests) in
    let last : nat_eq left 0 ≡ true → nat_eq (length (token ∷ tokens)) left ≡ false = λ h. grind (arith, nat_tests) in
    let whole : nat_eq left 0 ≡ true → (list_all is_number tokens || nat_eq (length tokens) (left - 1)) ≡ list_all is_number tokens = λ h. none_left tokens (left - 1) (grind (arith, nat_tests)) in
    let one = one_counted (nat_le (length tokens) most && is_some (each_fpage size tokens)) (list_all is_number tokens) symbolic (is_number token) (nat_eq left 0)
    (nat_eq (length (token ∷ tokens)) left) (nat_eq (length tokens) (left - 1)) (λ h. (last h, whole h)) more in
    ap (λ b. (b && is_some (each_fpage size (token ∷ tokens))) && ((not symbolic && list_all is_number (token ∷ tokens)) || nat_eq (length (token ∷ tokens)) left)) le
    ∙ ap (λ b. (nat_le (length tokens) most && b) && ((not symbolic && list_all is_number (token ∷ tokens)) || nat_eq (length (token ∷ tokens)) left)) (each_some (symbol_of Fpage size token) size tokens)
    ∙ turned (nat_le (length tokens) most) (is_some (symbol_of Fpage size token)) (is_some (each_fpage size tokens)) _ _ (one ∙ ap (λ b. cond (s && nat_eq left 0) false b) rest)
    ∙ ap (λ b. b && cond (s && nat_eq left 0) false (ends (fpages_stop size names s (left - 1) (number + 1) most tokens))) (same_symbol Fpage size names token)
    ∙ sym (token_ends (is_of size names (Symbol Fpage) token) (s && nat_eq left 0) number token CountedEnd (symbol_expected FpageOrEnd (word_in Fpage size token)) _)

-- as many words as tokens
each_len : (size : PageSize) (tokens : List (List ℕ)) (words : List ℕ) → each_fpage size tokens ≡ Some words → length words ≡ length tokens
each_len size [] words is = ap length (same_Some words [] (sym is))
each_len size (token ∷ tokens) words is =
    elim (symbol_of Fpage size token) as (λ (o : Option ℕ). option_and_then (λ n. option_and_then (λ ns. Some (n ∷ ns)) (each_fpage size tokens)) o ≡ Some words → length words ≡ length (token ∷ tokens)) [
      | None ↦ λ e. absurd (no_words words e)
      | Some n ↦ λ e. elim (each_fpage size tokens) as (λ (o : Option (List ℕ)). each_fpage size tokens ≡ o → option_and_then (λ ns. Some (n ∷ ns)) o ≡ Some words → length words ≡ length (token ∷ tokens)) [
        | None ↦ λ f g. absurd (no_words words g)
        | Some ns ↦ λ f g.
            let h : words ≡ n ∷ ns = sym (same_Some _ _ g) in
            let k : length ns ≡ length tokens = each_len size tokens ns f in
            ap length h ∙ ap suc k
      ] refl e
    ] is

fpages_len : (size : PageSize) (tokens : List (List ℕ)) (plain : Bool) (control : ℕ) → is_some (option_and_then (λ fpages. counted_fpages plain control fpages) (fpages_of size tokens))
    ≡ ((nat_le (length tokens) 64 && is_some (each_fpage size tokens)) && (plain || nat_eq (length tokens) (fpage_count control)))
unfolding fpages_of
fpages_len size tokens plain control =
    elim (nat_le (length tokens) 64) as (λ b. is_some (option_and_then (λ fpages. counted_fpages plain control fpages) (cond b (each_fpage size tokens) None)) ≡ ((b && is_some (each_fpage size tokens)) && (plain || nat_eq (length tokens) (fpage_count control)))) [
      | false ↦ refl
      | true ↦ elim (each_fpage size tokens) as (λ (o : Option (List ℕ)). each_fpage size tokens ≡ o → is_some (option_and_then (λ fpages. counted_fpages plain control fpages) o) ≡ ((true && is_some o) && (plain || nat_eq (length tokens) (fpage_count control)))) [
        | None ↦ λ e. refl
        | Some words ↦ λ e.
            ap (λ n. is_some {T = ℕ × List ℕ} (cond (plain || nat_eq n (fpage_count control)) (Some (control, words)) None)) (each_len size tokens words e)
            ∙ if_some {A = ℕ × List ℕ} (plain || nat_eq (length tokens) (fpage_count control)) (Some (control, words)) ∙ and_true (plain || nat_eq (length tokens) (fpage_count control))
      ] refl
    ]

not_not : (b : Bool) → not (not b) ≡ b
not_not true = refl
not_not false = refl

unmap_ends : (size : PageSize) (names : Names) (tokens : List (List ℕ)) (number : ℕ) → is_some (unmap_of size tokens) ≡ ends (unmap_stop size names number tokens)
unfolding unmap_of
unmap_ends size names [] number = refl
unmap_ends size names (token ∷ tokens) number =
    elim (symbol_of Control size token) as (λ (o : Option ℕ). is_some (option_and_then (λ control. option_and_then (λ fpages. counted_fpages (list_all is_number (token ∷ tokens)) control fpages) (fpages_of size tokens)) o) ≡ ends (control_or_stop size names number token tokens o)) [
      | None ↦ refl
      | Some control ↦
          fpages_len size tokens (list_all is_number (token ∷ tokens)) control
          ∙ ap (λ b. (nat_le (length tokens) 64 && is_some (each_fpage size tokens)) && ((b && list_all is_number tokens) || nat_eq (length tokens) (fpage_count control))) (sym (not_not (is_number token)))
          ∙ counted size names (not (is_number token)) (fpage_count control) 64 tokens (number + 1)
    ]

agrees_unmap : {B : Type 0} {size : PageSize} {names : Names} (make : ℕ × List ℕ → B) → Agrees size names (all_by (unmap_of size) make) [] Unmap
agrees_unmap {B} {size} {names} make = record { agrees = λ tokens number. made (unmap_of size tokens) make ∙ unmap_ends size names tokens number }

-- MESSAGES

-- a row has words with these tokens just where nothing stops
row_ends : (size : PageSize) (tokens : List (List ℕ)) (row : Row) (number : ℕ) → is_some (result_ok (all_added size tokens row >>= λ r. Ok (row_words r))) ≡ ends (row_stop size number tokens row)
row_ends size [] row number = refl
row_ends size (token ∷ tokens) row number =
    elim (row_added size token row) as (λ (r : Result Row Reason). is_some (result_ok ((r >>= λ next. all_added size tokens next) >>= λ x. Ok (row_words x))) ≡ ends (row_or_stop number token WordOrEnd r (λ next. row_stop size (number + 1) tokens next))) [
      | Ok next ↦ row_ends size tokens next (number + 1)
      | Err reason ↦ refl
    ]

message_ends : (size : PageSize) (tokens : List (List ℕ)) (number : ℕ) → is_some (words_of size tokens) ≡ ends (message_stop size number tokens)
unfolding words_of message_words_in
message_ends size [] number = refl
message_ends size (token ∷ tokens) number =
    elim (row_begun token) as (λ (r : Result Row Reason). is_some (result_ok (r >>= λ begun. all_added size tokens begun >>= λ row. Ok (row_words row))) ≡ ends (row_or_stop number token TagOrEnd r (λ row. row_stop size (number + 1) tokens row))) [
      | Ok row ↦ row_ends size tokens row (number + 1)
      | Err reason ↦ refl
    ]

agrees_message : {B : Type 0} {size : PageSize} {names : Names} (make : List ℕ → B) → Agrees size names (all_by (words_of size) make) [] Message
agrees_message {size} {names} make = record { agrees = λ tokens number. made (words_of size tokens) make ∙ message_ends size tokens number }

-- ANSWERS

answer_ends : (tokens : List (List ℕ)) (number : ℕ) → is_some (rule_of tokens) ≡ ends (answer_stop number tokens)
answer_ends [] number = refl
answer_ends (token ∷ tokens) number = refl

-- KINDS

same_thread : (size : PageSize) (names : Names) (token : List ℕ) → is_some (thread_of names token) ≡ is_of size names ThreadNumber token
unfolding is_of
same_thread size names token = refl

same_space : (size : PageSize) (names : Names) (token : List ℕ) → is_some (new_space_of names token) ≡ is_of size names ThreadOrNew token
unfolding is_of
same_space size names token = refl

same_pager : (size : PageSize) (names : Names) (token : List ℕ) → is_some (nil_or_thread_of names token) ≡ is_of size names ThreadOrNil token
unfolding is_of
same_pager size names token = refl

same_partner : (size : PageSize) (names : Names) (token : List ℕ) → is_some (partner_of names token) ≡ is_of size names ThreadNilOrAny token
unfolding is_of
same_partner size names token = refl

same_number : (size : PageSize) (names : Names) (token : List ℕ) → is_some (number_of token) ≡ is_of size names Number token
unfolding is_of
same_number size names token = refl

same_name : (size : PageSize) (names : Names) (token : List ℕ) → is_some (new_name_of token) ≡ is_of size names NewName token
unfolding is_of
same_name size names token = refl

same_rights : (size : PageSize) (names : Names) (token : List ℕ) → is_some (rights_of token) ≡ is_of size names Rights token
unfolding is_of
same_rights size names token = refl

-- COMMANDS

last_rights : (size : PageSize) (names : Names) → Agrees size names last_rights_of (Rights ∷ []) Nothing
last_rights size names = record { agrees = λ tokens number. (agrees_step rights_of Rights (same_rights size names) (agrees_end size names) (λ r. r)).agrees tokens number }

by_rights : {B : Type 0} {size : PageSize} {names : Names} (make : RightsSet → B) → Agrees size names (all_by last_rights_of make) (Rights ∷ []) Nothing
by_rights {B} {size} {names} make = agrees_all size names last_rights_of make _ Nothing (last_rights size names)

by_thread : {B C : Type 0} {size : PageSize} {names : Names} {rest : B → List (List ℕ) → Option C} {kinds : List TokenKind} {last : Rest} → ((b : B) → Agrees size names (rest b) kinds last) → (make : ℕ → B) → Agrees size names ((thread_of names ▹ rest) make) (ThreadNumber ∷ kinds) last
by_thread {B} {C} {size} {names} agree make = agrees_step (thread_of names) ThreadNumber (same_thread size names) agree make

by_space : {B C : Type 0} {size : PageSize} {names : Names} {rest : B → List (List ℕ) → Option C} {kinds : List TokenKind} {last : Rest} → ((b : B) → Agrees size names (rest b) kinds last) → (make : _ → B) → Agrees size names ((new_space_of names ▹ rest) make) (ThreadOrNew ∷ kinds) last
by_space {B} {C} {size} {names} agree make = agrees_step (new_space_of names) ThreadOrNew (same_space size names) agree make

by_pager : {B C : Type 0} {size : PageSize} {names : Names} {rest : B → List (List ℕ) → Option C} {kinds : List TokenKind} {last : Rest} → ((b : B) → Agrees size names (rest b) kinds last) → (make : _ → B) → Agrees size names ((nil_or_thread_of names ▹ rest) make) (ThreadOrNil ∷ kinds) last
by_pager {B} {C} {size} {names} agree make = agrees_step (nil_or_thread_of names) ThreadOrNil (same_pager size names) agree make

by_partner : {B C : Type 0} {size : PageSize} {names : Names} {rest : B → List (List ℕ) → Option C} {kinds : List TokenKind} {last : Rest} → ((b : B) → Agrees size names (rest b) kinds last) → (make : _ → B) → Agrees size names ((partner_of names ▹ rest) make) (ThreadNilOrAny ∷ kinds) last
by_partner {B} {C} {size} {names} agree make = agrees_step (partner_of names) ThreadNilOrAny (same_partner size names) agree make

by_name : {B C : Type 0} {size : PageSize} {names : Names} {rest : B → List (List ℕ) → Option C} {kinds : List TokenKind} {last : Rest} → ((b : B) → Agrees size names (rest b) kinds last) → (make : _ → B)
    → Agrees size names ((new_name_of ▹ rest) make) (NewName ∷ kinds) last
by_name {B} {C} {size} {names} agree make = agrees_step new_name_of NewName (same_name size names) agree make

by_number : {B C : Type 0} {size : PageSize} {names : Names} {rest : B → List (List ℕ) → Option C} {kinds : List TokenKind} {last : Rest} → ((b : B) → Agrees size names (rest b) kinds last) → (make : ℕ → B) → Agrees size names ((number_of ▹ rest) make) (Number ∷ kinds) last
by_number {B} {C} {size} {names} agree make = agrees_step number_of Number (same_number size names) agree make

by_symbol : {B C : Type 0} {size : PageSize} {names : Names} (kind : WordKind) {rest : B → List (List ℕ) → Option C} {kinds : List TokenKind} {last : Rest} → ((b : B) → Agrees size names (rest b) kinds last) → (make : ℕ → B)
    → Agrees size names ((symbol_of kind size ▹ rest) make) (Symbol kind ∷ kinds) last
by_symbol {B} {C} {size} {names} kind agree make = agrees_step (symbol_of kind size) (Symbol kind) (same_symbol kind size names) agree make

abbrev region_from : ℕ → ℕ → ℕ → RightsSet → Delegated
region_from s t c r = record { source = s; target = t; count = c; rights = r }

region_kinds : (size : PageSize) (names : Names) → Agrees size names region_of (Number ∷ Number ∷ Number ∷ Rights ∷ []) Nothing
unfolding region_of
region_kinds size names = record { agrees = λ tokens number. (by_number (by_number (by_number by_rights)) region_from).agrees tokens number }

by_region : {B : Type 0} {size : PageSize} {names : Names} (make : Delegated → B) → Agrees size names (all_by region_of make) (Number ∷ Number ∷ Number ∷ Rights ∷ []) Nothing
by_region {B} {size} {names} make = agrees_all size names region_of make _ Nothing (region_kinds size names)

-- LINES

-- a command reads just what its form lets through
abbrev Reads : {A E : Type 0} → PageSize → Names → List ℕ → List (List ℕ) → Result A E → Option Shape → Type 0
Reads size names name tokens asked shape = is_ok asked ≡ ends (shape_stop size names shape name tokens)

choose : {A E : Type 0} (size : PageSize) (names : Names) (name : List ℕ) (tokens : List (List ℕ)) (b : Bool) (x y : Result A E) (f g : Option Shape) → Reads size names name tokens x f → Reads size names name tokens y g → Reads size names name tokens (cond b x y) (cond b f g)
choose size names name tokens true x y f g p q = p
choose size names name tokens false x y f g p q = q

one : {A E : Type 0} (o : Option A) (fault : E) (stop : Option Place) → is_some o ≡ ends stop → is_ok (ok_or o fault) ≡ ends stop
one None fault stop same = same
one (Some a) fault stop same = same

reads : (size : PageSize) (names : Names) (name : List ℕ) (tokens : List (List ℕ)) → is_ok (command_of size names (name ∷ tokens)) ≡ ends (shape_stop size names (shape_of name) name tokens)
unfolding command_of
reads size names name tokens =
    choose size names name tokens (is_word (codes "thread") name) _ _ _ _ (one _ _ _ ((by_thread (by_space (by_pager (agrees_end size names))) _).agrees tokens 2))
    (choose size names name tokens (is_word (codes "setpager") name) _ _ _ _ (one _ _ _ ((by_thread (by_pager (agrees_end size names)) _).agrees tokens 2))
    (choose size names name tokens (is_word (codes "delete") name) _ _ _ _ (one _ _ _ ((by_thread (agrees_end size names) _).agrees tokens 2))
    (choose size names name tokens (is_word (codes "recv") name) _ _ _ _ (one _ _ _ ((by_thread (by_partner (by_symbol Window (agrees_end size names))) _).agrees tokens 2))
    (choose size names name tokens (is_word (codes "send") name) _ _ _ _ (one _ _ _ ((by_thread (by_partner agrees_message) _).agrees tokens 2))
    (choose size names name tokens (is_word (codes "ipc") name) _ _ _ _ (one _ _ _ ((by_thread (by_partner (by_partner (by_symbol Timeouts (by_symbol Window agrees_message)))) _).agrees tokens 2))
    (choose size names name tokens (is_word (codes "delegate") name) _ _ _ _ (one _ _ _ ((by_thread (by_partner by_region) _).agrees tokens 2))
    (choose size names name tokens (is_word (codes "part") name) _ _ _ _ (one _ _ _ ((by_thread (by_partner (by_number by_region)) _).agrees tokens 2))
    (choose size names name tokens (is_word (codes "unmap") name) _ _ _ _ (one _ _ _ ((by_thread agrees_unmap _).agrees tokens 2))
    (choose size names name tokens (is_word (codes "show") name) _ _ _ _ (one _ _ _ ((by_thread (by_number (by_number (agrees_end size names))) _).agrees tokens 2))
    (choose size names name tokens (is_word (codes "parent") name) _ _ _ _ (one _ _ _ ((by_thread (by_number (agrees_end size names)) _).agrees tokens 2))
    (choose size names name tokens (is_word (codes "fault") name) _ _ _ _ (one _ _ _ ((by_thread (by_number (by_number by_rights)) _).agrees tokens 2))
    (choose size names name tokens (is_word (codes "region") name) _ _ _ _ (one _ _ _ ((by_thread (by_number (by_number (by_number by_rights))) _).agrees tokens 2))
    (choose size names name tokens (is_word (codes "serve") name) _ _ _ _ (one _ _ _ ((by_thread (agrees_end size names) _).agrees tokens 2))
    (choose size names name tokens (is_word (codes "name") name) _ _ _ _ (one _ _ _ ((by_name (by_thread (agrees_end size names)) _).agrees tokens 2))
    (choose size names name tokens (is_word (codes "reply") name) _ _ _ _ (one _ _ _ ((by_thread (agrees_end size names) _).agrees tokens 2))
    (choose size names name tokens (is_word (codes "timeout") name) _ _ _ _ (one _ _ _ ((by_thread (agrees_end size names) _).agrees tokens 2))
    (choose size names name tokens (is_word (codes "cancel") name) _ _ _ _ (one _ _ _ ((by_thread (agrees_end size names) _).agrees tokens 2))
    (choose size names name tokens (is_word (codes "steps") name) _ _ _ _ (one _ _ _ ((agrees_end size names _).agrees tokens 2))
    (choose size names name tokens (is_word (codes "unordered") name) _ _ _ _ (one _ _ _ ((agrees_end size names _).agrees tokens 2))
    (choose size names name tokens (is_word (codes "finally") name) _ _ _ _ (one _ _ _ ((agrees_end size names _).agrees tokens 2))
    (choose size names name tokens (is_word (codes "never") name) _ _ _ _ (one _ _ _ (answer_ends tokens 2))
    (choose size names name tokens (is_word (codes "always") name) _ _ _ None (one _ _ _ (answer_ends tokens 2)) refl))))))))))))))))))))))

-- a line is a command just where nothing stops
command_ends : (size : PageSize) (names : Names) (tokens : List (List ℕ)) → is_ok (command_of size names tokens) ≡ ends (stop_of size names tokens)
unfolding command_of
command_ends size names [] = refl
command_ends size names (name ∷ tokens) = reads size names name tokens

-- WHAT GOES ON

-- each of these kinds has a token that is right
abbrev AreFit : PageSize → Names → List TokenKind → Type 0
AreFit size names [] = Unit {0}
AreFit size names (kind ∷ kinds) = ((token : List ℕ) × (is_of size names kind token ≡ true)) × AreFit size names kinds

fit_fpage : (size : PageSize) (names : Names) → is_of size names (Symbol Fpage) (codes "0") ≡ true
unfolding is_of symbol_of number_of decimal_of
fit_fpage size names = refl

plain_zero : is_number (codes "0") ≡ true
unfolding number_of decimal_of
plain_zero = refl

plain_control : (size : PageSize) → symbol_of Control size (codes "0") ≡ Some 0
unfolding symbol_of number_of decimal_of
plain_control size = refl

-- a plain fpage where more are counted
plain_step : (size : PageSize) (names : Names) (symbolic : Bool) (left number most : ℕ) (tokens : List (List ℕ))
    → fpages_stop size names symbolic (suc left) number (suc most) (codes "0" ∷ tokens) ≡ fpages_stop size names symbolic left (number + 1) most tokens
plain_step size names symbolic left number most tokens =
    let s : is_symbolic symbolic (codes "0") ≡ symbolic = ap (λ b. symbolic || not b) plain_zero ∙ or_false symbolic in
    let z : nat_eq (suc left) 0 ≡ false = grind (arith, nat_tests) in
    let p : suc left - 1 ≡ left = omega arith in
    ap (λ b. token_or_stop number (codes "0") (fpage_wrong size names b (suc left) (codes "0")) (fpages_stop size names b (suc left - 1) (number + 1) most tokens)) s
    ∙ ap (λ n. token_or_stop number (codes "0") (fpage_wrong size names symbolic (suc left) (codes "0")) (fpages_stop size names symbolic n (number + 1) most tokens)) p
    ∙ ap (λ b. token_or_stop number (codes "0") (cond (is_of size names (Symbol Fpage) (codes "0")) (cond (symbolic && b) (Some CountedEnd) None) (Some (symbol_expected FpageOrEnd (word_in Fpage size (codes "0"))))) (fpages_stop size names symbolic left (number + 1) most tokens)) z
    ∙ ap (λ b. token_or_stop number (codes "0") (cond (is_of size names (Symbol Fpage) (codes "0")) (cond b (Some CountedEnd) None) (Some (symbol_expected FpageOrEnd (word_in Fpage size (codes "0"))))) (fpages_stop size names symbolic left (number + 1) most tokens)) (and_false symbolic)
    ∙ ap (λ b. token_or_stop number (codes "0") (cond b None (Some (symbol_expected FpageOrEnd (word_in Fpage size (codes "0"))))) (fpages_stop size names symbolic left (number + 1) most tokens)) (fit_fpage size names)

-- fpages that are right to the end: as many as are left
fill_fpages : (size : PageSize) (names : Names) (symbolic : Bool) (left number most : ℕ) → left ≤ most → (more : List (List ℕ)) × (ends (fpages_stop size names symbolic left number most more) ≡ true)
fill_fpages size names symbolic zero number most fits = ([], ap (λ b. ends (cond b (missing number CountedFpage) None)) (and_false symbolic))
fill_fpages size names symbolic (suc left) number zero fits = absurd (omega (arith, fits))
fill_fpages size names symbolic (suc left) number (suc most) fits =
    let rest = fill_fpages size names symbolic left (number + 1) most (omega (arith, fits)) in
    (codes "0" ∷ rest.0, ap ends (plain_step size names symbolic left number most rest.0) ∙ rest.1)

fill_unmap : (size : PageSize) (names : Names) (number : ℕ) → (more : List (List ℕ)) × (ends (unmap_stop size names number more) ≡ true)
fill_unmap size names number = (
  codes "0" ∷ [],
  ap (λ o. ends (control_or_stop size names number (codes "0") [] o)) (plain_control size)
      ∙ ap (λ b. ends (short_stop (not b) (fpage_count 0) (number + 1))) plain_zero,
)

-- the rest may be left out, but for an answer and for an Unmap
rest_fill : (size : PageSize) (names : Names) (number : ℕ) (last : Rest) → (more : List (List ℕ)) × (ends (rest_stop size names number last more) ≡ true)
rest_fill size names number Nothing = ([], refl)
rest_fill size names number Message = ([], refl)
rest_fill size names number Unmap = fill_unmap size names number
rest_fill size names number Answer = (codes "none" ∷ [], refl)

-- tokens that are right to the end
fill : (size : PageSize) (names : Names) (kinds : List TokenKind) (number : ℕ) (last : Rest) → AreFit size names kinds → (more : List (List ℕ)) × (ends (kinds_stop size names number kinds last more) ≡ true)
fill size names [] number last given = rest_fill size names number last
fill size names (kind ∷ kinds) number last given =
    let rest = fill size names kinds (number + 1) last given.1 in
    (given.0.0 ∷ rest.0, ap (λ b. ends (cond b (kinds_stop size names (number + 1) kinds last rest.0) (wrong number given.0.0 (expected_at size kind given.0.0)))) given.0.1 ∙ rest.1)

-- Of what a function says of tokens, it stops at this one, the first of which has this number: tokens may go on before it, and not with it.
record StopsIn (S : List (List ℕ) → Option Place) (first : ℕ) (tokens : List (List ℕ)) (place : Place) (token : List ℕ) : Type 0 where
  pub before : List (List ℕ)
  pub after : List (List ℕ)
  pub parts : tokens ≡ before ++ token ∷ after
  pub number_is : place.number ≡ first + length before
  pub goes_on : (more : List (List ℕ)) × (ends (S (before ++ more)) ≡ true)
  pub stops : (more : List (List ℕ)) → ends (S (before ++ token ∷ more)) ≡ false

abbrev IsAt : Option (List ℕ) → (List (List ℕ) → Option Place) → ℕ → List (List ℕ) → Place → Type 0
IsAt None S first tokens place = (place.number ≡ first + length tokens) × ((more : List (List ℕ)) × (ends (S (tokens ++ more)) ≡ true))
IsAt (Some token) S first tokens place = StopsIn S first tokens place token

-- behind a token that is right
later : (o : Option (List ℕ)) (S T : List (List ℕ) → Option Place) (first : ℕ) (token : List ℕ) (tokens : List (List ℕ)) (place : Place) → ((xs : List (List ℕ)) → S (token ∷ xs) ≡ T xs)
    → IsAt o T (first + 1) tokens place → IsAt o S first (token ∷ tokens) place
later None S T first token tokens place same at = (omega (arith, at.0), (at.1.0, ap ends (same (tokens ++ at.1.0)) ∙ at.1.1))
later (Some wrong) S T first token tokens place same at = record {
  before = token ∷ at.before;
  after = at.after;
  parts = ap (λ xs. token ∷ xs) at.parts;
  number_is = omega (arith, at.number_is);
  goes_on = (at.goes_on.0, ap ends (same (at.before ++ at.goes_on.0)) ∙ at.goes_on.1);
  stops = λ more. ap ends (same (at.before ++ wrong ∷ more)) ∙ at.stops more;
}

here : (S : List (List ℕ) → Option Place) (first : ℕ) (token : List ℕ) (tokens : List (List ℕ)) (place : Place) → place.number ≡ first → (more : List (List ℕ)) × (ends (S more) ≡ true)
    → ((more : List (List ℕ)) → ends (S (token ∷ more)) ≡ false) → StopsIn S first (token ∷ tokens) place token
here S first token tokens place is goes stops = record { before = []; after = tokens; parts = refl; number_is = omega (arith, is); goes_on = goes; stops = stops }

no_stop : (place : Place) → None ≡ Some place → ⊥
no_stop place is = false≢true (sym (ap ends is))

-- THE STOP

-- a stop at the first token
stop_here : (S : List (List ℕ) → Option Place) (first : ℕ) (token : List ℕ) (tokens : List (List ℕ)) (expected : Expected) (place : Place) → Some (record { number = first; token = Some token; expected = expected }) ≡ Some place
    → (more : List (List ℕ)) × (ends (S more) ≡ true) → ((more : List (List ℕ)) → ends (S (token ∷ more)) ≡ false) → IsAt place.token S first (token ∷ tokens) place
stop_here S first token tokens expected place is goes stops =
    subst (λ (p : Place). IsAt p.token S first (token ∷ tokens) p) (same_Some _ _ is) (here S first token tokens _ refl goes stops)

end_at : (first : ℕ) (tokens : List (List ℕ)) (place : Place) → end_stop first tokens ≡ Some place → IsAt place.token (end_stop first) first tokens place
end_at first [] place is = absurd (no_stop place is)
end_at first (token ∷ tokens) place is = stop_here (end_stop first) first token tokens LineEnd place is ([], refl) (λ more. refl)

-- a token that is an fpage, or is wrong
fpage_case : (o : Option Expected) (size : PageSize) (names : Names) (symbolic : Bool) (left most first : ℕ) (token : List ℕ) (tokens : List (List ℕ)) (place : Place) → left ≤ suc most
    → fpage_wrong size names (is_symbolic symbolic token) left token ≡ o
    → token_or_stop first token o (fpages_stop size names (is_symbolic symbolic token) (left - 1) (first + 1) most tokens) ≡ Some place
    → (fpages_stop size names (is_symbolic symbolic token) (left - 1) (first + 1) most tokens ≡ Some place
    → IsAt place.token (fpages_stop size names (is_symbolic symbolic token) (left - 1) (first + 1) most) (first + 1) tokens place)
    → IsAt place.token (fpages_stop size names symbolic left first (suc most)) first (token ∷ tokens) place
fpage_case None size names symbolic left most first token tokens place fits fit is rest =
    later place.token (fpages_stop size names symbolic left first (suc most)) (fpages_stop size names (is_symbolic symbolic token) (left - 1) (first + 1) most) first token tokens place
    (λ xs. ap (λ (o : Option Expected). token_or_stop first token o (fpages_stop size names (is_symbolic symbolic token) (left - 1) (first + 1) most xs)) fit) (rest is)
fpage_case (Some expected) size names symbolic left most first token tokens place fits fit is rest =
    stop_here (fpages_stop size names symbolic left first (suc most)) first token tokens expected place is (fill_fpages size names symbolic left first (suc most) fits)
    (λ more. ap (λ (o : Option Expected). ends (token_or_stop first token o (fpages_stop size names (is_symbolic symbolic token) (left - 1) (first + 1) most more))) fit)

short_case : (b : Bool) (size : PageSize) (names : Names) (symbolic : Bool) (left most first : ℕ) (place : Place) → left ≤ most → cond b (missing first CountedFpage) None ≡ Some place
    → IsAt place.token (fpages_stop size names symbolic left first most) first [] place
short_case true size names symbolic left most first place fits is =
    let n : first ≡ first + length {A = List ℕ} [] = omega arith in
    subst (λ (p : Place). IsAt p.token (fpages_stop size names symbolic left first most) first [] p) (same_Some _ _ is) (n, fill_fpages size names symbolic left first most fits)
short_case false size names symbolic left most first place fits is = absurd (no_stop place is)

fpages_at : (size : PageSize) (names : Names) (symbolic : Bool) (left most first : ℕ) (tokens : List (List ℕ)) (place : Place) → left ≤ most → fpages_stop size names symbolic left first most tokens ≡ Some place
    → IsAt place.token (fpages_stop size names symbolic left first most) first tokens place
fpages_at size names symbolic left most first [] place fits is = short_case (symbolic && nat_lt 0 left) size names symbolic left most first place fits is
fpages_at size names symbolic left zero first (token ∷ tokens) place fits is =
    stop_here (fpages_stop size names symbolic left first zero) first token tokens LineEnd place is (fill_fpages size names symbolic left first zero fits) (λ more. refl)
fpages_at size names symbolic left (suc most) first (token ∷ tokens) place fits is =
    fpage_case (fpage_wrong size names (is_symbolic symbolic token) left token) size names symbolic left most first token tokens place fits refl is
    (λ h. fpages_at size names (is_symbolic symbolic token) (left - 1) most (first + 1) tokens place (omega (arith, fits)) h)

control_case : (o : Option ℕ) (size : PageSize) (names : Names) (first : ℕ) (token : List ℕ) (tokens : List (List ℕ)) (place : Place) → symbol_of Control size token ≡ o
    → control_or_stop size names first token tokens o ≡ Some place → IsAt place.token (unmap_stop size names first) first (token ∷ tokens) place
control_case None size names first token tokens place fit is =
    stop_here (unmap_stop size names first) first token tokens _ place is (fill_unmap size names first)
    (λ more. ap (λ (o : Option ℕ). ends (control_or_stop size names first token more o)) fit)
control_case (Some control) size names first token tokens place fit is =
    let fits : fpage_count control ≤ 64 = omega arith in
    later place.token (unmap_stop size names first) (fpages_stop size names (not (is_number token)) (fpage_count control) (first + 1) 64) first token tokens place
    (λ xs. ap (λ (o : Option ℕ). control_or_stop size names first token xs o) fit)
    (fpages_at size names (not (is_number token)) (fpage_count control) 64 (first + 1) tokens place fits is)

unmap_at : (size : PageSize) (names : Names) (first : ℕ) (tokens : List (List ℕ)) (place : Place) → unmap_stop size names first tokens ≡ Some place → IsAt place.token (unmap_stop size names first) first tokens place
unmap_at size names first [] place is =
    let n : first ≡ first + length {A = List ℕ} [] = omega arith in
    subst (λ (p : Place). IsAt p.token (unmap_stop size names first) first [] p) (same_Some _ _ is) (n, fill_unmap size names first)
unmap_at size names first (token ∷ tokens) place is = control_case (symbol_of Control size token) size names first token tokens place refl is

row_case : (r : Result Row Reason) (size : PageSize) (otherwise : Expected) (S : List (List ℕ) → Option Place) (first : ℕ) (token : List ℕ) (tokens : List (List ℕ)) (place : Place)
    → ((xs : List (List ℕ)) → S (token ∷ xs) ≡ row_or_stop first token otherwise r (λ next. row_stop size (first + 1) xs next))
    → ends (S []) ≡ true → row_or_stop first token otherwise r (λ next. row_stop size (first + 1) tokens next) ≡ Some place
    → ((next : Row) → row_stop size (first + 1) tokens next ≡ Some place → IsAt place.token (λ xs. row_stop size (first + 1) xs next) (first + 1) tokens place)
    → IsAt place.token S first (token ∷ tokens) place
row_case (Ok next) size otherwise S first token tokens place same free is rest = later place.token S (λ xs. row_stop size (first + 1) xs next) first token tokens place same (rest next is)
row_case (Err reason) size otherwise S first token tokens place same free is rest =
    stop_here S first token tokens _ place is ([], free) (λ more. ap ends (same more))

row_at : (size : PageSize) (first : ℕ) (tokens : List (List ℕ)) (row : Row) (place : Place) → row_stop size first tokens row ≡ Some place → IsAt place.token (λ xs. row_stop size first xs row) first tokens place
row_at size first [] row place is = absurd (no_stop place is)
row_at size first (token ∷ tokens) row place is =
    row_case (row_added size token row) size WordOrEnd (λ xs. row_stop size first xs row) first token tokens place (λ xs. refl) refl is (λ next h. row_at size (first + 1) tokens next place h)

message_at : (size : PageSize) (first : ℕ) (tokens : List (List ℕ)) (place : Place) → message_stop size first tokens ≡ Some place → IsAt place.token (message_stop size first) first tokens place
message_at size first [] place is = absurd (no_stop place is)
message_at size first (token ∷ tokens) place is =
    row_case (row_begun token) size TagOrEnd (message_stop size first) first token tokens place (λ xs. refl) refl is (λ next h. row_at size (first + 1) tokens next place h)

answer_at : (first : ℕ) (tokens : List (List ℕ)) (place : Place) → answer_stop first tokens ≡ Some place → IsAt place.token (answer_stop first) first tokens place
answer_at first [] place is =
    let n : first ≡ first + length {A = List ℕ} [] = omega arith in
    subst (λ (p : Place). IsAt p.token (answer_stop first) first [] p) (same_Some _ _ is) (n, (codes "none" ∷ [], refl))
answer_at first (token ∷ tokens) place is = absurd (no_stop place is)

rest_at : (size : PageSize) (names : Names) (last : Rest) (first : ℕ) (tokens : List (List ℕ)) (place : Place) → rest_stop size names first last tokens ≡ Some place → IsAt place.token (rest_stop size names first last) first tokens place
rest_at size names Nothing first tokens place is = end_at first tokens place is
rest_at size names Message first tokens place is = message_at size first tokens place is
rest_at size names Unmap first tokens place is = unmap_at size names first tokens place is
rest_at size names Answer first tokens place is = answer_at first tokens place is

kind_case : (b : Bool) (size : PageSize) (names : Names) (kind : TokenKind) (kinds : List TokenKind) (last : Rest) (first : ℕ) (token : List ℕ) (tokens : List (List ℕ)) (place : Place) → AreFit size names (kind ∷ kinds) → is_of size names kind token ≡ b
    → cond b (kinds_stop size names (first + 1) kinds last tokens) (wrong first token (expected_at size kind token)) ≡ Some place
    → (kinds_stop size names (first + 1) kinds last tokens ≡ Some place → IsAt place.token (kinds_stop size names (first + 1) kinds last) (first + 1) tokens place)
    → IsAt place.token (kinds_stop size names first (kind ∷ kinds) last) first (token ∷ tokens) place
kind_case true size names kind kinds last first token tokens place given fit is rest =
    later place.token (kinds_stop size names first (kind ∷ kinds) last) (kinds_stop size names (first + 1) kinds last) first token tokens place
    (λ xs. ap (λ b. cond b (kinds_stop size names (first + 1) kinds last xs) (wrong first token (expected_at size kind token))) fit) (rest is)
kind_case false size names kind kinds last first token tokens place given fit is rest =
    stop_here (kinds_stop size names first (kind ∷ kinds) last) first token tokens _ place is (fill size names (kind ∷ kinds) first last given)
    (λ more. ap (λ b. ends (cond b (kinds_stop size names (first + 1) kinds last more) (wrong first token (expected_at size kind token)))) fit)

kinds_at : (size : PageSize) (names : Names) (kinds : List TokenKind) (last : Rest) (first : ℕ) (tokens : List (List ℕ)) (place : Place) → AreFit size names kinds → kinds_stop size names first kinds last tokens ≡ Some place → IsAt place.token (kinds_stop size names first kinds last) first tokens place
kinds_at size names [] last first tokens place given is = rest_at size names last first tokens place is
kinds_at size names (kind ∷ kinds) last first [] place given is =
    let n : first ≡ first + length {A = List ℕ} [] = omega arith in
    subst (λ (p : Place). IsAt p.token (kinds_stop size names first (kind ∷ kinds) last) first [] p) (same_Some _ _ is) (n, fill size names (kind ∷ kinds) first last given)
kinds_at size names (kind ∷ kinds) last first (token ∷ tokens) place given is =
    kind_case (is_of size names kind token) size names kind kinds last first token tokens place given refl is (λ h. kinds_at size names kinds last (first + 1) tokens place given.1 h)

-- THE FORMS

abbrev Fit : PageSize → Names → TokenKind → Type 0
Fit size names kind = (token : List ℕ) × (is_of size names kind token ≡ true)

fit_thread : (size : PageSize) (names : Names) → Fit size names ThreadNumber
unfolding is_of thread_of number_of decimal_of
fit_thread size names = (codes "1", refl)

fit_new : (size : PageSize) (names : Names) → Fit size names ThreadOrNew
unfolding is_of new_space_of
fit_new size names = (codes "new", refl)

fit_nil : (size : PageSize) (names : Names) → Fit size names ThreadOrNil
unfolding is_of nil_or_thread_of
fit_nil size names = (codes "nil", refl)

fit_any : (size : PageSize) (names : Names) → Fit size names ThreadNilOrAny
unfolding is_of partner_of
fit_any size names = (codes "any", refl)

fit_number : (size : PageSize) (names : Names) → Fit size names Number
unfolding is_of number_of decimal_of
fit_number size names = (codes "0", refl)

fit_name : (size : PageSize) (names : Names) → Fit size names NewName
unfolding is_of new_name_of is_language_word is_name
fit_name size names = (codes "a", refl)

fit_rights : (size : PageSize) (names : Names) → Fit size names Rights
unfolding is_of rights_of
fit_rights size names = (codes "rwx", refl)

-- a number fits wherever a symbolic token does
fit_symbol : (kind : WordKind) (size : PageSize) (names : Names) → Fit size names (Symbol kind)
unfolding is_of symbol_of number_of decimal_of
fit_symbol kind size names = (codes "0", refl)

abbrev IsFit : PageSize → Names → Option Shape → Type 0
IsFit size names None = Unit {0}
IsFit size names (Some shape) = AreFit size names shape.kinds

fit_choose : (size : PageSize) (names : Names) (b : Bool) (f g : Option Shape) → IsFit size names f → IsFit size names g → IsFit size names (cond b f g)
fit_choose size names true f g p q = p
fit_choose size names false f g p q = q

pager_fit : (size : PageSize) (names : Names) (name : List ℕ) → IsFit size names (pager_shape_of name)
pager_fit size names name =
    fit_choose size names (is_word (codes "fault") name) _ _ (fit_thread size names, (fit_number size names, (fit_number size names, (fit_rights size names, tt))))
    (fit_choose size names (is_word (codes "region") name) _ _ (fit_thread size names, (fit_number size names, (fit_number size names, (fit_number size names, (fit_rights size names, tt)))))
    (fit_choose size names (is_word (codes "serve") name) _ _ (fit_thread size names, tt)
    (fit_choose size names (is_word (codes "name") name) _ _ (fit_name size names, (fit_thread size names, tt))
    (fit_choose size names (is_word (codes "reply") name) _ _ (fit_thread size names, tt)
    (fit_choose size names (is_word (codes "timeout") name) _ _ (fit_thread size names, tt)
    (fit_choose size names (is_word (codes "cancel") name) _ _ (fit_thread size names, tt)
    (fit_choose size names (is_word (codes "steps") name) _ _ tt
    (fit_choose size names (is_word (codes "unordered") name) _ _ tt
    (fit_choose size names (is_word (codes "finally") name) _ _ tt
    (fit_choose size names (is_word (codes "never") name) _ _ tt
    (fit_choose size names (is_word (codes "always") name) _ None tt tt)))))))))))

all_fit : (size : PageSize) (names : Names) (name : List ℕ) → IsFit size names (shape_of name)
all_fit size names name =
    fit_choose size names (is_word (codes "thread") name) _ _ (fit_thread size names, (fit_new size names, (fit_nil size names, tt)))
    (fit_choose size names (is_word (codes "setpager") name) _ _ (fit_thread size names, (fit_nil size names, tt))
    (fit_choose size names (is_word (codes "delete") name) _ _ (fit_thread size names, tt)
    (fit_choose size names (is_word (codes "recv") name) _ _ (fit_thread size names, (fit_any size names, (fit_symbol Window size names, tt)))
    (fit_choose size names (is_word (codes "send") name) _ _ (fit_thread size names, (fit_any size names, tt))
    (fit_choose size names (is_word (codes "ipc") name) _ _ (fit_thread size names, (fit_any size names, (fit_any size names, (fit_symbol Timeouts size names, (fit_symbol Window size names, tt)))))
    (fit_choose size names (is_word (codes "delegate") name) _ _ (fit_thread size names, (fit_any size names, (fit_number size names, (fit_number size names, (fit_number size names, (fit_rights size names, tt))))))
    (fit_choose size names (is_word (codes "part") name) _ _ (fit_thread size names, (fit_any size names, (fit_number size names, (fit_number size names, (fit_number size names, (fit_number size names, (fit_rights size names, tt)))))))
    (fit_choose size names (is_word (codes "unmap") name) _ _ (fit_thread size names, tt)
    (fit_choose size names (is_word (codes "show") name) _ _ (fit_thread size names, (fit_number size names, (fit_number size names, tt)))
    (fit_choose size names (is_word (codes "parent") name) _ _ (fit_thread size names, (fit_number size names, tt))
    (pager_fit size names name)))))))))))

-- LINES

begins : (size : PageSize) (names : Names) (tokens more : List (List ℕ)) → is_ok (command_of size names (tokens ++ more)) ≡ true → BeginsCommand size names tokens
begins size names tokens more is = (more, is)

begins_nothing : (size : PageSize) (names : Names) → BeginsCommand size names []
unfolding command_of
begins_nothing size names = (codes "steps" ∷ [], refl)

not_begun : (size : PageSize) (names : Names) (tokens : List (List ℕ)) → ((more : List (List ℕ)) → is_ok (command_of size names (tokens ++ more)) ≡ false) → BeginsCommand size names tokens → ⊥
not_begun size names tokens never b = false≢true (sym (never b.0) ∙ b.1)

stops_there : (size : PageSize) (names : Names) (o : Option (List ℕ)) (S : List (List ℕ) → Option Place) (name : List ℕ) (tokens : List (List ℕ)) (place : Place) → ((xs : List (List ℕ)) → is_ok (command_of size names (name ∷ xs)) ≡ ends (S xs)) → S tokens ≡ Some place
    → IsAt o S 2 tokens place → StopsThere size names (name ∷ tokens) place o
stops_there size names None S name tokens place same is at = (
  omega (arith, at.0),
  begins size names (name ∷ tokens) at.1.0 (same (tokens ++ at.1.0) ∙ at.1.1),
  λ h. false≢true (sym (same tokens ∙ ap ends is) ∙ h),
)
stops_there size names (Some token) S name tokens place same is at = (
  name ∷ at.before,
  at.after,
  ap (λ xs. name ∷ xs) at.parts,
  omega (arith, at.number_is),
  begins size names (name ∷ at.before) at.goes_on.0 (same (at.before ++ at.goes_on.0) ∙ at.goes_on.1),
  not_begun size names ((name ∷ at.before) ++ token ∷ [])
      (λ more. ap (λ xs. is_ok (command_of size names (name ∷ xs))) (append_assoc at.before (token ∷ []) more) ∙ same (at.before ++ token ∷ more) ∙ at.stops more),
)

shape_at : (size : PageSize) (names : Names) (o : Option Shape) (name : List ℕ) (tokens : List (List ℕ)) (place : Place) → shape_of name ≡ o → IsFit size names o → shape_stop size names o name tokens ≡ Some place → StopsThere size names (name ∷ tokens) place place.token
shape_at size names None name tokens place form fit is =
    subst (λ (p : Place). StopsThere size names (name ∷ tokens) p p.token) (same_Some _ _ is)
    ([], tokens, refl, refl, begins_nothing size names, not_begun size names (name ∷ []) (λ more. reads size names name more ∙ ap (λ f. ends (shape_stop size names f name more)) form))
shape_at size names (Some shape) name tokens place form fit is =
    stops_there size names place.token (kinds_stop size names 2 shape.kinds shape.rest) name tokens place (λ xs. reads size names name xs ∙ ap (λ f. ends (shape_stop size names f name xs)) form) is
    (kinds_at size names shape.kinds shape.rest 2 tokens place fit is)

stop_case : (size : PageSize) (names : Names) (tokens : List (List ℕ)) (o : Option Place) → stop_of size names tokens ≡ o → IsStop size names tokens o
unfolding command_of
stop_case size names tokens None is = command_ends size names tokens ∙ ap ends is
stop_case size names [] (Some place) is =
    subst (λ (p : Place). StopsThere size names [] p p.token) (same_Some _ _ is) (refl, begins_nothing size names, λ h. false≢true h)
stop_case size names (name ∷ tokens) (Some place) is = shape_at size names (shape_of name) name tokens place refl (all_fit size names name) is

-- A line's stop is where no command goes on.
pub stop_right : (size : PageSize) (names : Names) (tokens : List (List ℕ)) (o : Option Place) → o ≡ stop_of size names tokens → IsStop size names tokens o
stop_right size names tokens o is = stop_case size names tokens o (sym is)

-- THE LOOPS

-- an fpage more than there may be
pub fpages_over : (size : PageSize) (names : Names) (symbolic any : Bool) (counted left first most : ℕ) (line rest : List (List ℕ)) (at few number : ℕ)
    → fpages_stop size names symbolic counted first most line ≡ fpages_stop size names any left at few rest → left ≤ few → few ≡ 0 → at ≡ number
    → end_stop number rest ≡ fpages_stop size names symbolic counted first most line
fpages_over size names symbolic any counted left first most line [] at few number is fits none there =
    let f : nat_lt 0 left ≡ false = grind (arith, nat_tests) in
    sym (is ∙ ap (λ b. cond (any && b) (missing at CountedFpage) None) f ∙ ap (λ b. cond b (missing at CountedFpage) None) (and_false any))
fpages_over size names symbolic any counted left first most line (token ∷ tokens) at few number is fits none there =
    sym (is ∙ ap (λ m. fpages_stop size names any left at m (token ∷ tokens)) none ∙ ap (λ (n : ℕ). wrong n token LineEnd) there)

-- the end of the fpages
pub fpages_short : (size : PageSize) (names : Names) (symbolic any : Bool) (counted left first most : ℕ) (line rest : List (List ℕ)) (at few : ℕ)
    → fpages_stop size names symbolic counted first most line ≡ fpages_stop size names any left at few rest → rest ≡ []
    → short_stop any left at ≡ fpages_stop size names symbolic counted first most line
fpages_short size names symbolic any counted left first most line rest at few is none = sym (is ∙ ap (fpages_stop size names any left at few) none)

-- a token in the place of the next fpage
pub fpages_next : (size : PageSize) (names : Names) (symbolic any : Bool) (counted left first most : ℕ) (line rest tokens : List (List ℕ)) (token : List ℕ) (at few more : ℕ) (o : Option Expected)
    → fpages_stop size names symbolic counted first most line ≡ fpages_stop size names any left at few rest → rest ≡ token ∷ tokens → few ≡ suc more
    → o ≡ fpage_wrong size names (is_symbolic any token) left token
    → fpages_stop size names symbolic counted first most line ≡ token_or_stop at token o (fpages_stop size names (is_symbolic any token) (left - 1) (at + 1) more tokens)
fpages_next size names symbolic any counted left first most line rest tokens token at few more o is parts some fit =
    is ∙ ap (fpages_stop size names any left at few) parts ∙ ap (λ m. fpages_stop size names any left at m (token ∷ tokens)) some
    ∙ ap (λ (e : Option Expected). token_or_stop at token e (fpages_stop size names (is_symbolic any token) (left - 1) (at + 1) more tokens)) (sym fit)

-- a token of a message
pub row_next : (size : PageSize) (first number : ℕ) (begun row next : Row) (line rest tokens : List (List ℕ)) (token : List ℕ) → row_stop size first line begun ≡ row_stop size number rest row → rest ≡ token ∷ tokens
    → row_added size token row ≡ Ok next → row_stop size first line begun ≡ row_stop size (number + 1) tokens next
row_next size first number begun row next line rest tokens token is parts added =
    is ∙ ap (λ ts. row_stop size number ts row) parts ∙ ap (λ (r : Result Row Reason). row_or_stop number token WordOrEnd r (λ x. row_stop size (number + 1) tokens x)) added

-- a token that no message has there
pub row_wrong : (size : PageSize) (first number : ℕ) (begun row : Row) (reason : Reason) (line rest tokens : List (List ℕ)) (token : List ℕ) → row_stop size first line begun ≡ row_stop size number rest row → rest ≡ token ∷ tokens
    → row_added size token row ≡ Err reason → wrong number token (expected_for WordOrEnd reason) ≡ row_stop size first line begun
row_wrong size first number begun row reason line rest tokens token is parts fails =
    sym (is ∙ ap (λ ts. row_stop size number ts row) parts ∙ ap (λ (r : Result Row Reason). row_or_stop number token WordOrEnd r (λ x. row_stop size (number + 1) tokens x)) fails)

-- the end of a message
pub row_over : (size : PageSize) (first number : ℕ) (begun row : Row) (line rest : List (List ℕ)) → row_stop size first line begun ≡ row_stop size number rest row → rest ≡ [] → None ≡ row_stop size first line begun
row_over size first number begun row line rest is none = sym (is ∙ ap (λ ts. row_stop size number ts row) none)
