-- Tokens that are read one after another.
use Rattle.std.proofs.Common.{◌≡◌, ℕ, ◌<◌, ◌≤◌, true, false, cond, List, [], ◌∷◌, Option, Some, None, ok_or, is_some, nat_lt, sym, ap, ◌∙◌, refl, arith, codes}
use Rattle.std.proofs.lemmas.Bool.{false≢true}
use Rattle.std.proofs.lemmas.Bool.Decides.{nat_tests}
use Rattle.std.proofs.lemmas.Slice.Eq.{bytes_eq-Decides}
use Rattle.l4_names.specs.Names.{Names, thread_named}
use Rattle.std.specs.Option.{option_map_or, option_and_then}
use Rattle.std.specs.Option.{option_or}
use Rattle.std.specs.Result.{result_ok}
use Rattle.l4_fpage.specs.Rights.{RightsSet}
use Rattle.l4_fpage.specs.declared.sizes.PageSize.{PageSize}
use Rattle.l4_symbols.specs.Computed.{word_in}
use Rattle.l4_symbols.specs.declared.words.WordKind.{WordKind}
use Rattle.std.specs.Str.{bytes_eq}
use Rattle.l4_text.specs.Numbers.{number_of, decimal_of, hex_of, below}
use Rattle.l4_text.specs.Tokens.{tokens_of, FirstNumber}
use Rattle.l4_text.specs.Grammar.{◌>>=◌}
use Rattle.l4_commands.specs.Commands.{first_by, no_more, thread_of, nil_or_thread_of, partner_of, last_rights_of, rights_of, symbol_of, command_of, asked}
use Rattle.l4_commands.specs.declared.partners.Partner.TheVariants.{Nil, Any, Thread}
use Rattle.l4_commands.specs.declared.commands.ScriptFault.TheVariants.{BadTokens}

-- ---- a token that a number spells

-- what is read of a line's first token, where that spells a number
pub read_number : {A : Type 0} (f : List ℕ → Option A) (line after : List ℕ) (n : ℕ) (o : Option A) → FirstNumber line (Some n) after
    → ((token : List ℕ) → Some n ≡ number_of token → f token ≡ o) → option_and_then (λ a. Some (a, tokens_of after)) o ≡ first_by f (tokens_of line)
read_number f line after n o first reads =
    ap (λ q. option_and_then (λ a. Some (a, tokens_of after)) q) (sym (reads first.0 first.2)) ∙ ap (λ ts. first_by f ts) (sym first.1)

pub thread_few : (names : Names) (n : ℕ) (token : List ℕ) → n < 262144 → Some n ≡ number_of token → thread_of names token ≡ Some n
unfolding thread_of
thread_few names n token few is =
    let t : nat_lt n 262144 ≡ true = grind (arith, nat_tests) in
    ap (λ o. option_map_or (λ k. below 262144 (Some k)) o (thread_named names token)) (sym is) ∙ ap (λ b. cond b (Some n) None) t

pub thread_many : (names : Names) (n : ℕ) (token : List ℕ) → 262144 ≤ n → Some n ≡ number_of token → thread_of names token ≡ None
unfolding thread_of
thread_many names n token many is =
    let f : nat_lt n 262144 ≡ false = grind (arith, nat_tests) in
    ap (λ o. option_map_or (λ k. below 262144 (Some k)) o (thread_named names token)) (sym is) ∙ ap (λ b. cond b (Some n) None) f

-- a word that spells no number isn't the token
no_word : (word token : List ℕ) (n : ℕ) → number_of word ≡ None → Some n ≡ number_of token → bytes_eq token word ≡ false
no_word word token n none is =
    elim (bytes_eq token word) as (λ b. bytes_eq token word ≡ b → b ≡ false) [
      | false ↦ λ _. refl
      | true ↦ λ t.
          let same : token ≡ word = (bytes_eq-Decides token word).0 t in
          absurd (false≢true (ap is_some (sym (is ∙ ap number_of same ∙ none))))
    ] refl

no_any : number_of (codes "any") ≡ None
unfolding number_of decimal_of hex_of
no_any = refl

no_nil : number_of (codes "nil") ≡ None
unfolding number_of decimal_of hex_of
no_nil = refl

partner_is : (names : Names) (n : ℕ) (token : List ℕ) → Some n ≡ number_of token → partner_of names token ≡ option_and_then (λ k. Some (Thread k)) (thread_of names token)
unfolding partner_of nil_or_thread_of
partner_is names n token is =
    ap (λ b. cond b (Some Any) (nil_or_thread_of names token)) (no_word (codes "any") token n no_any is)
    ∙ ap (λ b. cond b (Some Nil) (option_and_then (λ k. Some (Thread k)) (thread_of names token))) (no_word (codes "nil") token n no_nil is)

pub partner_few : (names : Names) (n : ℕ) (token : List ℕ) → n < 262144 → Some n ≡ number_of token → partner_of names token ≡ Some (Thread n)
partner_few names n token few is = partner_is names n token is ∙ ap (λ o. option_and_then (λ k. Some (Thread k)) o) (thread_few names n token few is)

pub partner_many : (names : Names) (n : ℕ) (token : List ℕ) → 262144 ≤ n → Some n ≡ number_of token → partner_of names token ≡ None
partner_many names n token many is = partner_is names n token is ∙ ap (λ o. option_and_then (λ k. Some (Thread k)) o) (thread_many names n token many is)

-- a number is the word itself
pub symbol_number : (kind : WordKind) (size : PageSize) (n : ℕ) (token : List ℕ) → Some n ≡ number_of token → symbol_of kind size token ≡ Some n
unfolding symbol_of
symbol_number kind size n token is = ap (λ o. option_or o (result_ok (word_in kind size token))) (sym is)

-- the rights of the one token that is left
pub rights_alone : (token : List ℕ) → rights_of token ≡ last_rights_of (token ∷ [])
rights_alone token = elim (rights_of token) as (λ (o : Option RightsSet). o ≡ ((o >>= λ z. Some (z, [])) >>= λ (z : RightsSet × List (List ℕ)). no_more z.0 z.1)) [
  | None ↦ refl
  | Some z ↦ refl
]

-- ---- the commands of most lines

pub in_size : (size own : PageSize) (names : Names) (tokens : List (List ℕ)) → size ≡ own → command_of size names tokens ≡ command_of own names tokens
in_size size own names tokens is = ap (λ (z : PageSize). command_of z names tokens) is

pub recv_is : (size : PageSize) (names : Names) (name : List ℕ) (tokens : List (List ℕ)) → bytes_eq name (codes "recv") ≡ true → ok_or (asked size names (codes "recv") tokens) BadTokens ≡ command_of size names (name ∷ tokens)
unfolding command_of
recv_is size names name tokens is = ap (λ n. command_of size names (n ∷ tokens)) (sym ((bytes_eq-Decides name (codes "recv")).0 is))

pub send_is : (size : PageSize) (names : Names) (name : List ℕ) (tokens : List (List ℕ)) → bytes_eq name (codes "send") ≡ true → ok_or (asked size names (codes "send") tokens) BadTokens ≡ command_of size names (name ∷ tokens)
unfolding command_of
send_is size names name tokens is = ap (λ n. command_of size names (n ∷ tokens)) (sym ((bytes_eq-Decides name (codes "send")).0 is))

pub ipc_is : (size : PageSize) (names : Names) (name : List ℕ) (tokens : List (List ℕ)) → bytes_eq name (codes "ipc") ≡ true → ok_or (asked size names (codes "ipc") tokens) BadTokens ≡ command_of size names (name ∷ tokens)
unfolding command_of
ipc_is size names name tokens is = ap (λ n. command_of size names (n ∷ tokens)) (sym ((bytes_eq-Decides name (codes "ipc")).0 is))

pub fault_is : (size : PageSize) (names : Names) (name : List ℕ) (tokens : List (List ℕ)) → bytes_eq name (codes "fault") ≡ true → ok_or (asked size names (codes "fault") tokens) BadTokens ≡ command_of size names (name ∷ tokens)
unfolding command_of
fault_is size names name tokens is = ap (λ n. command_of size names (n ∷ tokens)) (sym ((bytes_eq-Decides name (codes "fault")).0 is))
