-- A token names one fpage, window or timeouts word, and that word is read as it.
use Rattle.std.proofs.Common.{◌≡◌, ℕ, ◌*◌, ◌/◌, ◌%◌, Bool, true, false, not, ◌&&◌, ◌||◌, List, Result, Ok, Err, sym, ap, ◌∙◌, subst, refl, arith}
use Rattle.l4_fpage.specs.Fpages.{ReadsAs, rights_of, fpage_word, HoldsPage}
use Rattle.l4_fpage.specs.Rights.{no_rights, bits_of}
use Rattle.l4_fpage.specs.declared.fpages.Fpage.{Fpage}
use Rattle.l4_fpage.specs.declared.fpages.Fpage.TheVariants.{Nil, Complete, Sized}
use Rattle.l4_fpage.specs.declared.sizes.PageSize.{PageSize}
use Rattle.l4_fpage.specs.declared.sizes.PageSize.TheVariants.{Kib4, Kib1}
use Rattle.l4_fpage.proofs.Same.{reads_same}
use Rattle.l4_fpage.proofs.Written.{word_reads}
use Rattle.l4_fpage.proofs.Powers.{aligned_down}
use Rattle.l4_ipc.specs.Constructors.{timeout_bits}
use Rattle.l4_ipc.specs.Start.{send_timeout, receive_timeout, has_bad_timeout, has_send, has_receive, is_timeout}
use Rattle.l4_ipc.specs.declared.calls.IpcCall.{IpcCall}
use Rattle.l4_ipc.specs.declared.constructors.Timeout.{Timeout}
use Rattle.l4_ipc.specs.declared.constructors.Timeout.TheVariants.{Never, Zero}
use Rattle.l4_msg.specs.Moves.{complete}
use Rattle.l4_msg.specs.Words.{WindowReads}
use Rattle.l4_symbols.specs.Items.{IsFpageOf}
use Rattle.l4_symbols.specs.Spelling.{◌>>=◌, fpage_in, window_in, timeouts_in}
use Rattle.l4_symbols.specs.Words.{FpageWord, IsInWindow, IsWindowOf, NamesFpage, NamesWindow, WindowWord, timeouts_word, word_of_timeouts}
use Rattle.l4_symbols.specs.declared.reasons.Reason.{Reason}
use Rattle.l4_symbols.specs.declared.spelling.FpageParts.{FpageParts}
use Rattle.l4_symbols.specs.declared.spelling.WindowParts.{WindowParts}
use Rattle.l4_symbols.specs.declared.spelling.WindowParts.TheVariants.{All, Nothing, Run}
use Rattle.l4_symbols.proofs.Named.{one_fpage, names_pages}

-- what is read is read as one value
pub one_reading : {A : Type 0} (read : Result A Reason) (a b : A) → read ≡ Ok a → read ≡ Ok b → a ≡ b
one_reading read a b x y = cc

-- a token names one fpage
one_fpage_named : (size : PageSize) (token : List ℕ) (f g : Fpage) → NamesFpage size token f → NamesFpage size token g → f ≡ g
one_fpage_named size token f g x y =
    let same : x.0 ≡ y.0 = one_reading (fpage_in token) x.0 y.0 x.1 y.1 in
    one_fpage size y.0.pages y.0.rights f g (subst (λ (p : FpageParts). IsFpageOf size p.pages p.rights f) same x.2) y.2

pub fpage_once : (size : PageSize) (token : List ℕ) (a b : ℕ) → FpageWord size token a → FpageWord size token b → a ≡ b
fpage_once size token a b x y = x.2 ∙ ap fpage_word (one_fpage_named size token x.0 y.0 x.1 y.1) ∙ sym y.2

-- the word of an fpage that a token names is read as it
pub fpage_read : (size : PageSize) (token : List ℕ) (word : ℕ) (read : Fpage) → FpageWord size token word → ReadsAs word read → NamesFpage size token read
fpage_read size token word read named reads =
    let here : ReadsAs (fpage_word named.0) read = subst (λ (n : ℕ). ReadsAs n read) named.2 reads in
    subst (NamesFpage size token) (reads_same (fpage_word named.0) named.0 read (word_reads named.0) here) named.1

-- what a token spells is one window
one_window : (size : PageSize) (parts : WindowParts) (f g : Fpage) → IsWindowOf size parts f → IsWindowOf size parts g → f ≡ g
one_window size All f g x y = x ∙ sym y
one_window size Nothing f g x y = x ∙ sym y
one_window size (Run pages) f g x y = one_fpage size pages no_rights f g x y

one_window_named : (size : PageSize) (token : List ℕ) (f g : Fpage) → NamesWindow size token f → NamesWindow size token g → f ≡ g
one_window_named size token f g x y =
    let same : x.0 ≡ y.0 = one_reading (window_in token) x.0 y.0 x.1 y.1 in
    one_window size y.0 f g (subst (λ (p : WindowParts). IsWindowOf size p f) same x.2) y.2

pub window_once : (size : PageSize) (token : List ℕ) (a b : ℕ) → WindowWord size token a → WindowWord size token b → a ≡ b
window_once size token a b x y = x.2 ∙ ap fpage_word (one_window_named size token x.0 y.0 x.1 y.1) ∙ sym y.2

-- the word of an fpage without rights is its acceptor word
low_bits : (f : Fpage) → rights_of f ≡ no_rights → fpage_word f / 16 * 16 ≡ fpage_word f
low_bits Nil e = refl
low_bits (Complete r) e = let none : bits_of r ≡ 0 = ap bits_of e in omega (arith, none)
low_bits (Sized x) e =
    let none : bits_of x.rights ≡ 0 = ap bits_of e in
    let base : x.base % 1024 ≡ 0 = aligned_down 10 x.log x.base x.large x.aligned in
    omega (arith, none, base)

no_rights_in : (size : PageSize) (parts : WindowParts) (f : Fpage) → IsWindowOf size parts f → rights_of f ≡ no_rights
no_rights_in size All f x = ap rights_of x
no_rights_in size Nothing f x = ap rights_of x
no_rights_in size (Run pages) f x = x.rights_are

pub window_read : (size : PageSize) (token : List ℕ) (word : ℕ) (read : Fpage) → WindowWord size token word → WindowReads word read → NamesWindow size token read
window_read size token word read named reads =
    let low : word / 16 * 16 ≡ fpage_word named.0 = ap (λ (n : ℕ). n / 16 * 16) named.2 ∙ low_bits named.0 (no_rights_in size named.1.0 named.0 named.1.2) in
    let here : ReadsAs (fpage_word named.0) read = subst (λ (n : ℕ). ReadsAs n read) low reads in
    subst (NamesWindow size token) (reads_same (fpage_word named.0) named.0 read (word_reads named.0) here) named.1

abbrev IsOnePage : PageSize → WindowParts → Fpage → ℕ → Type 0
IsOnePage size parts f page = (HoldsPage size f page → IsInWindow size parts page) × (IsInWindow size parts page → HoldsPage size f page)

complete_page : (size : PageSize) (page : ℕ) → IsOnePage size All complete page
complete_page Kib4 page = (λ h. omega (arith, h.below), λ lt. record { from = omega arith; below = omega (arith, lt) })
complete_page Kib1 page = (λ h. omega (arith, h.below), λ lt. record { from = omega arith; below = omega (arith, lt) })

-- a window has the pages that its token spells
pub window_pages : (size : PageSize) (parts : WindowParts) (f : Fpage) (page : ℕ) → IsWindowOf size parts f → IsOnePage size parts f page
window_pages size All f page x = subst (λ (g : Fpage). IsOnePage size All g page) (sym x) (complete_page size page)
window_pages size Nothing f page x = subst (λ (g : Fpage). IsOnePage size Nothing g page) (sym x) (λ h. h, λ h. h)
window_pages size (Run pages) f page x = names_pages size pages no_rights f page x

-- the timeouts behind a word
timeouts_behind : (read : Result (Timeout × Timeout) Reason) (n : ℕ) → read >>= (λ t. Ok (word_of_timeouts t)) ≡ Ok n → (t : Timeout × Timeout) × (read ≡ Ok t) × (n ≡ word_of_timeouts t)
timeouts_behind (Ok t) n e = (t, refl, cc)
timeouts_behind (Err reason) n e = absurd (cc)

-- the halves of a timeouts word
upper : (send receive : Timeout) → word_of_timeouts (send, receive) / 65536 ≡ timeout_bits send
upper Never Never = refl
upper Never Zero = refl
upper Zero Never = refl
upper Zero Zero = refl

lower : (send receive : Timeout) → word_of_timeouts (send, receive) % 65536 ≡ timeout_bits receive
lower Never Never = refl
lower Never Zero = refl
lower Zero Never = refl
lower Zero Zero = refl

is_good : (t : Timeout) → is_timeout (timeout_bits t) ≡ true
is_good Never = refl
is_good Zero = refl

both_good : (sends receives : Bool) → ((sends && not true) || (receives && not true)) ≡ false
both_good true true = refl
both_good true false = refl
both_good false true = refl
both_good false false = refl

-- a call with the timeouts word of a token has its timeouts
abbrev HasTimeouts : List ℕ → IpcCall → Type 0
HasTimeouts token call =
    (timeouts : Timeout × Timeout) × (timeouts_in token ≡ Ok timeouts) × (send_timeout call ≡ timeout_bits timeouts.0)
    × (receive_timeout call ≡ timeout_bits timeouts.1) × (has_bad_timeout call ≡ false)

pub timeouts_kept : (token : List ℕ) (call : IpcCall) → timeouts_word token ≡ Ok call.timeouts → HasTimeouts token call
timeouts_kept token call e =
    let t = timeouts_behind (timeouts_in token) call.timeouts e in
    let send : send_timeout call ≡ timeout_bits t.0.0 = ap (λ (n : ℕ). n / 65536) t.2 ∙ upper t.0.0 t.0.1 in
    let receive : receive_timeout call ≡ timeout_bits t.0.1 = ap (λ (n : ℕ). n % 65536) t.2 ∙ lower t.0.0 t.0.1 in
    let sends : is_timeout (send_timeout call) ≡ true = ap is_timeout send ∙ is_good t.0.0 in
    let receives : is_timeout (receive_timeout call) ≡ true = ap is_timeout receive ∙ is_good t.0.1 in
    (t.0, t.1, send, receive, rw (sends, receives) (both_good (has_send call) (has_receive call)))
