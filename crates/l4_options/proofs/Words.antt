-- Words of a command line that are read one by one.
use Rattle.std.proofs.Common.{◌≡◌, ◌∙◌, ℕ, ◌+◌, ◌<◌, ◌≤◌, List, [], ◌∷◌, ◌++◌, length, map, get_or, take, drop, Option, Some, unwrap_or, refl, sym, ap, ap₂, subst, Bor}
use Rattle.std.proofs.lemmas.List.{append-nil, append_assoc, drop_all, drop_more, map-append, take_all, take_more}
use Rattle.clap.specs.Walk.{Text}
use Rattle.l4_fpage.specs.declared.sizes.PageSize.{PageSize}
use Rattle.l4_msg.specs.declared.messages.Message.{Message}
use Rattle.l4_symbols.specs.Messages.{Adds, AddsEach, Begins, IsMessageOf}
use Rattle.l4_symbols.specs.Words.{NamesWord}
use Rattle.l4_symbols.specs.declared.words.WordKind.{WordKind}
use Rattle.l4_text.specs.Numbers.{number_of}
use Rattle.l4_options.specs.Spelled.{AreWords}

-- the words of an argument that was found
pub words_are : (words : List Text) (found : Option (List Text)) → Some words ≡ found → words ≡ unwrap_or found []
words_are words found e = ap (λ (o : Option (List Text)). unwrap_or o []) e

-- ---- tokens

-- what the tokens from i on make of this message, all of them make of the one that was begun
abbrev pub AreAdded : PageSize → List (Bor Text) → ℕ → Message → Message → Type 0
AreAdded size tokens i begun so_far =
    (after : Message) → AddsEach size (map (λ s. s.now) (drop i tokens)) so_far after → AddsEach size (map (λ s. s.now) tokens) begun after

pub one_token : (size own : PageSize) (tokens : List (Bor Text)) (i : ℕ) (other : Bor Text) (token : Text) (begun before next : Message) → i < length tokens
    → own ≡ size → token ≡ (get_or tokens i other).now → Adds own token before next → AreAdded size tokens i begun before → AreAdded size tokens (i + 1) begun next
one_token size own tokens i other token begun before next less same is adds added after rest =
    let here = subst (λ (z : PageSize). Adds z (get_or tokens i other).now before next) same (subst (λ (t : Text). Adds own t before next) is adds) in
    added after (subst (λ (ts : List (Bor Text)). AddsEach size (map (λ s. s.now) ts) before after) (sym (drop_more tokens i other less)) (next, here, rest))

pub all_tokens : (size : PageSize) (tokens : List (Bor Text)) (i : ℕ) (begun message : Message) → length tokens ≤ i → AreAdded size tokens i begun message
    → AddsEach size (map (λ s. s.now) tokens) begun message
all_tokens size tokens i begun message all added =
    added message (subst (λ (ts : List (Bor Text)). AddsEach size (map (λ s. s.now) ts) message message) (sym (drop_all i tokens all)) refl)

-- the tag and the tokens behind it
pub of_tag : (size own : PageSize) (tokens others : List (Bor Text)) (tag : Bor Text) (token : Text) (begun message : Message) → own ≡ size → tokens ≡ tag ∷ others
    → token ≡ tag.now → Begins token begun → AddsEach own (map (λ s. s.now) others) begun message → IsMessageOf size (map (λ s. s.now) tokens) message
of_tag size own tokens others tag token begun message same parts is begins adds =
    subst (λ (ts : List (Bor Text)). IsMessageOf size (map (λ s. s.now) ts) message) (sym parts)
    (begun, subst (λ (t : Text). Begins t begun) is begins, subst (λ (z : PageSize). AddsEach z (map (λ s. s.now) others) begun message) same adds)

-- ---- tokens that name a word each

-- the words of all tokens are those so far and those of the tokens from i on
abbrev pub AreEncoded : WordKind → PageSize → List (Bor Text) → ℕ → List ℕ → Type 0
AreEncoded kind size tokens i words =
    (rest : List ℕ) → AreWords kind size (map (λ s. s.now) (drop i tokens)) rest → AreWords kind size (map (λ s. s.now) tokens) (words ++ rest)

pub one_kind : (kind : WordKind) (size : PageSize) (tokens : List (Bor Text)) (i : ℕ) (other : Bor Text) (token : Text) (words after : List ℕ) (word : ℕ)
    → i < length tokens → token ≡ (get_or tokens i other).now → NamesWord kind size token word → after ≡ words ++ word ∷ []
    → AreEncoded kind size tokens i words → AreEncoded kind size tokens (i + 1) after
one_kind kind size tokens i other token words after word less is names pushed encoded rest read =
    let here = subst (λ (t : Text). NamesWord kind size t word) is names in
    let grown = encoded (word ∷ rest) (subst (λ (ts : List (Bor Text)). AreWords kind size (map (λ s. s.now) ts) (word ∷ rest)) (sym (drop_more tokens i other less)) (word, rest, here, read, refl)) in
    subst (AreWords kind size (map (λ s. s.now) tokens)) (sym (append_assoc words (word ∷ []) rest) ∙ ap (λ (ws : List ℕ). ws ++ rest) (sym pushed)) grown

pub all_kinds : (kind : WordKind) (size : PageSize) (tokens : List (Bor Text)) (i : ℕ) (words : List ℕ) → length tokens ≤ i → AreEncoded kind size tokens i words
    → AreWords kind size (map (λ s. s.now) tokens) words
all_kinds kind size tokens i words all encoded =
    subst (AreWords kind size (map (λ s. s.now) tokens)) (append-nil words)
    (encoded [] (subst (λ (ts : List (Bor Text)). AreWords kind size (map (λ s. s.now) ts) []) (sym (drop_all i tokens all)) refl))

-- ---- numbers

-- the first i words are these numbers
abbrev pub AreRead : List (Bor Text) → ℕ → List ℕ → Type 0
AreRead words i numbers = map number_of (map (λ s. s.now) (take i words)) ≡ map Some numbers

pub one_word : (words : List (Bor Text)) (i : ℕ) (other : Bor Text) (text : Text) (numbers after : List ℕ) (n : ℕ) → i < length words → AreRead words i numbers
    → text ≡ (get_or words i other).now → Some n ≡ number_of text → after ≡ numbers ++ n ∷ [] → AreRead words (i + 1) after
one_word words i other text numbers after n less before is read pushed =
    let here : Some n ≡ number_of (get_or words i other).now = read ∙ ap number_of is in
    ap (λ (ws : List (Bor Text)). map number_of (map (λ s. s.now) ws)) (take_more words i other less)
    ∙ ap (map number_of) (map-append (λ s. s.now) (take i words) (get_or words i other ∷ []))
    ∙ map-append number_of (map (λ s. s.now) (take i words)) ((get_or words i other).now ∷ [])
    ∙ ap₂ (λ (a b : List (Option ℕ)). a ++ b) before (ap (λ (o : Option ℕ). o ∷ []) (sym here))
    ∙ sym (map-append Some numbers (n ∷ []))
    ∙ ap (map Some) (sym pushed)

pub all_words : (words : List (Bor Text)) (i : ℕ) (numbers : List ℕ) → length words ≤ i → AreRead words i numbers
    → map number_of (map (λ s. s.now) words) ≡ map Some numbers
all_words words i numbers all read = ap (λ (ws : List (Bor Text)). map number_of (map (λ s. s.now) ws)) (sym (take_all i words all)) ∙ read

-- ---- names

-- these are copies of the first i words
abbrev pub AreCopied : {S : Type 0} → (S → Text) → List (Bor Text) → ℕ → List S → Type 0
AreCopied bytes words i copies = map bytes copies ≡ map (λ s. s.now) (take i words)

pub one_copy : {S : Type 0} (bytes : S → Text) (words : List (Bor Text)) (i : ℕ) (other : Bor Text) (copies after : List S) (copy : S) → i < length words → AreCopied bytes words i copies
    → bytes copy ≡ (get_or words i other).now → after ≡ copies ++ copy ∷ [] → AreCopied bytes words (i + 1) after
one_copy bytes words i other copies after copy less before is pushed =
    ap (map bytes) pushed
    ∙ map-append bytes copies (copy ∷ [])
    ∙ ap₂ (λ (a b : List Text). a ++ b) before (ap (λ (t : Text). t ∷ []) is)
    ∙ sym (ap (λ (ws : List (Bor Text)). map (λ s. s.now) ws) (take_more words i other less)
    ∙ map-append (λ s. s.now) (take i words) (get_or words i other ∷ []))

pub all_copies : {S : Type 0} (bytes : S → Text) (words : List (Bor Text)) (i : ℕ) (copies : List S) → length words ≤ i → AreCopied bytes words i copies → map bytes copies ≡ map (λ s. s.now) words
all_copies bytes words i copies all are = are ∙ ap (λ (ws : List (Bor Text)). map (λ s. s.now) ws) (take_all i words all)
