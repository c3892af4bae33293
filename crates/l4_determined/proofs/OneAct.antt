-- What a served thread does is one.
use Rattle.std.proofs.Common.{◌≡◌, ℕ, ◌≤◌, ◌-◌, ◌*◌, ◌/◌, Bool, true, false, List, [], ◌∷◌, Option, Some, None, MatchOption, get_or, refl, sym, ap, ◌∙◌, subst, inl, inr, arith}
use Rattle.std.specs.FinMap as fin
use Rattle.std.specs.FinMap.{nat_cmp-IsAntisymmetric}
use Rattle.std.specs.Cmp.{nat_cmp_total}
use Rattle.l4_fpage.specs.Fpages.{Bytes, bytes_of, rights_of, ReadsAs}
use Rattle.l4_fpage.specs.Pages.{page_bytes, page_log}
use Rattle.l4_fpage.specs.Rights.{RightsSet, all_rights, set_of_bits, bits_of}
use Rattle.l4_fpage.specs.declared.fpages.Fpage.{Fpage}
use Rattle.l4_fpage.specs.declared.fpages.Fpage.TheVariants.{Nil, Complete, Sized}
use Rattle.l4_fpage.specs.declared.sizes.PageSize.{PageSize}
use Rattle.l4_fpage.proofs.Same.{same_extent, reads_same}
use Rattle.l4_msg.specs.Messages.{message_words}
use Rattle.l4_msg.specs.Protocols.{FaultReads, RequestReads, GivesPages, nothing, one_item}
use Rattle.l4_msg.specs.declared.items.Item.TheVariants.{Map}
use Rattle.l4_msg.specs.declared.messages.Message.{Message}
use Rattle.l4_msg.specs.declared.protocols.PageFault.{PageFault}
use Rattle.l4_msg.proofs.Reading.{reading_is_unique}
use Rattle.l4_pager.specs.Regions.{Regions, Answers as AnswersByRegions, AnswersFault, entry_for, source_of}
use Rattle.l4_pager.specs.Serving.{Brings, sending}
use Rattle.l4_pager.specs.declared.regions.Entry.{Entry}
use Rattle.l4_sigma0.specs.Owners.{Owners, NamesPages, Wants, Gives, Answers as GrantsFrames}
use Rattle.l4_threads.specs.Threads.{Threads}
use Rattle.l4_threads.specs.declared.Reply.{Reply}
use Rattle.l4_threads.specs.declared.Reply.TheVariants.{Ipc, Hit, Answered, FaultFailed, Unmapped, Controlled, Gone}
use Rattle.l4_threads.specs.declared.ThreadId.{ThreadId}
use Rattle.l4_ipc.specs.declared.calls.Call.{Call}
use Rattle.l4_ipc.specs.Reading.{reply_of}
use Rattle.l4_ipc.proofs.OneState.{same_value}
use Rattle.l4_servers.specs.Servers.{Servers, servers, regions_of}
use Rattle.l4_servers.specs.Acting.{space_of_sender, Answers, Follows, ActsNext}
use Rattle.l4_sigma0.proofs.Wanted.{fault_alone}

-- PAGES THAT ARE GIVEN

-- an fpage is known by its bytes and its rights
one_fpage : (f g : Fpage) (b : Bytes) → bytes_of f ≡ Some b → bytes_of g ≡ Some b → rights_of f ≡ rights_of g → f ≡ g
one_fpage Nil g b h k r = absurd (let no_bytes : ◌≡◌ {A = Option Bytes} None (Some b) = h in cc)
one_fpage (Complete p) Nil b h k r = absurd (let no_bytes : ◌≡◌ {A = Option Bytes} None (Some b) = k in cc)
one_fpage (Complete p) (Complete q) b h k r = ap Complete r
one_fpage (Complete p) (Sized e) b h k r = absurd (let logs = ap (λ (x : Bytes). x.log) (same_value (h ∙ sym k)) in let small = e.small in omega (arith, logs, small))
one_fpage (Sized d) Nil b h k r = absurd (let no_bytes : ◌≡◌ {A = Option Bytes} None (Some b) = k in cc)
one_fpage (Sized d) (Complete q) b h k r = absurd (let logs = ap (λ (x : Bytes). x.log) (same_value (h ∙ sym k)) in let small = d.small in omega (arith, logs, small))
one_fpage (Sized d) (Sized e) b h k r =
    let both = same_value (h ∙ sym k) in
    ap Sized (same_extent d e (ap (λ (x : Bytes). x.base) both) (ap (λ (x : Bytes). x.log) both) r)

one_gift : (size : PageSize) (source target log : ℕ) (rights : RightsSet) (a b : Message) → GivesPages size source target log rights a → GivesPages size source target log rights b → a ≡ b
one_gift size source target log rights a b x y =
    let fpage : x.fpage ≡ y.fpage = one_fpage x.fpage y.fpage _ x.bytes y.bytes (x.rights_are ∙ sym y.rights_are) in
    x.is ∙ ap (λ (f : Fpage). one_item (Map (target * page_bytes size) f)) fpage ∙ sym y.is

-- FAULTS

bits_back : (r w x : Bool) → set_of_bits (bits_of (record { r = r; w = w; x = x })) ≡ record { r = r; w = w; x = x }
bits_back true true true = refl
bits_back true true false = refl
bits_back true false true = refl
bits_back true false false = refl
bits_back false true true = refl
bits_back false true false = refl
bits_back false false true = refl
bits_back false false false = refl

one_fault : (m : Message) (f g : PageFault) → FaultReads m f → FaultReads m g → f ≡ g
one_fault m f g a b =
    let bits : bits_of f.access ≡ bits_of g.access = omega (arith, a.label, b.label) in
    let access : f.access ≡ g.access = sym (bits_back f.access.r f.access.w f.access.x) ∙ ap set_of_bits bits ∙ bits_back g.access.r g.access.w g.access.x in
    let untyped : f.address ∷ f.ip ∷ [] ≡ g.address ∷ g.ip ∷ [] = sym a.untyped ∙ b.untyped in
    let address : f.address ≡ g.address = ap (λ (l : List ℕ). get_or l 0 0) untyped in
    let ip : f.ip ≡ g.ip = ap (λ (l : List ℕ). get_or l 1 0) untyped in
    λ i. record { address = address i; ip = ip i; access = access i }

-- ANSWERS FROM REGIONS

one_from_regions : (t : Regions) (m a b : Message) → AnswersByRegions t m a → AnswersByRegions t m b → a ≡ b
one_from_regions t m a b (inl x) (inl y) =
    let fault : x.0 ≡ y.0 = one_fault m x.0 y.0 x.1 y.1 in
    given (entry_for t.entries (y.0.address / page_bytes t.size) y.0.access) (subst (λ (f : PageFault). AnswersFault t f a) fault x.2) y.2 where
      given : (o : Option Entry)
          → MatchOption o (a ≡ nothing) (λ e. GivesPages t.size (source_of e (y.0.address / page_bytes t.size)) (y.0.address / page_bytes t.size) 0 e.rights a)
          → MatchOption o (b ≡ nothing) (λ e. GivesPages t.size (source_of e (y.0.address / page_bytes t.size)) (y.0.address / page_bytes t.size) 0 e.rights b) → a ≡ b
      given None h k = h ∙ sym k
      given (Some e) h k = one_gift t.size _ _ 0 e.rights a b h k
one_from_regions t m a b (inl x) (inr y) = absurd (y.0 x.0 x.1)
one_from_regions t m a b (inr x) (inl y) = absurd (x.0 y.0 y.1)
one_from_regions t m a b (inr x) (inr y) = x.1 ∙ sym y.1

-- ANSWERS OF SIGMA0

-- an fpage names one first page and one number of pages
one_naming : (size : PageSize) (o : Option Bytes) (a b c d : ℕ) → MatchOption o ⊥ (λ x. (page_log size ≤ x.log) × (a ≡ x.base / page_bytes size) × (b ≡ x.log - page_log size))
    → MatchOption o ⊥ (λ x. (page_log size ≤ x.log) × (c ≡ x.base / page_bytes size) × (d ≡ x.log - page_log size)) → (a ≡ c) × (b ≡ d)
one_naming size None a b c d h k = absurd h
one_naming size (Some x) a b c d h k = (h.1 ∙ sym k.1, h.2 ∙ sym k.2)

-- a request is for one fpage
one_request : (m : Message) (f g : Fpage) → RequestReads m (record { fpage = f; attributes = 0 }) → RequestReads m (record { fpage = g; attributes = 0 }) → f ≡ g
one_request m f g a b =
    let untyped : a.word ∷ 0 ∷ [] ≡ b.word ∷ 0 ∷ [] = sym a.untyped ∙ b.untyped in
    let word : a.word ≡ b.word = ap (λ (l : List ℕ). get_or l 0 0) untyped in
    reads_same (b.word / 16 * 16) f g (subst (λ (w : ℕ). ReadsAs (w / 16 * 16) f) word a.reads) b.reads

one_wish : (size : PageSize) (m : Message) (f l g k : ℕ) → Wants size m f l → Wants size m g k → (f ≡ g) × (l ≡ k)
one_wish size m f l g k (inl x) y =
    let one = fault_alone size m x.0 x.1 g k y in
    (x.2 ∙ one.0, x.3 ∙ one.1)
one_wish size m f l g k (inr x) (inl y) = absurd (omega (arith, x.1.label, y.1.label))
one_wish size m f l g k (inr x) (inr y) =
    let fpage : x.0 ≡ y.0 = one_request m x.0 y.0 x.1 y.1 in
    one_naming size (bytes_of y.0) f l g k (subst (λ (p : Fpage). NamesPages size p f l) fpage x.2) y.2

one_grant : (old : Owners) (space first log : ℕ) (a b : Owners) → Gives old space first log a → Gives old space first log b → a ≡ b
one_grant old space first log a b x y =
    let owner = fin.same_map nat_cmp_total nat_cmp-IsAntisymmetric a.owner b.owner (λ frame. x.owner frame ∙ sym (y.owner frame)) in
    λ i. record { size = (x.size ∙ sym y.size) i; frames = (x.frames ∙ sym y.frames) i; owner = owner i }

one_from_sigma0 : (old : Owners) (space : ℕ) (m a b : Message) (u v : Owners) → GrantsFrames old space m a u → GrantsFrames old space m b v → (a ≡ b) × (u ≡ v)
one_from_sigma0 old space m a b u v (inl x) (inl y) =
    let wish = one_wish old.size m x.0 x.1 y.0 y.1 x.2 y.2 in
    let gift = subst (λ (p : ℕ × ℕ). GivesPages old.size p.0 p.0 p.1 all_rights a) (λ i. (wish.0 i, wish.1 i)) x.4 in
    let grant = subst (λ (p : ℕ × ℕ). Gives old space p.0 p.1 u) (λ i. (wish.0 i, wish.1 i)) x.5 in
    (one_gift old.size y.0 y.0 y.1 all_rights a b gift y.4, one_grant old space y.0 y.1 u v grant y.5)
one_from_sigma0 old space m a b u v (inl x) (inr y) = absurd (y.0 x.0 x.1 x.2 x.3)
one_from_sigma0 old space m a b u v (inr x) (inl y) = absurd (x.0 y.0 y.1 y.2 y.3)
one_from_sigma0 old space m a b u v (inr x) (inr y) = (x.1 ∙ sym y.1, x.2 ∙ sym y.2)

-- ANSWERS OF A SERVED THREAD

one_reply : (t : Threads) (old : Servers) (thread : ℕ) (sender : ThreadId) (m a b : Message) (u v : Servers) → Answers t old thread sender m a u → Answers t old thread sender m b v → (a ≡ b) × (u ≡ v)
one_reply t old thread sender m a b u v (inl x) (inl y) =
    let both = one_from_sigma0 old.owners (space_of_sender t sender) m a b x.1.0 y.1.0 x.1.1 y.1.1 in
    (both.0, x.1.2 ∙ ap (λ (o : Owners). servers o old.tables old.served) both.1 ∙ sym y.1.2)
one_reply t old thread sender m a b u v (inl x) (inr y) = absurd (y.0 x.0)
one_reply t old thread sender m a b u v (inr x) (inl y) = absurd (x.0 y.0)
one_reply t old thread sender m a b u v (inr x) (inr y) = (one_from_regions (regions_of old thread) m a b x.1 y.1, x.2 ∙ sym y.2)

one_message : (reply : Reply) (s r : ThreadId) (m n : Message) → Brings reply s m → Brings reply r n → (s ≡ r) × (m ≡ n)
one_message (Ipc reply) s r m n x y = (x.0 ∙ sym y.0, reading_is_unique _ m n x.1 y.1)
one_message Hit s r m n x y = absurd x
one_message Answered s r m n x y = absurd x
one_message (FaultFailed code) s r m n x y = absurd x
one_message Unmapped s r m n x y = absurd x
one_message Controlled s r m n x y = absurd x
one_message Gone s r m n x y = absurd x

one_following : (t : Threads) (old : Servers) (thread : ℕ) (reply : Reply) (c d : Call) (u v : Servers) → Follows t old thread reply c u → Follows t old thread reply d v → (c ≡ d) × (u ≡ v)
one_following t old thread reply c d u v (inl x) (inl y) =
    let one = one_message reply x.sender y.sender x.message y.message x.brings y.brings in
    let moved = subst (λ (p : ThreadId × Message). Answers t old thread p.0 p.1 x.answer u) (λ i. (one.0 i, one.1 i)) x.answers in
    let both = one_reply t old thread y.sender y.message x.answer y.answer u v moved y.answers in
    (x.is ∙ (λ i. sending (one.0 i) (message_words (both.0 i))) ∙ sym y.is, both.1)
one_following t old thread reply c d u v (inl x) (inr y) = absurd (y.0 x.sender x.message x.brings)
one_following t old thread reply c d u v (inr x) (inl y) = absurd (x.0 y.sender y.message y.brings)
one_following t old thread reply c d u v (inr x) (inr y) = (x.1 ∙ sym y.1, x.2 ∙ sym y.2)

-- the thread that acts next, its call, and the servers after it are one
pub record SameAct (a b : ℕ) (c d : Call) (u v : Servers) : Type 0 where
  pub thread : a ≡ b
  pub call : c ≡ d
  pub servers : u ≡ v

pub one_act : (t : Threads) (old : Servers) (a b : ℕ) (c d : Call) (u v : Servers) → ActsNext t old a c u → ActsNext t old b d v → SameAct a b c d u v
one_act t old a b c d u v x y =
    let low = x.first.least b y.first.ready in
    let high = y.first.least a x.first.ready in
    let thread : a ≡ b = omega (arith, low, high) in
    let reply : x.reply ≡ y.reply = same_value (sym x.reply_is ∙ ap (reply_of t) thread ∙ y.reply_is) in
    let moved = subst (λ (p : ℕ × Reply). Follows t old p.0 p.1 c u) (λ i. (thread i, reply i)) x.follows in
    let rest = one_following t old b y.reply c d u v moved y.follows in
    record { thread = thread; call = rest.0; servers = rest.1 }
