-- What a message asks for.
use Rattle.std.proofs.Common.{◌≡◌, ℕ, ◌/◌, ◌-◌, ◌≤◌, List, ◌∷◌, [], Option, Some, None, MatchOption, inl, inr, refl, ap, sym, subst, ◌∙◌, arith, slice_index}
use Rattle.l4_fpage.specs.Fpages.{Bytes, bytes_of}
use Rattle.l4_fpage.specs.declared.fpages.Fpage.{Fpage}
use Rattle.l4_fpage.proofs.Same.{reads_same}
use Rattle.l4_msg.specs.declared.messages.Message.{Message}
use Rattle.l4_msg.specs.declared.protocols.PageFault.{PageFault}
use Rattle.l4_msg.specs.declared.protocols.FrameRequest.{FrameRequest}
use Rattle.l4_msg.specs.Protocols.{FaultReads, RequestReads}
use Rattle.l4_sigma0.specs.Owners.{AsksFor, Wants, NamesPages}
use Rattle.l4_fpage.specs.declared.sizes.PageSize.{PageSize}
use Rattle.l4_fpage.specs.Pages.{page_log, page_bytes}

-- a message that is neither asks for nothing
pub wants_nothing : (size : PageSize) → (m : Message) → ((f : PageFault) → ¬ FaultReads m f) → ((r : FrameRequest) → ¬ RequestReads m r) → (first log : ℕ) → Wants size m first log → ⊥
wants_nothing size m none other first log (inl h) = none h.0 h.1
wants_nothing size m none other first log (inr h) = other _ h.1

first_word : (m : Message) (a b c d : ℕ) → m.untyped.items ≡ a ∷ b ∷ [] → m.untyped.items ≡ c ∷ d ∷ [] → a ≡ c
first_word m a b c d h k = ap (λ (l : List ℕ). slice_index l 0) (sym h ∙ k)

second_word : (m : Message) (a b c d : ℕ) → m.untyped.items ≡ a ∷ b ∷ [] → m.untyped.items ≡ c ∷ d ∷ [] → b ≡ d
second_word m a b c d h k = ap (λ (l : List ℕ). slice_index l 1) (sym h ∙ k)

-- a fault asks for the frame of its page alone
pub fault_alone : (size : PageSize) → (m : Message) (f : PageFault) → FaultReads m f → (first log : ℕ) → Wants size m first log → (f.address / page_bytes size ≡ first) × (0 ≡ log)
fault_alone size m f reads first log (inl h) = (ap (λ n. n / page_bytes size) (first_word m f.address f.ip h.0.address h.0.ip reads.untyped h.1.untyped) ∙ sym h.2, sym h.3)
fault_alone size m f reads first log (inr h) = absurd (omega (arith, reads.label, h.1.label))

same_request : (m : Message) (r s : FrameRequest) → RequestReads m r → RequestReads m s → (r.fpage ≡ s.fpage) × (r.attributes ≡ s.attributes)
same_request m r s h k =
    let same : h.word ≡ k.word = first_word m h.word r.attributes k.word s.attributes h.untyped k.untyped in (
      reads_same _ r.fpage s.fpage (subst (λ (w : ℕ). Rattle.l4_msg.specs.Words.WindowReads w r.fpage) same h.reads) k.reads,
      second_word m h.word r.attributes k.word s.attributes h.untyped k.untyped,
    )

same_pages : (size : PageSize) → (fpage : Fpage) (a b c d : ℕ) → NamesPages size fpage a b → NamesPages size fpage c d → (a ≡ c) × (b ≡ d)
same_pages size fpage a b c d =
    elim (bytes_of fpage) as (λ (o : Option Bytes). MatchOption o ⊥ (λ x. (page_log size ≤ x.log) × (a ≡ x.base / page_bytes size) × (b ≡ x.log - page_log size))
    → MatchOption o ⊥ (λ x. (page_log size ≤ x.log) × (c ≡ x.base / page_bytes size) × (d ≡ x.log - page_log size)) → (a ≡ c) × (b ≡ d)) [
      | None ↦ λ h k. absurd h
      | Some x ↦ λ h k. (h.1 ∙ sym k.1, h.2 ∙ sym k.2)
    ]

-- a request without attributes asks for the frames of its fpage's pages, and for no others
request_wants : (size : PageSize) → (m : Message) (r : FrameRequest) → RequestReads m r → (first log : ℕ) → r.attributes ≡ 0 → NamesPages size r.fpage first log → Wants size m first log
request_wants size m r reads first log none names =
    inr (r.fpage, subst (λ (n : ℕ). RequestReads m (record { fpage = r.fpage; attributes = n })) none reads, names)

request_alone : (size : PageSize) → (m : Message) (r : FrameRequest) → RequestReads m r → (first log : ℕ) → NamesPages size r.fpage first log → (f l : ℕ) → Wants size m f l → (first ≡ f) × (log ≡ l)
request_alone size m r reads first log names f l (inl h) = absurd (omega (arith, reads.label, h.1.label))
request_alone size m r reads first log names f l (inr h) =
    let same = same_request m r (record { fpage = h.0; attributes = 0 }) reads h.1 in
    same_pages size h.0 first log f l (subst (λ (p : Fpage). NamesPages size p first log) same.0 names) h.2

request_wants_nothing : (size : PageSize) → (m : Message) (r : FrameRequest) → RequestReads m r → ((first log : ℕ) → r.attributes ≡ 0 → ¬ NamesPages size r.fpage first log) → (first log : ℕ) → Wants size m first log → ⊥
request_wants_nothing size m r reads none first log (inl h) = absurd (omega (arith, reads.label, h.1.label))
request_wants_nothing size m r reads none first log (inr h) =
    let same = same_request m r (record { fpage = h.0; attributes = 0 }) reads h.1 in
    none first log same.1 (subst (λ (p : Fpage). NamesPages size p first log) (sym same.0) h.2)

names_same : (size : PageSize) (f g : Fpage) (first log : ℕ) → bytes_of f ≡ bytes_of g → NamesPages size f first log → NamesPages size g first log
names_same size f g first log same h =
    subst (λ (o : Option Bytes). MatchOption o ⊥ (λ b. (page_log size ≤ b.log) × (first ≡ b.base / page_bytes size) × (log ≡ b.log - page_log size))) same h

-- so does a message that asks for what a request does, whatever the rights of the request's fpage
pub asks_wants : (size : PageSize) (m : Message) (r : FrameRequest) → AsksFor m r → (first log : ℕ) → r.attributes ≡ 0 → NamesPages size r.fpage first log → Wants size m first log
asks_wants size m r asks first log none names =
    request_wants size m asks.read asks.reads first log (asks.attributes ∙ none) (names_same size r.fpage asks.read.fpage first log (sym asks.bytes) names)

pub asks_alone : (size : PageSize) (m : Message) (r : FrameRequest) → AsksFor m r → (first log : ℕ) → NamesPages size r.fpage first log → (f l : ℕ) → Wants size m f l → (first ≡ f) × (log ≡ l)
asks_alone size m r asks first log names =
    request_alone size m asks.read asks.reads first log (names_same size r.fpage asks.read.fpage first log (sym asks.bytes) names)

pub asks_nothing : (size : PageSize) (m : Message) (r : FrameRequest) → AsksFor m r → ((first log : ℕ) → r.attributes ≡ 0 → ¬ NamesPages size r.fpage first log) → (first log : ℕ) → Wants size m first log → ⊥
asks_nothing size m r asks none =
    request_wants_nothing size m asks.read asks.reads (λ first log zero names. none first log (sym asks.attributes ∙ zero) (names_same size asks.read.fpage r.fpage first log asks.bytes names))

-- a request as it was read asks for what it does
pub asks_itself : (m : Message) (r : FrameRequest) → RequestReads m r → AsksFor m r
asks_itself m r reads = record { read = r; reads = reads; bytes = refl; attributes = refl }
