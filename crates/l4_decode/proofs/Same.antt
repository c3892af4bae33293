-- Words mean one thing, and one text is written of them.
use Rattle.std.proofs.Common.{◌≡◌, ◌⊎◌, ◌*◌, ◌/◌, ℕ, List, [], ◌∷◌, Bool, true, false, get_or, refl, sym, ap, ◌∙◌, length, subst, inl, inr, arith}
use Rattle.l4_fpage.specs.Rights.{RightsSet, bits_of, set_of_bits}
use Rattle.l4_fpage.specs.Fpages.{ReadsAs}
use Rattle.l4_fpage.specs.declared.sizes.PageSize.{PageSize}
use Rattle.l4_fpage.proofs.Same.{reads_same}
use Rattle.l4_msg.specs.Protocols.{FaultReads, RequestReads}
use Rattle.l4_msg.specs.declared.messages.Message.{Message as AMessage}
use Rattle.l4_msg.specs.declared.protocols.PageFault.{PageFault}
use Rattle.l4_msg.specs.declared.protocols.FrameRequest.{FrameRequest}
use Rattle.l4_msg.proofs.Reading.{reading_is_unique, reading_excludes_failing, failing_is_unique}
use Rattle.l4_decode.specs.Decoded.{IsDecoded, decoded_text, words_text}
use Rattle.l4_decode.specs.Meanings.{Means}
use Rattle.l4_decode.specs.declared.meanings.Meaning.{Meaning}
use Rattle.l4_decode.specs.declared.meanings.Meaning.TheVariants.{Refused, Fault, Request, Plain}
use Rattle.l4_decode.specs.declared.decoding.Reading.{Reading}
use Rattle.l4_decode.specs.declared.decoding.Reading.TheVariants.{Each, Message, Fpage, Window, Id, Control}

-- ---- one message is one fault, or one request

bits_back : (r w x : Bool) → set_of_bits (bits_of (record { r = r; w = w; x = x })) ≡ record { r = r; w = w; x = x }
bits_back false false false = refl
bits_back false false true = refl
bits_back false true false = refl
bits_back false true true = refl
bits_back true false false = refl
bits_back true false true = refl
bits_back true true false = refl
bits_back true true true = refl

back : (a : RightsSet) → set_of_bits (bits_of a) ≡ a
back a = bits_back a.r a.w a.x

one_fault : (m : AMessage) (f g : PageFault) → FaultReads m f → FaultReads m g → f ≡ g
one_fault m f g a b =
    let bits : bits_of f.access ≡ bits_of g.access = omega (arith, a.label, b.label) in
    let access : f.access ≡ g.access = sym (back f.access) ∙ ap set_of_bits bits ∙ back g.access in
    let untyped : f.address ∷ f.ip ∷ [] ≡ g.address ∷ g.ip ∷ [] = sym a.untyped ∙ b.untyped in
    let address : f.address ≡ g.address = ap (λ (l : List ℕ). get_or l 0 0) untyped in
    let ip : f.ip ≡ g.ip = ap (λ (l : List ℕ). get_or l 1 0) untyped in
    λ i. record { address = address i; ip = ip i; access = access i }

one_request : (m : AMessage) (r s : FrameRequest) → RequestReads m r → RequestReads m s → r ≡ s
one_request m r s a b =
    let untyped : a.word ∷ r.attributes ∷ [] ≡ b.word ∷ s.attributes ∷ [] = sym a.untyped ∙ b.untyped in
    let word : a.word ≡ b.word = ap (λ (l : List ℕ). get_or l 0 0) untyped in
    let attributes : r.attributes ≡ s.attributes = ap (λ (l : List ℕ). get_or l 1 0) untyped in
    let fpage : r.fpage ≡ s.fpage = reads_same (b.word / 16 * 16) r.fpage s.fpage (subst (λ (w : ℕ). ReadsAs (w / 16 * 16) r.fpage) word a.reads) b.reads in
    λ i. record { fpage = fpage i; attributes = attributes i }

no_both : (m : AMessage) (f : PageFault) (r : FrameRequest) → FaultReads m f → RequestReads m r → ⊥
no_both m f r a b = omega (arith, a.label, b.label)

-- ---- words mean one thing

one_meaning : (words : List ℕ) (a b : Meaning) → Means words a → Means words b → a ≡ b
one_meaning words (Refused f) (Refused g) a b = ap Refused (failing_is_unique words f g a b)
one_meaning words (Refused f) (Fault g) a (m, reads, is) = absurd (reading_excludes_failing words m f reads a)
one_meaning words (Refused f) (Request r) a (m, reads, is) = absurd (reading_excludes_failing words m f reads a)
one_meaning words (Refused f) (Plain u k) a (m, reads, is) = absurd (reading_excludes_failing words m f reads a)
one_meaning words (Fault g) (Refused f) (m, reads, is) b = absurd (reading_excludes_failing words m f reads b)
one_meaning words (Request r) (Refused f) (m, reads, is) b = absurd (reading_excludes_failing words m f reads b)
one_meaning words (Plain u k) (Refused f) (m, reads, is) b = absurd (reading_excludes_failing words m f reads b)
one_meaning words (Fault f) (Fault g) (m, reads, is) (n, others, that) =
    ap Fault (one_fault m f g is (subst (λ (x : AMessage). FaultReads x g) (reading_is_unique words n m others reads) that))
one_meaning words (Fault f) (Request r) (m, reads, is) (n, others, that) =
    absurd (no_both m f r is (subst (λ (x : AMessage). RequestReads x r) (reading_is_unique words n m others reads) that))
one_meaning words (Request r) (Fault f) (m, reads, is) (n, others, that) =
    absurd (no_both m f r (subst (λ (x : AMessage). FaultReads x f) (reading_is_unique words n m others reads) that) is)
one_meaning words (Fault f) (Plain u k) (m, reads, is) (n, others, that) =
    absurd (that.no_fault f (subst (λ (x : AMessage). FaultReads x f) (reading_is_unique words m n reads others) is))
one_meaning words (Plain u k) (Fault f) (m, reads, is) (n, others, that) =
    absurd (is.no_fault f (subst (λ (x : AMessage). FaultReads x f) (reading_is_unique words n m others reads) that))
one_meaning words (Request r) (Request s) (m, reads, is) (n, others, that) =
    ap Request (one_request m r s is (subst (λ (x : AMessage). RequestReads x s) (reading_is_unique words n m others reads) that))
one_meaning words (Request r) (Plain u k) (m, reads, is) (n, others, that) =
    absurd (that.no_request r (subst (λ (x : AMessage). RequestReads x r) (reading_is_unique words m n reads others) is))
one_meaning words (Plain u k) (Request r) (m, reads, is) (n, others, that) =
    absurd (is.no_request r (subst (λ (x : AMessage). RequestReads x r) (reading_is_unique words n m others reads) that))
one_meaning words (Plain u k) (Plain v l) (m, reads, is) (n, others, that) =
    let same : n ≡ m = reading_is_unique words n m others reads in
    let untyped : u ≡ v = is.untyped_are ∙ sym (ap (λ (x : AMessage). length x.untyped.items) same) ∙ sym that.untyped_are in
    let items : k ≡ l = is.items_are ∙ sym (ap (λ (x : AMessage). length x.items.items) same) ∙ sym that.items_are in
    λ i. Plain (untyped i) (items i)

pub one_text : (size : PageSize) (reading : Reading) (words s t : List ℕ) → IsDecoded size reading words s → IsDecoded size reading words t → s ≡ t
one_text size Message words s t (m, a, first) (n, b, second) = first ∙ ap (decoded_text [] size words) (one_meaning words m n a b) ∙ sym second
one_text size Each words s t a b = a ∙ sym b
one_text size Fpage words s t a b = a ∙ sym b
one_text size Window words s t a b = a ∙ sym b
one_text size Id words s t a b = a ∙ sym b
one_text size Control words s t a b = a ∙ sym b

-- words that are read one by one
pub alone : (size : PageSize) (reading : Reading) (words : List ℕ) → (reading ≡ Each) ⊎ ((reading ≡ Fpage) ⊎ ((reading ≡ Window) ⊎ ((reading ≡ Id) ⊎ (reading ≡ Control))))
    → IsDecoded size reading words (words_text size reading words)
alone size reading words (inl is) = subst (λ (r : Reading). IsDecoded size r words (words_text size r words)) (sym is) refl
alone size reading words (inr (inl is)) = subst (λ (r : Reading). IsDecoded size r words (words_text size r words)) (sym is) refl
alone size reading words (inr (inr (inl is))) = subst (λ (r : Reading). IsDecoded size r words (words_text size r words)) (sym is) refl
alone size reading words (inr (inr (inr (inl is)))) = subst (λ (r : Reading). IsDecoded size r words (words_text size r words)) (sym is) refl
alone size reading words (inr (inr (inr (inr is)))) = subst (λ (r : Reading). IsDecoded size r words (words_text size r words)) (sym is) refl
