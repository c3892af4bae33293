-- Bytes that went out, one part after another.
use Rattle.std.proofs.Common.{◌≡◌, ℕ, ◌+◌, ◌-◌, List, [], ◌++◌, length, take, drop, Option, Some, None, sym, ap, subst, ◌∙◌}
use Rattle.std.proofs.lemmas.List.{append-nil, take-append-drop, take_rest}
use Rattle.std.specs.Io.KnownBytes.{Appends, Keeps}
use mathlib.Core.List.{append_assoc}
use Rattle.std.proofs.Math.Seq.{take-add}
use Rattle.l4_text.specs.Streams.{WentOut}

pub appends_more : (a b c : Option (List ℕ)) (xs ys : List ℕ) → Appends a b xs → Appends b c ys → Appends a c (xs ++ ys)
appends_more None b c xs ys p q = tt
appends_more (Some x) None c xs ys p q = absurd p
appends_more (Some x) (Some y) None xs ys p q = absurd q
appends_more (Some x) (Some y) (Some z) xs ys p q = q ∙ ap (λ t. t ++ ys) p ∙ append_assoc x xs ys

pub appends_none : (a b : Option (List ℕ)) → Keeps a b → Appends a b []
appends_none None b h = tt
appends_none (Some x) None h = absurd h
appends_none (Some x) (Some y) h = h ∙ sym (append-nil x)

pub appends_same : (a : Option (List ℕ)) → Appends a a []
appends_same None = tt
appends_same (Some x) = sym (append-nil x)

-- as much of it as was taken
pub part_out : (a b : Option (List ℕ)) (owed : List ℕ) (n : ℕ) → Appends a b (take n owed) → WentOut a b owed
part_out a b owed n h = record { front = take n owed; rest = drop n owed; whole = sym (take-append-drop n owed); out = h }

-- what went out is a beginning of any longer text
pub longer_out : (a b : Option (List ℕ)) (owed more : List ℕ) → WentOut a b owed → WentOut a b (owed ++ more)
longer_out a b owed more w = record {
  front = w.front;
  rest = w.rest ++ more;
  whole = ap (λ t. t ++ more) w.whole ∙ append_assoc w.front w.rest more;
  out = w.out;
}

-- a write that fails leaves what went out
pub write_failed : (a b c : Option (List ℕ)) (bytes : List ℕ) (at : ℕ) → Appends a b (take at bytes) → Keeps b c → WentOut a c bytes
write_failed a b c bytes at h k = part_out a c bytes at (subst (λ (t : List ℕ). Appends a c t) (append-nil (take at bytes)) (appends_more a b c (take at bytes) [] h (appends_none b c k)))

-- and so does one that takes nothing
pub write_empty : (a b c : Option (List ℕ)) (bytes rest : List ℕ) (at n : ℕ) → Appends a b (take at bytes) → Appends b c (take n rest) → n ≡ 0 → WentOut a c bytes
write_empty a b c bytes rest at n h k e =
    let none : Appends b c [] = subst (λ (m : ℕ). Appends b c (take m rest)) e k in
    part_out a c bytes at (subst (λ (t : List ℕ). Appends a c t) (append-nil (take at bytes)) (appends_more a b c (take at bytes) [] h none))

-- a write goes on where the last one stopped
pub write_on : (a b c : Option (List ℕ)) (bytes : List ℕ) (at n : ℕ) → Appends a b (take at bytes) → Appends b c (take n (take (length bytes - at) (drop at bytes))) → Appends a c (take (at + n) bytes)
write_on a b c bytes at n h k =
    let rest : Appends b c (take n (drop at bytes)) = subst (λ (t : List ℕ). Appends b c (take n t)) (take_rest bytes at) k in
    let whole : take (at + n) bytes ≡ take at bytes ++ take n (drop at bytes) = take-add at n bytes in
    subst (λ (t : List ℕ). Appends a c t) (sym whole) (appends_more a b c (take at bytes) (take n (drop at bytes)) h rest)
