-- Texts told one after another.
use Rattle.std.proofs.Common.{◌≡◌, refl, ℕ, Bool, true, false, List, [], ◌++◌, Option, sym, ap, subst, ◌∙◌}
use Rattle.std.proofs.lemmas.List.{append-nil}
use mathlib.Core.List.{append_assoc}
use Rattle.std.specs.Io.KnownBytes.{Appends}
use Rattle.l4_text.specs.Streams.{WentOut, HasTold, Tells}
use Rattle.l4_text.proofs.Gone.{appends_more, appends_same, longer_out}

pub tells_none : (a : Option (List ℕ)) (s : List ℕ × Bool) → Tells a a s s []
tells_none a s start told h = subst (λ (t : List ℕ). HasTold start a s.0 s.1 t) (sym (append-nil told)) h

pub tells_more : (a b c : Option (List ℕ)) (s t u : List ℕ × Bool) (x y : List ℕ) → Tells a b s t x → Tells b c t u y → Tells a c s u (x ++ y)
tells_more a b c s t u x y p q start told h =
    subst (λ (w : List ℕ). HasTold start c u.0 u.1 w) (append_assoc told x y) (q start (told ++ x) (p start told h))

pub tells_is : (a b : Option (List ℕ)) (s t : List ℕ × Bool) (x y : List ℕ) → x ≡ y → Tells a b s t x → Tells a b s t y
tells_is a b s t x y e p = subst (λ (w : List ℕ). Tells a b s t w) e p

added : (start out : Option (List ℕ)) (held : List ℕ) (failed : Bool) (x told : List ℕ) → HasTold start out held failed told → HasTold start out (held ++ x) failed (told ++ x)
added start out held false x told h = (h.0, ap (λ t. t ++ x) h.1 ∙ append_assoc h.0 held x, h.2)
added start out held true x told h = longer_out start out told x h

-- a text that was added to what is held back was told
pub tells_added : (a b : Option (List ℕ)) (s t u : List ℕ × Bool) (x : List ℕ) → Tells a b s t [] → u ≡ (t.0 ++ x, t.1) → Tells a b s u x
tells_added a b s t u x p is start told h =
    let had : HasTold start b t.0 t.1 told = subst (λ (w : List ℕ). HasTold start b t.0 t.1 w) (append-nil told) (p start told h) in
    subst (λ (v : List ℕ × Bool). HasTold start b v.0 v.1 (told ++ x)) (sym is) (added start b t.0 t.1 x told had)

-- texts that were added one after the other
pub added_more : (t u v : List ℕ × Bool) (x y : List ℕ) → u ≡ (t.0 ++ x, t.1) → v ≡ (u.0 ++ y, u.1) → v ≡ (t.0 ++ (x ++ y), t.1)
added_more t u v x y first second =
    second ∙ ap (λ (s : List ℕ × Bool). (s.0 ++ y, s.1)) first ∙ ap (λ (l : List ℕ). (l, t.1)) (append_assoc t.0 x y)

-- what was held back is gone as far as a failed write let it
pub held_gone : (old new : Option (List ℕ)) (before : List ℕ × Bool) (held : List ℕ) (failed : Bool) → (held, failed) ≡ before → failed ≡ false → WentOut old new held
    → (start : Option (List ℕ)) (told : List ℕ) → HasTold start old before.0 before.1 told → WentOut start new (told ++ [])
held_gone old new before held failed is fine out start told h =
    let was : HasTold start old held false told =
    subst (λ (b : Bool). HasTold start old held b told) fine (subst (λ (s : List ℕ × Bool). HasTold start old s.0 s.1 told) (sym is) h) in
    record {
      front = was.0 ++ out.front;
      rest = out.rest;
      whole = append-nil told ∙ was.1 ∙ ap (λ t. was.0 ++ t) out.whole ∙ sym (append_assoc was.0 out.front out.rest);
      out = appends_more start old new was.0 out.front was.2 out.out;
    }

-- ---- all that was told to an output that was told nothing before

pub nothing_told : (w : Option (List ℕ)) (s : List ℕ × Bool) → s ≡ ([], false) → HasTold w w s.0 s.1 []
nothing_told w s is = subst (λ (t : List ℕ × Bool). HasTold w w t.0 t.1 []) (sym is) ([], refl, appends_same w)

pub all_out : (w out now : Option (List ℕ)) (before after : List ℕ × Bool) (text : List ℕ) → before ≡ ([], false) → Tells w out before after text
    → ((start : Option (List ℕ)) (told : List ℕ) → HasTold start out after.0 after.1 told → Appends start now told) → Appends w now text
all_out w out now before after text is tells sent = sent w text (tells w [] (nothing_told w before is))

pub some_out : (w out now : Option (List ℕ)) (before after : List ℕ × Bool) (text : List ℕ) → before ≡ ([], false) → Tells w out before after text
    → ((start : Option (List ℕ)) (told : List ℕ) → HasTold start out after.0 after.1 told → WentOut start now told) → WentOut w now text
some_out w out now before after text is tells sent = sent w text (tells w [] (nothing_told w before is))
