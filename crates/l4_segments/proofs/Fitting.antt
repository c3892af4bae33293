-- Segments that fit, one more each time.
use Rattle.std.proofs.Common.{◌≡◌, ℕ, ◌+◌, ◌<◌, ◌≤◌, List, [], ◌∷◌, ◌++◌, length, take, drop, get_or, sym, ap, ◌∙◌, subst, arith}
use Rattle.std.proofs.lemmas.List.{length-append, take_all, take_more, drop_more, take-append-drop, length-take-le}
use Rattle.l4_fpage.specs.declared.sizes.PageSize.{PageSize}
use Rattle.l4_segments.specs.Saved.{Saved}
use Rattle.l4_segments.specs.declared.joining.Misfit.{Misfit}
use Rattle.l4_segments.specs.Joining.{all_entries, end_of, BeginsAt, Fit, IsMisfit, Misfits}

entries_more : (segments : List Saved) (s : Saved) → length (all_entries (segments ++ s ∷ [])) ≡ length (all_entries segments) + length s.entries
entries_more [] s = omega (arith, length-append s.entries [])
entries_more (x ∷ segments) s =
    let more = entries_more segments s in
    omega (arith, more, length-append x.entries (all_entries (segments ++ s ∷ [])), length-append x.entries (all_entries segments))

end_more : (first : ℕ) (segments : List Saved) (s : Saved) → end_of first (segments ++ s ∷ []) ≡ end_of first segments + length s.entries
end_more first segments s = let more = entries_more segments s in omega (arith, more)

moved : (frames : ℕ) (size : PageSize) (n m : ℕ) (s : Saved) → n ≡ m → BeginsAt frames size n s → BeginsAt frames size m s
moved frames size n m s same is = subst (λ (k : ℕ). BeginsAt frames size k s) same is

fit_more : (frames : ℕ) (size : PageSize) (first : ℕ) (segments : List Saved) (s : Saved) → Fit frames size first segments → BeginsAt frames size (end_of first segments) s → Fit frames size first (segments ++ s ∷ [])
fit_more frames size first [] s fit is = (moved frames size (end_of first []) first s (omega arith) is, tt)
fit_more frames size first (x ∷ segments) s fit is =
    let later : end_of first (x ∷ segments) ≡ end_of (first + length x.entries) segments = omega (arith, length-append x.entries (all_entries segments)) in
    (fit.0, fit_more frames size (first + length x.entries) segments s fit.1 (moved frames size (end_of first (x ∷ segments)) (end_of (first + length x.entries) segments) s later is))

module _ (frames : ℕ) (size : PageSize) (first : ℕ) (segments : List Saved) (place : ℕ) (s : Saved) (lt : place < length segments) (is : s ≡ get_or segments place s) where
  taken : take (place + 1) segments ≡ take place segments ++ s ∷ []
  taken = take_more segments place s lt ∙ ap (λ (x : Saved). take place segments ++ x ∷ []) (sym is)

  pub fit_next : (expected : ℕ) → expected ≡ end_of first (take place segments) → Fit frames size first (take place segments) → BeginsAt frames size expected s → Fit frames size first (take (place + 1) segments)
  fit_next expected at fit begins =
      subst (Fit frames size first) (sym taken) (fit_more frames size first (take place segments) s fit (moved frames size expected (end_of first (take place segments)) s at begins))

  pub end_next : end_of first (take (place + 1) segments) ≡ end_of first (take place segments) + length s.entries
  end_next = ap (end_of first) taken ∙ end_more first (take place segments) s

  pub misfits : (misfit : Misfit) → misfit.place ≡ place → misfit.expected ≡ end_of first (take place segments) → Fit frames size first (take place segments)
      → IsMisfit frames size misfit.expected s misfit.kind → Misfits frames size first segments misfit
  misfits misfit at expected fit other = record {
    earlier = take place segments;
    segment = s;
    later = drop (place + 1) segments;
    segments_are = sym (take-append-drop place segments) ∙ ap (λ (l : List Saved). take place segments ++ l) (drop_more segments place s lt ∙ ap (λ (x : Saved). x ∷ drop (place + 1) segments) (sym is));
    place = at ∙ sym (length-take-le place segments (omega (arith, lt)));
    fit = fit;
    expected = expected;
    other = other;
  }

pub all_fit : (frames : ℕ) (size : PageSize) (first : ℕ) (segments : List Saved) (place : ℕ) → length segments ≤ place → Fit frames size first (take place segments) → Fit frames size first segments
all_fit frames size first segments place past fit = subst (Fit frames size first) (take_all place segments past) fit
