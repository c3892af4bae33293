-- Answers reported to a sink one after another.
use Rattle.std.proofs.Common.{◌≡◌, List, [], ◌++◌, sym, subst}
use Rattle.std.proofs.lemmas.List.{append-nil}
use mathlib.Core.List.{append_assoc}
use Rattle.l4_answers.specs.Reports.{Report, AddsAll, Keeps}

pub adds_none : {T : Type 0} (has_told : T → T → List Report → Type 0) (a : T) → AddsAll has_told a a []
adds_none has_told a first told h = subst (λ (l : List Report). has_told first a l) (sym (append-nil told)) h

pub adds_more : {T : Type 0} (has_told : T → T → List Report → Type 0) (a b c : T) (x y : List Report) → AddsAll has_told a b x → AddsAll has_told b c y → AddsAll has_told a c (x ++ y)
adds_more has_told a b c x y p q first told h =
    subst (λ (l : List Report). has_told first c l) (append_assoc told x y) (q first (told ++ x) (p first told h))

pub adds_is : {T : Type 0} (has_told : T → T → List Report → Type 0) (a b : T) (x y : List Report) → x ≡ y → AddsAll has_told a b x → AddsAll has_told a b y
adds_is has_told a b x y e p = subst (λ (l : List Report). AddsAll has_told a b l) e p

pub adds_kept : {T : Type 0} (has_told : T → T → List Report → Type 0) (a b c : T) (x : List Report) → AddsAll has_told a b x → Keeps has_told b c → AddsAll has_told a c x
adds_kept has_told a b c x p q first told h = q first (told ++ x) (p first told h)
