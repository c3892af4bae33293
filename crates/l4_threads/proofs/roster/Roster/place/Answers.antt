use Rattle.std.proofs.Common.{◌≡◌, ℕ, ◌%◌, slice_index_or, List, Option, None, MatchOption, slice_get, Some, sym, ap, subst, ◌∙◌}
use Rattle.std.proofs.lemmas.Option.{slice_get-get_or}
use Rattle.l4_threads.specs.Inside.Entries.{Entries, found, IsAt}
use Rattle.l4_threads.specs.Inside.Numbers.{IsFirst, IsNowhere}
use Rattle.l4_threads.proofs.NumberLemmas.{once_at, is_at, not_found}
use Rattle.l4_threads.proofs.roster.Roster.place.Goals as goal

pub returns-then-numbers-hint : goal.returns-then-numbers-hint
returns-then-numbers-hint c =
    let at = slice_index_or c.self.inside.hints (c.args.number % 256) 0 in
    let there = slice_get-get_or c.as_slice-numbers.result.now at 0 c.if-hint-numbers.true in
    subst (λ (es : Entries). IsAt es c.args.number at) c.self.view_is
    (once_at c.self.inside.entries.items c.self.inside.numbers.items c.args.number at c.self.invariant.numbered.listed c.self.invariant.numbered.once
    (ap (λ (l : List ℕ). slice_get l at) (sym c.as_slice-numbers.ensures.value) ∙ there ∙ ap (λ (n : ℕ). Some n) c.if-numbers-hint.true))

pub returns : goal.returns
returns c =
    let es = c.self.inside.entries.items in
    let numbers = c.as_slice-numbers.result.now in
    let n = c.args.number in
    let listed = c.as_slice-numbers.ensures.value ∙ c.self.invariant.numbered.listed in
    subst (λ (es : Entries). MatchOption c.place_among.result (found es n ≡ None) (IsAt es n)) c.self.view_is
    (elim c.place_among.result as (λ (o : Option ℕ). MatchOption o (IsNowhere numbers n) (IsFirst numbers n) → MatchOption o (found es n ≡ None) (IsAt es n)) [
      | None ↦ λ none. not_found es numbers n listed none
      | Some at ↦ λ first. is_at es numbers n at listed first
    ] c.place_among.ensures)
