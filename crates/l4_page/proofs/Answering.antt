-- The answers to a script, and their text.
use Rattle.std.proofs.Common.{◌≡◌, ℕ, Bool, true, false, List, [], Option, Some, Result, Ok, inl, subst}
use Rattle.l4_fpage.specs.declared.sizes.PageSize.{PageSize}
use Rattle.l4_text.specs.declared.faults.RunFault.{RunFault}
use Rattle.l4_sinks.specs.Scripts.{RunsScript}
use Rattle.l4_sinks.specs.declared.scripts.Ended.{Ended}
use Rattle.l4_history.specs.Annotations.{AnnotatesScript}
use Rattle.l4_page.specs.Scripts.{keeps_none, none, TellsAnswers, TellsAnnotated, numbers_and_moves}
use Rattle.l4_page.specs.Told.{IsTold}
use Rattle.l4_page.specs.declared.telling.Told.{Told as Answer}

-- what a run wrote to an empty list is what was told
pub tells_answers : (frames : ℕ) (size : PageSize) (explain : Bool) (script rest first text shown old new : List ℕ) (ran : Result Ended RunFault) (ended : Ended) (told : Answer)
    → RunsScript false frames size false explain (Some script) (Some rest) (Some first) (Some text) keeps_none none none ran → first ≡ [] → ran ≡ Ok ended → shown ≡ text
    → IsTold shown true ended.lines old new told → TellsAnswers frames size explain script old new told
tells_answers frames size explain script rest first text shown old new ran ended told runs empty ok same is = inl (
  rest,
  text,
  ended,
  subst (λ (r : Result Ended RunFault). RunsScript false frames size false explain (Some script) (Some rest) (Some []) (Some text) keeps_none none none r) ok
      (subst (λ (f : List ℕ). RunsScript false frames size false explain (Some script) (Some rest) (Some f) (Some text) keeps_none none none ran) empty runs),
  subst (λ (s : List ℕ). IsTold s true ended.lines old new told) same is,
)

-- the same of a run with numbers and moves
pub tells_annotated : (frames : ℕ) (size : PageSize) (script rest first text shown old new : List ℕ) (ended : Ended) (told : Answer)
    → AnnotatesScript frames size numbers_and_moves (Some script) (Some rest) (Some first) (Some text) (Ok ended) → first ≡ [] → shown ≡ text
    → IsTold shown true ended.lines old new told → TellsAnnotated frames size script old new told
tells_annotated frames size script rest first text shown old new ended told annotates empty same is = inl (
  rest,
  text,
  ended,
  subst (λ (f : List ℕ). AnnotatesScript frames size numbers_and_moves (Some script) (Some rest) (Some f) (Some text) (Ok ended)) empty annotates,
  subst (λ (s : List ℕ). IsTold s true ended.lines old new told) same is,
)
