-- The steps that follow a start, one after another.
use Rattle.std.proofs.Common.{◌≡◌, ℕ, ◌+◌, ◌<◌, ◌≤◌, List, [], ◌∷◌, ◌++◌, length, slice_set, Ok, refl, ap, ◌∙◌, subst, inl, inr, arith}
use Rattle.std.proofs.lemmas.List.{length-append}
use Rattle.l4_threads.specs.Threads.{IsConsistent}
use Rattle.l4_ipc.specs.declared.steps.Answer.{Answer}
use Rattle.l4_ipc.specs.declared.steps.Step.{Step}
use Rattle.l4_ipc.specs.Machine.{Machine}
use Rattle.l4_ipc.specs.Steps.{Steps, IsNext}
use Rattle.l4_ipc.specs.Following.{Done, AreNext}
use Rattle.l4_ipc.proofs.Work.{work, work_few, fewer}
use Rattle.l4_c_values.specs.declared.results.NextResult.{NextResult}
use Rattle.l4_c_values.specs.Told.{done_result}
use Rattle.l4_c.specs.Exports.{noted}
use Rattle.std.proofs.lemmas.Bool.{cases_lt}

-- steps so far, as many as were counted
pub record Going (old new : Machine) (count : ℕ) (places written : List NextResult) : Type 0 where
  pub dones : List Done
  pub next : AreNext old dones new
  pub counted : count ≡ length dones
  pub few : count + work new.threads ≤ 64
  pub steps : written ≡ noted dones places

-- one more step is written down, where there is room
noted_there : (ds : List Done) (d : Done) (places : List NextResult) → length ds < length (noted ds places)
    → slice_set (noted ds places) (length ds) (done_result d.step d.answer) ≡ noted (ds ++ d ∷ []) places
noted_there [] d [] h = absurd (omega (arith, h))
noted_there [] d (p ∷ ps) h = refl
noted_there (x ∷ ds) d [] h = absurd (omega (arith, h))
noted_there (x ∷ ds) d (p ∷ ps) h = ap (λ (l : List NextResult). done_result x.step x.answer ∷ l) (noted_there ds d ps (omega (arith, h)))

noted_beyond : (ds : List Done) (d : Done) (places : List NextResult) → length (noted ds places) ≤ length ds → noted ds places ≡ noted (ds ++ d ∷ []) places
noted_beyond [] d [] h = refl
noted_beyond [] d (p ∷ ps) h = absurd (omega (arith, h))
noted_beyond (x ∷ ds) d [] h = refl
noted_beyond (x ∷ ds) d (p ∷ ps) h = ap (λ (l : List NextResult). done_result x.step x.answer ∷ l) (noted_beyond ds d ps (omega (arith, h)))

one_more : (old m new : Machine) (ds : List Done) (step : Step) (answer : Answer) → AreNext old ds m → IsNext m step → Steps m step (Ok answer) new
    → AreNext old (ds ++ record { step = step; answer = answer; after = new } ∷ []) new
one_more old m new [] step answer h next s =
    subst (λ (x : Machine). AreNext x (record { step = step; answer = answer; after = new } ∷ []) new) h (next, s, refl)
one_more old m new (d ∷ ds) step answer h next s = (h.0, h.1, one_more d.after m new ds step answer h.2 next s)

written_more : (ds : List Done) (d : Done) (places : List NextResult) (count : ℕ) (before after : List NextResult) → count ≡ length ds → before ≡ noted ds places
    → (count < length before → after ≡ slice_set before count (done_result d.step d.answer)) → (length before ≤ count → after ≡ before)
    → after ≡ noted (ds ++ d ∷ []) places
written_more ds d places count before after counted e there beyond =
    let r = done_result d.step d.answer in let long = ap length e in
    elim (cases_lt count (length before)) [
      | inl h ↦ there h ∙ ap (λ (b : List NextResult). slice_set b count r) e ∙ ap (λ (n : ℕ). slice_set (noted ds places) n r) counted
          ∙ noted_there ds d places (omega (arith, h, counted, long))
      | inr h ↦ beyond h ∙ e ∙ noted_beyond ds d places (omega (arith, h, counted, long))
    ]

pub going_first : (m : Machine) (places : List NextResult) → IsConsistent m.threads → Going m m 0 places places
going_first m places consistent = record {
  dones = [];
  next = refl;
  counted = refl;
  few = (let few = work_few m.threads in let most = consistent.few in omega (arith, few, most));
  steps = refl;
}

pub going_more : (old m new : Machine) (count : ℕ) (places before after : List NextResult) (step : Step) (answer : Answer) → Going old m count places before
    → IsNext m step → Steps m step (Ok answer) new
    → (count < length before → after ≡ slice_set before count (done_result step answer)) → (length before ≤ count → after ≡ before)
    → Going old new (count + 1) places after
going_more old m new count places before after step answer g next s there beyond =
    let less = fewer m new step answer next s in let few = g.few in let d : Done = record { step = step; answer = answer; after = new } in
    record {
      dones = g.dones ++ d ∷ [];
      next = one_more old m new g.dones step answer g.next next s;
      counted = (let c = g.counted in let l = length-append g.dones (d ∷ []) in omega (arith, c, l));
      few = omega (arith, less, few);
      steps = written_more g.dones d places count before after g.counted g.steps there beyond;
    }
