use Rattle.std.proofs.Common.{◌≡◌, ◌<◌, ◌++◌, ◌∷◌, [], length, ap, ◌∙◌, arith, if◌then◌else◌, IsOk, vec_len, vec_capacity}
use Rattle.std.proofs.lemmas.List.{length-set}
use Rattle.l4_threads.specs.Inside.Entries.{Entries, found}
use Rattle.l4_threads.specs.Sizes.{max_threads}
use Rattle.l4_threads.proofs.NumberLemmas.{pushed_numbers}
use Rattle.l4_threads.proofs.roster.Roster.push.Goals as goal

-- there is room for one more entry
fewer : (c : goal.After-push-2) → length c.self.inside.entries.items < max_threads
fewer c = let seen = ap (λ (es : Entries). length es) c.self.view_is in let room = c.requires.room in omega (arith, seen, room)

appended : (c : goal.After-push-2) → c.push.new.self.items ≡ c.self.inside.entries.items ++ (c.args.number, c.args.thread) ∷ []
appended c =
    let old = c.self.inside.entries.items in
    let fewer = fewer c in
    let room = c.self.invariant.room in
    let long = c.self.inside.entries.ok.0 in
    let less : vec_len c.self.inside.entries < vec_capacity c.self.inside.entries = omega (arith, fewer, room, long) in
    let ok : IsOk c.push.result = c.push.ensures.succeeds less in
    c.push.ensures.items ∙ ap (λ b. if b then old ++ (c.args.number, c.args.thread) ∷ [] else old) ok

pub invariant_of-self : goal.invariant_of-self
invariant_of-self c =
    rw (c.push-2.ensures.items, appended c)
    (pushed_numbers c.self.inside.entries.items c.self.inside.numbers.items c.self.inside.hints (vec_capacity c.self.inside.entries) c.args.number c.args.thread _ _ c.self.invariant
    (ap (λ (es : Entries). found es c.args.number) c.self.view_is ∙ c.requires.free) (fewer c) (length-set _ _ _ ∙ c.self.invariant.numbered.counted) c.push.ensures.capacity)
