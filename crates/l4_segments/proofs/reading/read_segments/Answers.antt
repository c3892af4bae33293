use Rattle.std.proofs.Common.{ℕ, Bool, List, [], ◌∷◌, ◌++◌, drop, ◌≡◌, ◌+◌, if◌then◌else◌, inl, inr, refl, ap, ◌∙◌, subst}
use Rattle.l4_segments.specs.declared.faults.FileFault.{FileFault}
use Rattle.l4_segments.specs.Faults.{Departs}
use Rattle.l4_segments.specs.Inside.Reading.{ReadsFront}
use Rattle.l4_segments.specs.Saved.{Saved}
use Rattle.l4_segments.proofs.Several.{from_on, one_read, all_read, departs_after, no_files}
use Rattle.l4_segments.proofs.reading.read_segments.Goals as goal

pub returns-in-Err-clause-none : goal.returns-in-Err-clause-none
returns-in-Err-clause-none c =
    let fault : FileFault = record { position = c.loop-read.at + c.in-Err.fault.position; kind = c.in-Err.fault.kind } in
    elim c.in-Err.ensures.err [
      | inl lacks ↦ inl lacks
      | inr departs ↦ inr (no_files c.args.bytes.now fault (departs_after c.args.bytes.now c.loop-read.segments.items c.loop-read.at c.in-Err.fault fault c.loop-read.invariant.0
          c.loop-read.invariant.1 (subst (λ (l : List ℕ). Departs l c.in-Err.fault) (from_on c.args.bytes.now c.loop-read.at) departs.0) departs.1 refl refl))
    ]

pub returns-then-at-bytes-clause-ok : goal.returns-then-at-bytes-clause-ok
returns-then-at-bytes-clause-ok c =
    let before : List Saved = c.loop-read.segments.items in
    let read : Saved = c.in-Ok.read.0 in
    let items : c.push.new.self.items ≡ before ++ read ∷ [] = c.push.ensures.items ∙ ap (λ (b : Bool). if b then before ++ read ∷ [] else before) c.if-is_err.ensures.negation in
    let front : ReadsFront (drop c.loop-read.at c.args.bytes.now) read.heading read.entries c.in-Ok.read.1 =
    subst (λ (l : List ℕ). ReadsFront l read.heading read.entries c.in-Ok.read.1) (from_on c.args.bytes.now c.loop-read.at) c.in-Ok.ensures.ok in
    all_read c.args.bytes.now c.push.new.self.items (c.loop-read.at + c.in-Ok.read.1)
    (one_read c.args.bytes.now before c.push.new.self.items read c.loop-read.at c.in-Ok.read.1 c.loop-read.invariant.0 front items) c.if-at-bytes.true

pub loop-read-preserved : goal.loop-read-preserved
loop-read-preserved c =
    let before : List Saved = c.loop-read.segments.items in
    let read : Saved = c.in-Ok.read.0 in
    let items : c.push.new.self.items ≡ before ++ read ∷ [] = c.push.ensures.items ∙ ap (λ (b : Bool). if b then before ++ read ∷ [] else before) c.if-is_err.ensures.negation in
    let front : ReadsFront (drop c.loop-read.at c.args.bytes.now) read.heading read.entries c.in-Ok.read.1 =
    subst (λ (l : List ℕ). ReadsFront l read.heading read.entries c.in-Ok.read.1) (from_on c.args.bytes.now c.loop-read.at) c.in-Ok.ensures.ok in
    (one_read c.args.bytes.now before c.push.new.self.items read c.loop-read.at c.in-Ok.read.1 c.loop-read.invariant.0 front items, inr c.if-at-bytes.false)
