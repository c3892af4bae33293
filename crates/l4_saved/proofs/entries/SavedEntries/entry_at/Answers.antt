use Rattle.std.proofs.Common.{◌≡◌, ◌⊎◌, ℕ, ◌+◌, ◌-◌, ◌/◌, ◌<◌, List, length, slice_get, ap, ◌∙◌, subst, arith}
use Rattle.l4_record.specs.declared.entries.Entry.{Entry}
use Rattle.l4_segments.specs.declared.files.Heading.{Heading}
use Rattle.l4_saved.proofs.Numbers.{entries_before, between_later, between_earlier, starts, found}
use Rattle.l4_saved.proofs.entries.SavedEntries.entry_at.Goals as goal

pub overflow_sub-heading : goal.overflow_sub-heading
overflow_sub-heading c =
    let j = c.args.self.now.joined.now in
    let segments = c.segments-segments.result.now in
    let middle = c.loop-low.low + (c.loop-low.high - c.loop-low.low) / 2 in
    let inside : middle < length segments = let within = c.loop-low.invariant.within in omega (arith, c.loop-low-test.true, within) in
    let begins = starts segments middle c.index-segments-middle.result inside c.index-segments-middle.is j.frames j.size j.first c.segments-segments.ensures.fit in
    omega (arith, ap (λ (h : Heading). h.first) c.heading.ensures, c.first-first.ensures, begins)

pub loop-low-preserved-then-heading-first : goal.loop-low-preserved-then-heading-first
loop-low-preserved-then-heading-first c =
    let j = c.args.self.now.joined.now in
    let segments = c.segments-segments.result.now in
    let middle = c.loop-low.low + (c.loop-low.high - c.loop-low.low) / 2 in
    let inside : middle < length segments = let within = c.loop-low.invariant.within in omega (arith, c.loop-low-test.true, within) in
    let begins = starts segments middle c.index-segments-middle.result inside c.index-segments-middle.is j.frames j.size j.first c.segments-segments.ensures.fit in
    between_later segments c.args.number c.loop-low.low middle c.loop-low.high c.loop-low.invariant (omega (arith, c.loop-low-test.true))
    (omega (arith, ap (λ (h : Heading). h.first) c.heading.ensures, c.first-first.ensures, begins, c.if-heading-first.true))

pub loop-low-preserved : goal.loop-low-preserved
loop-low-preserved c =
    let j = c.args.self.now.joined.now in
    let segments = c.segments-segments.result.now in
    let middle = c.loop-low.low + (c.loop-low.high - c.loop-low.low) / 2 in
    let inside : middle < length segments = let within = c.loop-low.invariant.within in omega (arith, c.loop-low-test.true, within) in
    let begins = starts segments middle c.index-segments-middle.result inside c.index-segments-middle.is j.frames j.size j.first c.segments-segments.ensures.fit in
    between_earlier segments c.args.number c.loop-low.low middle c.loop-low.high c.loop-low.invariant (omega arith) (omega (arith, c.loop-low-test.true))
    (omega (arith, ap (λ (h : Heading). h.first) c.heading.ensures, c.first-first.ensures, begins, c.if-heading-first.false))

pub overflow_sub-heading-2 : goal.overflow_sub-heading-2
overflow_sub-heading-2 c =
    let j = c.args.self.now.joined.now in
    let segments = c.segments-segments.result.now in
    let ordered = c.loop-low.invariant.ordered in
    let within = c.loop-low.invariant.within in
    let inside : c.loop-low.low - 1 < length segments = omega (arith, c.if-low-eq0.false, ordered, within) in
    let begins = starts segments (c.loop-low.low - 1) c.index-segments-low.result inside c.index-segments-low.is j.frames j.size j.first c.segments-segments.ensures.fit in
    omega (arith, ap (λ (h : Heading). h.first) c.heading-2.ensures, c.first-first.ensures, begins)

pub overflow_sub-number : goal.overflow_sub-number
overflow_sub-number c =
    let j = c.args.self.now.joined.now in
    let segments = c.segments-segments.result.now in
    let ordered = c.loop-low.invariant.ordered in
    let within = c.loop-low.invariant.within in
    let inside : c.loop-low.low - 1 < length segments = omega (arith, c.if-low-eq0.false, ordered, within) in
    let begins = starts segments (c.loop-low.low - 1) c.index-segments-low.result inside c.index-segments-low.is j.frames j.size j.first c.segments-segments.ensures.fit in
    let before = c.loop-low.invariant.lower (c.loop-low.low - 1) (omega (arith, c.if-low-eq0.false)) in
    omega (arith, ap (λ (h : Heading). h.first) c.heading-2.ensures, c.first-first.ensures, begins, before)

pub returns : goal.returns
returns c =
    let j = c.args.self.now.joined.now in
    let segments = c.segments-segments.result.now in
    let ordered = c.loop-low.invariant.ordered in
    let within = c.loop-low.invariant.within in
    let inside : c.loop-low.low - 1 < length segments = omega (arith, c.if-low-eq0.false, ordered, within) in
    let begins = starts segments (c.loop-low.low - 1) c.index-segments-low.result inside c.index-segments-low.is j.frames j.size j.first c.segments-segments.ensures.fit in
    let before = c.loop-low.invariant.lower (c.loop-low.low - 1) (omega (arith, c.if-low-eq0.false)) in
    let same : c.loop-low.high ≡ c.loop-low.low - 1 + 1 = omega (arith, c.if-low-eq0.false, ordered, c.loop-low-test.false) in
    let next : (length segments ≡ c.loop-low.low - 1 + 1) ⊎ (c.args.number < entries_before segments (c.loop-low.low - 1 + 1)) =
    subst (λ (h : ℕ). (length segments ≡ h) ⊎ (c.args.number < entries_before segments h)) same c.loop-low.invariant.upper in
    c.get.ensures
    ∙ found segments (c.loop-low.low - 1) c.index-segments-low.result inside c.index-segments-low.is c.args.number (c.args.number - (c.heading-2.result.first - c.first-first.result))
    (omega (arith, ap (λ (h : Heading). h.first) c.heading-2.ensures, c.first-first.ensures, begins, before)) next
    ∙ ap (λ (l : List Entry). slice_get l c.args.number) c.segments-segments.ensures.entries
