use Rattle.std.proofs.Common.{◌-◌, List, length, ap, arith}
use Rattle.l4_record.specs.declared.entries.Entry.{Entry}
use Rattle.l4_segments.specs.declared.files.Heading.{Heading}
use Rattle.l4_saved.proofs.Numbers.{starts, all_counted}
use Rattle.l4_saved.proofs.entries.SavedEntries.count.Goals as goal

pub overflow_sub-result : goal.overflow_sub-result
overflow_sub-result c =
    let segments = c.segments-segments.result.now in
    let some = c.if-count-eq0.false in
    let begins =
    starts segments (length segments - 1) c.index-segments-count.result (omega (arith, some)) c.index-segments-count.is c.args.self.now.joined.now.frames c.args.self.now.joined.now.size
    c.args.self.now.joined.now.first c.segments-segments.ensures.fit in
    omega (arith, ap (λ (h : Heading). h.first) c.heading.ensures, c.first.ensures, begins)

pub returns-clause-count : goal.returns-clause-count
returns-clause-count c =
    let segments = c.segments-segments.result.now in
    let some = c.if-count-eq0.false in
    let begins =
    starts segments (length segments - 1) c.index-segments-count.result (omega (arith, some)) c.index-segments-count.is c.args.self.now.joined.now.frames c.args.self.now.joined.now.size
    c.args.self.now.joined.now.first c.segments-segments.ensures.fit in
    let counted = all_counted segments (length segments - 1) c.index-segments-count.result (omega (arith, some)) c.index-segments-count.is (omega (arith, some)) in
    let all = ap (λ (l : List Entry). length l) c.segments-segments.ensures.entries in
    omega (arith, ap (λ (h : Heading). h.first) c.heading.ensures, c.first.ensures, c.len.ensures, begins, counted, all)

pub returns-clause-numbers : goal.returns-clause-numbers
returns-clause-numbers c some_entries =
    let segments = c.segments-segments.result.now in
    let some = c.if-count-eq0.false in
    let begins =
    starts segments (length segments - 1) c.index-segments-count.result (omega (arith, some)) c.index-segments-count.is c.args.self.now.joined.now.frames c.args.self.now.joined.now.size
    c.args.self.now.joined.now.first c.segments-segments.ensures.fit in
    let count = c.law_segment.ensures.count in
    let numbers = c.law_segment.ensures.heading.numbers in
    omega (arith, ap (λ (h : Heading). h.first) c.heading.ensures, c.first.ensures, c.len.ensures, begins, count, numbers)
