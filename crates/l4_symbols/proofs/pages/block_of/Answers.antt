use Rattle.std.proofs.Common.{rules, ◌≡◌, ◌+◌, ◌≤◌, ◌<◌, ◌^◌, arith}
use Rattle.std.proofs.lemmas.Bool.{false≢true}
use Rattle.l4_fpage.specs.Pages.{space_pages}
use Rattle.l4_symbols.specs.Items.{IsRun}
use Rattle.l4_symbols.proofs.Computed.{block_is, block_uncounted, block_beyond, block_unaligned}
use Rattle.l4_symbols.proofs.Named.{unaligned}
use Rattle.l4_symbols.proofs.pages.block_of.Goals as goal

pub returns-in_default-clause-value : goal.returns-in_default-clause-value
returns-in_default-clause-value c = block_uncounted c.args.size c.args.pages.now c.in_default.ensures.value

pub returns-then-pages-space_pages-clause-value : goal.returns-then-pages-space_pages-clause-value
returns-then-pages-space_pages-clause-value c =
    let beyond : space_pages c.args.size < c.args.pages.now.first + c.args.pages.now.count = search rules in
    block_beyond c.args.size c.args.pages.now c.in-Some.log c.in-Some.ensures.value beyond

pub returns-in-Some-new-clause-value : goal.returns-in-Some-new-clause-value
returns-in-Some-new-clause-value c =
    let run : IsRun c.args.size c.args.pages.now c.in-Some-new.block.log = search rules in
    block_is c.args.size c.args.pages.now c.in-Some-new.block.log run

pub returns-in-None-clause-err : goal.returns-in-None-clause-err
returns-in-None-clause-err c =
    let p = c.args.pages.now in
    let log : p.count ≡ 2 ^ c.in-Some.log = c.in-Some.ensures.some.1 in
    let inside : p.first + p.count ≤ space_pages c.args.size = omega (arith, c.space_pages.ensures.value, c.space_pages-else-pages-space_pages.ensures.value) in
    (c.in-Some.log, log, inside, unaligned c.args.size p.first p.count c.in-Some.log log inside (λ block. false≢true (c.in-None.ensures.valid.1 block)))

pub returns-in-None-clause-value : goal.returns-in-None-clause-value
returns-in-None-clause-value c =
    let p = c.args.pages.now in
    let log : p.count ≡ 2 ^ c.in-Some.log = c.in-Some.ensures.some.1 in
    let inside : p.first + p.count ≤ space_pages c.args.size = omega (arith, c.space_pages.ensures.value, c.space_pages-else-pages-space_pages.ensures.value) in
    block_unaligned c.args.size p c.in-Some.log c.in-Some.ensures.value inside (unaligned c.args.size p.first p.count c.in-Some.log log inside (λ block. false≢true (c.in-None.ensures.valid.1 block)))
