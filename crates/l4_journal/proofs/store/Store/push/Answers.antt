use Rattle.std.proofs.Common.{◌++◌, vec_capacity, arith}
use Rattle.std.proofs.lemmas.List.{length-append}
use Rattle.l4_journal.proofs.Storing.{one_more, enough_words, records_pushed, store_pushed}
use Rattle.l4_journal.proofs.store.Store.push.Goals as goal

pub put_parts-requires : goal.put_parts-requires
put_parts-requires c =
    let enough =
    enough_words c.self.inside.ends.items c.self.inside.words.items (vec_capacity c.self.inside.ends) (vec_capacity c.self.inside.words) c.self.inside.room c.args.self.now c.self.view_is c.requires.room
    c.self.invariant in
    omega (arith, enough.0, c.self.inside.words.ok.0, c.requires.few)

pub overflow_cast-len : goal.overflow_cast-len
overflow_cast-len c =
    let enough =
    enough_words c.self.inside.ends.items c.self.inside.words.items (vec_capacity c.self.inside.ends) (vec_capacity c.self.inside.words) c.self.inside.room c.args.self.now c.self.view_is c.requires.room
    c.self.invariant in
    omega (arith, enough.1, c.len.ensures, c.put_parts.ensures.len, c.self.inside.words.ok.0, c.requires.few)

pub push_reserved-requires : goal.push_reserved-requires
push_reserved-requires c =
    let more =
    one_more c.self.inside.ends.items c.self.inside.words.items (vec_capacity c.self.inside.ends) (vec_capacity c.self.inside.words) c.self.inside.room c.args.self.now c.self.view_is c.requires.room
    c.self.invariant in
    omega (arith, more, c.self.invariant.listed, c.self.inside.ends.ok.0)

pub invariant_of-self : goal.invariant_of-self
invariant_of-self c =
    let more = c.args.head.now ++ c.args.tail.now in
    let size = length-append c.args.head.now c.args.tail.now in
    store_pushed c.self.inside.ends.items c.self.inside.words.items (vec_capacity c.self.inside.ends) (vec_capacity c.self.inside.words) c.self.inside.room c.args.self.now c.self.view_is c.requires.room
    c.self.invariant more c.push_reserved.new.self.items c.put_parts.new.out.items c.len.result (omega (arith, size, c.requires.few))
    (omega (arith, size, c.len.ensures, c.put_parts.ensures.len, c.self.inside.words.ok.0)) c.push_reserved.ensures.items c.put_parts.ensures.items
    (vec_capacity c.push_reserved.new.self) (vec_capacity c.put_parts.new.out) (omega (arith, c.push_reserved.ensures.capacity)) c.put_parts.ensures.capacity

pub returns-clause-records : goal.returns-clause-records
returns-clause-records c =
    let more = c.args.head.now ++ c.args.tail.now in
    let size = length-append c.args.head.now c.args.tail.now in
    records_pushed c.self.inside.ends.items c.self.inside.words.items (vec_capacity c.self.inside.ends) (vec_capacity c.self.inside.words) c.self.inside.room c.args.self.now c.self.view_is c.requires.room
    c.self.invariant more c.push_reserved.new.self.items c.put_parts.new.out.items c.len.result (omega (arith, size, c.requires.few))
    (omega (arith, size, c.len.ensures, c.put_parts.ensures.len, c.self.inside.words.ok.0)) c.push_reserved.ensures.items c.put_parts.ensures.items
