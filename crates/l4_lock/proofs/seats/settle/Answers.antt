use Rattle.std.proofs.Common.{None, ◌++◌, ◌∷◌, [], sym, ap, ◌∙◌}
use Rattle.l4_lock.specs.Books.{Book, book, receipt_of}
use Rattle.l4_lock.proofs.seats.settle.Goals as goal

pub returns-clause-some : goal.returns-clause-some
returns-clause-some c = record {
  pending = c.in-Some.open;
  pending_is = ap (λ (b : Book). b.pending) (sym c.account.view_is) ∙ c.in-Some.is;
  ended = c.in-Some-ended.ended;
  ended_is = c.in-Some-ended.is;
  answers = c.copy_reply-reply.ensures;
  book_is = (λ i. record (book c.account.inside.number None (c.push.ensures.items i)) { kept_from = c.push.ensures.kept_from i })
      ∙ ap (λ (b : Book). record b { pending = None; receipts = b.receipts ++ receipt_of c.in-Some.open c.in-Some-ended.ended ∷ [] }) c.account.view_is;
  number = c.receive.ensures.waiting.1;
  waiting = c.receive.ensures.waiting.0;
  receipts = c.receive.ensures.receipts;
  kept_from = c.receive.ensures.kept_from;
}
