use Rattle.std.proofs.Common.{Some, ap}
use Rattle.l4_journal.proofs.RoundTrip.{call_again, answer_again, reply_again, place_again}
use Rattle.l4_journal.proofs.laws.written_words_read_back.Goals as goal

pub returns-clause-call : goal.returns-clause-call
returns-clause-call c = call_again

pub returns-clause-answer : goal.returns-clause-answer
returns-clause-answer c = answer_again

pub returns-clause-reply : goal.returns-clause-reply
returns-clause-reply c = reply_again

pub returns-clause-place : goal.returns-clause-place
returns-clause-place c = λ place rest. ap (λ n. Some (n, rest)) (place_again place)
