-- What is written is read again.
use Rattle.std.proofs.Common.{◌≡◌, ℕ, ◌+◌, ◌*◌, ◌/◌, ◌%◌, ◌^◌, ◌≤◌, Bool, true, false, ltb, List, ◌++◌, length, Some, refl, arith}
use Rattle.std.proofs.lemmas.Bool.{le-ltb}
use Rattle.std.proofs.lemmas.List.{take_at, drop_at, length-append}
use Rattle.l4_fpage.specs.Rights.{set_of_bits, bits_of}
use Rattle.l4_msg.specs.Sizes.{max_words}
use Rattle.l4_threads.specs.Sizes.{max_threads}
use Rattle.l4_threads.specs.declared.Reply.{Reply}
use Rattle.l4_threads.specs.declared.Reply.TheVariants.{Ipc as ByIpc, Hit, Answered, FaultFailed, Unmapped, Controlled, Gone}
use Rattle.l4_ipc.specs.declared.calls.Call.{Call}
use Rattle.l4_ipc.specs.declared.calls.Call.TheVariants.{Ipc, Fault, Unmap, Control as Controls}
use Rattle.l4_ipc.specs.declared.calls.Control.TheVariants.{Create, SetPager, Delete}
use Rattle.l4_ipc.specs.declared.steps.Outcome.{Outcome}
use Rattle.l4_ipc.specs.declared.steps.Outcome.TheVariants.{Started, Done, NoWindow, Entangled, NoMemory, Expired, Canceled}
use Rattle.l4_ipc.specs.declared.steps.Answer.{Answer}
use Rattle.l4_journal.specs.Codes.{call_tag, call_fields, outcome_code, counted, answer_code, reply_code, CallFits, AnswerFits, ReplyFits}
use Rattle.l4_journal.specs.Reading.{list_at, counted_at, call_of, outcome_of, answer_at, reply_at}

list_again : (limit : ℕ) (words : List ℕ) → length words ≤ limit → list_at limit words ≡ Some words
unfolding list_at
list_again limit words few =
    let short : ltb limit (length words) ≡ false = le-ltb _ _ few in
    rw short refl

counted_again : (limit : ℕ) (words rest : List ℕ) → length words ≤ limit → counted_at limit (counted words ++ rest) ≡ Some (words, rest)
unfolding counted_at
counted_again limit words rest few =
    let long : ltb (length (words ++ rest)) (length words) ≡ false = le-ltb _ _ (omega (arith, length-append words rest)) in
    rw (long, take_at words rest (length words) refl, drop_at words rest (length words) refl, list_again limit words few) refl

rights_by_bits : (r w x : Bool) → set_of_bits (bits_of (record { r = r; w = w; x = x })) ≡ record { r = r; w = w; x = x }
rights_by_bits true true true = refl
rights_by_bits true true false = refl
rights_by_bits true false true = refl
rights_by_bits true false false = refl
rights_by_bits false true true = refl
rights_by_bits false true false = refl
rights_by_bits false false true = refl
rights_by_bits false false false = refl

few_bits : (r w x : Bool) → ltb (bits_of (record { r = r; w = w; x = x })) 8 ≡ true
few_bits true true true = refl
few_bits true true false = refl
few_bits true false true = refl
few_bits true false false = refl
few_bits false true true = refl
few_bits false true false = refl
few_bits false false true = refl
few_bits false false false = refl

pub call_again : (call : Call) → CallFits call → call_of (call_tag call) (call_fields call) ≡ Some call
call_again (Ipc c) fits = rw (list_again max_words c.words.items fits) refl
call_again (Fault f) fits = rw (few_bits f.access.r f.access.w f.access.x, rights_by_bits f.access.r f.access.w f.access.x) refl
call_again (Unmap u) fits = rw (list_again max_words u.words.items fits) refl
call_again (Controls (Create c)) fits = refl
call_again (Controls (SetPager s)) fits = refl
call_again (Controls (Delete id)) fits = refl

pub outcome_again : (outcome : Outcome) → outcome_of (outcome_code outcome) ≡ Some outcome
outcome_again Started = refl
outcome_again Done = refl
outcome_again NoWindow = refl
outcome_again Entangled = refl
outcome_again NoMemory = refl
outcome_again Expired = refl
outcome_again Canceled = refl

pub answer_again : (answer : Answer) (rest : List ℕ) → AnswerFits answer → answer_at (answer_code answer ++ rest) ≡ Some (answer, rest)
answer_again answer rest fits = rw (outcome_again answer.outcome, counted_again max_threads answer.ended.items rest fits) refl

pub reply_again : (reply : Reply) (rest : List ℕ) → ReplyFits reply → reply_at (reply_code reply ++ rest) ≡ Some (reply, rest)
unfolding reply_at
reply_again (ByIpc r) rest fits = rw (counted_again max_words r.words.items rest fits) refl
reply_again Hit rest fits = refl
reply_again Answered rest fits = refl
reply_again (FaultFailed error) rest fits = refl
reply_again Unmapped rest fits = refl
reply_again Controlled rest fits = refl
reply_again Gone rest fits = refl

pub place_again : (place : ℕ) → place % 2 ^ 32 + 2 ^ 32 * (place / 2 ^ 32) ≡ place
place_again place = omega arith
