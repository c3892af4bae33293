-- How calls ended, as C gets it (this profile's own).
use Rattle.std.specs.Prelude.{ℕ, [], Option, None, Some, length}
use Rattle.l4_threads.specs.declared.Reply.{Reply}
use Rattle.l4_threads.specs.declared.Reply.TheVariants.{Ipc, Hit, Answered, FaultFailed, Unmapped, Controlled, Gone}
use Rattle.l4_c_values.specs.Told.{filled}
use Rattle.l4_c_values.specs.declared.results.ReplyResult.{ReplyResult}

-- a reply of this kind with this ErrorCode, and without a message
abbrev pub plain_result : ℕ → ℕ → ℕ → ReplyResult
plain_result code kind error = record { refusal = code; kind = kind; tag = 0; error = error; «from» = 0; word_count = 0; words = filled 64 []; reserved = filled 2 [] }

abbrev pub reply_result : Option Reply → ReplyResult
reply_result None = plain_result 0 0 0
reply_result (Some (Ipc reply)) = record {
  refusal = 0;
  kind = 1;
  tag = reply.tag;
  error = reply.error;
  «from» = reply.«from».0;
  word_count = length reply.words.items;
  words = filled 64 reply.words.items;
  reserved = filled 2 [];
}
reply_result (Some Hit) = plain_result 0 2 0
reply_result (Some Answered) = plain_result 0 3 0
reply_result (Some (FaultFailed code)) = plain_result 0 4 code
reply_result (Some Unmapped) = plain_result 0 5 0
reply_result (Some Controlled) = plain_result 0 6 0
reply_result (Some Gone) = plain_result 0 7 0
