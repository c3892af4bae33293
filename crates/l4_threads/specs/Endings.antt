-- The replies of calls whose replies have no words (this profile's own).
use Rattle.l4_threads.specs.declared.Reply.{Reply}
use Rattle.l4_threads.specs.declared.Reply.TheVariants.{Hit as IsHit, Answered as IsAnswered, FaultFailed as HasFailed, Unmapped as IsUnmapped, Controlled as IsControlled}
use Rattle.l4_threads.specs.declared.Wordless.{Wordless}
use Rattle.l4_threads.specs.declared.Wordless.TheVariants.{Hit, Answered, FaultFailed, Unmapped, Controlled}

-- the reply of this ending
abbrev pub wordless_reply : Wordless → Reply
wordless_reply Hit = IsHit
wordless_reply Answered = IsAnswered
wordless_reply (FaultFailed code) = HasFailed code
wordless_reply Unmapped = IsUnmapped
wordless_reply Controlled = IsControlled
