-- The text of answers, with or without what each means (this profile's own).
use Rattle.std.specs.Prelude.{ℕ, ◌≡◌, Bool, false, List, [], ◌∷◌, ◌++◌, Option, None, Some, is_some, MatchOption, if◌then◌else◌, codes}
use Rattle.std.specs.Str.{bytes_eq}
use Rattle.l4_fpage.specs.declared.sizes.PageSize.{PageSize}
use Rattle.l4_threads.specs.declared.Reply.{Reply}
use Rattle.l4_answers.specs.Refusals.{Refusal}
use Rattle.l4_answers.specs.Reports.{Report, Ended, RefusedLine, UnreadLine, report_text, refused_line}
use Rattle.l4_decode.specs.Decoded.{IsMessageText}
use Rattle.l4_sinks.specs.Words.{says, reply_says, received}
use Rattle.l4_sinks.specs.declared.reasons.LineRefusal.{LineRefusal}

-- `# `
abbrev pub mark : List ℕ
mark = 35 ∷ 32 ∷ []

-- a sentence in a line behind the mark
unfoldable pub sentence_text : List ℕ → List ℕ
sentence_text says = mark ++ says ++ 10 ∷ []

-- the same where answers are explained
abbrev pub said : Option PageSize → List ℕ → List ℕ
said None says = []
said (Some size) says = sentence_text says

-- what a reply means: the message that was received, as it is decoded, each line behind the mark; else a sentence
abbrev pub Means : PageSize → Option Reply → List ℕ → Type 0
Means size reply words = MatchOption (received reply) (words ≡ sentence_text (reply_says reply)) (λ message. IsMessageText mark size message words)

-- WHAT AN ANSWER MEANS: how a call ended, or the sentence of any other answer
abbrev pub Explains : PageSize → Report → List ℕ → Type 0
Explains size (Ended thread reply) words = Means size reply words
Explains size report words = words ≡ sentence_text (says report)

-- an answer's text: its line, and below it what it means, where answers are explained
abbrev pub IsAnswerText : Option PageSize → Report → List ℕ → Type 0
IsAnswerText None report text = text ≡ report_text report
IsAnswerText (Some size) report text = (words : List ℕ) × Explains size report words × (text ≡ report_text report ++ words)

-- what the last of these answers says that refuses a line; before them this was said
abbrev pub last_refusal : Option (List ℕ) → List Report → Option (List ℕ)
last_refusal before [] = before
last_refusal before (report ∷ reports) = last_refusal (if is_some (refused_line report) then Some (says report) else before) reports

-- whether memory ran out
abbrev pub is_lack : Refusal → Bool
is_lack refusal = bytes_eq refusal.name (codes "NoMemory")

-- whether an answer refuses a line because memory ran out
abbrev pub lacks_memory : Report → Bool
lacks_memory (RefusedLine line refusal) = is_lack refusal
lacks_memory (UnreadLine size names line refusal bytes) = is_lack refusal
lacks_memory report = false

-- what an answer says that refuses a line, and whether memory ran out
abbrev pub why_refused : Report → LineRefusal
why_refused report = record { reason = says report; lacks_memory = lacks_memory report }

-- the same of the last of these answers that refuses a line; before them it was this
abbrev pub last_refused : Option LineRefusal → List Report → Option LineRefusal
last_refused before [] = before
last_refused before (report ∷ reports) = last_refused (if is_some (refused_line report) then Some (why_refused report) else before) reports

-- the text of answers, one after another
abbrev pub AreAnswerTexts : Option PageSize → List Report → List ℕ → Type 0
AreAnswerTexts explains [] text = text ≡ []
AreAnswerTexts explains (report ∷ reports) text =
    (first : List ℕ) × (rest : List ℕ) × IsAnswerText explains report first × AreAnswerTexts explains reports rest × (text ≡ first ++ rest)
