-- The lines of a script that were answered with annotations so far.
use Rattle.std.proofs.Common.{◌≡◌, ℕ, ◌+◌, ◌==◌, ◌<◌, Bool, true, false, cond, List, [], ◌++◌, length, take, drop, refl, sym, ap, subst, ◌∙◌, Option, Some, None, is_some, Result, Ok, Err, IfOk, IfErr, inl, inr, arith}
use Rattle.std.proofs.lemmas.List.{append-nil, nil_from_length}
use Rattle.std.specs.List.{position_or_len}
use mathlib.Core.List.{append_assoc}
use Rattle.std.proofs.lemmas.Bool.Decides.{nat_tests}
use Rattle.std.specs.Io.KnownBytes.{Appends}
use Rattle.l4_answers.specs.Reports.{Report, AddsAll, AllOut}
use Rattle.l4_fpage.specs.declared.sizes.PageSize.{PageSize}
use Rattle.l4_shell.specs.ByLines.{state_of}
use Rattle.l4_commands.specs.Requests.{asked_at}
use Rattle.l4_shell.specs.Sessions.{State, AnswersLine}
use Rattle.l4_sinks.specs.declared.teller.Teller.{Teller}
use Rattle.l4_sinks.specs.Tellers.{HasReported, HasWritten}
use Rattle.l4_sinks.specs.Texts.{AreAnswerTexts, last_refusal}
use Rattle.l4_sinks.proofs.Running.{IsNew, nothing_reported}
use Rattle.l4_text.specs.declared.lines.Ending.{Ending}
use Rattle.l4_record.specs.declared.entries.Entry.{Entry}
use Rattle.l4_text.specs.Grammar.{TextLine, lines_of, is_comment}
use Rattle.l4_text.specs.Streams.{Tells}
use Rattle.l4_text.proofs.Telling.{tells_none, tells_more, tells_is}
use Rattle.l4_text.specs.declared.faults.RunFault.{RunFault}
use Rattle.l4_text.specs.declared.faults.RunFault.TheVariants.{Memory}
use Rattle.l4_answers.proofs.AnswerTexts.{begins}
use Rattle.l4_history.specs.Annotations.{number_text, line_text, tells_transfer, HasMoves, IsAnnotated, Annotates, AnnotatesPart}
use Rattle.l4_history.specs.Inside.Annotating.{RanOut, RanOutIn, RanOutBelow, Answered}
use Rattle.l4_history.specs.declared.annotating.Annotated.{Annotated}
use Rattle.l4_history.specs.Moves.{NextMoves}
use Rattle.l4_history.specs.declared.moves.Follower.{Follower}

-- ONE LINE OF ANSWERS

-- the next transfer's moves were told
pub next_moves : (r : Result (Unit {0}) RunFault) (history other : List Entry) (old : Option Follower) (follower new : Follower) (w v : Option (List ℕ)) (s t : List ℕ × Bool) → other ≡ history → old ≡ Some follower
    → IfOk r (λ _. (text : List ℕ) × NextMoves (drop follower.next other) follower.kernel follower.next text new.kernel new.next × Tells w v s t text)
    → IfOk r (λ _. (moves : List ℕ) × HasMoves true history old moves (Some new) × Tells w v s t moves)
next_moves (Ok done) history other old follower new w v s t same is h = (
  h.0,
  subst (λ (o : Option Follower). HasMoves true history o h.0 (Some new)) (sym is)
      (new, refl, subst (λ (es : List Entry). NextMoves (drop follower.next es) follower.kernel follower.next h.0 new.kernel new.next) same h.1),
  h.2,
)
next_moves (Err fault) history other old follower new w v s t same is h = h

-- a line that explains an answer
pub explaining_line : (numbers : Bool) (line : ℕ) (history : List Entry) (follower : Option Follower) (bytes : List ℕ) (w v : Option (List ℕ)) (s t : List ℕ × Bool) → is_comment bytes ≡ true → Tells w v s t bytes
    → (text : List ℕ) × IsAnnotated numbers line history follower (is_comment bytes) bytes text follower × Tells w v s t text
explaining_line numbers line history follower bytes w v s t is tells =
    (bytes, subst (λ (b : Bool). IsAnnotated numbers line history follower b bytes bytes follower) (sym is) (refl, refl), tells)

-- what is told of an answer after its number
both : (w v u : Option (List ℕ)) (s t z : List ℕ × Bool) (number bytes : List ℕ) → Tells w v s t number → Tells v u t z bytes → Tells w u s z (number ++ bytes)
both w v u s t z number bytes one other = tells_more w v u s t z number bytes one other

-- an answer that says what happened to a transfer, with its moves
pub moving_line : (r : Result (Unit {0}) RunFault) (numbers : Bool) (line : ℕ) (history : List Entry) (follower after : Option Follower) (bytes : List ℕ) (w v u x : Option (List ℕ)) (s t z y : List ℕ × Bool)
    → is_comment bytes ≡ false → tells_transfer bytes ≡ true → Tells w v s t (number_text numbers line) → Tells v u t z bytes
    → IfOk r (λ _. (moves : List ℕ) × HasMoves true history follower moves after × Tells u x z y moves)
    → IfOk r (λ _. (text : List ℕ) × IsAnnotated numbers line history follower (is_comment bytes) bytes text after × Tells w x s y text)
moving_line (Ok done) numbers line history follower after bytes w v u x s t z y answer transfer number told h =
    let text : List ℕ = number_text numbers line ++ (bytes ++ h.0) in (
      text,
      subst (λ (b : Bool). IsAnnotated numbers line history follower b bytes text after) (sym answer)
          (h.0, subst (λ (b : Bool). HasMoves b history follower h.0 after) (sym transfer) h.1, refl),
      tells_more w v x s t y (number_text numbers line) (bytes ++ h.0) number (tells_more v u x t z y bytes h.0 told h.2),
    )
moving_line (Err fault) numbers line history follower after bytes w v u x s t z y answer transfer number told h = h

-- there was no memory to find its moves
pub moving_err : (r : Result (Unit {0}) RunFault) (numbers : Bool) (line : ℕ) (follower : Option Follower) (bytes : List ℕ) (w v u x : Option (List ℕ)) (s t z y : List ℕ × Bool)
    → is_comment bytes ≡ false → tells_transfer bytes ≡ true → Tells w v s t (number_text numbers line) → Tells v u t z bytes
    → IfErr r (λ e. (e ≡ Memory) × (is_some follower ≡ true) × (x ≡ u) × (y ≡ z)) → IfErr r (RanOutBelow numbers line follower bytes w x s y)
moving_err (Ok done) numbers line follower bytes w v u x s t z y answer transfer number told h = h
moving_err (Err fault) numbers line follower bytes w v u x s t z y answer transfer number told h =
    let text : List ℕ = number_text numbers line ++ bytes in (
      h.0,
      answer,
      transfer,
      h.1,
      subst (λ (o : Option (List ℕ)). Tells w o s y text) (sym h.2)
          (subst (λ (o : List ℕ × Bool). Tells w u s o text) (sym h.3) (tells_more w v u s t z (number_text numbers line) bytes number told)),
    )

-- any other answer
pub other_line : (numbers : Bool) (line : ℕ) (history : List Entry) (follower : Option Follower) (bytes : List ℕ) (w v u : Option (List ℕ)) (s t z : List ℕ × Bool)
    → is_comment bytes ≡ false → tells_transfer bytes ≡ false → Tells w v s t (number_text numbers line) → Tells v u t z bytes
    → (text : List ℕ) × IsAnnotated numbers line history follower (is_comment bytes) bytes text follower × Tells w u s z text
other_line numbers line history follower bytes w v u s t z answer other number told =
    let text : List ℕ = number_text numbers line ++ (bytes ++ []) in (
      text,
      subst (λ (b : Bool). IsAnnotated numbers line history follower b bytes text follower) (sym answer)
          ([], subst (λ (b : Bool). HasMoves b history follower [] follower) (sym other) (refl, refl), refl),
      tells_is w u s z (number_text numbers line ++ bytes) text (ap (λ x. number_text numbers line ++ x) (sym (append-nil bytes))) (tells_more w v u s t z (number_text numbers line) bytes number told),
    )

-- THE TEXT OF A LINE'S ANSWERS

-- what was written so far, and what is left of the text
pub record TextSoFar (numbers : Bool) (line : ℕ) (history : List Entry) (text rest : List ℕ) (first now : Option Follower) (w v : Option (List ℕ)) (s t : List ℕ × Bool) : Type 0 where
  pub written : List ℕ
  pub tells : Tells w v s t written
  pub on : (more : List ℕ) (after : Option Follower) → Annotates numbers line history now (lines_of rest) more after → Annotates numbers line history first (lines_of text) (written ++ more) after
  pub part : (more : List ℕ) → AnnotatesPart numbers line history now (lines_of rest) more → AnnotatesPart numbers line history first (lines_of text) (written ++ more)

pub text_first : (numbers : Bool) (line : ℕ) (history : List Entry) (text : List ℕ) (follower : Option Follower) (w : Option (List ℕ)) (s : List ℕ × Bool) → TextSoFar numbers line history text text follower follower w w s s
text_first numbers line history text follower w s = record { written = []; tells = tells_none w s; on = λ more after h. h; part = λ more h. h }

pub text_more : (numbers : Bool) (line : ℕ) (history : List Entry) (text rest left piece : List ℕ) (first now then' : Option Follower) (w v u : Option (List ℕ)) (s t z : List ℕ × Bool) → TextSoFar numbers line history text rest first now w v s t
    → 0 < length rest → piece ≡ take (position_or_len (λ b. b == 10) rest + 1) rest → left ≡ drop (position_or_len (λ b. b == 10) rest + 1) rest
    → (one : List ℕ) × IsAnnotated numbers line history now (is_comment piece) piece one then' × Tells v u t z one → TextSoFar numbers line history text left first then' w u s z
text_more numbers line history text rest left piece first now then' w v u s t z so some piece_is left_is one =
    let b = begins rest some in
    let front : TextLine = record { bytes = take (position_or_len (λ b. b == 10) rest) rest; whole = b.whole } in
    let same : piece ≡ line_text front = piece_is ∙ sym b.piece in
    record {
      written = so.written ++ one.0;
      tells = tells_more w v u s t z so.written one.0 so.tells one.2;
      on = λ more after h.
          subst (λ (x : List ℕ). Annotates numbers line history first (lines_of text) x after) (sym (append_assoc so.written one.0 more))
          (so.on (one.0 ++ more) after
          (subst (λ (ls : List TextLine). Annotates numbers line history now ls (one.0 ++ more) after) (sym b.lines) (
            one.0,
            more,
            then',
            subst (λ (p : List ℕ). IsAnnotated numbers line history now (is_comment p) p one.0 then') same one.1,
            subst (λ (r : List ℕ). Annotates numbers line history then' (lines_of r) more after) left_is h,
            refl,
          )));
      part = λ more h.
          subst (λ (x : List ℕ). AnnotatesPart numbers line history first (lines_of text) x) (sym (append_assoc so.written one.0 more))
          (so.part (one.0 ++ more)
          (subst (λ (ls : List TextLine). AnnotatesPart numbers line history now ls (one.0 ++ more)) (sym b.lines) (inr (
            one.0,
            more,
            then',
            subst (λ (p : List ℕ). IsAnnotated numbers line history now (is_comment p) p one.0 then') same one.1,
            subst (λ (r : List ℕ). AnnotatesPart numbers line history then' (lines_of r) more) left_is h,
            refl,
          ))));
    }

pub text_all : (numbers : Bool) (line : ℕ) (history : List Entry) (text rest : List ℕ) (first now : Option Follower) (w v : Option (List ℕ)) (s t : List ℕ × Bool) → TextSoFar numbers line history text rest first now w v s t → length rest ≡ 0
    → (written : List ℕ) × Annotates numbers line history first (lines_of text) written now × Tells w v s t written
text_all numbers line history text rest first now w v s t so none =
    let empty = nil_from_length rest none in (
      so.written ++ [],
      so.on [] now (subst (λ (r : List ℕ). Annotates numbers line history now (lines_of r) [] now) (sym empty) (refl, refl)),
      tells_is w v s t so.written (so.written ++ []) (sym (append-nil so.written)) so.tells,
    )

-- ran out below the next line of the text
pub text_err : (fault : RunFault) (numbers : Bool) (line : ℕ) (history : List Entry) (text rest piece : List ℕ) (first now : Option Follower) (w v u : Option (List ℕ)) (s t z : List ℕ × Bool)
    → TextSoFar numbers line history text rest first now w v s t → 0 < length rest → piece ≡ take (position_or_len (λ b. b == 10) rest + 1) rest
    → RanOutBelow numbers line now piece v u t z fault → RanOutIn numbers line history first (lines_of text) w u s z fault
text_err fault numbers line history text rest piece first now w v u s t z so some piece_is h =
    let b = begins rest some in
    let front : TextLine = record { bytes = take (position_or_len (λ b. b == 10) rest) rest; whole = b.whole } in
    let same : piece ≡ line_text front = piece_is ∙ sym b.piece in
    let more : List ℕ = number_text numbers line ++ piece in (
      h.0,
      (
        so.written ++ more,
        so.part more
            (subst (λ (ls : List TextLine). AnnotatesPart numbers line history now ls more) (sym b.lines)
            (inl (ap is_comment (sym same) ∙ h.1, ap tells_transfer (sym same) ∙ h.2, h.3, ap (λ p. number_text numbers line ++ p) same))),
        tells_more w v u s t z so.written more so.tells h.4,
      ),
    )

-- the modes are those that it began with
pub same_below : (first now : Annotated) (fault : RunFault) (line : ℕ) (bytes : List ℕ) (w v : Option (List ℕ)) (s t : List ℕ × Bool) → now ≡ record first { follower = now.follower }
    → RanOutBelow now.number line now.follower bytes w v s t fault → RanOutBelow first.number line now.follower bytes w v s t fault
same_below first now fault line bytes w v s t was h = subst (λ (a : Annotated). RanOutBelow a.number line now.follower bytes w v s t fault) was h

-- nothing is left of a text
pub none_left : (count : ℕ) (empty : Bool) → empty ≡ (count == 0) → empty ≡ true → count ≡ 0
none_left count empty is none = let t : (count == 0) ≡ true = sym is ∙ none in grind (arith, nat_tests)

-- what a line did to the second kernel alone is the same after lines that did so
pub put_same : (first now new : Annotated) → now ≡ record first { follower = now.follower } → new ≡ record now { follower = new.follower } → new ≡ record first { follower = new.follower }
put_same first now new was is = is ∙ ap (λ (a : Annotated). record a { follower = new.follower }) was

-- ---- the text of the answers to a line

-- a line was answered to a teller that nothing was reported to
pub line_answered : {W : Type 0} (contents : W → Option (List ℕ)) (first told_to sent : Teller W) (writer : W) (explains : Option PageSize) (strict : Bool) (m n : State) (line : ℕ) (ending : Ending) (bytes text : List ℕ) (told : List Report) (refused : Option (List ℕ))
    → IsNew first writer strict explains → AnswersLine m line (asked_at m.session.machine.size m.names ending bytes) told n → AddsAll (HasReported contents) first told_to told → AllOut (HasReported contents) (HasWritten contents) told_to sent
    → ((written : List ℕ) → Appends (contents writer) (contents sent.writer) written → text ≡ written) → refused ≡ sent.refused → Answered explains strict m line ending bytes text refused n
line_answered contents first told_to sent writer explains strict m n line ending bytes text told refused is answers adds out text_is refused_is =
    let w : HasWritten contents first sent told = out first told (adds first [] (nothing_reported contents first writer strict explains is)) in
    let same : text ≡ w.1.0 = text_is w.1.0 (subst (λ (x : _). Appends (contents x) (contents sent.writer) w.1.0) is.writer_is w.1.2) in
    record {
      told = told;
      answers = answers;
      texts = subst (λ (t : List ℕ). AreAnswerTexts explains told t) (sym same) (subst (λ (e : Option PageSize). AreAnswerTexts e told w.1.0) is.explains_is w.1.1);
      refused_is = refused_is ∙ w.0.refused ∙ ap (λ b. cond b (last_refusal None told) None) is.strict_is;
    }

-- memory ran out in its annotations
pub line_ran_out : (fault : RunFault) (old now : Annotated) (line : ℕ) (ending : Ending) (bytes plain text : List ℕ) (refused : Option (List ℕ)) (w v : Option (List ℕ)) (s t : List ℕ × Bool)
    → now ≡ record old { run = now.run } → text ≡ plain → Answered old.explains old.strict (state_of old.run) line ending bytes plain refused (state_of now.run)
    → RanOutIn now.number line (state_of now.run).session.history now.follower (lines_of text) w v s t fault
    → RanOut old.explains old.strict old.number (state_of old.run) line ending bytes old.follower w v s t fault
line_ran_out fault old now line ending bytes plain text refused w v s t was same answered h =
    let told : RanOutIn old.number line (state_of now.run).session.history old.follower (lines_of plain) w v s t fault =
    subst (λ (a : Annotated). RanOutIn a.number line (state_of now.run).session.history a.follower (lines_of plain) w v s t fault) was
    (subst (λ (x : List ℕ). RanOutIn now.number line (state_of now.run).session.history now.follower (lines_of x) w v s t fault) same h) in
    (told.0, (told.1.0, inr (record { plain = plain; refused = refused; n = state_of now.run; answered = answered; part = told.1.1 }), told.1.2))

-- the modes of the kernel of a script, and its history, are those that it began with
pub same_modes : (first now : Annotated) (line : ℕ) (comment : Bool) (bytes : List ℕ) (after : Option Follower) (w v : Option (List ℕ)) (s t : List ℕ × Bool) → now ≡ record first { follower = now.follower }
    → (text : List ℕ) × IsAnnotated now.number line (state_of now.run).session.history now.follower comment bytes text after × Tells w v s t text
    → (text : List ℕ) × IsAnnotated first.number line (state_of first.run).session.history now.follower comment bytes text after × Tells w v s t text
same_modes first now line comment bytes after w v s t was h =
    (h.0, subst (λ (a : Annotated). IsAnnotated a.number line (state_of a.run).session.history now.follower comment bytes h.0 after) was h.1, h.2)
