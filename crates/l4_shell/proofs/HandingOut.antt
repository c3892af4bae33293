-- The history of a script is handed out in segments.
use Rattle.std.proofs.Common.{◌≡◌, ℕ, ◌+◌, ◌≤◌, ◌⊎◌, Bool, true, false, cond, nat_lt, List, [], ◌∷◌, ◌++◌, length, length-append, Result, Ok, Err, inl, inr, refl, sym, ap, subst, ◌∙◌, arith}
use Rattle.std.proofs.lemmas.Bool.{false≢true}
use Rattle.std.proofs.lemmas.Bool.Decides.{nat_tests}
use Rattle.std.proofs.lemmas.List.{append-nil, drop_at}
use Rattle.std.proofs.lemmas.Grind.{flat_map-append}
use mathlib.Core.List.{append_assoc}
use Rattle.l4_record.specs.declared.entries.Entry.{Entry}
use Rattle.l4_record.specs.declared.segments.Segment.{Segment}
use Rattle.l4_record.specs.Seated.{Seated}
use Rattle.l4_record.specs.Segments.{kept, kept_count, entries_of, AreNumbered, KeepsAll}
use Rattle.l4_servers.specs.Servers.{Servers}
use Rattle.l4_names.specs.Names.{Names}
use Rattle.l4_text.specs.declared.faults.RunFault.{RunFault}
use Rattle.l4_text.specs.declared.faults.RunFault.TheVariants.{Read, Write, Memory}
use Rattle.l4_shell.specs.Sessions.{Session, session, State, state, segment_entries, without_kept, between_lines}
use Rattle.l4_shell.specs.Scripts.{KeepsFirst, KeepsHistory}
use Rattle.l4_shell.specs.Inside.Scripts.{KeepsSoFar, KeepsScript, HandsOn, PassesOn, LosesSegment, EndsSegments, has_lost}
use Rattle.l4_shell.proofs.Lengthened.{Lengthens}

-- SEGMENTS

keeps_none : {K : Type 0} (has_kept : K → K → List Segment → Type 0) (s : K) → KeepsAll has_kept s s []
keeps_none has_kept s first earlier h = subst (λ (l : List Segment). has_kept first s l) (sym (append-nil earlier)) h

keeps_more : {K : Type 0} (has_kept : K → K → List Segment → Type 0) (before between after : K) (a b : List Segment) → KeepsAll has_kept before between a → KeepsAll has_kept between after b → KeepsAll has_kept before after (a ++ b)
keeps_more has_kept before between after a b one two first earlier h =
    subst (λ (l : List Segment). has_kept first after l) (append_assoc earlier a b) (two first (earlier ++ a) (one first earlier h))

numbered_more : (first : ℕ) (segments : List Segment) (segment : Segment) → AreNumbered first segments → segment.first ≡ first + length (entries_of segments) → AreNumbered first (segments ++ segment ∷ [])
numbered_more first [] segment are is = (omega (arith, is), tt)
numbered_more first (s ∷ segments) segment are is =
    (are.0, numbered_more (first + length s.history.entries) segments segment are.1 (omega (arith, is, length-append s.history.entries (entries_of segments))))

entries_more : (segments : List Segment) (segment : Segment) → entries_of (segments ++ segment ∷ []) ≡ entries_of segments ++ segment.history.entries
entries_more segments segment =
    flat_map-append (λ (s : Segment). s.history.entries) segments (segment ∷ []) ∙ ap (λ (l : List Entry). entries_of segments ++ l) (append-nil segment.history.entries)

-- THE FIRST ENTRIES OF A HISTORY

abbrev first_longer : {K : Type 0} (has_kept : K → K → List Segment → Type 0) (before after : K) (old new more : List Entry) → new ≡ old ++ more → KeepsFirst has_kept before after old → KeepsFirst has_kept before after new
first_longer has_kept before after old new more is k = record {
  segments = k.segments;
  rest = k.rest ++ more;
  numbered = k.numbered;
  history_is = is ∙ ap (λ (h : List Entry). h ++ more) k.history_is ∙ append_assoc (entries_of k.segments) k.rest more;
  keeps = k.keeps;
}

abbrev first_lost : {K : Type 0} (has_kept : K → K → List Segment → Type 0) (before between after : K) (old new : List Entry) → new ≡ old → KeepsAll has_kept between after [] → KeepsFirst has_kept before between old → KeepsFirst has_kept before after new
first_lost has_kept before between after old new is none k = record {
  segments = k.segments;
  rest = k.rest;
  numbered = k.numbered;
  history_is = is ∙ k.history_is;
  keeps = subst (λ (l : List Segment). KeepsAll has_kept before after l) (append-nil k.segments) (keeps_more has_kept before between after k.segments [] k.keeps none);
}

-- A SCRIPT

pub keeps_boot : {K : Type 0} (hands_out : Bool) (has_kept : K → K → List Segment → Type 0) (keeper : K) (s : Session) → s.kept_from ≡ 0 → KeepsSoFar hands_out has_kept keeper keeper s
keeps_boot hands_out has_kept keeper s none = record {
  first = record { segments = []; rest = s.history; numbered = tt; history_is = refl; keeps = keeps_none has_kept keeper };
  count = sym none;
  none = λ _. none;
}

pub keeps_line : {K : Type 0} (hands_out : Bool) (has_kept : K → K → List Segment → Type 0) (before after : K) (old new : Session) → Lengthens old new → KeepsSoFar hands_out has_kept before after old → KeepsSoFar hands_out has_kept before after new
keeps_line hands_out has_kept before after old new l k = record {
  first = first_longer has_kept before after old.history new.history l.more l.history k.first;
  count = k.count ∙ sym l.kept_from;
  none = λ off. l.kept_from ∙ k.none off;
}

module _ {K : Type 0} (has_kept : K → K → List Segment → Type 0) (before between after : K) (old new : Seated) (sv : Servers) (hands : HandsOn has_kept between after old new) (hands_out : Bool) (k : KeepsSoFar hands_out has_kept before between (session old sv)) where
  abbrev segments : List Segment
  segments = k.first.segments ++ hands.0 ∷ []

  rest_is : hands.0.history.entries ≡ k.first.rest
  rest_is =
      hands.1.entries ∙ ap (kept old.kept_from) k.first.history_is ∙ drop_at (entries_of k.first.segments) k.first.rest old.kept_from k.count

  all_is : old.history ≡ entries_of segments
  all_is = k.first.history_is ∙ ap (λ (l : List Entry). entries_of k.first.segments ++ l) (sym rest_is) ∙ sym (entries_more k.first.segments hands.0)

  same_entries : new.history ≡ old.history
  same_entries = ap (λ (s : Seated). s.history) hands.1.new_is

  pub handed_first : KeepsFirst has_kept before after new.history
  handed_first = record {
    segments = segments;
    rest = [];
    numbered = numbered_more 0 k.first.segments hands.0 k.first.numbered (let first = hands.1.first in let count = k.count in omega (arith, first, count));
    history_is = same_entries ∙ all_is ∙ sym (append-nil (entries_of segments));
    keeps = keeps_more has_kept before between after k.first.segments (hands.0 ∷ []) k.first.keeps hands.2;
  }

  pub handed_so_far : hands_out ≡ true → KeepsSoFar hands_out has_kept before after (session new sv)
  unfolding handed_first
  handed_so_far on = record {
    first = handed_first;
    count = sym (ap length all_is) ∙ sym (ap (λ (s : Seated). s.kept_from) hands.1.new_is);
    none = λ off. absurd (false≢true (sym off ∙ on));
  }

pub keeps_between : {K : Type 0} (hands_out takes : Bool) (has_kept : K → K → List Segment → Type 0) (before between after : K) (old new : Seated) (sv : Servers) → takes ≡ hands_out → PassesOn takes has_kept between after old new
    → KeepsSoFar hands_out has_kept before between (session old sv) → KeepsSoFar hands_out has_kept before after (session new sv)
keeps_between hands_out takes has_kept before between after old new sv is passes k = elim passes [
  | inl same ↦
      subst (λ (a : _). KeepsSoFar hands_out has_kept before a (session new sv)) (sym same.2)
      (subst (λ (x : Seated). KeepsSoFar hands_out has_kept before between (session x sv)) (sym same.1) k)
  | inr hands ↦ handed_so_far has_kept before between after old new sv hands.2 hands_out k (sym is ∙ hands.0)
]

pub keeps_lost : {K : Type 0} (hands_out : Bool) (has_kept : K → K → List Segment → Type 0) (before between after : K) (old new : Seated) (sv : Servers) → LosesSegment has_kept between after old new
    → KeepsSoFar hands_out has_kept before between (session old sv) → KeepsFirst has_kept before after new.history
keeps_lost hands_out has_kept before between after old new sv lost k = first_lost has_kept before between after old.history new.history lost.0 lost.1 k.first

-- THE STATE BETWEEN LINES

handed_is : (hands_out : Bool) (old new : Seated) (sv : Servers) (names : Names) → segment_entries ≤ kept_count old.kept_from old.history → hands_out ≡ true → new ≡ record old { kept_from = length old.history }
    → state new sv names ≡ between_lines hands_out (state old sv names)
handed_is hands_out old new sv names enough on is =
    let not_less : nat_lt (kept_count old.kept_from old.history) segment_entries ≡ false = grind (arith, nat_tests) in
    ap (λ (k : Seated). state k sv names) is
    ∙ sym (ap (λ b. cond b (cond (nat_lt (kept_count old.kept_from old.history) segment_entries) (state old sv names) (without_kept (state old sv names))) (state old sv names)) on
    ∙ ap (λ b. cond b (state old sv names) (without_kept (state old sv names))) not_less)

kept_is : (hands_out less : Bool) (s t : State) → (hands_out ≡ false) ⊎ (less ≡ true) → s ≡ cond hands_out (cond less s t) s
kept_is false less s t h = refl
kept_is true true s t h = refl
kept_is true false s t h = elim h [ inl off ↦ absurd (false≢true (sym off)) | inr short ↦ absurd (false≢true short) ]

goes_on : {K : Type 0} (hands_out : Bool) (has_kept : K → K → List Segment → Type 0) (before after : K) (old new : Seated) (sv : Servers) (names : Names) → PassesOn hands_out has_kept before after old new
    → state new sv names ≡ between_lines hands_out (state old sv names)
goes_on hands_out has_kept before after old new sv names passes = elim passes [
  | inl same ↦
      let less : (hands_out ≡ false) ⊎ (nat_lt (kept_count old.kept_from old.history) segment_entries ≡ true) =
      elim same.0 [ inl off ↦ inl off | inr short ↦ inr (let s = short in grind (arith, nat_tests)) ] in
      ap (λ (k : Seated). state k sv names) same.1 ∙ kept_is hands_out (nat_lt (kept_count old.kept_from old.history) segment_entries) (state old sv names) (without_kept (state old sv names)) less
  | inr hands ↦ handed_is hands_out old new sv names hands.1 hands.0 hands.2.1.new_is
]

pub between_is : {K : Type 0} (hands_out takes : Bool) (has_kept : K → K → List Segment → Type 0) (before after : K) (old new : Seated) (sv : Servers) (names : Names) → takes ≡ hands_out → PassesOn takes has_kept before after old new
    → state new sv names ≡ between_lines hands_out (state old sv names)
between_is hands_out takes has_kept before after old new sv names is passes =
    goes_on takes has_kept before after old new sv names passes ∙ ap (λ (b : Bool). between_lines b (state old sv names)) is

pub same_after : (b c : Bool) (s : State) → (cond b (cond c s (without_kept s)) s).session.history ≡ s.session.history
same_after false c s = refl
same_after true true s = refl
same_after true false s = refl

-- THE END

-- how a script ended: its segments are its whole history, or a segment was lost
abbrev pub KeepsEnd : {K : Type 0} → Bool → (K → K → List Segment → Type 0) → K → K → List Entry → Result ℕ RunFault → Type 0
KeepsEnd hands_out has_kept before after history (Ok count) = KeepsHistory hands_out has_kept before after history
KeepsEnd hands_out has_kept before after history (Err Read) = KeepsHistory hands_out has_kept before after history
KeepsEnd hands_out has_kept before after history (Err Write) = KeepsFirst has_kept before after history
KeepsEnd hands_out has_kept before after history (Err Memory) = ⊥

-- nothing is handed out
end_same : {K : Type 0} (hands_out : Bool) (has_kept : K → K → List Segment → Type 0) (before after : K) (s : Session) (answered : Result ℕ RunFault) → (has_lost answered ≡ true) ⊎ (hands_out ≡ false)
    → KeepsScript hands_out has_kept before after s answered → KeepsEnd hands_out has_kept before after s.history answered
end_same hands_out has_kept before after s (Ok count) why k =
    (k.first, λ on. elim why [ inl lost ↦ absurd (false≢true lost) | inr off ↦ absurd (false≢true (sym off ∙ on)) ])
end_same hands_out has_kept before after s (Err Read) why k =
    (k.first, λ on. elim why [ inl lost ↦ absurd (false≢true lost) | inr off ↦ absurd (false≢true (sym off ∙ on)) ])
end_same hands_out has_kept before after s (Err Write) why k = k
end_same hands_out has_kept before after s (Err Memory) why k = absurd k

-- the segments so far, where none was lost
so_far : {K : Type 0} (hands_out : Bool) (has_kept : K → K → List Segment → Type 0) (before after : K) (s : Session) (answered : Result ℕ RunFault) → has_lost answered ≡ false
    → KeepsScript hands_out has_kept before after s answered → KeepsSoFar hands_out has_kept before after s
so_far hands_out has_kept before after s (Ok count) none k = k
so_far hands_out has_kept before after s (Err Read) none k = k
so_far hands_out has_kept before after s (Err Write) none k = absurd (false≢true (sym none))
so_far hands_out has_kept before after s (Err Memory) none k = absurd k

end_whole : {K : Type 0} (hands_out : Bool) (has_kept : K → K → List Segment → Type 0) (before between after : K) (s : Session) (history : List Entry) (answered : Result ℕ RunFault) → has_lost answered ≡ false
    → KeepsScript hands_out has_kept before between s answered → KeepsHistory hands_out has_kept before after history → KeepsEnd hands_out has_kept before after history answered
end_whole hands_out has_kept before between after s history (Ok count) none k h = h
end_whole hands_out has_kept before between after s history (Err Read) none k h = h
end_whole hands_out has_kept before between after s history (Err Write) none k h = absurd (false≢true (sym none))
end_whole hands_out has_kept before between after s history (Err Memory) none k h = absurd k

pub keeps_end : {K : Type 0} (hands_out : Bool) (has_kept : K → K → List Segment → Type 0) (before between after : K) (old new : Seated) (sv : Servers) (answered result : Result ℕ RunFault)
    → EndsSegments hands_out has_kept between after old new answered result → KeepsScript hands_out has_kept before between (session old sv) answered → KeepsEnd hands_out has_kept before after new.history result
unfolding handed_first
keeps_end hands_out has_kept before between after old new sv answered result ends k = elim ends [
  | inl same ↦
      subst (λ (r : Result ℕ RunFault). KeepsEnd hands_out has_kept before after new.history r) (sym same.3)
      (subst (λ (a : _). KeepsEnd hands_out has_kept before a new.history answered) (sym same.2)
      (subst (λ (x : Seated). KeepsEnd hands_out has_kept before between x.history answered) (sym same.1)
      (end_same hands_out has_kept before between (session old sv) answered same.0 k)))
  | inr more ↦ elim more [
    | inl hands ↦
        let first = handed_first has_kept before between after old new sv hands.2 hands_out (so_far hands_out has_kept before between (session old sv) answered hands.0 k) in
        subst (λ (r : Result ℕ RunFault). KeepsEnd hands_out has_kept before after new.history r) (sym hands.3)
        (end_whole hands_out has_kept before between after (session old sv) new.history answered hands.0 k (first, λ on. refl))
    | inr lost ↦
        subst (λ (r : Result ℕ RunFault). KeepsEnd hands_out has_kept before after new.history r) (sym lost.3)
        (keeps_lost hands_out has_kept before between after old new sv lost.2 (so_far hands_out has_kept before between (session old sv) answered lost.0 k))
  ]
]

-- the history stays as it is at the end of a script
pub end_history : {K : Type 0} (hands_out : Bool) (has_kept : K → K → List Segment → Type 0) (before after : K) (old new : Seated) (answered result : Result ℕ RunFault)
    → EndsSegments hands_out has_kept before after old new answered result → new.history ≡ old.history
end_history hands_out has_kept before after old new answered result ends = elim ends [
  | inl same ↦ ap (λ (s : Seated). s.history) same.1
  | inr more ↦ elim more [ inl hands ↦ ap (λ (s : Seated). s.history) hands.2.1.new_is | inr lost ↦ lost.2.0 ]
]

pub end_is : {K : Type 0} (hands_out : Bool) (has_kept : K → K → List Segment → Type 0) (before after : K) (old new : Seated) (answered result : Result ℕ RunFault)
    → EndsSegments hands_out has_kept before after old new answered result → (result ≡ answered) ⊎ (result ≡ Err Write)
end_is hands_out has_kept before after old new answered result ends = elim ends [
  | inl same ↦ inl same.3
  | inr more ↦ elim more [ inl hands ↦ inl hands.3 | inr lost ↦ inr lost.3 ]
]

pub first_kept : {K : Type 0} (hands_out : Bool) (has_kept : K → K → List Segment → Type 0) (before after : K) (history : List Entry) (result : Result ℕ RunFault)
    → KeepsEnd hands_out has_kept before after history result → KeepsFirst has_kept before after history
first_kept hands_out has_kept before after history (Ok count) k = k.0
first_kept hands_out has_kept before after history (Err Read) k = k.0
first_kept hands_out has_kept before after history (Err Write) k = k
first_kept hands_out has_kept before after history (Err Memory) k = absurd k
