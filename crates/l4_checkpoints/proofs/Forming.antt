-- Bytes with the heading and the end of a checkpoint.
use Rattle.std.proofs.Common.{◌≡◌, ℕ, ◌+◌, ◌*◌, ◌-◌, ◌≤◌, List, ◌++◌, length, take, drop, Result, Ok, Err, IfErr, sym, ap, ◌∙◌, arith}
use Rattle.std.proofs.Math.Seq.{take-append-add}
use Rattle.std.proofs.lemmas.List.{length-append, length-drop, length-take-le, take_all, take-append-drop}
use Rattle.sha2.specs.Sha256.{sha256}
use Rattle.sha2.proofs.Facts256.{length-sha256}
use Rattle.l4_fpage.specs.declared.sizes.PageSize.{PageSize}
use Rattle.l4_segments.specs.Files.{bytes_of}
use Rattle.l4_segments.proofs.Readers.{length_bytes}
use Rattle.l4_checkpoints.specs.Checkpoints.{heading_words, HasForm}
use Rattle.l4_checkpoints.specs.Inside.Reading.{BeginsWith, EndsRight}

pub right_end : (bytes digest : List ℕ) (count : ℕ) → 32 + 4 * count + 32 ≡ length bytes → digest ≡ sha256 (take (32 + 4 * count) bytes)
    → take (length digest) (drop (32 + 4 * count) bytes) ≡ digest → EndsRight bytes count
right_end bytes digest count long summed same =
    let rest : List ℕ = drop (32 + 4 * count) bytes in
    let left : length rest ≡ length bytes - (32 + 4 * count) = length-drop (32 + 4 * count) bytes in
    let so_many : length digest ≡ 32 = ap length summed ∙ length-sha256 (take (32 + 4 * count) bytes) in
    (long, sym (take_all (length digest) rest (omega (arith, left, so_many, long))) ∙ same ∙ summed)

pub has_form : (bytes : List ℕ) (frames : ℕ) (size : PageSize) (entries count : ℕ) → BeginsWith bytes frames size entries count → EndsRight bytes count → HasForm bytes
has_form bytes frames size entries count b r =
    let head : List ℕ = heading_words frames size entries count in
    let rest : List ℕ = drop 32 bytes in
    let eight : length (bytes_of head) ≡ 32 = length_bytes head in
    let is : bytes ≡ bytes_of head ++ rest = b.bytes_are ∙ ap (λ (l : List ℕ). bytes_of l ++ rest) b.heading.words_are in
    let place : 32 + 4 * count ≡ length (bytes_of head) + 4 * count = omega (arith, eight) in
    let front : take (32 + 4 * count) bytes ≡ bytes_of head ++ take (4 * count) rest = (λ i. take (place i) (is i)) ∙ take-append-add (bytes_of head) rest (4 * count) in
    let all : length bytes ≡ length (bytes_of head) + length rest = ap length is ∙ length-append (bytes_of head) rest in
    let long : 32 + 4 * count + 32 ≡ length bytes = r.0 in
    record {
      frames = frames;
      size = size;
      entries = entries;
      count = count;
      words = take (4 * count) rest;
      some = b.heading.some;
      few = b.heading.few;
      numbers = b.heading.numbers;
      so_many = length-take-le (4 * count) rest (omega (arith, all, eight, long));
      bytes_are = sym (take-append-drop (32 + 4 * count) bytes) ∙ (λ i. front i ++ (r.1 ∙ ap sha256 front) i);
    }

-- what holds of the bytes holds after each fault
pub after_each : {A B : Type 0} (P : B → Type 0) (X : Type 0) (r : Result A B) → X → IfErr r (λ f. P f → X)
after_each P X (Ok a) x = tt
after_each P X (Err f) x = λ h. x
