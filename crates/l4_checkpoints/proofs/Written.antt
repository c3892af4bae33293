-- A checkpoint that was written, or that is read.
use Rattle.std.proofs.Common.{◌≡◌, ℕ, ◌<◌, ◌^◌, List, [], ◌++◌, length, sym, ap, subst, ◌∙◌}
use Rattle.sha2.specs.Sha256.{sha256}
use Rattle.l4_fpage.specs.declared.sizes.PageSize.{PageSize}
use Rattle.l4_ipc.specs.Machine.{Machine}
use Rattle.l4_keys.specs.Keys.{AreOfKernel}
use Rattle.l4_segments.specs.Entries.{AreWords}
use Rattle.l4_segments.specs.Files.{bytes_of}
use Rattle.l4_checkpoints.specs.Checkpoints.{file_of, IsWritten}

-- a whole file
pub whole : (words head none given first second read digest all : List ℕ) → none ≡ [] → given ≡ head → first ≡ none ++ bytes_of given → second ≡ first ++ bytes_of words → read ≡ second
    → digest ≡ sha256 read → all ≡ second ++ digest → all ≡ (bytes_of head ++ bytes_of words) ++ sha256 (bytes_of head ++ bytes_of words)
whole words head none given first second read digest all empty same begun next own summed done =
    let start : first ≡ bytes_of head = begun ∙ (λ i. empty i ++ bytes_of (same i)) in
    let body : second ≡ bytes_of head ++ bytes_of words = next ∙ ap (λ (l : List ℕ). l ++ bytes_of words) start in
    done ∙ (λ i. body i ++ (summed ∙ ap sha256 (own ∙ body)) i)

-- the file of a kernel's words
pub is_written : (frames entries : ℕ) (m : Machine) (size : PageSize) (none out given words bytes : List ℕ) → none ≡ [] → out ≡ none ++ words → given ≡ out → size ≡ m.size → AreOfKernel m words → AreWords given
    → length given < 2 ^ 64 → bytes ≡ file_of frames size entries given → IsWritten frames entries m bytes
is_written frames entries m size none out given words bytes empty put own sized of fits few is =
    let same : given ≡ words = own ∙ put ∙ ap (λ (l : List ℕ). l ++ words) empty in
    record {
      words = given;
      are_of_kernel = subst (AreOfKernel m) (sym same) of;
      are_words = fits;
      few = few;
      bytes_are = is ∙ ap (λ (s : PageSize). file_of frames s entries given) sized;
    }
