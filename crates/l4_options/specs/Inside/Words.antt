-- What to write for rights that were taken for an option (this profile's own).
use Rattle.std.specs.Prelude.{ℕ, ◌==◌, List, codes, slice_index, Option, None, option_map, if◌then◌else◌}
use Rattle.l4_fpage.specs.Rights.{bits_of}
use Rattle.l4_options.specs.Spelled.{rights_of}

-- rights without that to read in letters, with an underscore for each that is left out
abbrev pub underscored : ℕ → List ℕ
underscored bits =
    if bits == 0 then codes "___" else (if bits == 1 then codes "__x" else (if bits == 2 then codes "_w_" else codes "_wx"))

-- what to write for rights whose word begins with a hyphen, as an option does
abbrev pub spelled_anew : List ℕ → Option (List ℕ)
spelled_anew word = if slice_index word 0 == 45 then option_map (λ rights. underscored (bits_of rights)) (rights_of word) else None
