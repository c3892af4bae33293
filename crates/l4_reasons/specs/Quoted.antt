-- A token in quotes (this profile's own).
use Rattle.std.specs.Prelude.{ℕ, ◌==◌, nat_lt, Bool, not, ◌&&◌, List, [], ◌∷◌, ◌++◌, length, take, drop, codes, if◌then◌else◌}
use Rattle.std.specs.List.{flat_map}
use Rattle.l4_text.specs.Texts.{word_text}
use Rattle.l4_reasons.specs.Sizes.{quoted_bytes}

-- whether a byte is written as itself: a printable one, but no quote and no backslash
abbrev pub is_plain : ℕ → Bool
is_plain byte = nat_lt 32 byte && nat_lt byte 127 && not (byte == 34) && not (byte == 92)

-- the last two of a word's eight hexadecimal digits
abbrev pub code_text : ℕ → List ℕ
code_text byte = codes "\\x" ++ drop 6 (word_text byte)

-- a byte as it is written between quotes: a tab, a carriage return, one that is written as itself, any other
unfoldable pub escaped : ℕ → List ℕ
escaped byte =
    if byte == 9 then codes "\\t"
    else (if byte == 13 then codes "\\r"
    else (if is_plain byte then byte ∷ [] else code_text byte))

-- a token in quotes: its first bytes, and two dots where it has more
unfoldable pub quoted : List ℕ → List ℕ
quoted token =
    if nat_lt quoted_bytes (length token) then 34 ∷ flat_map escaped (take quoted_bytes token) ++ codes "..\""
    else 34 ∷ flat_map escaped token ++ 34 ∷ []
