-- What is said of bytes that an editor may not show, and of a comment where none is allowed (this profile's own).
use Rattle.std.specs.Prelude.{ℕ, ◌==◌, nat_lt, Bool, false, List, [], ◌∷◌, ◌++◌, length, take, Option, Some, None, codes, bytes_eq, if◌then◌else◌}
use Rattle.std.specs.List.{position}

abbrev pub is_tab : ℕ → Bool
is_tab byte = byte == 9

abbrev pub is_return : ℕ → Bool
is_return byte = byte == 13

abbrev pub is_number_sign : ℕ → Bool
is_number_sign byte = byte == 35

-- whether a token begins with the byte order mark of UTF-8
unfoldable pub has_mark : List ℕ → Bool
has_mark token = if nat_lt (length token) 3 then false else bytes_eq (take 3 token) (239 ∷ 187 ∷ 191 ∷ [])

-- a text where there is such a byte
abbrev pub where_found : Option ℕ → List ℕ → List ℕ
where_found (Some place) text = text
where_found None text = []

unfoldable pub mark_hint : List ℕ → List ℕ
mark_hint token = if has_mark token then codes "; the token begins with a byte order mark" else []

unfoldable pub tab_hint : List ℕ → List ℕ
tab_hint token = where_found (position is_tab token) (codes "; the token has a tab, but only spaces separate tokens")

unfoldable pub return_hint : List ℕ → List ℕ
return_hint token = where_found (position is_return token) (codes "; the token has a carriage return, but a newline alone ends a line")

unfoldable pub comment_hint : List ℕ → List ℕ
comment_hint token = where_found (position is_number_sign token) (codes "; a comment is a line whose first character is #")

-- a byte order mark in front, a tab, a carriage return, a number sign: each that there is
unfoldable pub hints : List ℕ → List ℕ
hints token = mark_hint token ++ tab_hint token ++ return_hint token ++ comment_hint token
