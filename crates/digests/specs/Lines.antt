-- The line of a digest.
use Rattle.std.specs.Prelude.{ℕ, ◌++◌, ◌==◌, List, [], ◌∷◌, Option, Some, None, if◌then◌else◌, is_some, Bool}
use Rattle.std.specs.List.{list_any, flat_map}
use Rattle.hex.specs.Hex.{encode_lower}

-- what stands behind a backslash in the place of a byte, if the byte is escaped: a backslash, `n` in the
-- place of a line feed, `r` in that of a carriage return
abbrev pub escape_of : ℕ → Option ℕ
escape_of c =
    if c == 92 then Some 92 else (if c == 10 then Some 110 else (if c == 13 then Some 114 else None))

-- whether a byte of the name is escaped
abbrev pub has_escapes : List ℕ → Bool
has_escapes name = list_any (λ c. is_some (escape_of c)) name

-- a byte as it stands, or its escape
abbrev pub written : Option ℕ → ℕ → List ℕ
written None c = c ∷ []
written (Some escape) c = 92 ∷ escape ∷ []

-- the name, with its escapes
abbrev pub escaped : List ℕ → List ℕ
escaped name = flat_map (λ c. written (escape_of c) c) name

-- the backslash before a digest whose name has escapes
abbrev pub mark_of : List ℕ → List ℕ
mark_of name = if has_escapes name then 92 ∷ [] else []

-- the line of a digest: its hex text, two spaces, the name and a line feed, behind a backslash if
-- the name has escapes
abbrev pub line_of : List ℕ → List ℕ → List ℕ
line_of name digest = mark_of name ++ encode_lower digest ++ 32 ∷ 32 ∷ [] ++ escaped name ++ 10 ∷ []
