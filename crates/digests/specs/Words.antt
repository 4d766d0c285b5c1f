-- Words of the command line.
use Rattle.std.specs.Prelude.{◌≡◌, ℕ, ◌≤◌, Bool, List, Option, Some, IsUtf8, bytes_eq, codes, ⊤}
use Rattle.std.specs.Str.Parse.{IsNumeral, digits_value, without_leading_plus}
use Rattle.digests.specs.declared.arguments.Word.{Word}
use Rattle.digests.specs.declared.arguments.Word.TheVariants.{File, Threads}

-- whether a name stands for standard input
abbrev pub is_input : List ℕ → Bool
is_input name = bytes_eq name (codes "-")

-- a text is this number, 1 to 256, in decimal digits, before which a plus may stand
abbrev pub IsThreadCount : List ℕ → ℕ → Type 0
IsThreadCount text count =
    let digits = without_leading_plus text in
    IsUtf8 text × IsNumeral 10 digits × (digits_value 10 digits ≡ count) × (1 ≤ count) × (count ≤ 256)

-- a word is a file
abbrev pub IsFile : Word → Type 0
IsFile (File name) = ⊤
IsFile _ = ⊥

-- a word asks for 1 to 256 threads, if it asks for any
abbrev pub IsLawful : Word → Type 0
IsLawful (Threads count) = (1 ≤ count) × (count ≤ 256)
IsLawful _ = ⊤

-- the word of the number of threads that a text is
abbrev pub AsksForThreads : List ℕ → Option Word → Type 0
AsksForThreads text (Some (Threads count)) = IsThreadCount text count
AsksForThreads text _ = ⊥
