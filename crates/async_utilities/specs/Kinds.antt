-- A future of one of two kinds.
use Rattle.std.specs.Prelude.{Bool, true, false}
use Rattle.async_utilities.specs.declared.combining.Either.{Either}
use Rattle.async_utilities.specs.declared.combining.Either.TheVariants.{Left, Right}

-- whether it is the left kind
abbrev pub is_left : {A B : Type 0} → Either A B → Bool
is_left (Left future) = true
is_left (Right future) = false
