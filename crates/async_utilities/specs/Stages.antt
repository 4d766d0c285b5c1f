-- The two futures of a future of one after another.
use Rattle.std.specs.Prelude.{◌≡◌, Bool, true, false}
use Rattle.async_utilities.specs.declared.combining.Stage.{Stage}
use Rattle.async_utilities.specs.declared.combining.Stage.TheVariants.{First, Second}

-- whether the second one is polled
abbrev pub is_second : {G C H : Type 0} → Stage G C H → Bool
is_second (First first change) = false
is_second (Second second) = true

-- once the second one is polled, the first one never is again
abbrev pub StaysSecond : {G C H : Type 0} → Stage G C H → Stage G C H → Type 0
StaysSecond old new = is_second old ≡ true → is_second new ≡ true
