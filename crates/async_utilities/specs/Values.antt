-- A value that one at a time may have, and what is lent to who waits for it.
use Rattle.std.specs.Prelude.{◌≡◌, ℕ, Option, None, Some}
use Rattle.std.specs.Arc.{arc_value}
use Rattle.std.specs.declared.sync.Arc.{Arc}

-- how many may have it now
abbrev pub there_of : {T : Type 0} → Option T → ℕ
there_of None = 0
there_of (Some value) = 1

-- one that has not given its value yet holds this
abbrev pub IsHeld : {T Z : Type 0} → Option (Arc T Z) → T → Type 0
IsHeld None shared = ⊥
IsHeld (Some held) shared = arc_value held ≡ shared
