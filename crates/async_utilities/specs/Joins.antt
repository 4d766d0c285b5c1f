-- Futures that are awaited in order.
use Rattle.std.specs.Prelude.{◌≡◌, ℕ, ◌+◌, ◌-◌, ◌++◌, List, length, take, drop}

-- From so many futures left to so many: what was there of their outputs stays, and what came stands
-- after it, one output for each future less.
abbrev pub Joins : {T : Type 0} → List T → ℕ → List T → ℕ → Type 0
Joins {T} outputs left outputs' left' = (came : List T) × (outputs' ≡ outputs ++ came) × (length came + left' ≡ left)

-- Of the futures that are left, the next one last, those behind the next one are as they were: none of
-- them was polled or went before its turn.
abbrev pub Awaits : {G : Type 0} → List G → List G → Type 0
Awaits left left' = take (length left' - 1) left' ≡ take (length left' - 1) left

-- of the futures that are left, those behind the next one, which is the last, are as they were
abbrev pub RestStays : {G : Type 0} → List G → List G → Type 0
RestStays left left' = take (length left - 1) left' ≡ take (length left - 1) left

-- those behind this place are as they were
abbrev pub SameBehind : {G : Type 0} → ℕ → List G → List G → Type 0
SameBehind place old new = drop (place + 1) new ≡ drop (place + 1) old
