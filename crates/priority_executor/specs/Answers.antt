-- What the levels answer that are asked in order.
use Rattle.std.specs.Prelude.{ℕ, suc, zero, Bool, true, false, Option, Some, None, List, [], ◌∷◌, ◌++◌}

-- each level below n, in order, with the answer false
abbrev pub false_below : ℕ → List (ℕ × Bool)
false_below zero = []
false_below (suc n) = false_below n ++ (n, false) ∷ []

-- the answers of the levels below n, if this one was the first to answer true
abbrev pub answers_until : ℕ → Option ℕ → List (ℕ × Bool)
answers_until n None = false_below n
answers_until n (Some level) = false_below level ++ (level, true) ∷ []
