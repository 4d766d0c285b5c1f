-- In which order a run asks the shards: its own first, and then each other once, from one of them on. A shard
-- has the place at which it follows the run's own one, which has the place 0.
use Rattle.std.specs.Prelude.{◌≡◌, ℕ, length, All, IsTrue, is_some, suc, zero, ◌+◌, ◌-◌, ◌==◌, nat_lt, Bool, true, false, cond, Option, Some, None, List, [], ◌∷◌, ◌++◌}

-- so many shards from this one on, in order, with the answer false
abbrev pub false_from : ℕ → ℕ → List (ℕ × Bool)
false_from first zero = []
false_from first (suc n) = false_from first n ++ (first + n, false) ∷ []

-- the shards from first on, up to this one, which was the first to answer true
abbrev pub true_after : ℕ → ℕ → List (ℕ × Bool)
true_after first at = false_from first (at - first) ++ (at, true) ∷ []

-- all of n shards but the own one, from first on
abbrev pub others_false : ℕ → ℕ → List (ℕ × Bool)
others_false first n = false_from first (n - first) ++ false_from 1 (first - 1)

-- up to this one, which was the first to answer true
abbrev pub others_true : ℕ → ℕ → ℕ → List (ℕ × Bool)
others_true first n at = cond (nat_lt at first) (false_from first (n - first) ++ true_after 1 at) (true_after first at)

-- the answers of n shards: the own one was asked first, and then the others from first on, each once, up to
-- the first that answered true
abbrev pub asked_around : ℕ → ℕ → Option ℕ → List (ℕ × Bool)
asked_around first n None = (0, false) ∷ others_false first n
asked_around first n (Some at) = cond (at == 0) ((0, true) ∷ []) ((0, false) ∷ others_true first n at)

-- one that sleeps has asked all shards in that order, and stands among the sleepers of each
abbrev pub IsServed : {S : Type 0} (number : S → Option ℕ) → Bool → List S → List (ℕ × Bool) → Type 0
IsServed number asleep sleepers answers =
    IsTrue asleep → ((first : ℕ) × (answers ≡ asked_around first (length sleepers) None)) × All (λ s. is_some (number s) ≡ true) sleepers
