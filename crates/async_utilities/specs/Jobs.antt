-- The jobs of a spawner.
use Rattle.std.specs.Prelude.{ℕ, ◌≡◌, List, []}

-- the most that a `usize` counts
abbrev pub most : ℕ
most = 18446744073709551615

-- no job is left, and nobody may hand one in
abbrev pub IsDone : {J : Type 0} → List J → ℕ → Type 0
IsDone jobs givers = (jobs ≡ []) × (givers ≡ 0)
