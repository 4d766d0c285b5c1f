-- Why a call gave up.
use Rattle.std.specs.Prelude.{◌≡◌, ◌≢◌, ℕ}
use Rattle.executor_core.specs.declared.task.error.SpawnError.{SpawnError}
use Rattle.executor_core.specs.declared.task.error.SpawnError.TheVariants.{OutOfMemory, Exhausted}

-- the number that no task gets
abbrev pub last_number : ℕ
last_number = 18446744073709551615

module _ {P : Type 0} where
  abbrev pub refused_future : SpawnError P → P
  refused_future (OutOfMemory p) = p
  refused_future (Exhausted p) = p

  -- this future comes back, and the error is Exhausted if and only if the next number is the last one
  abbrev pub Refuses : ℕ → P → SpawnError P → Type 0
  Refuses next p (OutOfMemory q) = (q ≡ p) × (next ≢ last_number)
  Refuses next p (Exhausted q) = (q ≡ p) × (next ≡ last_number)
