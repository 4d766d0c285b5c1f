-- What comes of futures that are spawned in turn.
use Rattle.std.specs.Prelude.{◌≡◌, ◌<◌, IfErr, IfSome, ℕ, Bool, false, Option, Some, Result, Ok, Err, MatchOption, List, [], ◌∷◌, ◌++◌, length, All}
use Rattle.std.specs.Iterator.{Yields, YieldsThen, Drains}
use Rattle.executor_core.specs.declared.queue.runner.RunnerError.{RunnerError}
use Rattle.executor_core.specs.declared.queue.runner.RunnerError.TheVariants as runner
use Rattle.executor_core.specs.declared.task.error.SpawnError.{SpawnError}
use Rattle.executor_core.specs.declared.task.error.SpawnError.TheVariants.{OutOfMemory, Exhausted}
use Rattle.async_executor.specs.declared.scheduler.many.SpawnMany.{SpawnMany}

module _ {F : Type 0} where
  -- why a task was not spawned
  abbrev pub spawn_cause : SpawnError F → RunnerError
  spawn_cause (OutOfMemory future) = runner.OutOfMemory
  spawn_cause (Exhausted future) = runner.Exhausted

  -- how many were spawned
  abbrev pub spawned : Result ℕ (SpawnMany F) → ℕ
  spawned (Ok n) = n
  spawned (Err e) = e.spawned

  -- the iterator gave as many futures as were spawned. Then it ended; or it gave the one that was
  -- refused; or it was not asked, since memory for the place of a handle was refused
  abbrev pub SpawnsInTurn : {S : Type 0} → (S → Option F → S → Type 0) → S → Result ℕ (SpawnMany F) → Type 0
  SpawnsInTurn steps s (Ok n) = (xs : List F) × Drains steps s xs × (length xs ≡ n)
  SpawnsInTurn {S} steps s (Err e) = (xs : List F) × (length xs ≡ e.spawned)
      × MatchOption e.refused ((t : S) × Yields steps s xs t × (e.cause ≡ runner.OutOfMemory)) (λ future. (t : S) × YieldsThen steps s xs (Some future) t)

-- a future that is refused was asked for, since its handle has a place
abbrev pub HasPlace : {F : Type 0} → ℕ → ℕ → Result ℕ (SpawnMany F) → Type 0
HasPlace len capacity result = IfErr result (λ e. IfSome e.refused (λ _. len < capacity))

-- the list with one handle after it, which has not answered
abbrev pub AddsHandle : {T : Type 0} → (T → Bool) → List T → List T → Type 0
AddsHandle {T} answered before after = (task : T) × (after ≡ before ++ task ∷ []) × (answered task ≡ false)

-- the list with n handles after it, none of which has answered
abbrev pub AddsHandles : {T : Type 0} → (T → Bool) → List T → ℕ → List T → Type 0
AddsHandles {T} answered before n after = (added : List T) × (after ≡ before ++ added) × (length added ≡ n) × All (λ task. answered task ≡ false) added
