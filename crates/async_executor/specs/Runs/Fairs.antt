-- The fair parts of a run: with which of the tasks that it finds it takes one.
use Rattle.std.specs.Prelude.{◌≡◌, ◌≢◌, ℕ, suc, ◌%◌}
use Rattle.async_executor.specs.Runs.{runner_of}
use Rattle.async_executor.specs.Runs.Counts.{IsCountOf}
use Rattle.async_executor.specs.declared.machine.run_steps.Runner.{Runner}
use Rattle.async_executor.specs.declared.machine.run.RunState.{RunState}
use Rattle.async_executor.specs.declared.machine.run.RunState.TheVariants.{Sharing}
use Rattle.async_executor.specs.declared.machine.run.RunAction.TheVariants as asks
use Rattle.async_executor.specs.declared.machine.run.RunMachine.{RunMachine}
use Rattle.async_executor.specs.declared.machine.run.RunNext.{RunNext}
use Rattle.async_executor.specs.declared.machine.run.RunNext.TheVariants.{Act, Rest}
use Rattle.async_executor.specs.declared.machine.waiting.TickAction.TheVariants.{Run}

-- a run that takes a fair part with each so many-th task has found so many in all
abbrev pub HasFound : ℕ → ℕ → Runner → Type 0
HasFound fair n runner = IsCountOf fair n runner.found

module _ {W : Type 0} where
  abbrev pub FindsNone : ℕ → ℕ → RunNext W → Type 0
  FindsNone fair n (Act machine action) = HasFound fair n (runner_of machine)
  FindsNone fair n (Rest rest end) = HasFound fair n rest.runner

  -- a task that is run or for which a fair part is taken is one more, and the part is taken with each so many-th of them
  abbrev pub FindsIn : ℕ → ℕ → RunNext W → Type 0
  FindsIn fair n (Act machine (asks.Tick (Run taken))) = HasFound fair (suc n) (runner_of machine) × (suc n % fair ≢ 0)
  FindsIn fair n (Act machine asks.Fair) = HasFound fair (suc n) (runner_of machine) × (suc n % fair ≡ 0)
  FindsIn fair n next = FindsNone fair n next

  -- the task that is run after the fair part was counted before
  abbrev pub FindsFrom : RunState → ℕ → ℕ → RunNext W → Type 0
  FindsFrom (Sharing sharing) fair n next = FindsNone fair n next
  FindsFrom _ fair n next = FindsIn fair n next

  abbrev pub FairGoesOn : RunMachine → RunNext W → Type 0
  FairGoesOn machine next = (n : ℕ) → HasFound (runner_of machine).found.limit n (runner_of machine) → FindsFrom machine.state (runner_of machine).found.limit n next
