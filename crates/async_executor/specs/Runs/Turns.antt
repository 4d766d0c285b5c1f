-- The turn of a run: how many tasks it runs before it yields.
use Rattle.std.specs.Prelude.{◌≡◌, ◌<◌, ℕ, ◌+◌, ◌==◌, cond}
use Rattle.async_executor.specs.Runs.{runner_of}
use Rattle.async_executor.specs.declared.machine.run.RunState.{RunState}
use Rattle.async_executor.specs.declared.machine.run.RunState.TheVariants.{Running}
use Rattle.async_executor.specs.declared.machine.run.RunAction.{RunAction}
use Rattle.async_executor.specs.declared.machine.run.RunAction.TheVariants as asks
use Rattle.async_executor.specs.declared.machine.run.RunMachine.{RunMachine}
use Rattle.async_executor.specs.declared.machine.run.RunNext.{RunNext}
use Rattle.async_executor.specs.declared.machine.run.RunNext.TheVariants.{Act, Rest}
use Rattle.async_executor.specs.declared.machine.waiting.TickAction.TheVariants.{Run}

-- a task that is being run
abbrev pub under_way_in : RunState → ℕ
under_way_in (Running under_way) = 1
under_way_in _ = 0

-- how many tasks of its turn were run, with the one that is being run
abbrev pub begun : RunMachine → ℕ
begun machine = (runner_of machine).count.counted + under_way_in machine.state

module _ {W : Type 0} where
  -- how many tasks an action runs
  abbrev pub runs_in : RunAction W → ℕ
  runs_in (asks.Tick (Run taken)) = 1
  runs_in _ = 0

  -- from so many that were begun in a turn of so many: each task that is run counts once, and a turn that is full ends with a rest
  abbrev pub TurnFrom : ℕ → ℕ → RunNext W → Type 0
  TurnFrom turn before (Act machine action) =
      ((runner_of machine).count.limit ≡ turn) × ((runner_of machine).count.counted < turn) × (begun machine ≡ before + runs_in action)
  TurnFrom turn before (Rest rest end) =
      (rest.runner.count.limit ≡ turn) × (rest.runner.count.counted < turn) × (rest.runner.count.counted ≡ cond (before == turn) 0 before)

  abbrev pub TurnGoesOn : RunMachine → RunNext W → Type 0
  TurnGoesOn machine next = TurnFrom (runner_of machine).count.limit (begun machine) next
