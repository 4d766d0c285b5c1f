-- The task that a ticker's search takes.
use Rattle.std.specs.Prelude.{◌≡◌, ℕ, Option, Some}
use Rattle.executor_core.specs.Cells.{Table}
use Rattle.executor_core.specs.Cells.Calls.{IsTaken}
use Rattle.executor_core.specs.declared.task.polling.Taken.{Taken}

-- the task is the one that was found
pub record TakesTask {P T W : Type 0} (table : Table P T W) (found : Option ℕ) (task : Taken P) : Type 0 where
  pub taken : IsTaken table task
  pub number : found ≡ Some task.id.number
