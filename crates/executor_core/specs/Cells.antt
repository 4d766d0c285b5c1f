-- What a contract sees of `Cells`: a finite map from task numbers to cells, and lists of numbers.
pub mod Calls
pub mod Coding
pub mod Law
pub mod View
use Rattle.std.specs.Prelude.{ℕ, Bool, List}
use Rattle.std.specs.Ordering.{nat_cmp}
use Rattle.std.specs.FinMap as map
use Rattle.executor_core.specs.Queues.{RunnerQueue}
use Rattle.executor_core.specs.declared.task.cell.Cell.{Cell}

-- a cell, and the slot that it has
pub record Slotted (P T W : Type 0) : Type 0 where
  pub slot : ℕ
  pub cell : Cell P T W

-- the number that the next task gets, the cells by number, the global queue, those of the registered runners in order of
-- registration, the number that the next runner gets, how many reserved places for runners are free, and whether the cells
-- were closed
pub record Table (P T W : Type 0) : Type 0 where
  pub next : ℕ
  pub cells : map.FinMap nat_cmp (Slotted P T W)
  pub global : List ℕ
  pub locals : List (RunnerQueue ℕ)
  pub next_runner : ℕ
  pub free_places : ℕ
  pub closed : Bool
