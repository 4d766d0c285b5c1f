-- What a contract sees of a ring.
pub mod Coding
use Rattle.std.specs.Prelude.{ℕ, List}
use Rattle.executor_core.specs.declared.task.cell.TaskId.{TaskId}

-- the ids from the front on, and how many have room
pub record IdRing : Type 0 where
  pub ids : List TaskId
  pub capacity : ℕ
