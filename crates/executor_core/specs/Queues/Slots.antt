-- What a contract sees of the queues and of the slots of the cells, through which the global queue is linked.
pub mod Coding
use Rattle.std.specs.Prelude.{List, Option}
use Rattle.executor_core.specs.Queues.State.{QueueState}
use Rattle.executor_core.specs.declared.task.cell.Cell.{Cell}
use Rattle.executor_core.specs.declared.task.cell.Numbered.{Numbered}

-- what each slot has, and the queues
pub record QueuedSlots (P T W : Type 0) : Type 0 where
  pub slots : List (Option (Numbered (Cell P T W)))
  pub state : QueueState

-- these queues in place of its own
abbrev pub with_state : {P T W : Type 0} → QueueState → QueuedSlots P T W → QueuedSlots P T W
with_state state q = record q { state = state }
