-- What the slots are in the end, if a `&mut` to one of their cells is returned.
use Rattle.std.specs.Borrow.{Lends, Fml, RattleType, MutBor}
use Rattle.executor_core.specs.Slots.{LinkedSlots, with_cell_at}
use Rattle.executor_core.specs.declared.task.cell.Cell.{Cell}
use Rattle.executor_core.specs.declared.task.cell.TaskId.{TaskId}
use Rattle.executor_core.specs.contracts.task.slots.Slots.{the_row}
use Rattle.executor_core.specs.contracts.task.cell.Cell.{the_row as cell_row}

module _ (P T W : RattleType) (s : MutBor (LinkedSlots P.Denot T.Denot W.Denot)) (id : TaskId) where
  -- once the borrow r ends, the id's slot has the last cell written through r
  abbrev pub lends_cell : MutBor (Cell P.Denot T.Denot W.Denot) → Fml
  lends_cell r = Lends (the_row P T W) (cell_row P T W) s r (with_cell_at s.now id)
