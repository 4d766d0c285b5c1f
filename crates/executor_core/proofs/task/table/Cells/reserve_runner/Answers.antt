use Rattle.executor_core.proofs.task.table.Cells.reserve_runner.Goals as goal

pub invariant_of-self : goal.invariant_of-self
invariant_of-self g c = rw (c.reserve_runner.ensures.slots, c.reserve_runner.ensures.lists) c.self.invariant
