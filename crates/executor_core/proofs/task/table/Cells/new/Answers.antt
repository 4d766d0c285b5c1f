use Rattle.executor_core.proofs.task.table.Cells.new.Goals as goal

pub returns : goal.returns
returns g c = c.first_number.ensures
