use Rattle.executor_core.proofs.SpawnLemmas.{empty_sound, empty_is}
use Rattle.executor_core.proofs.task.table.Cells.first_number.Goals as goal

pub invariant_of-result : goal.invariant_of-result
invariant_of-result g c = rw c.new.ensures (empty_sound c.args.first)

pub returns : goal.returns
returns g c = rw c.new.ensures (empty_is c.args.first)
