use Rattle.std.proofs.Common.{◌∙◌, ap}
use Rattle.executor_core.specs.Cells.Calls.{undropped_count}
use Rattle.executor_core.proofs.UndroppedLemmas.{undropped_is}
use Rattle.executor_core.proofs.task.table.Cells.undropped.Goals as goal

pub returns : goal.returns
returns g c = undropped_is c.self.invariant ∙ ap undropped_count c.self.view_is
