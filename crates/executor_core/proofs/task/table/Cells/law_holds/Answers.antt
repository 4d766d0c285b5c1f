use Rattle.std.proofs.Common.{sym, subst}
use Rattle.executor_core.specs.Cells.Law.{LockLaw, ScheduledOnce}
use Rattle.executor_core.specs.Cells.View.{cells_of}
use Rattle.executor_core.proofs.QueueLemmas.{all_entries-map}
use Rattle.executor_core.proofs.task.table.Cells.law_holds.Goals as goal

pub returns : goal.returns
returns g c =
    let numbers = all_entries-map (λ id. id.number) c.self.inside.queues.state.lists in
    subst LockLaw c.self.view_is (subst (ScheduledOnce (cells_of c.self.inside.queues.slots)) (sym numbers) c.self.invariant.law)
