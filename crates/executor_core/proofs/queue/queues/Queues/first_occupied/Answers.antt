use Rattle.std.proofs.Common.{ap, sym, ◌∙◌}
use Rattle.std.specs.Prelude.{◌==◌, not, length}
use Rattle.std.specs.List.{position}
use Rattle.executor_core.specs.Queues.{RunnerQueue, first_occupied}
use Rattle.executor_core.specs.Queues.State.{QueueState}
use Rattle.executor_core.specs.Queues.View.{local_of}
use Rattle.executor_core.specs.declared.queue.queues.LocalQueue.{LocalQueue}
use Rattle.executor_core.specs.declared.task.cell.TaskId.{TaskId}
use Rattle.executor_core.proofs.QueueLemmas.{position-map}
use Rattle.executor_core.proofs.queue.queues.Queues.first_occupied.Goals as goal

pub returns : goal.returns
returns g c =
    c.first_in.ensures
    ∙ ap (position (λ (l : LocalQueue). not (length l.ring.ids == 0))) c.deref.ensures.value
    ∙ sym (position-map local_of (λ (q : RunnerQueue TaskId). not (length q.entries == 0)) c.self.inside.locals.items)
    ∙ ap (λ (s : QueueState). first_occupied s.lists.locals) (ap (λ s. s.state) c.self.view_is)
