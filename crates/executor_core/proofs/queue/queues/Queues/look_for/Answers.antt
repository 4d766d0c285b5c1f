use Rattle.std.proofs.Common.{ap, sym, ◌∙◌}
use Rattle.std.specs.Prelude.{◌==◌}
use Rattle.std.specs.List.{position}
use Rattle.executor_core.specs.Queues.{RunnerQueue, position_of}
use Rattle.executor_core.specs.Queues.State.{QueueState}
use Rattle.executor_core.specs.Queues.View.{local_of}
use Rattle.executor_core.specs.declared.queue.queues.LocalQueue.{LocalQueue}
use Rattle.executor_core.specs.declared.task.cell.TaskId.{TaskId}
use Rattle.executor_core.proofs.QueueLemmas.{position-map}
use Rattle.executor_core.proofs.queue.queues.Queues.look_for.Goals as goal

pub returns : goal.returns
returns g c =
    c.position_in.ensures
    ∙ ap (position (λ (l : LocalQueue). l.runner == c.args.key.number)) c.deref.ensures.value
    ∙ sym (position-map local_of (λ (q : RunnerQueue TaskId). q.runner == c.args.key.number) c.self.inside.locals.items)
    ∙ ap (λ (s : QueueState). position_of c.args.key.number s.lists.locals) (ap (λ s. s.state) c.self.view_is)
