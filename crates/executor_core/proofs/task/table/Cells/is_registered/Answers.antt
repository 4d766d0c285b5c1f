use Rattle.std.proofs.Common.{sym, ap, ◌∙◌}
use Rattle.executor_core.specs.Queues.{is_registered}
use Rattle.executor_core.proofs.QueueLemmas.{is_registered-map}
use Rattle.executor_core.proofs.task.table.Cells.is_registered.Goals as goal

pub returns : goal.returns
returns g c =
    c.is_registered.ensures
    ∙ sym (is_registered-map (λ id. id.number) c.args.key.number c.self.inside.queues.state.lists.locals)
    ∙ ap (λ t. is_registered c.args.key.number t.locals) c.self.view_is
