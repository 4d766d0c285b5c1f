use Rattle.std.proofs.Common.{sym, ap, ◌∙◌}
use Rattle.executor_core.specs.Cells.Calls.{with_queues}
use Rattle.executor_core.specs.Cells.Law.{queues_of}
use Rattle.executor_core.specs.Cells.View.{table_of}
use Rattle.executor_core.specs.Queues.{fair_count}
use Rattle.executor_core.proofs.OrderLemmas.{sound_permuted}
use Rattle.executor_core.proofs.QueueLemmas.{fair-map, fair_count-map, fair-permutes}
use Rattle.executor_core.proofs.task.table.Cells.fair.Goals as goal

pub invariant_of-self : goal.invariant_of-self
invariant_of-self g c =
    rw (c.fair.ensures.slots, c.fair.ensures.lists) (sound_permuted c.self.invariant (fair-permutes c.args.key.number c.self.inside.queues.state.lists))

pub returns-clause-table : goal.returns-clause-table
returns-clause-table g c =
    let table = table_of c.self.inside.next c.self.inside.queues.slots c.self.inside.queues.state c.self.inside.closed in
    rw (c.fair.ensures.slots, c.fair.ensures.lists, ← c.self.view_is) (ap (λ l. with_queues l table) (sym (fair-map (λ id. id.number) c.args.key.number c.self.inside.queues.state.lists)))

pub returns-clause-count : goal.returns-clause-count
returns-clause-count g c =
    c.fair.ensures.count
    ∙ sym (fair_count-map (λ id. id.number) c.args.key.number c.self.inside.queues.state.lists)
    ∙ ap (λ s. fair_count c.args.key.number (queues_of s)) c.self.view_is
