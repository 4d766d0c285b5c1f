use Rattle.std.proofs.Common.{sym, ap, ◌∙◌}
use Rattle.std.specs.Prelude.{is_some}
use Rattle.executor_core.specs.Cells.View.{numbers_of}
use Rattle.executor_core.specs.Queues.{search_any}
use Rattle.executor_core.specs.declared.task.cell.TaskId.{TaskId}
use Rattle.executor_core.proofs.LookLemmas.{some-map, none_of}
use Rattle.executor_core.proofs.QueueLemmas.{search_any-map_found, search_any-none, all_entries-map}
use Rattle.executor_core.proofs.task.table.Cells.look.Goals as goal

pub returns-then-has_queued-clause-exact : goal.returns-then-has_queued-clause-exact
returns-then-has_queued-clause-exact g c =
    let q = c.self.inside.queues.state in
    rw (← c.self.view_is) (sym (ap is_some (search_any-map_found (λ (id : TaskId). id.number) q.lists) ∙ some-map (λ (id : TaskId). id.number) (search_any q.lists).0 ∙ sym c.has_queued.ensures ∙ c.if-has_queued.true))

pub returns-clause-exact : goal.returns-clause-exact
returns-clause-exact g c =
    let q = c.self.inside.queues.state in
    rw (← c.self.view_is) (sym (ap is_some (search_any-map_found (λ (id : TaskId). id.number) q.lists) ∙ some-map (λ (id : TaskId). id.number) (search_any q.lists).0 ∙ sym c.has_queued.ensures ∙ c.if-has_queued.false))

pub returns-clause-none : goal.returns-clause-none
returns-clause-none g c =
    let q = c.self.inside.queues.state in
    let none = none_of (search_any q.lists).0 (sym c.has_queued.ensures ∙ c.if-has_queued.false) in
    rw (← c.self.view_is) (all_entries-map (λ id. id.number) q.lists ∙ ap numbers_of (search_any-none q.lists none).0)
