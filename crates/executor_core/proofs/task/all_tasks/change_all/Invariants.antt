use Rattle.std.proofs.Common.{◌≡◌, ◌≤◌, length}
use Rattle.std.specs.Prelude.{nat_lt}
use Rattle.executor_core.specs.Queues.State.{with_lists, pushed_all}
use Rattle.executor_core.specs.Cells.View.{change_by}
use Rattle.executor_core.proofs.WalkLemmas.{changed_below, idle_below}
use Rattle.executor_core.proofs.task.all_tasks.change_all.Given as goal

abbrev pub invariant-loop-slot : goal.invariant-loop-slot
invariant-loop-slot g l =
    (l.queues.slots ≡ changed_below (change_by l.cancels) l.slot l.fn.queues.slots)
    × (l.queues.state ≡ with_lists (pushed_all (idle_below 0 l.slot l.fn.queues.slots) l.fn.queues.state.lists) l.fn.queues.state)
    × (l.idle ≡ nat_lt 0 (length (idle_below 0 l.slot l.fn.queues.slots)))
    × (length l.fn.queues.slots ≤ l.slot-end)
