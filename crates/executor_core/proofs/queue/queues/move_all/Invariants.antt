use Rattle.std.proofs.Common.{◌≡◌, ◌++◌, map}
use Rattle.executor_core.specs.Queues.View.{local_of}
use Rattle.executor_core.specs.Slots.{with_queue}
use Rattle.executor_core.proofs.GatherLemmas.{emptied_below, entries_below}
use Rattle.executor_core.proofs.queue.queues.move_all.Given as goal

abbrev pub invariant-loop-position : goal.invariant-loop-position
invariant-loop-position g l =
    (map local_of l.locals ≡ emptied_below l.position (map local_of l.fn.locals))
    × (l.slots ≡ with_queue (l.fn.slots.queue ++ entries_below l.position (map local_of l.fn.locals)) l.fn.slots)
