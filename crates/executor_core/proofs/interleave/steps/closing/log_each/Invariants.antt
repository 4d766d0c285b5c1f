use Rattle.std.proofs.Common.{◌≡◌, ◌≤◌, ◌++◌, map, take, length}
use Rattle.std.specs.Vec.{vec_capacity}
use Rattle.executor_core.specs.World.Steps.{mark_event}
use Rattle.executor_core.proofs.RisingLemmas.{undropped_numbers}
use Rattle.executor_core.proofs.interleave.steps.closing.log_each.Given as goal

abbrev pub invariant-loop-slot : goal.invariant-loop-slot
invariant-loop-slot g l =
    (l.log.items ≡ l.fn.log.items ++ map (mark_event l.fn.cancels) (undropped_numbers (take l.slot l.queues.slots)))
    × (vec_capacity l.log ≡ vec_capacity l.fn.log)
    × (length l.queues.slots ≤ l.slot-end)
