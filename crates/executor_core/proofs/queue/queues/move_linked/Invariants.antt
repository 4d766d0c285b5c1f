use Rattle.std.proofs.Common.{◌≡◌, ◌++◌, take, drop}
use Rattle.executor_core.specs.Slots.{with_queue}
use Rattle.executor_core.proofs.queue.queues.move_linked.Given as goal

abbrev pub invariant-loop : goal.invariant-loop
invariant-loop g l =
    record {
      queue : l.slots ≡ with_queue (drop l.counter l.fn.slots.queue) l.fn.slots;
      ring : l.ring ≡ record l.fn.ring { ids = l.fn.ring.ids ++ take l.counter l.fn.slots.queue };
    }
