use Rattle.std.proofs.Common.{◌≡◌, ◌++◌, take, drop}
use Rattle.executor_core.specs.Slots.{with_queue}
use Rattle.executor_core.proofs.queue.queues.append.Given as goal

abbrev pub invariant-loop : goal.invariant-loop
invariant-loop g l =
    record {
      queue : l.slots ≡ with_queue (l.fn.slots.queue ++ take l.counter l.fn.ring.ids) l.fn.slots;
      ring : l.ring ≡ record l.fn.ring { ids = drop l.counter l.fn.ring.ids };
    }
