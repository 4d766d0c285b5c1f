use Rattle.std.proofs.Common.{◌≡◌, ◌++◌, take, drop}
use Rattle.executor_core.proofs.queue.queues.move_first.Given as goal

abbrev pub invariant-loop : goal.invariant-loop
invariant-loop l =
    record {
      source : l.source ≡ record l.fn.source { ids = drop l.counter l.fn.source.ids };
      target : l.target ≡ record l.fn.target { ids = l.fn.target.ids ++ take l.counter l.fn.source.ids };
    }
