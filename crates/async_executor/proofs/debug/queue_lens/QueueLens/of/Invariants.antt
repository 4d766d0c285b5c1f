use Rattle.std.proofs.Common.{◌≡◌, ◌++◌, length, map, take}
use Rattle.async_executor.proofs.debug.queue_lens.QueueLens.of.Given as goal

abbrev pub invariant-loop-r : goal.invariant-loop-r
invariant-loop-r g l =
    map (λ q. length q.entries) (take l.first l.fn.cells.locals) ++ l.lens ≡ map (λ q. length q.entries) (take l.r l.fn.cells.locals)
