use Rattle.std.proofs.Common.{◌≡◌, ◌+◌, List, length, vec_len}
use Rattle.std.specs.Iterator.{IsFinite, size, Yields}
use Rattle.async_executor.specs.SpawnMany.{AddsHandles}
use Rattle.async_executor.proofs.scheduler.ExecutorIn.spawn_many.Given as goal

abbrev pub invariant-loop-futures : goal.invariant-loop-futures
invariant-loop-futures g l =
    g.I.Iterator.can_next l.futures × IsFinite (g.I.Iterator.remaining l.futures)
    × ((xs : List _) × Yields g.I.Iterator.next_gives l.fn.futures xs l.futures
    × AddsHandles g.T.Handle.answered l.fn.handles.items (length xs) l.handles.items
    × (vec_len l.handles ≡ l.before + length xs))

abbrev pub decreases-loop-futures : goal.decreases-loop-futures
decreases-loop-futures g l = size (g.I.Iterator.remaining l.futures)
