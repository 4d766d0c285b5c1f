use Rattle.std.proofs.Common.{◌≡◌, vec_len}
use Rattle.async_utilities.proofs.pooling.threads.PoolOf.start_all.Given as goal

-- so many threads were started, and the executor is as it was
abbrev pub invariant-loop-number : goal.invariant-loop-number
invariant-loop-number g l =
    (vec_len l.self.started.threads ≡ l.number) × (l.self.executor ≡ l.fn.self.executor)
