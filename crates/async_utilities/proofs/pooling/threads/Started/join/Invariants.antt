use Rattle.std.proofs.Common.{◌≡◌, ◌+◌, vec_len, vec_capacity}
use Rattle.std.specs.Vec.Iter.{into_iter_len}
use Rattle.async_utilities.proofs.pooling.threads.Started.join.Given as goal

-- one for each thread so far, and room for the others
abbrev pub invariant-loop-thread : goal.invariant-loop-thread
invariant-loop-thread g l =
    (vec_len l.ended + into_iter_len l.threads ≡ vec_len l.initial.ended + into_iter_len l.initial.threads) × (vec_capacity l.ended ≡ vec_capacity l.initial.ended)

abbrev pub decreases-loop-thread : goal.decreases-loop-thread
decreases-loop-thread g l = into_iter_len l.threads
