use Rattle.std.proofs.Common.{◌≡◌, ◌≤◌, length, ◌++◌}
use Rattle.std.specs.Vec.{vec_capacity}
use Rattle.executor_core.specs.World.Steps.{RunTo}
use Rattle.executor_core.proofs.interleave.World.run.Given as goal

abbrev pub invariant-loop-step : goal.invariant-loop-step
invariant-loop-step g l = RunTo l.fn.self l.yielded l.replies.items l.self × (l.yielded ++ l.step-iterator.rest.items ≡ l.fn.steps.items) × (length l.replies.items ≡ length l.yielded) × (length l.fn.steps.items ≤ vec_capacity l.replies)
