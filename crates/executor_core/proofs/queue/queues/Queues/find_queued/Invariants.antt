use Rattle.std.proofs.Common.{◌≡◌, ℕ, ◌≤◌, ◌<◌, false}
use Rattle.executor_core.specs.Queues.{gives}
use Rattle.executor_core.proofs.queue.queues.Queues.find_queued.Given as goal

abbrev pub invariant-loop-other : goal.invariant-loop-other
invariant-loop-other g l = (k : ℕ) → l.start ≤ k → k < l.other → gives l.own l.self.state.lists.locals k ≡ false
