use Rattle.std.proofs.Common.{◌≡◌}
use Rattle.async_executor.specs.Runs.Fixed.{fixed}
use Rattle.async_executor.proofs.runner.run.work.Given as goal

abbrev pub invariant-loop : goal.invariant-loop
invariant-loop g l =
    (goal.iterator-loop g).can_next l.iterator' × (goal.iterator-loop g).is_finite l.iterator'
    × (fixed l.searching.actor ≡ fixed l.fn.searching.actor)
