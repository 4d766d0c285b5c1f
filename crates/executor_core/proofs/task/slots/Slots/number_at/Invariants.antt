use Rattle.std.proofs.Common.{drop}
use Rattle.executor_core.specs.Slots.View.{walk, Chain}
use Rattle.executor_core.proofs.task.slots.Slots.number_at.Given as goal

abbrev pub invariant-loop : goal.invariant-loop
invariant-loop g l =
    Chain l.self-inside.slots.slots (drop l.counter (walk l.self-inside.slots.slots l.self-inside.len l.self-inside.first)) l.slot
