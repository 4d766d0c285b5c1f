use Rattle.std.proofs.Common.{◌≡◌, ◌+◌, ◌++◌, length}
use Rattle.priority_executor.specs.Answers.{false_below}
use Rattle.priority_executor.proofs.asker.choose.Given as goal

abbrev pub invariant-loop-level : goal.invariant-loop-level
invariant-loop-level g l =
    (g.A.Asker.answers l.asker ≡ g.A.Asker.answers l.fn.asker ++ false_below l.level)
    × (g.A.Asker.places l.asker + l.level ≡ g.A.Asker.places l.fn.asker)
    × (g.A.Asker.places l.asker + length (g.A.Asker.answers l.asker) ≡ g.A.Asker.places l.fn.asker + length (g.A.Asker.answers l.fn.asker))
