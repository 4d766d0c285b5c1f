use Rattle.std.proofs.Common.{◌≤◌, IfSome}
use Rattle.digests.proofs.arguments.Options.read.Given as goal

abbrev pub invariant-loop : goal.invariant-loop
invariant-loop g l = IfSome l.options.threads (λ count. (1 ≤ count) × (count ≤ 256))
