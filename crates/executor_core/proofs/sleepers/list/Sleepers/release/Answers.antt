use Rattle.std.proofs.Common.{◌≡◌, length, subst, arith}
use Rattle.executor_core.specs.Sleepers.View.{in_use}
use Rattle.executor_core.proofs.SleeperCallLemmas.{count_is, release_sound}
use Rattle.executor_core.proofs.SleeperListLemmas.{lawful}
use Rattle.executor_core.specs.Sleepers.{SleeperLaw}
use Rattle.executor_core.proofs.sleepers.list.Sleepers.release.Goals as goal

pub invariant_of-self : goal.invariant_of-self
invariant_of-self g c =
    let count : c.numbers.result ≡ length (in_use c.self.inside.notified c.self.inside.unnotified.items) = count_is c.self.invariant c.self.view_is c.numbers.ensures in
    release_sound c.self.invariant (omega arith)

pub returns-then-numbers-self-clause-law : goal.returns-then-numbers-self-clause-law
returns-then-numbers-self-clause-law g c = lawful c.self.inside.is_open (invariant_of-self g c)

pub returns-else-numbers-self-clause-law : goal.returns-else-numbers-self-clause-law
returns-else-numbers-self-clause-law g c = subst SleeperLaw c.self.view_is (lawful c.self.inside.is_open c.self.invariant)
