use Rattle.std.proofs.Common.{subst}
use Rattle.executor_core.specs.Sleepers.{SleeperLaw}
use Rattle.executor_core.proofs.SleeperListLemmas.{lawful}
use Rattle.executor_core.proofs.sleepers.list.Sleepers.len.Goals as goal

pub returns-clause-law : goal.returns-clause-law
returns-clause-law g c = subst SleeperLaw c.self.view_is (lawful c.self.inside.is_open c.self.invariant)
