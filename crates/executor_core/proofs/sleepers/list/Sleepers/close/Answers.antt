use Rattle.std.proofs.Common.{false}
use Rattle.executor_core.proofs.SleeperListLemmas.{lawful}
use Rattle.executor_core.proofs.sleepers.list.Sleepers.close.Goals as goal

pub returns-clause-law : goal.returns-clause-law
returns-clause-law g c = lawful false c.self.invariant
