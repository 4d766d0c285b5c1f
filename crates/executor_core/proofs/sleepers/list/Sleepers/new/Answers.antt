use Rattle.std.proofs.Common.{false, rules}
use Rattle.executor_core.proofs.SleeperListLemmas.{lawful}
use Rattle.executor_core.proofs.sleepers.list.Sleepers.new.Goals as goal

pub invariant_of-result : goal.invariant_of-result
invariant_of-result g c = search rules

pub returns-clause-law : goal.returns-clause-law
returns-clause-law g c = lawful false (invariant_of-result g c)
