use Rattle.std.proofs.Common.{ap, rules}
use Rattle.executor_core.specs.Sleepers.Calls.{after_reserve}
use Rattle.executor_core.proofs.SleeperListLemmas.{lawful}
use Rattle.executor_core.proofs.sleepers.list.Sleepers.reserve.Goals as goal

pub invariant_of-self : goal.invariant_of-self
invariant_of-self g c = search rules

pub invariant_of-self-in_err-reserve_places-2 : goal.invariant_of-self-in_err-reserve_places-2
invariant_of-self-in_err-reserve_places-2 g c = search rules

pub invariant_of-self-2 : goal.invariant_of-self-2
invariant_of-self-2 g c = search rules

pub returns-in_err-reserve_places-clause-law : goal.returns-in_err-reserve_places-clause-law
returns-in_err-reserve_places-clause-law g c = lawful c.self.inside.is_open (invariant_of-self g c)

pub returns-in_err-reserve_places-2-clause-law : goal.returns-in_err-reserve_places-2-clause-law
returns-in_err-reserve_places-2-clause-law g c = lawful c.self.inside.is_open (invariant_of-self-in_err-reserve_places-2 g c)

pub returns-clause-law : goal.returns-clause-law
returns-clause-law g c = lawful c.self.inside.is_open (invariant_of-self-2 g c)

pub returns-clause-ok : goal.returns-clause-ok
returns-clause-ok g c = rw (c.reserve_places.ensures.items, c.reserve_places-2.ensures.items) (ap after_reserve c.self.view_is)
