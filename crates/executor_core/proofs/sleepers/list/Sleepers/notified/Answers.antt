use Rattle.std.proofs.Common.{◌∙◌, ap}
use Rattle.executor_core.specs.Sleepers.{notified_number}
use Rattle.executor_core.proofs.SleeperListLemmas.{number_notified}
use Rattle.executor_core.proofs.sleepers.list.Sleepers.notified.Goals as goal

pub returns : goal.returns
returns g c = c.unwrap_or.ensures ∙ number_notified c.self.inside.is_open c.self.invariant ∙ ap notified_number c.self.view_is
