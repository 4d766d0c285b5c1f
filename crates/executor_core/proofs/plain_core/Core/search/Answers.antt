use Rattle.std.proofs.Common.{ap}
use Rattle.executor_core.proofs.plain_core.Core.search.Goals as goal

pub returns-clause-state : goal.returns-clause-state
returns-clause-state g c = ap (λ cells. record c.args.self.now { cells = cells }) c.search.ensures.table

pub returns-clause-none : goal.returns-clause-none
returns-clause-none g c = c.search.ensures.none

pub returns-clause-some : goal.returns-clause-some
returns-clause-some g c = c.search.ensures.some
