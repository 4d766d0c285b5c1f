use Rattle.std.proofs.Common.{rules}
use Rattle.async_utilities.proofs.pooling.Pool.new.Goals as goal

pub returns-clause-count : goal.returns-clause-count
returns-clause-count g c = search rules

pub returns-clause-limits : goal.returns-clause-limits
returns-clause-limits g c = search rules
