use Rattle.std.proofs.Common.{rules}
use Rattle.async_utilities.proofs.pooling.threads.PoolOf.new.Goals as goal

pub returns-clause-count : goal.returns-clause-count
returns-clause-count g c = search rules
