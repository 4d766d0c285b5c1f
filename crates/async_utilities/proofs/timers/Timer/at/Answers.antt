use Rattle.std.proofs.Common.{rules}
use Rattle.async_utilities.proofs.timers.Timer.at.Goals as goal

pub returns-clause-time : goal.returns-clause-time
returns-clause-time g c = search rules
