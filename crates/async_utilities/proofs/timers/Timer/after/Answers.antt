use Rattle.std.proofs.Common.{rules}
use Rattle.async_utilities.proofs.timers.Timer.after.Goals as goal

pub returns-clause-long : goal.returns-clause-long
returns-clause-long g c = search rules
