use Rattle.std.proofs.Common.{rules}
use Rattle.async_utilities.proofs.timers.Timer.interval.Goals as goal

pub returns-clause-first : goal.returns-clause-first
returns-clause-first g c = search rules
