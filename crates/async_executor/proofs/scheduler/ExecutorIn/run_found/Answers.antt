use Rattle.std.proofs.Common.{ap, sym, is_some}
use Rattle.async_executor.proofs.scheduler.ExecutorIn.run_found.Goals as goal

pub returns : goal.returns
returns g c = sym (ap is_some c.in-Some.is)
