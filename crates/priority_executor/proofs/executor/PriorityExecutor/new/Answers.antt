use Rattle.std.proofs.Common.{rules}
use Rattle.priority_executor.proofs.executor.PriorityExecutor.new.Goals as goal

pub loop-made-init : goal.loop-made-init
loop-made-init g c = (c.in_ok-levels.ensures.len, search rules)
