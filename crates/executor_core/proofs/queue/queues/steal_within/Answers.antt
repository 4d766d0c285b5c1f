use Rattle.std.proofs.Common.{◌<◌, arith}
use Rattle.executor_core.proofs.QueueStateLemmas.{stolen_up, stolen_down}
use Rattle.executor_core.proofs.queue.queues.steal_within.Goals as goal

pub returns-then-from-to : goal.returns-then-from-to
returns-then-from-to c =
    stolen_up c.args.locals.now c.split_at_mut-low.result.0.now c.split_at_mut-low.result.1.now c.args.from c.args.to c.steal.result c.index-low-from.result c.index-high-0.result c.steal.new.source c.steal.new.target
    c.split_at_mut-low.ensures.value c.split_at_mut-low.ensures.front_len c.if-from-to.true c.requires.to c.steal.ensures.count c.steal.ensures.source c.steal.ensures.target

pub returns-else-from-to : goal.returns-else-from-to
returns-else-from-to c =
    let below : c.args.to < c.args.from = omega arith in
    stolen_down c.args.locals.now c.split_at_mut-low-else-from-to.result.0.now c.split_at_mut-low-else-from-to.result.1.now c.args.from c.args.to c.steal-else-from-to.result c.index-low-to.result c.index-high-0-else-from-to.result c.steal-else-from-to.new.source c.steal-else-from-to.new.target
    c.split_at_mut-low-else-from-to.ensures.value c.split_at_mut-low-else-from-to.ensures.front_len below c.requires.from c.steal-else-from-to.ensures.count c.steal-else-from-to.ensures.source c.steal-else-from-to.ensures.target
