use Rattle.std.proofs.Common.{◌<◌, ◌+◌, ◌-◌, sym, arith}
use Rattle.executor_core.specs.Queues.{gives}
use Rattle.executor_core.proofs.QueueSearchLemmas.{find-range, find_none-range}
use Rattle.executor_core.proofs.queue.queues.Queues.find_queued.Goals as goal

pub returns-then-gives : goal.returns-then-gives
returns-then-gives g c =
    let high : c.loop-other.other < c.args.start + (c.args.end - c.args.start) = omega arith in
    sym (find-range (gives c.args.own c.args.self.now.state.lists.locals) c.args.start (c.args.end - c.args.start) c.loop-other.other c.loop-other.invariant c.loop-other.auto.other high (sym c.if-gives.ensures))

pub returns : goal.returns
returns g c =
    sym (find_none-range (gives c.args.own c.args.self.now.state.lists.locals) c.args.start (c.args.end - c.args.start) (λ k low high. c.loop-other.invariant k low (omega arith)))
