use Rattle.std.proofs.Common.{sym, ap, ◌∙◌}
use Rattle.executor_core.proofs.QueueListLemmas.{source_moved, target_moved}
use Rattle.executor_core.proofs.queue.queues.move_first.Goals as goal

pub loop-preserved : goal.loop-preserved
loop-preserved c =
    record {
      source = source_moved c.args.source.now c.loop.source c.pop.new.self c.loop.counter c.loop.invariant.source c.pop.ensures.rest;
      target = target_moved c.args.source.now.ids c.loop.source.ids c.args.target.now c.loop.target c.push.new.self c.loop.counter c.in-Some.id (ap (λ r. r.ids) c.loop.invariant.source) (sym c.pop.ensures.front ∙ c.in-Some.is) c.loop.invariant.target c.in-Ok.ensures.ok;
    }
