use Rattle.std.proofs.Common.{drop, sym, ap, ◌∙◌}
use Rattle.executor_core.specs.Slots.{with_queue}
use Rattle.executor_core.proofs.QueueListLemmas.{drop_next, target_moved}
use Rattle.executor_core.proofs.queue.queues.move_linked.Goals as goal

pub loop-preserved : goal.loop-preserved
loop-preserved g c =
    let was = c.loop.invariant.queue in
    let front = sym c.pop.ensures.front ∙ c.in-Some.is in
    record {
      queue = c.pop.ensures.rest ∙ ap (λ s. with_queue (drop 1 s.queue) s) was ∙ ap (λ ids. with_queue ids c.args.slots.now) (drop_next c.args.slots.now.queue c.loop.counter);
      ring = target_moved c.args.slots.now.queue c.loop.slots.queue c.args.ring.now c.loop.ring c.push.new.self c.loop.counter c.in-Some.id (ap (λ s. s.queue) was) front c.loop.invariant.ring c.in-Ok.ensures.ok;
    }
