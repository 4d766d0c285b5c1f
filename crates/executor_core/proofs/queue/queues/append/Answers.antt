use Rattle.std.proofs.Common.{◌≡◌, ◌+◌, ◌++◌, ◌∷◌, [], take, drop, append_assoc, sym, ap, subst, ◌∙◌}
use Rattle.std.specs.Prelude.{slice_get}
use Rattle.std.proofs.lemmas.List.{take-append-drop}
use Rattle.executor_core.specs.Slots.{IsQueue, with_queue}
use Rattle.executor_core.proofs.LinkLemmas.{prefix_queue}
use Rattle.executor_core.proofs.QueueListLemmas.{take_next, source_moved}
use Rattle.executor_core.proofs.queue.queues.append.Goals as goal

pub loop-preserved : goal.loop-preserved
loop-preserved g c =
    let was = c.loop.invariant.queue in
    let front = ap (λ r. slice_get r.ids 0) (sym c.loop.invariant.ring) ∙ sym c.pop.ensures.front ∙ c.in-Some.is in
    record {
      queue = c.push.ensures ∙ ap (λ s. with_queue (s.queue ++ c.in-Some.id ∷ []) s) was ∙ ap (λ ids. with_queue ids c.args.slots.now) (take_next c.args.ring.now.ids c.args.slots.now.queue c.loop.counter c.in-Some.id front);
      ring = source_moved c.args.ring.now c.loop.ring c.pop.new.self c.loop.counter c.loop.invariant.ring c.pop.ensures.rest;
    }

pub push-requires-clause-queue : goal.push-requires-clause-queue
push-requires-clause-queue g c =
    let queue = c.args.slots.now.queue in
    let ids = c.args.ring.now.ids in
    let k = c.loop.counter in
    let was = c.loop.invariant.queue in
    let front = ap (λ r. slice_get r.ids 0) (sym c.loop.invariant.ring) ∙ sym c.pop.ensures.front ∙ c.in-Some.is in
    let next = take_next ids queue k c.in-Some.id front in
    let whole : queue ++ ids ≡ (queue ++ take (k + 1) ids) ++ drop (k + 1) ids = ap (λ l. queue ++ l) (sym (take-append-drop (k + 1) ids)) ∙ sym (append_assoc queue (take (k + 1) ids) (drop (k + 1) ids)) in
    rw (was, next) (prefix_queue c.args.slots.now.slots (queue ++ take (k + 1) ids) (drop (k + 1) ids) (subst (IsQueue c.args.slots.now.slots) whole c.requires.queue))
