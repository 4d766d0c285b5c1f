use Rattle.std.proofs.Common.{ap, ◌∙◌, false}
use Rattle.std.specs.Prelude.{◌==◌, option_map, unwrap_or, slice_get}
use Rattle.std.specs.Vec.{vec_capacity}
use Rattle.executor_core.specs.declared.queue.queues.LocalQueue.{LocalQueue}
use Rattle.executor_core.proofs.QueueStateLemmas.{hinted}
use Rattle.executor_core.proofs.queue.queues.Queues.find.Goals as goal

pub returns-then-stands_at-clause-found : goal.returns-then-stands_at-clause-found
returns-then-stands_at-clause-found g c =
    hinted c.args.self.now.state c.self.inside.slots.queue c.self.inside.locals.items c.self.inside.next_runner c.self.inside.free_places (vec_capacity c.self.inside.locals) c.args.key.number c.index-hint.result.now c.self.invariant (ap (λ s. s.state) c.self.view_is)
    (c.if-stands_at.ensures ∙ ap (λ l. unwrap_or (option_map (λ (q : LocalQueue). q.runner == c.args.key.number) (slice_get l c.index-hint.result.now)) false) c.deref.ensures.value)
