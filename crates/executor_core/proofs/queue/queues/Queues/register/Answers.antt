use Rattle.std.proofs.Common.{◌≡◌, ◌-◌, ◌<◌, ◌≢◌, refl, sym, ap, ◌∙◌, subst, arith}
use Rattle.std.specs.Vec.{vec_capacity}
use Rattle.executor_core.specs.Queues.State.{QueueState}
use Rattle.executor_core.specs.Queues.View.{state_of, IsQueues}
use Rattle.executor_core.proofs.QueueStateLemmas.{sound_pushed}
use Rattle.executor_core.proofs.queue.queues.Queues.register.Goals as goal

pub invariant_of-self : goal.invariant_of-self
invariant_of-self g c =
    let same : c.self-2.inside.free_places ≡ c.self.inside.free_places = ap (λ (s : QueueState). s.free_places) (ap (λ s. s.state) (c.self-2.view_is ∙ c.find.ensures.same) ∙ sym (ap (λ s. s.state) c.self.view_is)) in
    let free : 0 < c.self-2.inside.free_places = let some : c.self.inside.free_places ≢ 0 = c.if-self-eq0.false in omega arith in
    subst (IsQueues (state_of c.self-2.inside.slots.queue c.push_reserved.new.self.items c.self-2.inside.next_runner (c.self-2.inside.free_places - 1))) (sym c.push_reserved.ensures.capacity)
    (sound_pushed c.args.self.now.state c.self-2.inside.slots.queue c.self-2.inside.locals.items c.push_reserved.new.self.items c.self-2.inside.next_runner c.self-2.inside.free_places (vec_capacity c.self-2.inside.locals) c.args.key.number _ c.find.result
    c.self-2.invariant (ap (λ s. s.state) (c.self-2.view_is ∙ c.find.ensures.same)) c.push_reserved.ensures.items refl c.find.ensures.found c.if-is_some.ensures free)
