use Rattle.std.proofs.Common.{◌≡◌, ap, ◌∙◌, ◌++◌, List, length, take, drop, map}
use Rattle.executor_core.specs.Queues.{stolen_locals}
use Rattle.executor_core.specs.Queues.View.{local_of}
use Rattle.executor_core.specs.declared.queue.queues.LocalQueue.{LocalQueue}
use Rattle.executor_core.proofs.QueueStateLemmas.{cut_off, sound_stolen, state_stolen}
use Rattle.executor_core.proofs.queue.queues.Queues.steal_between.Goals as goal

pub invariant_of-self : goal.invariant_of-self
invariant_of-self g c =
    let whole : List LocalQueue = take c.self.inside.locals.len (c.steal_within.new.locals ++ drop (length c.steal_within.new.locals) c.self.inside.locals.items) in
    let cut : whole ≡ c.steal_within.new.locals = cut_off c.self.inside.locals.len c.steal_within.new.locals c.deref_mut.result.now (drop (length c.steal_within.new.locals) c.self.inside.locals.items) c.steal_within.auto.locals c.deref_mut.ensures.len in
    let stolen_here : map local_of c.steal_within.new.locals ≡ stolen_locals c.args.from c.args.to (map local_of c.self.inside.locals.items) = c.steal_within.ensures ∙ ap (λ l. stolen_locals c.args.from c.args.to (map local_of l)) c.deref_mut.ensures.value in
    sound_stolen c.self.inside.slots.queue c.self.inside.locals.items c.steal_within.new.locals whole c.self.inside.next_runner c.self.inside.free_places c.self.inside.locals.cap c.args.from c.args.to cut stolen_here c.self.invariant

pub returns-clause-lists : goal.returns-clause-lists
returns-clause-lists g c =
    let whole : List LocalQueue = take c.self.inside.locals.len (c.steal_within.new.locals ++ drop (length c.steal_within.new.locals) c.self.inside.locals.items) in
    let cut : whole ≡ c.steal_within.new.locals = cut_off c.self.inside.locals.len c.steal_within.new.locals c.deref_mut.result.now (drop (length c.steal_within.new.locals) c.self.inside.locals.items) c.steal_within.auto.locals c.deref_mut.ensures.len in
    let stolen_here : map local_of c.steal_within.new.locals ≡ stolen_locals c.args.from c.args.to (map local_of c.self.inside.locals.items) = c.steal_within.ensures ∙ ap (λ l. stolen_locals c.args.from c.args.to (map local_of l)) c.deref_mut.ensures.value in
    state_stolen c.args.self.now.state c.self.inside.slots.queue c.self.inside.locals.items c.steal_within.new.locals whole c.self.inside.next_runner c.self.inside.free_places c.args.from c.args.to (ap (λ s. s.state) c.self.view_is) cut stolen_here
