use Rattle.std.proofs.Common.{◌≡◌, ◌<◌, ◌^◌, ◌++◌, List, length, take, drop, map, ap, subst, ◌∙◌}
use Rattle.std.proofs.lemmas.List.{length-append}
use Rattle.executor_core.specs.Queues.{emptied, local_entries}
use Rattle.executor_core.specs.Queues.View.{local_of}
use Rattle.executor_core.specs.declared.queue.queues.LocalQueue.{LocalQueue}
use Rattle.executor_core.proofs.QueueStateLemmas.{cut_off}
use Rattle.executor_core.proofs.GatherLemmas.{gathered_sound}
use Rattle.executor_core.proofs.queue.queues.Queues.gather.Goals as goal

pub move_all-requires-clause-queue : goal.move_all-requires-clause-queue
move_all-requires-clause-queue g c = rw c.deref_mut.ensures.value (rw (← c.self.view_is) at c.requires.queue)

pub move_all-requires-clause-counted : goal.move_all-requires-clause-counted
move_all-requires-clause-counted g c =
    let locals = map local_of c.self.inside.locals.items in
    rw c.deref_mut.ensures.value (subst (λ n. n < 2 ^ 64) (length-append c.self.inside.slots.queue (local_entries locals)) (rw (← c.self.view_is) at c.requires.counted))

pub invariant_of-self : goal.invariant_of-self
invariant_of-self g c =
    let whole : List LocalQueue = take c.self.inside.locals.len (c.move_all.new.locals ++ drop (length c.move_all.new.locals) c.self.inside.locals.items) in
    let emptied_here : map local_of whole ≡ map emptied (map local_of c.self.inside.locals.items) = ap (λ l. map local_of l) (cut_off c.self.inside.locals.len c.move_all.new.locals c.deref_mut.result.now (drop (length c.move_all.new.locals) c.self.inside.locals.items) c.move_all.auto.locals c.deref_mut.ensures.len)
    ∙ c.move_all.ensures.locals ∙ ap (λ l. map emptied (map local_of l)) c.deref_mut.ensures.value in
    gathered_sound c.self.inside.slots.queue c.move_all.new.slots.queue c.self.inside.locals.items whole c.self.inside.next_runner c.self.inside.free_places c.self.inside.locals.cap emptied_here c.self.invariant
