use Rattle.std.proofs.Common.{◌≡◌, ◌<◌, ◌^◌, ◌++◌, length, sym, ap, subst, Some}
use Rattle.std.proofs.lemmas.List.{length-append}
use Rattle.executor_core.specs.Slots.{IsQueue}
use Rattle.std.specs.Prelude.{slice_get}
use Rattle.std.specs.Vec.{vec_capacity}
use Rattle.executor_core.specs.Queues.View.{state_of, IsQueues}
use Rattle.executor_core.proofs.QueueStateLemmas.{read_at, entries_seen, sound_removed, all_moved, count_moved}
use Rattle.executor_core.proofs.queue.queues.Queues.remove_local.Goals as goal

pub append-requires-clause-queue : goal.append-requires-clause-queue
append-requires-clause-queue g c =
    let read : slice_get c.self.inside.locals.items c.args.position ≡ Some c.remove-ring.result = read_at c.args.self.now.state c.self.inside.slots.queue c.self.inside.locals.items c.self.inside.next_runner c.self.inside.free_places c.args.position c.remove-ring.result (ap (λ s. s.state) c.self.view_is) c.requires.within c.remove-ring.ensures.value in
    subst (λ es. IsQueue c.self.inside.slots.slots (c.self.inside.slots.queue ++ es)) (entries_seen c.self.inside.locals.items c.args.position c.remove-ring.result read) (rw (← c.self.view_is) at c.requires.queue)

pub append-requires-clause-counted : goal.append-requires-clause-counted
append-requires-clause-counted g c =
    let read : slice_get c.self.inside.locals.items c.args.position ≡ Some c.remove-ring.result = read_at c.args.self.now.state c.self.inside.slots.queue c.self.inside.locals.items c.self.inside.next_runner c.self.inside.free_places c.args.position c.remove-ring.result (ap (λ s. s.state) c.self.view_is) c.requires.within c.remove-ring.ensures.value in
    let queue = c.self.inside.slots.queue in
    let ids = c.remove-ring.result.ring.ids in
    subst (λ n. n < 2 ^ 64) (length-append queue ids)
    (subst (λ es. length (queue ++ es) < 2 ^ 64) (entries_seen c.self.inside.locals.items c.args.position c.remove-ring.result read) (rw (← c.self.view_is) at c.requires.counted))

pub invariant_of-self : goal.invariant_of-self
invariant_of-self g c =
    subst (IsQueues (state_of c.append.new.slots.queue c.remove-ring.new.self.items c.self.inside.next_runner c.self.inside.free_places)) (sym c.remove-ring.ensures.capacity)
    (sound_removed c.args.self.now.state c.self.inside.slots.queue c.append.new.slots.queue c.self.inside.locals.items c.remove-ring.new.self.items c.self.inside.next_runner c.self.inside.free_places (vec_capacity c.self.inside.locals) c.args.position
    c.self.invariant (ap (λ s. s.state) c.self.view_is) c.remove-ring.ensures.items c.requires.within)

pub returns-clause-lists : goal.returns-clause-lists
returns-clause-lists g c =
    let read : slice_get c.self.inside.locals.items c.args.position ≡ Some c.remove-ring.result = read_at c.args.self.now.state c.self.inside.slots.queue c.self.inside.locals.items c.self.inside.next_runner c.self.inside.free_places c.args.position c.remove-ring.result (ap (λ s. s.state) c.self.view_is) c.requires.within c.remove-ring.ensures.value in
    all_moved c.args.self.now.state c.self.inside.slots.queue c.append.new.slots.queue c.self.inside.locals.items c.remove-ring.new.self.items c.self.inside.next_runner c.self.inside.free_places c.args.position c.remove-ring.result
    (ap (λ s. s.state) c.self.view_is) read c.remove-ring.ensures.items (ap (λ s. s.queue) c.append.ensures.queue)

pub returns-clause-count : goal.returns-clause-count
returns-clause-count g c =
    let read : slice_get c.self.inside.locals.items c.args.position ≡ Some c.remove-ring.result = read_at c.args.self.now.state c.self.inside.slots.queue c.self.inside.locals.items c.self.inside.next_runner c.self.inside.free_places c.args.position c.remove-ring.result (ap (λ s. s.state) c.self.view_is) c.requires.within c.remove-ring.ensures.value in
    count_moved c.args.self.now.state c.self.inside.slots.queue c.self.inside.locals.items c.self.inside.next_runner c.self.inside.free_places c.args.position c.len-count.result c.remove-ring.result (ap (λ s. s.state) c.self.view_is) read c.len-count.ensures.len
