use Rattle.std.proofs.Common.{◌≡◌, ap, ◌∙◌, Some}
use Rattle.std.specs.Prelude.{slice_get}
use Rattle.executor_core.proofs.QueueStateLemmas.{read_at, count_stolen, globally_stolen, sound_written}
use Rattle.executor_core.proofs.queue.queues.Queues.steal_global.Goals as goal

pub invariant_of-self : goal.invariant_of-self
invariant_of-self g c =
    let read : slice_get c.self.inside.locals.items c.args.own ≡ Some c.index_mut.result.now = read_at c.args.self.now.state c.self.inside.slots.queue c.self.inside.locals.items c.self.inside.next_runner c.self.inside.free_places c.args.own c.index_mut.result.now (ap (λ s. s.state) c.self.view_is) c.requires c.index_mut.ensures.value in
    sound_written c.self.inside.slots.queue c.steal_linked.new.slots.queue c.self.inside.locals.items c.self.inside.next_runner c.self.inside.free_places c.self.inside.locals.cap c.args.own c.index_mut.result.now c.steal_linked.new.ring c.self.invariant read

pub returns-clause-lists : goal.returns-clause-lists
returns-clause-lists g c =
    let read : slice_get c.self.inside.locals.items c.args.own ≡ Some c.index_mut.result.now = read_at c.args.self.now.state c.self.inside.slots.queue c.self.inside.locals.items c.self.inside.next_runner c.self.inside.free_places c.args.own c.index_mut.result.now (ap (λ s. s.state) c.self.view_is) c.requires c.index_mut.ensures.value in
    globally_stolen c.args.self.now.state c.self.inside.slots.queue c.steal_linked.new.slots.queue c.self.inside.locals.items c.self.inside.next_runner c.self.inside.free_places c.args.own c.steal_linked.result c.index_mut.result.now c.steal_linked.new.ring (ap (λ s. s.state) c.self.view_is) read c.steal_linked.ensures.count (ap (λ s. s.queue) c.steal_linked.ensures.queue) c.steal_linked.ensures.ring

pub returns-clause-count : goal.returns-clause-count
returns-clause-count g c =
    let read : slice_get c.self.inside.locals.items c.args.own ≡ Some c.index_mut.result.now = read_at c.args.self.now.state c.self.inside.slots.queue c.self.inside.locals.items c.self.inside.next_runner c.self.inside.free_places c.args.own c.index_mut.result.now (ap (λ s. s.state) c.self.view_is) c.requires c.index_mut.ensures.value in
    c.steal_linked.ensures.count ∙ count_stolen c.args.self.now.state c.self.inside.slots.queue c.self.inside.locals.items c.self.inside.next_runner c.self.inside.free_places c.args.own c.index_mut.result.now (ap (λ s. s.state) c.self.view_is) read
