use Rattle.std.proofs.Common.{◌≡◌, ap, sym, ◌∙◌, Some}
use Rattle.std.specs.Prelude.{slice_get}
use Rattle.executor_core.specs.Queues.{entries_at}
use Rattle.executor_core.specs.Queues.State.{QueueState}
use Rattle.executor_core.proofs.QueueStateLemmas.{read_at, entries_seen, front_gone, sound_written}
use Rattle.executor_core.proofs.queue.queues.Queues.take_local.Goals as goal

pub invariant_of-self : goal.invariant_of-self
invariant_of-self g c =
    let read : slice_get c.self.inside.locals.items c.args.own ≡ Some c.index_mut.result.now = read_at c.args.self.now.state c.self.inside.slots.queue c.self.inside.locals.items c.self.inside.next_runner c.self.inside.free_places c.args.own c.index_mut.result.now (ap (λ s. s.state) c.self.view_is) c.requires c.index_mut.ensures.value in
    sound_written c.self.inside.slots.queue c.self.inside.slots.queue c.self.inside.locals.items c.self.inside.next_runner c.self.inside.free_places c.self.inside.locals.cap c.args.own c.index_mut.result.now c.pop.new.self c.self.invariant read

pub returns-clause-front : goal.returns-clause-front
returns-clause-front g c =
    let read : slice_get c.self.inside.locals.items c.args.own ≡ Some c.index_mut.result.now = read_at c.args.self.now.state c.self.inside.slots.queue c.self.inside.locals.items c.self.inside.next_runner c.self.inside.free_places c.args.own c.index_mut.result.now (ap (λ s. s.state) c.self.view_is) c.requires c.index_mut.ensures.value in
    c.pop.ensures.front
    ∙ ap (λ es. slice_get es 0) (sym (entries_seen c.self.inside.locals.items c.args.own c.index_mut.result.now read) ∙ ap (λ (s : QueueState). entries_at c.args.own s.lists.locals) (ap (λ s. s.state) c.self.view_is))

pub returns-clause-rest : goal.returns-clause-rest
returns-clause-rest g c =
    let read : slice_get c.self.inside.locals.items c.args.own ≡ Some c.index_mut.result.now = read_at c.args.self.now.state c.self.inside.slots.queue c.self.inside.locals.items c.self.inside.next_runner c.self.inside.free_places c.args.own c.index_mut.result.now (ap (λ s. s.state) c.self.view_is) c.requires c.index_mut.ensures.value in
    front_gone c.args.self.now.state c.self.inside.slots.queue c.self.inside.locals.items c.self.inside.next_runner c.self.inside.free_places c.args.own c.index_mut.result.now c.pop.new.self (ap (λ s. s.state) c.self.view_is) read c.pop.ensures.rest
