use Rattle.std.proofs.Common.{rules, ◌≡◌, sym, ap, ◌∙◌, length}
use Rattle.std.specs.Vec.{vec_len}
use Rattle.executor_core.proofs.QueueSearchLemmas.{victim_none, victim_after, victim_before}
use Rattle.executor_core.proofs.QueueStateLemmas.{capacity_read, count_seen}
use Rattle.executor_core.proofs.queue.queues.Queues.find_victim.Goals as goal

pub returns-then-capacity-eq0 : goal.returns-then-capacity-eq0
returns-then-capacity-eq0 g c =
    let capacity = capacity_read c.args.self.now.state c.self.inside.slots.queue c.self.inside.locals.items c.self.inside.next_runner c.self.inside.free_places c.args.own c.index.result.now (ap (λ s. s.state) c.self.view_is) c.requires c.index.ensures in
    victim_none c.args.own c.args.word c.args.self.now.state.lists.locals (capacity ∙ sym c.capacity.ensures.capacity ∙ c.if-capacity-eq0.true)

pub returns-in-Some : goal.returns-in-Some
returns-in-Some g c =
    let long : vec_len c.self.inside.locals ≡ length c.self.inside.locals.items = search rules in
    let count = count_seen c.args.self.now.state c.self.inside.slots.queue c.self.inside.locals.items c.self.inside.next_runner c.self.inside.free_places c.len-count.result (ap (λ s. s.state) c.self.view_is) (c.len-count.ensures ∙ long) in
    let capacity = capacity_read c.args.self.now.state c.self.inside.slots.queue c.self.inside.locals.items c.self.inside.next_runner c.self.inside.free_places c.args.own c.index.result.now (ap (λ s. s.state) c.self.view_is) c.requires c.index.ensures in
    victim_after c.args.own c.args.word c.in-Some.other c.len-count.result c.args.self.now.state.lists.locals count (λ none. c.if-capacity-eq0.false (c.capacity.ensures.capacity ∙ sym capacity ∙ none)) c.requires (rw c.start_of-start.ensures at c.in-Some.ensures)

pub returns-in-None : goal.returns-in-None
returns-in-None g c =
    let long : vec_len c.self.inside.locals ≡ length c.self.inside.locals.items = search rules in
    let count = count_seen c.args.self.now.state c.self.inside.slots.queue c.self.inside.locals.items c.self.inside.next_runner c.self.inside.free_places c.len-count.result (ap (λ s. s.state) c.self.view_is) (c.len-count.ensures ∙ long) in
    let capacity = capacity_read c.args.self.now.state c.self.inside.slots.queue c.self.inside.locals.items c.self.inside.next_runner c.self.inside.free_places c.args.own c.index.result.now (ap (λ s. s.state) c.self.view_is) c.requires c.index.ensures in
    victim_before c.args.own c.args.word c.len-count.result c.find_queued-in-None.result c.args.self.now.state.lists.locals count (λ none. c.if-capacity-eq0.false (c.capacity.ensures.capacity ∙ sym capacity ∙ none)) c.requires (rw c.start_of-start.ensures at c.in-None.ensures) (rw c.start_of-start.ensures at c.find_queued-in-None.ensures)
