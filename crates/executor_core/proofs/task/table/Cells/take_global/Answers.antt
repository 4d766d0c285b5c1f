use Rattle.std.proofs.Common.{sym, ap, subst, ◌∙◌}
use Rattle.executor_core.specs.Cells.Calls.{after_take}
use Rattle.executor_core.specs.Cells.Law.{queues_of}
use Rattle.executor_core.specs.Cells.View.{numbers_of, table_of, TakesOut}
use Rattle.executor_core.specs.Queues.{search_global}
use Rattle.std.specs.Prelude.{option_map}
use Rattle.executor_core.proofs.OrderLemmas.{sound_permuted}
use Rattle.executor_core.proofs.QueueLemmas.{search_global-permutes, search_global-map_found, search_global-map_lists}
use Rattle.executor_core.proofs.TakeLemmas.{first_scheduled, first_there, take_sound, found_table, after_take-search, front_found, is_taken}
use Rattle.executor_core.proofs.task.table.Cells.take_global.Goals as goal

pub take_out-taken-requires-clause-there : goal.take_out-taken-requires-clause-there
take_out-taken-requires-clause-there g c =
    rw c.take_front.ensures.slots (first_there (sound_permuted c.self.invariant (search_global-permutes c.self.inside.queues.state.lists c.in-Some-take_front.id (sym c.in-Some-take_front.ensures.front))))

pub take_out-taken-requires-clause-scheduled : goal.take_out-taken-requires-clause-scheduled
take_out-taken-requires-clause-scheduled g c =
    rw c.take_front.ensures.slots (first_scheduled (sound_permuted c.self.invariant (search_global-permutes c.self.inside.queues.state.lists c.in-Some-take_front.id (sym c.in-Some-take_front.ensures.front))))

pub invariant_of-self-2 : goal.invariant_of-self-2
invariant_of-self-2 g c =
    let takes : TakesOut c.self.inside.queues.slots c.take_out-taken.new.queues.slots c.in-Some-take_front.id c.take_out-taken.result = subst (λ l. TakesOut l c.take_out-taken.new.queues.slots c.in-Some-take_front.id c.take_out-taken.result) c.take_front.ensures.slots c.take_out-taken.ensures.slots in
    let found = sym c.in-Some-take_front.ensures.front in
    rw (c.take_out-taken.ensures.state, c.take_front.ensures.rest) (take_sound (sound_permuted c.self.invariant (search_global-permutes c.self.inside.queues.state.lists c.in-Some-take_front.id found)) takes)

pub returns-clause-table : goal.returns-clause-table
returns-clause-table g c =
    let takes : TakesOut c.self.inside.queues.slots c.take_out-taken.new.queues.slots c.in-Some-take_front.id c.take_out-taken.result = subst (λ l. TakesOut l c.take_out-taken.new.queues.slots c.in-Some-take_front.id c.take_out-taken.result) c.take_front.ensures.slots c.take_out-taken.ensures.slots in
    let q = c.self.inside.queues.state in
    let found = sym c.in-Some-take_front.ensures.front in
    let sound = sound_permuted c.self.invariant (search_global-permutes q.lists c.in-Some-take_front.id found) in
    let table = table_of c.self.inside.next c.self.inside.queues.slots q c.self.inside.closed in
    rw (c.take_out-taken.ensures.state, c.take_front.ensures.rest) (found_table sound takes q (search_global q.lists).1 (search_global (queues_of table))
    (search_global-map_found (λ id. id.number) q.lists ∙ ap (option_map (λ id. id.number)) found)
    (search_global-map_lists (λ id. id.number) q.lists)
    ∙ after_take-search table ∙ ap after_take c.self.view_is)

pub returns-clause-some : goal.returns-clause-some
returns-clause-some g c =
    let takes : TakesOut c.self.inside.queues.slots c.take_out-taken.new.queues.slots c.in-Some-take_front.id c.take_out-taken.result = subst (λ l. TakesOut l c.take_out-taken.new.queues.slots c.in-Some-take_front.id c.take_out-taken.result) c.take_front.ensures.slots c.take_out-taken.ensures.slots in
    let q = c.self.inside.queues.state in
    let found = sym c.in-Some-take_front.ensures.front in
    let sound = sound_permuted c.self.invariant (search_global-permutes q.lists c.in-Some-take_front.id found) in
    rw (c.take_out-taken.ensures.state, c.take_front.ensures.rest, ← c.self.view_is) (record {
      taken = is_taken sound takes q;
      front = ap numbers_of (rw (← takes.same_id) at (front_found q.lists c.in-Some-take_front.id found));
    })
