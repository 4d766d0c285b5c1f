use Rattle.std.proofs.Common.{Some, sym, ap, subst, ◌∙◌}
use Rattle.std.specs.Prelude.{option_map}
use Rattle.executor_core.specs.Cells.Calls.{after_take_any, any_in}
use Rattle.executor_core.specs.Cells.View.{numbers_of, table_of, TakesOut}
use Rattle.executor_core.specs.Queues.{map_queues, search_any}
use Rattle.executor_core.specs.Queues.State.{QueueState}
use Rattle.executor_core.proofs.OrderLemmas.{sound_permuted}
use Rattle.executor_core.proofs.QueueLemmas.{search_any-permutes, search_any-none, search_any-map_found, search_any-map_lists, all_entries-map}
use Rattle.executor_core.proofs.TakeLemmas.{first_scheduled, first_there, take_sound, found_table, none_table, is_taken}
use Rattle.executor_core.proofs.task.table.Cells.take_any.Goals as goal

pub invariant_of-self : goal.invariant_of-self
invariant_of-self g c =
    let none = sym c.take_any.ensures.found ∙ c.in_default-take_any.is in
    rw (c.take_any.ensures.slots, c.take_any.ensures.lists, (search_any-none c.self.inside.queues.state.lists none).1) c.self.invariant

pub returns-in_default-take_any-clause-table : goal.returns-in_default-take_any-clause-table
returns-in_default-take_any-clause-table g c =
    let q = c.self.inside.queues.state in
    let seen = λ (s : QueueState). table_of c.self.inside.next c.self.inside.queues.slots s c.self.inside.closed in
    let none = sym c.take_any.ensures.found ∙ c.in_default-take_any.is in
    let left = (search_any-none q.lists none).1 in
    rw (c.take_any.ensures.slots, c.take_any.ensures.lists, left, ← c.self.view_is) (none_table (seen q) (any_in (seen q))
    (search_any-map_found (λ id. id.number) q.lists ∙ ap (option_map (λ id. id.number)) none)
    (search_any-map_lists (λ id. id.number) q.lists ∙ ap (map_queues (λ id. id.number)) left))

pub returns-in_default-take_any-clause-none : goal.returns-in_default-take_any-clause-none
returns-in_default-take_any-clause-none g c =
    let q = c.self.inside.queues.state in
    let none = sym c.take_any.ensures.found ∙ c.in_default-take_any.is in
    rw (← c.self.view_is) (all_entries-map (λ id. id.number) q.lists ∙ ap numbers_of (search_any-none q.lists none).0)

pub take_out-taken-requires-clause-there : goal.take_out-taken-requires-clause-there
take_out-taken-requires-clause-there g c =
    let found = sym c.take_any.ensures.found ∙ c.in-Some-take_any.is in
    rw c.take_any.ensures.slots (first_there (sound_permuted c.self.invariant (search_any-permutes c.self.inside.queues.state.lists c.in-Some-take_any.id found)))

pub take_out-taken-requires-clause-scheduled : goal.take_out-taken-requires-clause-scheduled
take_out-taken-requires-clause-scheduled g c =
    let found = sym c.take_any.ensures.found ∙ c.in-Some-take_any.is in
    rw c.take_any.ensures.slots (first_scheduled (sound_permuted c.self.invariant (search_any-permutes c.self.inside.queues.state.lists c.in-Some-take_any.id found)))

pub invariant_of-self-2 : goal.invariant_of-self-2
invariant_of-self-2 g c =
    let takes : TakesOut c.self.inside.queues.slots c.take_out-taken.new.queues.slots c.in-Some-take_any.id c.take_out-taken.result = subst (λ l. TakesOut l c.take_out-taken.new.queues.slots c.in-Some-take_any.id c.take_out-taken.result) c.take_any.ensures.slots c.take_out-taken.ensures.slots in
    let found = sym c.take_any.ensures.found ∙ c.in-Some-take_any.is in
    let sound = sound_permuted c.self.invariant (search_any-permutes c.self.inside.queues.state.lists c.in-Some-take_any.id found) in
    rw (c.take_out-taken.ensures.state, c.take_any.ensures.lists) (take_sound sound takes)

pub returns-clause-table : goal.returns-clause-table
returns-clause-table g c =
    let takes : TakesOut c.self.inside.queues.slots c.take_out-taken.new.queues.slots c.in-Some-take_any.id c.take_out-taken.result = subst (λ l. TakesOut l c.take_out-taken.new.queues.slots c.in-Some-take_any.id c.take_out-taken.result) c.take_any.ensures.slots c.take_out-taken.ensures.slots in
    let q = c.self.inside.queues.state in
    let found = sym c.take_any.ensures.found ∙ c.in-Some-take_any.is in
    let sound = sound_permuted c.self.invariant (search_any-permutes q.lists c.in-Some-take_any.id found) in
    let table = table_of c.self.inside.next c.self.inside.queues.slots q c.self.inside.closed in
    rw (c.take_out-taken.ensures.state, c.take_any.ensures.lists) (found_table sound takes q (search_any q.lists).1 (any_in table)
    (search_any-map_found (λ id. id.number) q.lists ∙ ap (option_map (λ id. id.number)) found)
    (search_any-map_lists (λ id. id.number) q.lists)
    ∙ ap after_take_any c.self.view_is)

pub returns-clause-some : goal.returns-clause-some
returns-clause-some g c =
    let takes : TakesOut c.self.inside.queues.slots c.take_out-taken.new.queues.slots c.in-Some-take_any.id c.take_out-taken.result = subst (λ l. TakesOut l c.take_out-taken.new.queues.slots c.in-Some-take_any.id c.take_out-taken.result) c.take_any.ensures.slots c.take_out-taken.ensures.slots in
    let q = c.self.inside.queues.state in
    let found = sym c.take_any.ensures.found ∙ c.in-Some-take_any.is in
    let sound = sound_permuted c.self.invariant (search_any-permutes q.lists c.in-Some-take_any.id found) in
    rw (← c.self.view_is) (record {
      taken = is_taken sound takes q;
      found = search_any-map_found (λ id. id.number) q.lists ∙ ap (option_map (λ id. id.number)) found ∙ ap (λ id. Some id.number) (sym takes.same_id);
    })
