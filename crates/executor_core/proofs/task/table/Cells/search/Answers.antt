use Rattle.std.proofs.Common.{Some, sym, ap, subst, ◌∙◌}
use Rattle.std.specs.Prelude.{option_map}
use Rattle.executor_core.specs.Cells.Calls.{after_search, search_in}
use Rattle.executor_core.specs.Cells.View.{table_of, TakesOut}
use Rattle.executor_core.specs.Queues.{map_queues, search}
use Rattle.executor_core.specs.Queues.State.{QueueState}
use Rattle.executor_core.proofs.OrderLemmas.{sound_permuted}
use Rattle.executor_core.proofs.QueueLemmas.{search-permutes, search-none, search-map_found, search-map_lists}
use Rattle.executor_core.proofs.TakeLemmas.{first_scheduled, first_there, take_sound, found_table, none_table, is_taken}
use Rattle.executor_core.proofs.task.table.Cells.search.Goals as goal

pub invariant_of-self : goal.invariant_of-self
invariant_of-self g c =
    let none = sym c.search.ensures.found ∙ c.in_default-search.is in
    rw (c.search.ensures.slots, c.search.ensures.lists, search-none c.args.key.number c.args.word c.self.inside.queues.state.lists none) c.self.invariant

pub returns-in_default-search-clause-table : goal.returns-in_default-search-clause-table
returns-in_default-search-clause-table g c =
    let q = c.self.inside.queues.state in
    let seen = λ (s : QueueState). table_of c.self.inside.next c.self.inside.queues.slots s c.self.inside.closed in
    let none = sym c.search.ensures.found ∙ c.in_default-search.is in
    let left = search-none c.args.key.number c.args.word q.lists none in
    rw (c.search.ensures.slots, c.search.ensures.lists, left, ← c.self.view_is) (none_table (seen q) (search_in (seen q) c.args.key.number c.args.word)
    (search-map_found (λ id. id.number) c.args.key.number c.args.word q.lists ∙ ap (option_map (λ id. id.number)) none)
    (search-map_lists (λ id. id.number) c.args.key.number c.args.word q.lists ∙ ap (map_queues (λ id. id.number)) left))

pub returns-in_default-search-clause-none : goal.returns-in_default-search-clause-none
returns-in_default-search-clause-none g c =
    let q = c.self.inside.queues.state in
    let none = sym c.search.ensures.found ∙ c.in_default-search.is in
    rw (← c.self.view_is) (search-map_found (λ id. id.number) c.args.key.number c.args.word q.lists ∙ ap (option_map (λ id. id.number)) none)

pub take_out-taken-requires-clause-there : goal.take_out-taken-requires-clause-there
take_out-taken-requires-clause-there g c =
    let found = sym c.search.ensures.found ∙ c.in-Some-search.is in
    rw c.search.ensures.slots (first_there (sound_permuted c.self.invariant (search-permutes c.args.key.number c.args.word c.self.inside.queues.state.lists c.in-Some-search.id found)))

pub take_out-taken-requires-clause-scheduled : goal.take_out-taken-requires-clause-scheduled
take_out-taken-requires-clause-scheduled g c =
    let found = sym c.search.ensures.found ∙ c.in-Some-search.is in
    rw c.search.ensures.slots (first_scheduled (sound_permuted c.self.invariant (search-permutes c.args.key.number c.args.word c.self.inside.queues.state.lists c.in-Some-search.id found)))

pub invariant_of-self-2 : goal.invariant_of-self-2
invariant_of-self-2 g c =
    let takes : TakesOut c.self.inside.queues.slots c.take_out-taken.new.queues.slots c.in-Some-search.id c.take_out-taken.result = subst (λ l. TakesOut l c.take_out-taken.new.queues.slots c.in-Some-search.id c.take_out-taken.result) c.search.ensures.slots c.take_out-taken.ensures.slots in
    let found = sym c.search.ensures.found ∙ c.in-Some-search.is in
    let sound = sound_permuted c.self.invariant (search-permutes c.args.key.number c.args.word c.self.inside.queues.state.lists c.in-Some-search.id found) in
    rw (c.take_out-taken.ensures.state, c.search.ensures.lists) (take_sound sound takes)

pub returns-clause-table : goal.returns-clause-table
returns-clause-table g c =
    let takes : TakesOut c.self.inside.queues.slots c.take_out-taken.new.queues.slots c.in-Some-search.id c.take_out-taken.result = subst (λ l. TakesOut l c.take_out-taken.new.queues.slots c.in-Some-search.id c.take_out-taken.result) c.search.ensures.slots c.take_out-taken.ensures.slots in
    let q = c.self.inside.queues.state in
    let found = sym c.search.ensures.found ∙ c.in-Some-search.is in
    let sound = sound_permuted c.self.invariant (search-permutes c.args.key.number c.args.word q.lists c.in-Some-search.id found) in
    let table = table_of c.self.inside.next c.self.inside.queues.slots q c.self.inside.closed in
    rw (c.take_out-taken.ensures.state, c.search.ensures.lists) (found_table sound takes q (search c.args.key.number c.args.word q.lists).1 (search_in table c.args.key.number c.args.word)
    (search-map_found (λ id. id.number) c.args.key.number c.args.word q.lists ∙ ap (option_map (λ id. id.number)) found)
    (search-map_lists (λ id. id.number) c.args.key.number c.args.word q.lists)
    ∙ ap (λ s. after_search s c.args.key.number c.args.word) c.self.view_is)

pub returns-clause-some : goal.returns-clause-some
returns-clause-some g c =
    let takes : TakesOut c.self.inside.queues.slots c.take_out-taken.new.queues.slots c.in-Some-search.id c.take_out-taken.result = subst (λ l. TakesOut l c.take_out-taken.new.queues.slots c.in-Some-search.id c.take_out-taken.result) c.search.ensures.slots c.take_out-taken.ensures.slots in
    let q = c.self.inside.queues.state in
    let found = sym c.search.ensures.found ∙ c.in-Some-search.is in
    let sound = sound_permuted c.self.invariant (search-permutes c.args.key.number c.args.word q.lists c.in-Some-search.id found) in
    rw (← c.self.view_is) (record {
      taken = is_taken sound takes q;
      found = search-map_found (λ id. id.number) c.args.key.number c.args.word q.lists
          ∙ ap (option_map (λ id. id.number)) found
          ∙ ap (λ id. Some id.number) (sym takes.same_id);
    })
