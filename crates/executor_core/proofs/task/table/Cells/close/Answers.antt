use Rattle.std.proofs.Common.{◌||◌, true, map, length, ap, ◌∙◌, subst, arith}
use Rattle.std.specs.Prelude.{nat_lt}
use Rattle.executor_core.specs.Queues.{all_entries, local_entries, gathered}
use Rattle.executor_core.specs.Cells.Calls.{SlotsDiffer, close_queues}
use Rattle.executor_core.specs.Cells.View.{change_by, changed_slot, IsSound, idle_ids}
use Rattle.executor_core.specs.Queues.State.{pushed_all}
use Rattle.executor_core.proofs.OrderLemmas.{sound_permuted}
use Rattle.executor_core.proofs.GatherLemmas.{gathered-permutes}
use Rattle.executor_core.proofs.QueueSlotLemmas.{global_queue, global_short}
use Rattle.executor_core.proofs.AllTasksLemmas.{changed_sound, slots_differ, pushed_all-entries, before_queue, close_table, close_notice}
use Rattle.executor_core.proofs.task.table.Cells.close.Goals as goal

pub change_all-idle-requires-clause-queue : goal.change_all-idle-requires-clause-queue
change_all-idle-requires-clause-queue g c =
    let slots = c.self.inside.queues.slots in
    let lists = c.self.inside.queues.state.lists in
    let sound : IsSound c.self.inside.next (map (changed_slot (change_by true)) c.self.inside.queues.slots) (all_entries (pushed_all (idle_ids 0 c.self.inside.queues.slots) c.self.inside.queues.state.lists)) c.self.inside.undropped = rw (pushed_all-entries (idle_ids 0 c.self.inside.queues.slots) c.self.inside.queues.state.lists) (changed_sound c.self.invariant true) in
    before_queue (change_by true) slots _ (global_queue (pushed_all (idle_ids 0 slots) lists) sound)

pub change_all-idle-requires-clause-counted : goal.change_all-idle-requires-clause-counted
change_all-idle-requires-clause-counted g c =
    let slots = c.self.inside.queues.slots in
    let lists = c.self.inside.queues.state.lists in
    let sound : IsSound c.self.inside.next (map (changed_slot (change_by true)) c.self.inside.queues.slots) (all_entries (pushed_all (idle_ids 0 c.self.inside.queues.slots) c.self.inside.queues.state.lists)) c.self.inside.undropped = rw (pushed_all-entries (idle_ids 0 c.self.inside.queues.slots) c.self.inside.queues.state.lists) (changed_sound c.self.invariant true) in
    let short = global_short (pushed_all (idle_ids 0 slots) lists) sound in
    omega arith

pub gather-moved-requires-clause-queue : goal.gather-moved-requires-clause-queue
gather-moved-requires-clause-queue g c =
    let ids = idle_ids 0 c.self.inside.queues.slots in
    let lists = c.self.inside.queues.state.lists in
    let sound : IsSound c.self.inside.next (map (changed_slot (change_by true)) c.self.inside.queues.slots) (all_entries (pushed_all (idle_ids 0 c.self.inside.queues.slots) c.self.inside.queues.state.lists)) c.self.inside.undropped = rw (pushed_all-entries (idle_ids 0 c.self.inside.queues.slots) c.self.inside.queues.state.lists) (changed_sound c.self.invariant true) in
    rw (c.change_all-idle.ensures.slots, c.change_all-idle.ensures.state) (global_queue (gathered (pushed_all ids lists)) (sound_permuted sound (gathered-permutes (pushed_all ids lists))))

pub gather-moved-requires-clause-counted : goal.gather-moved-requires-clause-counted
gather-moved-requires-clause-counted g c =
    let ids = idle_ids 0 c.self.inside.queues.slots in
    let lists = c.self.inside.queues.state.lists in
    let sound : IsSound c.self.inside.next (map (changed_slot (change_by true)) c.self.inside.queues.slots) (all_entries (pushed_all (idle_ids 0 c.self.inside.queues.slots) c.self.inside.queues.state.lists)) c.self.inside.undropped = rw (pushed_all-entries (idle_ids 0 c.self.inside.queues.slots) c.self.inside.queues.state.lists) (changed_sound c.self.invariant true) in
    let short = global_short (gathered (pushed_all ids lists)) (sound_permuted sound (gathered-permutes (pushed_all ids lists))) in
    rw c.change_all-idle.ensures.state (omega arith)

pub invariant_of-self : goal.invariant_of-self
invariant_of-self g c =
    let ids = idle_ids 0 c.self.inside.queues.slots in
    let lists = c.self.inside.queues.state.lists in
    rw (c.gather-moved.ensures.slots, c.change_all-idle.ensures.slots, c.gather-moved.ensures.lists, c.change_all-idle.ensures.state)
    (sound_permuted (rw (pushed_all-entries ids lists) (changed_sound c.self.invariant true)) (gathered-permutes (pushed_all ids lists)))

pub returns-clause-table : goal.returns-clause-table
returns-clause-table g c =
    rw (c.gather-moved.ensures.slots, c.change_all-idle.ensures.slots, c.gather-moved.ensures.lists, c.change_all-idle.ensures.state, ← c.self.view_is)
    (close_table c.self.invariant c.self.inside.queues.state c.self.inside.closed)

pub returns-clause-notice : goal.returns-clause-notice
returns-clause-notice g c =
    let moved = c.gather-moved.ensures.moved ∙ ap (λ q. nat_lt 0 (length (local_entries q.lists.locals))) c.change_all-idle.ensures.state in
    c.of.ensures ∙ (λ i. c.change_all-idle.ensures.idle i || moved i)
    ∙ close_notice c.self.invariant c.self.inside.queues.state c.self.inside.closed ∙ ap close_queues c.self.view_is

pub returns-clause-slots : goal.returns-clause-slots
returns-clause-slots g c = subst SlotsDiffer c.self.view_is (slots_differ c.self.invariant c.self.inside.queues.state c.self.inside.closed)
