use Rattle.std.proofs.Common.{false, sym, ap, ◌∙◌, ◌++◌, map, length, subst, arith}
use Rattle.std.proofs.lemmas.List.{map-append, length-map}
use Rattle.std.specs.Prelude.{nat_lt}
use Rattle.executor_core.specs.Cell.Changes.{woken}
use Rattle.executor_core.specs.Queues.{all_entries}
use Rattle.executor_core.specs.Queues.State.{pushed_all}
use Rattle.executor_core.specs.Cells.Calls.{SlotsDiffer, wake_all_queues}
use Rattle.executor_core.specs.Cells.View.{change_by, changed_slot, IsSound, numbers_of, table_of, idle_ids}
use Rattle.executor_core.proofs.TableLemmas.{same_table}
use Rattle.executor_core.proofs.RisingLemmas.{idle_rising}
use Rattle.executor_core.proofs.QueueSlotLemmas.{global_queue, global_short}
use Rattle.executor_core.proofs.AllTasksLemmas.{cells_changed, changed_sound, slots_differ, pushed_all-entries, before_queue}
use Rattle.executor_core.proofs.task.table.Cells.wake_all.Goals as goal

pub change_all-idle-requires-clause-queue : goal.change_all-idle-requires-clause-queue
change_all-idle-requires-clause-queue g c =
    let slots = c.self.inside.queues.slots in
    let lists = c.self.inside.queues.state.lists in
    let sound : IsSound c.self.inside.next (map (changed_slot (change_by false)) c.self.inside.queues.slots) (all_entries (pushed_all (idle_ids 0 c.self.inside.queues.slots) c.self.inside.queues.state.lists)) c.self.inside.undropped = rw (pushed_all-entries (idle_ids 0 c.self.inside.queues.slots) c.self.inside.queues.state.lists) (changed_sound c.self.invariant false) in
    before_queue (change_by false) slots _ (global_queue (pushed_all (idle_ids 0 slots) lists) sound)

pub change_all-idle-requires-clause-counted : goal.change_all-idle-requires-clause-counted
change_all-idle-requires-clause-counted g c =
    let slots = c.self.inside.queues.slots in
    let lists = c.self.inside.queues.state.lists in
    let sound : IsSound c.self.inside.next (map (changed_slot (change_by false)) c.self.inside.queues.slots) (all_entries (pushed_all (idle_ids 0 c.self.inside.queues.slots) c.self.inside.queues.state.lists)) c.self.inside.undropped = rw (pushed_all-entries (idle_ids 0 c.self.inside.queues.slots) c.self.inside.queues.state.lists) (changed_sound c.self.invariant false) in
    let short = global_short (pushed_all (idle_ids 0 slots) lists) sound in
    omega arith

pub invariant_of-self : goal.invariant_of-self
invariant_of-self g c =
    rw (c.change_all-idle.ensures.slots, c.change_all-idle.ensures.state, pushed_all-entries (idle_ids 0 c.self.inside.queues.slots) c.self.inside.queues.state.lists) (changed_sound c.self.invariant false)

pub returns-clause-table : goal.returns-clause-table
returns-clause-table g c =
    let slots = c.self.inside.queues.slots in
    let table = table_of c.self.inside.next slots c.self.inside.queues.state c.self.inside.closed in
    rw (c.change_all-idle.ensures.slots, c.change_all-idle.ensures.state, ← c.self.view_is)
    (same_table table _ _ _ _ (cells_changed woken slots)
    (map-append (λ id. id.number) c.self.inside.queues.state.lists.global (idle_ids 0 slots) ∙ ap (λ l. numbers_of c.self.inside.queues.state.lists.global ++ l) (idle_rising slots c.self.invariant.distinct)))

pub returns-clause-notice : goal.returns-clause-notice
returns-clause-notice g c =
    let slots = c.self.inside.queues.slots in
    c.of.ensures ∙ c.change_all-idle.ensures.idle
    ∙ ap (λ n. nat_lt 0 n) (sym (length-map (idle_ids 0 slots) (λ id. id.number)) ∙ ap length (idle_rising slots c.self.invariant.distinct))
    ∙ ap wake_all_queues c.self.view_is

pub returns-clause-slots : goal.returns-clause-slots
returns-clause-slots g c = subst SlotsDiffer c.self.view_is (slots_differ c.self.invariant c.self.inside.queues.state c.self.inside.closed)
