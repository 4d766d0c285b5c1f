use Rattle.std.proofs.Common.{◌≡◌, Some, refl, sym, ap, ◌∙◌}
use Rattle.executor_core.specs.Cells.Calls.{after_poll_handle, poll_answer, poll_handle_at, handle_in, cell_at, ended_answer}
use Rattle.executor_core.specs.Cell.{is_undropped}
use Rattle.executor_core.specs.Slots.{numbered}
use Rattle.executor_core.proofs.SlotLemmas.{cleared_changes}
use Rattle.executor_core.proofs.QueueSlotLemmas.{global_queue}
use Rattle.executor_core.proofs.FindLemmas.{test_at, passes_at, cell_at_entry, facts_at}
use Rattle.executor_core.proofs.RemoveLemmas.{remove_table}
use Rattle.executor_core.proofs.EndReadyLemmas.{await_sound, end_handle_sound, after_poll_handle-absent, poll_answer-absent, polled_some, poll_some, set_table}
use Rattle.executor_core.specs.declared.task.handles.PollHandle.TheVariants.{Pending}
use Rattle.executor_core.proofs.task.table.Cells.poll_handle.Goals as goal
use Rattle.executor_core.proofs.task.table.Cells.poll_handle.Goals.{in-Some, in-None}

pub returns-then-not-has_handle-clause-table : goal.returns-then-not-has_handle-clause-table
returns-then-not-has_handle-clause-table g c =
    let none = sym c.has_handle.ensures ∙ c.if-not-has_handle.true in
    sym (after_poll_handle-absent _ c.args.id c.args.waker _ none)

pub returns-then-not-has_handle-clause-answer : goal.returns-then-not-has_handle-clause-answer
returns-then-not-has_handle-clause-answer g c =
    let none = sym c.has_handle.ensures ∙ c.if-not-has_handle.true in
    sym (poll_answer-absent c.args.waker _ none)

pub cell-requires : goal.cell-requires
cell-requires g c = let at = passes_at c.self.invariant c.self.inside.queues.state c.self.view_is handle_in refl c.args.id c.has_handle.ensures c.if-not-has_handle.false in (at.entry, at.there, at.number)

pub invariant_of-self : goal.invariant_of-self
invariant_of-self g c =
    let cell = c.await_cell-before.ensures.cell in
    let one : Some (numbered c.args.id c.cell_mut.result.now) ≡ Some (numbered c.args.id c.cell.result.now) = sym c.cell_mut.ensures.value ∙ c.cell.ensures in
    let same : (numbered c.args.id c.cell_mut.result.now) ≡ (numbered c.args.id c.cell.result.now) = cc in
    rw cell (await_sound c.self.invariant c.args.id (numbered c.args.id c.cell_mut.result.now) c.args.waker c.cell_mut.ensures.value (ap (λ e. is_undropped e.cell.state) same ∙ sym c.has_future.ensures ∙ c.if-has_future.true))

pub returns-then-has_future-clause-table : goal.returns-then-has_future-clause-table
returns-then-has_future-clause-table g c =
    let facts = facts_at handle_in refl _ _ _ c.cell_mut.ensures.value (test_at c.self.invariant c.self.inside.queues.state c.self.view_is handle_in c.args.id c.has_handle.ensures ∙ c.if-not-has_handle.false) in
    let cell = c.await_cell-before.ensures.cell in
    let one : Some (numbered c.args.id c.cell_mut.result.now) ≡ Some (numbered c.args.id c.cell.result.now) = sym c.cell_mut.ensures.value ∙ c.cell.ensures in
    let same : (numbered c.args.id c.cell_mut.result.now) ≡ (numbered c.args.id c.cell.result.now) = cc in
    rw cell (set_table c.self.invariant c.self.inside.queues.state c.args.id (numbered c.args.id c.cell_mut.result.now) _ c.cell_mut.ensures.value facts.0
    ∙ sym (ap (poll_handle_at _ c.args.id c.args.waker) (cell_at_entry c.self.invariant c.args.id (numbered c.args.id c.cell_mut.result.now) c.cell_mut.ensures.value facts.0)
    ∙ polled_some _ c.args.id c.args.waker c.cell_mut.result.now facts.1 (ap (λ e. is_undropped e.cell.state) same ∙ sym c.has_future.ensures ∙ c.if-has_future.true))
    ∙ ap (λ s. after_poll_handle s c.args.id c.args.waker) c.self.view_is)

pub returns-then-has_future-clause-answer : goal.returns-then-has_future-clause-answer
returns-then-has_future-clause-answer g c =
    let facts = facts_at handle_in refl _ _ _ c.cell_mut.ensures.value (test_at c.self.invariant c.self.inside.queues.state c.self.view_is handle_in c.args.id c.has_handle.ensures ∙ c.if-not-has_handle.false) in
    let one : Some (numbered c.args.id c.cell_mut.result.now) ≡ Some (numbered c.args.id c.cell.result.now) = sym c.cell_mut.ensures.value ∙ c.cell.ensures in
    let same : (numbered c.args.id c.cell_mut.result.now) ≡ (numbered c.args.id c.cell.result.now) = cc in
    ap Pending c.await_cell-before.ensures.before
    ∙ sym (ap (poll_answer c.args.waker) (cell_at_entry c.self.invariant c.args.id (numbered c.args.id c.cell_mut.result.now) c.cell_mut.ensures.value facts.0)
    ∙ poll_some c.args.waker c.cell_mut.result.now facts.1 (ap (λ e. is_undropped e.cell.state) same ∙ sym c.has_future.ensures ∙ c.if-has_future.true))
    ∙ ap (λ s. poll_answer c.args.waker (cell_at s c.args.id)) c.self.view_is

pub invariant_of-self-2 : goal.invariant_of-self-2
invariant_of-self-2 g c =
    let one : Some (numbered c.args.id c.remove-cell.result) ≡ Some (numbered c.args.id c.cell.result.now) = sym c.remove-cell.ensures.value ∙ c.cell.ensures in
    let same : (numbered c.args.id c.remove-cell.result) ≡ (numbered c.args.id c.cell.result.now) = cc in
    rw c.remove-cell.ensures.slots (end_handle_sound c.self.invariant c.args.id.slot (numbered c.args.id c.remove-cell.result) c.remove-cell.ensures.value (ap (λ e. is_undropped e.cell.state) same ∙ sym c.has_future.ensures ∙ c.if-has_future.false) _ (cleared_changes c.self.inside.queues.slots c.args.id.slot))

pub returns-clause-table : goal.returns-clause-table
returns-clause-table g c =
    let facts = facts_at handle_in refl _ _ _ c.remove-cell.ensures.value (test_at c.self.invariant c.self.inside.queues.state c.self.view_is handle_in c.args.id c.has_handle.ensures ∙ c.if-not-has_handle.false) in
    let one : Some (numbered c.args.id c.remove-cell.result) ≡ Some (numbered c.args.id c.cell.result.now) = sym c.remove-cell.ensures.value ∙ c.cell.ensures in
    let same : (numbered c.args.id c.remove-cell.result) ≡ (numbered c.args.id c.cell.result.now) = cc in
    rw c.remove-cell.ensures.slots (remove_table c.self.invariant c.self.inside.queues.state c.args.id (numbered c.args.id c.remove-cell.result) c.remove-cell.ensures.value facts.0 _ (cleared_changes c.self.inside.queues.slots c.args.id.slot)
    ∙ sym (ap (poll_handle_at _ c.args.id c.args.waker) (cell_at_entry c.self.invariant c.args.id (numbered c.args.id c.remove-cell.result) c.remove-cell.ensures.value facts.0)
    ∙ polled_some _ c.args.id c.args.waker c.remove-cell.result facts.1 (ap (λ e. is_undropped e.cell.state) same ∙ sym c.has_future.ensures ∙ c.if-has_future.false))
    ∙ ap (λ s. after_poll_handle s c.args.id c.args.waker) c.self.view_is)

pub returns-clause-answer : goal.returns-clause-answer
returns-clause-answer g c =
    let facts = facts_at handle_in refl _ _ _ c.remove-cell.ensures.value (test_at c.self.invariant c.self.inside.queues.state c.self.view_is handle_in c.args.id c.has_handle.ensures ∙ c.if-not-has_handle.false) in
    let one : Some (numbered c.args.id c.remove-cell.result) ≡ Some (numbered c.args.id c.cell.result.now) = sym c.remove-cell.ensures.value ∙ c.cell.ensures in
    let same : (numbered c.args.id c.remove-cell.result) ≡ (numbered c.args.id c.cell.result.now) = cc in
    let answer = ap (poll_answer c.args.waker) (cell_at_entry c.self.invariant c.args.id (numbered c.args.id c.remove-cell.result) c.remove-cell.ensures.value facts.0)
    ∙ poll_some c.args.waker c.remove-cell.result facts.1 (ap (λ e. is_undropped e.cell.state) same ∙ sym c.has_future.ensures ∙ c.if-has_future.false) in
    elim c.match-output_of_ended.branch [
      | in-Some w ↦ w.result-is ∙ ap (ended_answer c.args.waker) (sym w.in-Some.is ∙ c.output_of_ended.ensures) ∙ sym answer ∙ ap (λ s. poll_answer c.args.waker (cell_at s c.args.id)) c.self.view_is
      | in-None w ↦ w.result-is ∙ ap (ended_answer c.args.waker) (sym w.in-None.is ∙ c.output_of_ended.ensures) ∙ sym answer ∙ ap (λ s. poll_answer c.args.waker (cell_at s c.args.id)) c.self.view_is
    ]

pub remove-cell-requires-clause-there : goal.remove-cell-requires-clause-there
remove-cell-requires-clause-there g c =
    let at = passes_at c.self.invariant c.self.inside.queues.state c.self.view_is handle_in refl c.args.id c.has_handle.ensures c.if-not-has_handle.false in
    (at.entry, at.there, at.number)

pub remove-cell-requires-clause-unqueued : goal.remove-cell-requires-clause-unqueued
remove-cell-requires-clause-unqueued g c =
    global_queue c.self.inside.queues.state.lists
    (end_handle_sound c.self.invariant c.args.id.slot (numbered c.args.id c.cell.result.now) c.cell.ensures (sym c.has_future.ensures ∙ c.if-has_future.false) _ (cleared_changes c.self.inside.queues.slots c.args.id.slot))

pub output_of_ended-requires-clause-alone : goal.output_of_ended-requires-clause-alone
output_of_ended-requires-clause-alone g c =
    let one : Some (numbered c.args.id c.remove-cell.result) ≡ Some (numbered c.args.id c.cell.result.now) = sym c.remove-cell.ensures.value ∙ c.cell.ensures in
    let same : numbered c.args.id c.remove-cell.result ≡ numbered c.args.id c.cell.result.now = cc in
    (c.self.invariant.settled c.args.id.slot (numbered c.args.id c.remove-cell.result) c.remove-cell.ensures.value (ap (λ e. is_undropped e.cell.state) same ∙ sym c.has_future.ensures ∙ c.if-has_future.false)).0
