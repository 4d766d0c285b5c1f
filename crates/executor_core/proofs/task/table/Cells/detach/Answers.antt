use Rattle.std.proofs.Common.{◌≡◌, Some, None, refl, sym, ap, ◌∙◌}
use Rattle.executor_core.specs.Cells.Calls.{after_detach, detach_answer, detach_at, handle_in, cell_at}
use Rattle.executor_core.specs.Cell.{is_undropped}
use Rattle.executor_core.specs.Cell.Changes.{output_of}
use Rattle.executor_core.specs.Slots.{numbered}
use Rattle.executor_core.proofs.SlotLemmas.{cleared_changes}
use Rattle.executor_core.proofs.QueueSlotLemmas.{global_queue}
use Rattle.executor_core.proofs.FindLemmas.{test_at, passes_at, cell_at_entry, facts_at}
use Rattle.executor_core.proofs.RemoveLemmas.{remove_table}
use Rattle.executor_core.proofs.EndReadyLemmas.{end_handle_sound, set_table}
use Rattle.executor_core.proofs.StateLemmas.{output_of_undropped}
use Rattle.executor_core.proofs.DetachLemmas.{detach_sound, detached_some, detach_some, after_detach-absent, detach_answer-absent, pair_of}
use Rattle.executor_core.proofs.task.table.Cells.detach.Goals as goal

pub returns-then-not-has_handle-clause-table : goal.returns-then-not-has_handle-clause-table
returns-then-not-has_handle-clause-table g c =
    let none = sym c.has_handle.ensures ∙ c.if-not-has_handle.true in
    sym (after_detach-absent _ c.args.id _ none)

pub returns-then-not-has_handle-clause-answer : goal.returns-then-not-has_handle-clause-answer
returns-then-not-has_handle-clause-answer g c =
    let none = sym c.has_handle.ensures ∙ c.if-not-has_handle.true in
    sym (detach_answer-absent _ none)

pub cell-requires : goal.cell-requires
cell-requires g c = let at = passes_at c.self.invariant c.self.inside.queues.state c.self.view_is handle_in refl c.args.id c.has_handle.ensures c.if-not-has_handle.false in (at.entry, at.there, at.number)

pub invariant_of-self : goal.invariant_of-self
invariant_of-self g c =
    let cell = c.detach_cell-awaiter.ensures.cell in
    let one : Some (numbered c.args.id c.cell_mut.result.now) ≡ Some (numbered c.args.id c.cell.result.now) = sym c.cell_mut.ensures.value ∙ c.cell.ensures in
    let same : (numbered c.args.id c.cell_mut.result.now) ≡ (numbered c.args.id c.cell.result.now) = cc in
    rw cell (detach_sound c.self.invariant c.args.id (numbered c.args.id c.cell_mut.result.now) c.cell_mut.ensures.value (ap (λ e. is_undropped e.cell.state) same ∙ sym c.has_future.ensures ∙ c.if-has_future.true))

pub returns-then-has_future-clause-table : goal.returns-then-has_future-clause-table
returns-then-has_future-clause-table g c =
    let facts = facts_at handle_in refl _ _ _ c.cell_mut.ensures.value (test_at c.self.invariant c.self.inside.queues.state c.self.view_is handle_in c.args.id c.has_handle.ensures ∙ c.if-not-has_handle.false) in
    let cell = c.detach_cell-awaiter.ensures.cell in
    let one : Some (numbered c.args.id c.cell_mut.result.now) ≡ Some (numbered c.args.id c.cell.result.now) = sym c.cell_mut.ensures.value ∙ c.cell.ensures in
    let same : (numbered c.args.id c.cell_mut.result.now) ≡ (numbered c.args.id c.cell.result.now) = cc in
    rw cell (set_table c.self.invariant c.self.inside.queues.state c.args.id (numbered c.args.id c.cell_mut.result.now) _ c.cell_mut.ensures.value facts.0
    ∙ sym (ap (detach_at _ c.args.id) (cell_at_entry c.self.invariant c.args.id (numbered c.args.id c.cell_mut.result.now) c.cell_mut.ensures.value facts.0)
    ∙ detached_some _ c.args.id c.cell_mut.result.now facts.1 (ap (λ e. is_undropped e.cell.state) same ∙ sym c.has_future.ensures ∙ c.if-has_future.true))
    ∙ ap (λ s. after_detach s c.args.id) c.self.view_is)

pub returns-then-has_future-clause-answer : goal.returns-then-has_future-clause-answer
returns-then-has_future-clause-answer g c =
    let facts = facts_at handle_in refl _ _ _ c.cell_mut.ensures.value (test_at c.self.invariant c.self.inside.queues.state c.self.view_is handle_in c.args.id c.has_handle.ensures ∙ c.if-not-has_handle.false) in
    let one : Some (numbered c.args.id c.cell_mut.result.now) ≡ Some (numbered c.args.id c.cell.result.now) = sym c.cell_mut.ensures.value ∙ c.cell.ensures in
    let same : (numbered c.args.id c.cell_mut.result.now) ≡ (numbered c.args.id c.cell.result.now) = cc in
    let undropped = ap (λ e. is_undropped e.cell.state) same ∙ sym c.has_future.ensures ∙ c.if-has_future.true in
    ap (pair_of None) c.detach_cell-awaiter.ensures.awaiter
    ∙ sym (ap detach_answer (cell_at_entry c.self.invariant c.args.id (numbered c.args.id c.cell_mut.result.now) c.cell_mut.ensures.value facts.0)
    ∙ detach_some c.cell_mut.result.now facts.1
    ∙ ap (λ o. pair_of o c.cell_mut.result.now.awaiter) (output_of_undropped c.cell_mut.result.now.state undropped))
    ∙ ap (λ s. detach_answer (cell_at s c.args.id)) c.self.view_is

pub invariant_of-self-2 : goal.invariant_of-self-2
invariant_of-self-2 g c =
    let one : Some (numbered c.args.id c.remove-cell.result) ≡ Some (numbered c.args.id c.cell.result.now) = sym c.remove-cell.ensures.value ∙ c.cell.ensures in
    let same : (numbered c.args.id c.remove-cell.result) ≡ (numbered c.args.id c.cell.result.now) = cc in
    rw c.remove-cell.ensures.slots (end_handle_sound c.self.invariant c.args.id.slot (numbered c.args.id c.remove-cell.result) c.remove-cell.ensures.value (ap (λ e. is_undropped e.cell.state) same ∙ sym c.has_future.ensures ∙ c.if-has_future.false) _ (cleared_changes c.self.inside.queues.slots c.args.id.slot))

pub returns-clause-table : goal.returns-clause-table
returns-clause-table g c =
    let facts = facts_at handle_in refl _ _ _ c.remove-cell.ensures.value (test_at c.self.invariant c.self.inside.queues.state c.self.view_is handle_in c.args.id c.has_handle.ensures ∙ c.if-not-has_handle.false) in
    let one : Some (numbered c.args.id c.remove-cell.result) ≡ Some (numbered c.args.id c.cell.result.now) = sym c.remove-cell.ensures.value ∙ c.cell.ensures in
    let same : (numbered c.args.id c.remove-cell.result) ≡ (numbered c.args.id c.cell.result.now) = cc in
    rw c.remove-cell.ensures.slots (remove_table c.self.invariant c.self.inside.queues.state c.args.id (numbered c.args.id c.remove-cell.result) c.remove-cell.ensures.value facts.0 _ (cleared_changes c.self.inside.queues.slots c.args.id.slot)
    ∙ sym (ap (detach_at _ c.args.id) (cell_at_entry c.self.invariant c.args.id (numbered c.args.id c.remove-cell.result) c.remove-cell.ensures.value facts.0)
    ∙ detached_some _ c.args.id c.remove-cell.result facts.1 (ap (λ e. is_undropped e.cell.state) same ∙ sym c.has_future.ensures ∙ c.if-has_future.false))
    ∙ ap (λ s. after_detach s c.args.id) c.self.view_is)

pub returns-clause-answer : goal.returns-clause-answer
returns-clause-answer g c =
    let facts = facts_at handle_in refl _ _ _ c.remove-cell.ensures.value (test_at c.self.invariant c.self.inside.queues.state c.self.view_is handle_in c.args.id c.has_handle.ensures ∙ c.if-not-has_handle.false) in
    let one : Some (numbered c.args.id c.remove-cell.result) ≡ Some (numbered c.args.id c.cell.result.now) = sym c.remove-cell.ensures.value ∙ c.cell.ensures in
    let same : (numbered c.args.id c.remove-cell.result) ≡ (numbered c.args.id c.cell.result.now) = cc in
    let dropped = ap (λ e. is_undropped e.cell.state) same ∙ sym c.has_future.ensures ∙ c.if-has_future.false in
    let settled = c.self.invariant.settled c.args.id.slot (numbered c.args.id c.remove-cell.result) c.remove-cell.ensures.value dropped in
    ap (λ o. pair_of o None) c.output_of_ended.ensures
    ∙ sym (ap detach_answer (cell_at_entry c.self.invariant c.args.id (numbered c.args.id c.remove-cell.result) c.remove-cell.ensures.value facts.0)
    ∙ detach_some c.remove-cell.result facts.1
    ∙ ap (λ a. pair_of (output_of c.remove-cell.result.state) a) settled.0)
    ∙ ap (λ s. detach_answer (cell_at s c.args.id)) c.self.view_is

pub remove-cell-requires-clause-there : goal.remove-cell-requires-clause-there
remove-cell-requires-clause-there g c =
    let at = passes_at c.self.invariant c.self.inside.queues.state c.self.view_is handle_in refl c.args.id c.has_handle.ensures c.if-not-has_handle.false in
    (at.entry, at.there, at.number)

pub remove-cell-requires-clause-unqueued : goal.remove-cell-requires-clause-unqueued
remove-cell-requires-clause-unqueued g c =
    global_queue c.self.inside.queues.state.lists
    (end_handle_sound c.self.invariant c.args.id.slot (numbered c.args.id c.cell.result.now) c.cell.ensures (sym c.has_future.ensures ∙ c.if-has_future.false) _ (cleared_changes c.self.inside.queues.slots c.args.id.slot))

pub output_of_ended-requires-clause-alone : goal.output_of_ended-requires-clause-alone
output_of_ended-requires-clause-alone g c =
    let one : Some (numbered c.args.id c.remove-cell.result) ≡ Some (numbered c.args.id c.cell.result.now) = sym c.remove-cell.ensures.value ∙ c.cell.ensures in
    let same : numbered c.args.id c.remove-cell.result ≡ numbered c.args.id c.cell.result.now = cc in
    (c.self.invariant.settled c.args.id.slot (numbered c.args.id c.remove-cell.result) c.remove-cell.ensures.value (ap (λ e. is_undropped e.cell.state) same ∙ sym c.has_future.ensures ∙ c.if-has_future.false)).0
