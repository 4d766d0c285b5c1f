use Rattle.std.proofs.Common.{◌≡◌, Some, refl, sym, ap, ◌∙◌, arith}
use Rattle.executor_core.specs.Cells.Calls.{after_end_ready, ready_answer, end_ready_at, held_in, cell_at}
use Rattle.executor_core.specs.Slots.{numbered}
use Rattle.executor_core.proofs.SlotLemmas.{cleared_changes}
use Rattle.executor_core.proofs.QueueSlotLemmas.{global_queue}
use Rattle.executor_core.proofs.FindLemmas.{test_at, passes_at, cell_at_entry, facts_at}
use Rattle.executor_core.proofs.StateLemmas.{held_state}
use Rattle.executor_core.proofs.RemoveLemmas.{remove_table, counted_one}
use Rattle.executor_core.proofs.EndReadyLemmas.{ready_sound, leave_sound, after_end_ready-absent, ready_answer-absent, readied_some, answer_some, answer_kept, set_table, end_ready_of}
use Rattle.executor_core.proofs.task.table.Cells.end_ready.Goals as goal

pub returns-then-not-is_held-clause-table : goal.returns-then-not-is_held-clause-table
returns-then-not-is_held-clause-table g c =
    let none = sym c.is_held.ensures ∙ c.if-not-is_held.true in
    sym (after_end_ready-absent _ c.args.held.id c.args.output _ none)

pub returns-then-not-is_held-clause-answer : goal.returns-then-not-is_held-clause-answer
returns-then-not-is_held-clause-answer g c =
    let none = sym c.is_held.ensures ∙ c.if-not-is_held.true in
    sym (ready_answer-absent c.args.output _ none)

pub cell-requires : goal.cell-requires
cell-requires g c = let at = passes_at c.self.invariant c.self.inside.queues.state c.self.view_is held_in refl c.args.held.id c.is_held.ensures c.if-not-is_held.false in (at.entry, at.there, at.number)

pub overflow_sub-self : goal.overflow_sub-self
overflow_sub-self g c =
    let at = passes_at c.self.invariant c.self.inside.queues.state c.self.view_is held_in refl c.args.held.id c.is_held.ensures c.if-not-is_held.false in
    let one = counted_one c.self.invariant c.args.held.id.slot at.entry at.there (held_state at.entry.cell.state at.passes).1 in
    omega arith

pub ready_cell-awaiter-requires : goal.ready_cell-awaiter-requires
ready_cell-awaiter-requires g c = (facts_at held_in refl _ _ _ c.cell_mut.ensures.value (test_at c.self.invariant c.self.inside.queues.state c.self.view_is held_in c.args.held.id c.is_held.ensures ∙ c.if-not-is_held.false)).1

pub awaiter_of_held-requires : goal.awaiter_of_held-requires
awaiter_of_held-requires g c = (facts_at held_in refl _ _ _ c.remove-cell.ensures.value (test_at c.self.invariant c.self.inside.queues.state c.self.view_is held_in c.args.held.id c.is_held.ensures ∙ c.if-not-is_held.false)).1

pub invariant_of-self : goal.invariant_of-self
invariant_of-self g c =
    let facts = facts_at held_in refl _ _ _ c.cell_mut.ensures.value (test_at c.self.invariant c.self.inside.queues.state c.self.view_is held_in c.args.held.id c.is_held.ensures ∙ c.if-not-is_held.false) in
    let cell = c.ready_cell-awaiter.ensures.cell in
    let one : Some (numbered c.args.held.id c.cell_mut.result.now) ≡ Some (numbered c.args.held.id c.cell.result.now) = sym c.cell_mut.ensures.value ∙ c.cell.ensures in
    let same : (numbered c.args.held.id c.cell_mut.result.now) ≡ (numbered c.args.held.id c.cell.result.now) = cc in
    rw cell (ready_sound c.self.invariant c.args.held.id.slot (numbered c.args.held.id c.cell_mut.result.now) c.args.output c.cell_mut.ensures.value facts.1 (ap (λ e. e.cell.has_handle) same ∙ c.if-cell.true))

pub returns-then-cell-clause-table : goal.returns-then-cell-clause-table
returns-then-cell-clause-table g c =
    let facts = facts_at held_in refl _ _ _ c.cell_mut.ensures.value (test_at c.self.invariant c.self.inside.queues.state c.self.view_is held_in c.args.held.id c.is_held.ensures ∙ c.if-not-is_held.false) in
    let cell = c.ready_cell-awaiter.ensures.cell in
    let one : Some (numbered c.args.held.id c.cell_mut.result.now) ≡ Some (numbered c.args.held.id c.cell.result.now) = sym c.cell_mut.ensures.value ∙ c.cell.ensures in
    let same : (numbered c.args.held.id c.cell_mut.result.now) ≡ (numbered c.args.held.id c.cell.result.now) = cc in
    rw cell (set_table c.self.invariant c.self.inside.queues.state c.args.held.id (numbered c.args.held.id c.cell_mut.result.now) _ c.cell_mut.ensures.value facts.0
    ∙ sym (ap (end_ready_at _ c.args.held.id c.args.output) (cell_at_entry c.self.invariant c.args.held.id (numbered c.args.held.id c.cell_mut.result.now) c.cell_mut.ensures.value facts.0)
    ∙ readied_some _ c.args.held.id c.args.output c.cell_mut.result.now facts.1 (ap (λ e. e.cell.has_handle) same ∙ c.if-cell.true))
    ∙ ap (λ s. after_end_ready s c.args.held.id c.args.output) c.self.view_is)

pub returns-then-cell-clause-answer : goal.returns-then-cell-clause-answer
returns-then-cell-clause-answer g c =
    let facts = facts_at held_in refl _ _ _ c.cell_mut.ensures.value (test_at c.self.invariant c.self.inside.queues.state c.self.view_is held_in c.args.held.id c.is_held.ensures ∙ c.if-not-is_held.false) in
    let one : Some (numbered c.args.held.id c.cell_mut.result.now) ≡ Some (numbered c.args.held.id c.cell.result.now) = sym c.cell_mut.ensures.value ∙ c.cell.ensures in
    let same : (numbered c.args.held.id c.cell_mut.result.now) ≡ (numbered c.args.held.id c.cell.result.now) = cc in
    ap (λ p. end_ready_of p.0 p.1) c.ready_cell-awaiter.ensures.answer
    ∙ sym (ap (ready_answer c.args.output) (cell_at_entry c.self.invariant c.args.held.id (numbered c.args.held.id c.cell_mut.result.now) c.cell_mut.ensures.value facts.0)
    ∙ answer_kept c.args.output c.cell_mut.result.now facts.1 (ap (λ e. e.cell.has_handle) same ∙ c.if-cell.true))
    ∙ ap (λ s. ready_answer c.args.output (cell_at s c.args.held.id)) c.self.view_is

pub invariant_of-self-2 : goal.invariant_of-self-2
invariant_of-self-2 g c =
    let facts = facts_at held_in refl _ _ _ c.remove-cell.ensures.value (test_at c.self.invariant c.self.inside.queues.state c.self.view_is held_in c.args.held.id c.is_held.ensures ∙ c.if-not-is_held.false) in
    rw c.remove-cell.ensures.slots (leave_sound c.self.invariant c.args.held.id.slot (numbered c.args.held.id c.remove-cell.result) c.remove-cell.ensures.value facts.1 _ (cleared_changes c.self.inside.queues.slots c.args.held.id.slot))

pub returns-clause-table : goal.returns-clause-table
returns-clause-table g c =
    let facts = facts_at held_in refl _ _ _ c.remove-cell.ensures.value (test_at c.self.invariant c.self.inside.queues.state c.self.view_is held_in c.args.held.id c.is_held.ensures ∙ c.if-not-is_held.false) in
    let one : Some (numbered c.args.held.id c.remove-cell.result) ≡ Some (numbered c.args.held.id c.cell.result.now) = sym c.remove-cell.ensures.value ∙ c.cell.ensures in
    let same : (numbered c.args.held.id c.remove-cell.result) ≡ (numbered c.args.held.id c.cell.result.now) = cc in
    rw c.remove-cell.ensures.slots (remove_table c.self.invariant c.self.inside.queues.state c.args.held.id (numbered c.args.held.id c.remove-cell.result) c.remove-cell.ensures.value facts.0 _ (cleared_changes c.self.inside.queues.slots c.args.held.id.slot)
    ∙ sym (ap (end_ready_at _ c.args.held.id c.args.output) (cell_at_entry c.self.invariant c.args.held.id (numbered c.args.held.id c.remove-cell.result) c.remove-cell.ensures.value facts.0)
    ∙ readied_some _ c.args.held.id c.args.output c.remove-cell.result facts.1 (ap (λ e. e.cell.has_handle) same ∙ c.if-cell.false))
    ∙ ap (λ s. after_end_ready s c.args.held.id c.args.output) c.self.view_is)

pub returns-clause-answer : goal.returns-clause-answer
returns-clause-answer g c =
    let facts = facts_at held_in refl _ _ _ c.remove-cell.ensures.value (test_at c.self.invariant c.self.inside.queues.state c.self.view_is held_in c.args.held.id c.is_held.ensures ∙ c.if-not-is_held.false) in
    let one : Some (numbered c.args.held.id c.remove-cell.result) ≡ Some (numbered c.args.held.id c.cell.result.now) = sym c.remove-cell.ensures.value ∙ c.cell.ensures in
    let same : (numbered c.args.held.id c.remove-cell.result) ≡ (numbered c.args.held.id c.cell.result.now) = cc in
    ap (λ a. end_ready_of a (Some c.args.output)) c.awaiter_of_held.ensures
    ∙ sym (ap (ready_answer c.args.output) (cell_at_entry c.self.invariant c.args.held.id (numbered c.args.held.id c.remove-cell.result) c.remove-cell.ensures.value facts.0)
    ∙ answer_some c.args.output c.remove-cell.result facts.1 (ap (λ e. e.cell.has_handle) same ∙ c.if-cell.false))
    ∙ ap (λ s. ready_answer c.args.output (cell_at s c.args.held.id)) c.self.view_is

pub remove-cell-requires-clause-there : goal.remove-cell-requires-clause-there
remove-cell-requires-clause-there g c =
    let at = passes_at c.self.invariant c.self.inside.queues.state c.self.view_is held_in refl c.args.held.id c.is_held.ensures c.if-not-is_held.false in
    (at.entry, at.there, at.number)

pub remove-cell-requires-clause-unqueued : goal.remove-cell-requires-clause-unqueued
remove-cell-requires-clause-unqueued g c =
    let at = passes_at c.self.invariant c.self.inside.queues.state c.self.view_is held_in refl c.args.held.id c.is_held.ensures c.if-not-is_held.false in
    global_queue c.self.inside.queues.state.lists (leave_sound c.self.invariant c.args.held.id.slot at.entry at.there at.passes _ (cleared_changes c.self.inside.queues.slots c.args.held.id.slot))
