use Rattle.std.proofs.Common.{refl, sym, ◌∙◌}
use Rattle.executor_core.specs.Cells.Calls.{handle_in}
use Rattle.executor_core.specs.Slots.{numbered}
use Rattle.executor_core.proofs.FindLemmas.{test_at, passes_at, facts_at}
use Rattle.executor_core.proofs.TableLemmas.{numbers_of-push}
use Rattle.executor_core.specs.Queues.State.{pushed}
use Rattle.executor_core.proofs.QueueSlotLemmas.{global_queue}
use Rattle.executor_core.proofs.QueueLemmas.{pushed-entries}
use Rattle.executor_core.proofs.CancelLemmas.{cancel_quiet, cancel_loud, cancel_table, cancel_queues_is, after_cancel-absent, cancel_queues-absent}
use Rattle.executor_core.proofs.task.table.Cells.cancel.Goals as goal

pub returns-then-not-has_handle-clause-table : goal.returns-then-not-has_handle-clause-table
returns-then-not-has_handle-clause-table g c =
    let none = sym c.has_handle.ensures ∙ c.if-not-has_handle.true in
    sym (after_cancel-absent _ c.args.id _ none)

pub returns-then-not-has_handle-clause-notice : goal.returns-then-not-has_handle-clause-notice
returns-then-not-has_handle-clause-notice g c =
    let none = sym c.has_handle.ensures ∙ c.if-not-has_handle.true in
    sym (cancel_queues-absent _ none)

pub cell_mut-requires : goal.cell_mut-requires
cell_mut-requires g c = let at = passes_at c.self.invariant c.self.inside.queues.state c.self.view_is handle_in refl c.args.id c.has_handle.ensures c.if-not-has_handle.false in (at.entry, at.there, at.number)

pub invariant_of-self : goal.invariant_of-self
invariant_of-self g c =
    let cell = c.cancel_cell.ensures.cell in
    let quiet = sym c.cancel_cell.ensures.queued ∙ c.if-not-cancel_cell.true in
    rw cell (cancel_quiet c.self.invariant c.args.id (numbered c.args.id c.cell_mut.result.now) c.cell_mut.ensures.value quiet)

pub returns-then-not-cancel_cell-clause-table : goal.returns-then-not-cancel_cell-clause-table
returns-then-not-cancel_cell-clause-table g c =
    let facts = facts_at handle_in refl _ _ _ c.cell_mut.ensures.value (test_at c.self.invariant c.self.inside.queues.state c.self.view_is handle_in c.args.id c.has_handle.ensures ∙ c.if-not-has_handle.false) in
    let cell = c.cancel_cell.ensures.cell in
    let quiet = sym c.cancel_cell.ensures.queued ∙ c.if-not-cancel_cell.true in
    rw (cell, ← c.self.view_is) (cancel_table c.self.invariant c.self.inside.queues.state c.args.id (numbered c.args.id c.cell_mut.result.now) _ c.cell_mut.ensures.value facts.0 facts.1 (rw quiet refl))

pub returns-then-not-cancel_cell-clause-notice : goal.returns-then-not-cancel_cell-clause-notice
returns-then-not-cancel_cell-clause-notice g c =
    let facts = facts_at handle_in refl _ _ _ c.cell_mut.ensures.value (test_at c.self.invariant c.self.inside.queues.state c.self.view_is handle_in c.args.id c.has_handle.ensures ∙ c.if-not-has_handle.false) in
    let quiet = sym c.cancel_cell.ensures.queued ∙ c.if-not-cancel_cell.true in
    rw (← c.self.view_is) (sym (cancel_queues_is c.self.invariant c.args.id (numbered c.args.id c.cell_mut.result.now) c.cell_mut.ensures.value facts.0 facts.1 quiet))

pub invariant_of-self-2 : goal.invariant_of-self-2
invariant_of-self-2 g c =
    let facts = facts_at handle_in refl _ _ _ c.cell_mut.ensures.value (test_at c.self.invariant c.self.inside.queues.state c.self.view_is handle_in c.args.id c.has_handle.ensures ∙ c.if-not-has_handle.false) in
    let cell = c.cancel_cell.ensures.cell in
    let loud = sym c.cancel_cell.ensures.queued ∙ c.if-not-cancel_cell.false in
    rw (c.push.ensures.slots, c.push.ensures.lists, cell) (cancel_loud c.self.invariant c.args.id (numbered c.args.id c.cell_mut.result.now) c.cell_mut.ensures.value facts.0 loud (pushed-entries c.args.id c.self.inside.queues.state.lists))

pub returns-clause-table : goal.returns-clause-table
returns-clause-table g c =
    let facts = facts_at handle_in refl _ _ _ c.cell_mut.ensures.value (test_at c.self.invariant c.self.inside.queues.state c.self.view_is handle_in c.args.id c.has_handle.ensures ∙ c.if-not-has_handle.false) in
    let cell = c.cancel_cell.ensures.cell in
    let loud = sym c.cancel_cell.ensures.queued ∙ c.if-not-cancel_cell.false in
    rw (c.push.ensures.slots, c.push.ensures.lists, cell, ← c.self.view_is) (cancel_table c.self.invariant c.self.inside.queues.state c.args.id (numbered c.args.id c.cell_mut.result.now) _ c.cell_mut.ensures.value facts.0 facts.1 (rw loud (numbers_of-push _ _)))

pub returns-clause-notice : goal.returns-clause-notice
returns-clause-notice g c =
    let facts = facts_at handle_in refl _ _ _ c.cell_mut.ensures.value (test_at c.self.invariant c.self.inside.queues.state c.self.view_is handle_in c.args.id c.has_handle.ensures ∙ c.if-not-has_handle.false) in
    let loud = sym c.cancel_cell.ensures.queued ∙ c.if-not-cancel_cell.false in
    rw (← c.self.view_is) (sym (cancel_queues_is c.self.invariant c.args.id (numbered c.args.id c.cell_mut.result.now) c.cell_mut.ensures.value facts.0 facts.1 loud))

pub push-requires-clause-queue : goal.push-requires-clause-queue
push-requires-clause-queue g c =
    let facts = facts_at handle_in refl _ _ _ c.cell_mut.ensures.value (test_at c.self.invariant c.self.inside.queues.state c.self.view_is handle_in c.args.id c.has_handle.ensures ∙ c.if-not-has_handle.false) in
    let cell = c.cancel_cell.ensures.cell in
    let loud = sym c.cancel_cell.ensures.queued ∙ c.if-not-cancel_cell.false in
    rw cell (global_queue (pushed c.args.id c.self.inside.queues.state.lists) (cancel_loud c.self.invariant c.args.id (numbered c.args.id c.cell_mut.result.now) c.cell_mut.ensures.value facts.0 loud (pushed-entries c.args.id c.self.inside.queues.state.lists)))
