use Rattle.std.proofs.Common.{refl, sym, ◌∙◌, arith}
use Rattle.executor_core.specs.Slots.{numbered}
use Rattle.executor_core.proofs.TableLemmas.{numbers_of-push}
use Rattle.executor_core.specs.Queues.State.{pushed}
use Rattle.executor_core.proofs.QueueSlotLemmas.{global_queue, global_short}
use Rattle.executor_core.proofs.ListLemmas.{length-push}
use Rattle.executor_core.proofs.QueueLemmas.{pushed-entries}
use Rattle.std.proofs.lemmas.Bool.{and_parts}
use Rattle.executor_core.specs.Cells.Calls.{takes_back_in}
use Rattle.executor_core.proofs.FindLemmas.{test_at, passes_at, facts_at}
use Rattle.executor_core.proofs.EndPendingLemmas.{end_pending_idle, end_pending_queued, end_pending_table, after_end_pending-absent, woken_in_is}
use Rattle.executor_core.proofs.task.table.Cells.end_pending.Goals as goal

pub returns-then-not-takes_back-clause-table : goal.returns-then-not-takes_back-clause-table
returns-then-not-takes_back-clause-table g c =
    let out = sym c.takes_back.ensures ∙ c.if-not-takes_back.true in
    sym (after_end_pending-absent _ c.args.held.id c.args.future _ out)

pub returns-then-not-takes_back-clause-answer : goal.returns-then-not-takes_back-clause-answer
returns-then-not-takes_back-clause-answer g c =
    let out = sym c.takes_back.ensures ∙ c.if-not-takes_back.true in
    (out, refl, refl)

pub cell_mut-requires : goal.cell_mut-requires
cell_mut-requires g c = let at = passes_at c.self.invariant c.self.inside.queues.state c.self.view_is takes_back_in refl c.args.held.id c.takes_back.ensures c.if-not-takes_back.false in (at.entry, at.there, at.number)

pub pend_cell-requires : goal.pend_cell-requires
pend_cell-requires g c = (and_parts _ _ (facts_at takes_back_in refl _ _ _ c.cell_mut.ensures.value (test_at c.self.invariant c.self.inside.queues.state c.self.view_is takes_back_in c.args.held.id c.takes_back.ensures ∙ c.if-not-takes_back.false)).1).0

pub invariant_of-self : goal.invariant_of-self
invariant_of-self g c =
    let facts = facts_at takes_back_in refl _ _ _ c.cell_mut.ensures.value (test_at c.self.invariant c.self.inside.queues.state c.self.view_is takes_back_in c.args.held.id c.takes_back.ensures ∙ c.if-not-takes_back.false) in
    let cell = c.pend_cell.ensures.cell in
    let quiet = sym c.pend_cell.ensures.queued ∙ c.if-not-pend_cell.true in
    rw cell (end_pending_idle c.self.invariant c.args.held.id (numbered c.args.held.id c.cell_mut.result.now) c.args.future c.cell_mut.ensures.value (and_parts _ _ facts.1).0 quiet)

pub returns-then-not-pend_cell-clause-table : goal.returns-then-not-pend_cell-clause-table
returns-then-not-pend_cell-clause-table g c =
    let facts = facts_at takes_back_in refl _ _ _ c.cell_mut.ensures.value (test_at c.self.invariant c.self.inside.queues.state c.self.view_is takes_back_in c.args.held.id c.takes_back.ensures ∙ c.if-not-takes_back.false) in
    let cell = c.pend_cell.ensures.cell in
    let quiet = sym c.pend_cell.ensures.queued ∙ c.if-not-pend_cell.true in
    rw (cell, ← c.self.view_is) (end_pending_table c.self.invariant c.self.inside.queues.state c.args.held.id (numbered c.args.held.id c.cell_mut.result.now) c.args.future _ c.cell_mut.ensures.value facts.0 facts.1 (rw quiet refl))

pub invariant_of-self-2 : goal.invariant_of-self-2
invariant_of-self-2 g c =
    let facts = facts_at takes_back_in refl _ _ _ c.cell_mut.ensures.value (test_at c.self.invariant c.self.inside.queues.state c.self.view_is takes_back_in c.args.held.id c.takes_back.ensures ∙ c.if-not-takes_back.false) in
    let cell = c.pend_cell.ensures.cell in
    let loud = sym c.pend_cell.ensures.queued ∙ c.if-not-pend_cell.false in
    rw (c.push.ensures.slots, c.push.ensures.lists, cell) (end_pending_queued c.self.invariant c.args.held.id (numbered c.args.held.id c.cell_mut.result.now) c.args.future c.cell_mut.ensures.value facts.0 (and_parts _ _ facts.1).0 loud (pushed-entries c.args.held.id c.self.inside.queues.state.lists))

pub returns-clause-table : goal.returns-clause-table
returns-clause-table g c =
    let facts = facts_at takes_back_in refl _ _ _ c.cell_mut.ensures.value (test_at c.self.invariant c.self.inside.queues.state c.self.view_is takes_back_in c.args.held.id c.takes_back.ensures ∙ c.if-not-takes_back.false) in
    let cell = c.pend_cell.ensures.cell in
    let loud = sym c.pend_cell.ensures.queued ∙ c.if-not-pend_cell.false in
    rw (c.push.ensures.slots, c.push.ensures.lists, cell, ← c.self.view_is) (end_pending_table c.self.invariant c.self.inside.queues.state c.args.held.id (numbered c.args.held.id c.cell_mut.result.now) c.args.future _ c.cell_mut.ensures.value facts.0 facts.1 (rw loud (numbers_of-push _ _)))

pub returns-then-not-pend_cell-clause-answer : goal.returns-then-not-pend_cell-clause-answer
returns-then-not-pend_cell-clause-answer g c =
    let facts = facts_at takes_back_in refl _ _ _ c.cell_mut.ensures.value (test_at c.self.invariant c.self.inside.queues.state c.self.view_is takes_back_in c.args.held.id c.takes_back.ensures ∙ c.if-not-takes_back.false) in
    let quiet = sym c.pend_cell.ensures.queued ∙ c.if-not-pend_cell.true in
    let out = sym c.takes_back.ensures ∙ c.if-not-takes_back.false in
    (out, rw (← c.self.view_is) (sym (woken_in_is c.self.invariant c.args.held.id (numbered c.args.held.id c.cell_mut.result.now) c.cell_mut.ensures.value facts.0 ∙ quiet)))

pub returns-clause-answer : goal.returns-clause-answer
returns-clause-answer g c =
    let facts = facts_at takes_back_in refl _ _ _ c.cell_mut.ensures.value (test_at c.self.invariant c.self.inside.queues.state c.self.view_is takes_back_in c.args.held.id c.takes_back.ensures ∙ c.if-not-takes_back.false) in
    let loud = sym c.pend_cell.ensures.queued ∙ c.if-not-pend_cell.false in
    let out = sym c.takes_back.ensures ∙ c.if-not-takes_back.false in
    (out, rw (← c.self.view_is) (sym (woken_in_is c.self.invariant c.args.held.id (numbered c.args.held.id c.cell_mut.result.now) c.cell_mut.ensures.value facts.0 ∙ loud)))

pub push-requires-clause-queue : goal.push-requires-clause-queue
push-requires-clause-queue g c =
    let facts = facts_at takes_back_in refl _ _ _ c.cell_mut.ensures.value (test_at c.self.invariant c.self.inside.queues.state c.self.view_is takes_back_in c.args.held.id c.takes_back.ensures ∙ c.if-not-takes_back.false) in
    let cell = c.pend_cell.ensures.cell in
    let loud = sym c.pend_cell.ensures.queued ∙ c.if-not-pend_cell.false in
    rw cell (global_queue (pushed c.args.held.id c.self.inside.queues.state.lists) (end_pending_queued c.self.invariant c.args.held.id (numbered c.args.held.id c.cell_mut.result.now) c.args.future c.cell_mut.ensures.value facts.0 (and_parts _ _ facts.1).0 loud (pushed-entries c.args.held.id c.self.inside.queues.state.lists)))

pub push-requires-clause-counted : goal.push-requires-clause-counted
push-requires-clause-counted g c =
    let facts = facts_at takes_back_in refl _ _ _ c.cell_mut.ensures.value (test_at c.self.invariant c.self.inside.queues.state c.self.view_is takes_back_in c.args.held.id c.takes_back.ensures ∙ c.if-not-takes_back.false) in
    let cell = c.pend_cell.ensures.cell in
    let loud = sym c.pend_cell.ensures.queued ∙ c.if-not-pend_cell.false in
    let short = global_short (pushed c.args.held.id c.self.inside.queues.state.lists) (end_pending_queued c.self.invariant c.args.held.id (numbered c.args.held.id c.cell_mut.result.now) c.args.future c.cell_mut.ensures.value facts.0 (and_parts _ _ facts.1).0 loud (pushed-entries c.args.held.id c.self.inside.queues.state.lists)) in
    let long = length-push c.self.inside.queues.state.lists.global c.args.held.id in
    omega arith
