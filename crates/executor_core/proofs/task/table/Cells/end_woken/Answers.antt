use Rattle.std.proofs.Common.{refl, ◌∙◌, arith}
use Rattle.executor_core.specs.Slots.{numbered}
use Rattle.executor_core.specs.Queues.State.{pushed}
use Rattle.executor_core.specs.Cells.Calls.{takes_back_in}
use Rattle.std.proofs.lemmas.Bool.{and_parts}
use Rattle.executor_core.proofs.TableLemmas.{numbers_of-push}
use Rattle.executor_core.proofs.QueueSlotLemmas.{global_queue, global_short}
use Rattle.executor_core.proofs.ListLemmas.{length-push}
use Rattle.executor_core.proofs.QueueLemmas.{pushed-entries}
use Rattle.executor_core.proofs.FindLemmas.{test_at, passes_at, facts_at}
use Rattle.executor_core.proofs.EndWokenLemmas.{end_woken_queued, end_woken_table}
use Rattle.executor_core.proofs.task.table.Cells.end_woken.Goals as goal

pub cell_mut-requires : goal.cell_mut-requires
cell_mut-requires g c = let at = passes_at c.self.invariant c.self.inside.queues.state c.self.view_is takes_back_in refl c.args.held.id c.takes_back.ensures c.if-not-takes_back.false in (at.entry, at.there, at.number)

pub reschedule_cell-requires : goal.reschedule_cell-requires
reschedule_cell-requires g c =
    let facts = facts_at takes_back_in refl _ _ _ c.cell_mut.ensures.value (test_at c.self.invariant c.self.inside.queues.state c.self.view_is takes_back_in c.args.held.id c.takes_back.ensures ∙ c.if-not-takes_back.false) in
    (and_parts _ _ facts.1).0

pub push-requires-clause-queue : goal.push-requires-clause-queue
push-requires-clause-queue g c =
    let facts = facts_at takes_back_in refl _ _ _ c.cell_mut.ensures.value (test_at c.self.invariant c.self.inside.queues.state c.self.view_is takes_back_in c.args.held.id c.takes_back.ensures ∙ c.if-not-takes_back.false) in
    let cell = c.reschedule_cell.ensures in
    rw cell (global_queue (pushed c.args.held.id c.self.inside.queues.state.lists) (end_woken_queued c.self.invariant c.args.held.id (numbered c.args.held.id c.cell_mut.result.now) c.cell_mut.ensures.value facts.1 c.args.future facts.0 (pushed-entries c.args.held.id c.self.inside.queues.state.lists)))

pub push-requires-clause-counted : goal.push-requires-clause-counted
push-requires-clause-counted g c =
    let facts = facts_at takes_back_in refl _ _ _ c.cell_mut.ensures.value (test_at c.self.invariant c.self.inside.queues.state c.self.view_is takes_back_in c.args.held.id c.takes_back.ensures ∙ c.if-not-takes_back.false) in
    let short = global_short (pushed c.args.held.id c.self.inside.queues.state.lists) (end_woken_queued c.self.invariant c.args.held.id (numbered c.args.held.id c.cell_mut.result.now) c.cell_mut.ensures.value facts.1 c.args.future facts.0 (pushed-entries c.args.held.id c.self.inside.queues.state.lists)) in
    let long = length-push c.self.inside.queues.state.lists.global c.args.held.id in
    omega arith

pub invariant_of-self : goal.invariant_of-self
invariant_of-self g c =
    let facts = facts_at takes_back_in refl _ _ _ c.cell_mut.ensures.value (test_at c.self.invariant c.self.inside.queues.state c.self.view_is takes_back_in c.args.held.id c.takes_back.ensures ∙ c.if-not-takes_back.false) in
    let cell = c.reschedule_cell.ensures in
    rw (c.push.ensures.slots, c.push.ensures.lists, cell) (end_woken_queued c.self.invariant c.args.held.id (numbered c.args.held.id c.cell_mut.result.now) c.cell_mut.ensures.value facts.1 c.args.future facts.0 (pushed-entries c.args.held.id c.self.inside.queues.state.lists))

pub returns-clause-ok : goal.returns-clause-ok
returns-clause-ok g c =
    let facts = facts_at takes_back_in refl _ _ _ c.cell_mut.ensures.value (test_at c.self.invariant c.self.inside.queues.state c.self.view_is takes_back_in c.args.held.id c.takes_back.ensures ∙ c.if-not-takes_back.false) in
    let cell = c.reschedule_cell.ensures in
    rw (c.push.ensures.slots, c.push.ensures.lists, cell, ← c.self.view_is) (end_woken_table c.self.invariant c.args.held.id (numbered c.args.held.id c.cell_mut.result.now) c.cell_mut.ensures.value facts.1 c.self.inside.queues.state c.args.future _ facts.0 (numbers_of-push _ _))
