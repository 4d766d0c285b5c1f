use Rattle.std.proofs.Common.{is_some, refl, sym, ◌∙◌}
use Rattle.executor_core.specs.Slots.{numbered}
use Rattle.executor_core.proofs.TableLemmas.{numbers_of-push}
use Rattle.executor_core.specs.Queues.State.{pushed}
use Rattle.executor_core.proofs.QueueSlotLemmas.{global_queue}
use Rattle.executor_core.proofs.QueueLemmas.{pushed-entries}
use Rattle.executor_core.proofs.FindLemmas.{test_at, passes_at, facts_at}
use Rattle.executor_core.proofs.WakeLemmas.{after_wake-absent, wakes-absent, quiet_sound, loud_sound, wake_table, wakes_at}
use Rattle.executor_core.proofs.task.table.Cells.wake.Goals as goal

pub returns-then-not-has_cell-clause-table : goal.returns-then-not-has_cell-clause-table
returns-then-not-has_cell-clause-table g c =
    sym (after_wake-absent _ c.args.id _ (sym c.has_cell.ensures ∙ c.if-not-has_cell.true))

pub returns-then-not-has_cell-clause-notice : goal.returns-then-not-has_cell-clause-notice
returns-then-not-has_cell-clause-notice g c =
    sym (wakes-absent _ (sym c.has_cell.ensures ∙ c.if-not-has_cell.true))

pub cell_mut-requires : goal.cell_mut-requires
cell_mut-requires g c = let at = passes_at c.self.invariant c.self.inside.queues.state c.self.view_is is_some refl c.args.id c.has_cell.ensures c.if-not-has_cell.false in (at.entry, at.there, at.number)

pub invariant_of-self : goal.invariant_of-self
invariant_of-self g c =
    let cell = c.wake_cell.ensures.cell in
    let quiet = sym c.wake_cell.ensures.queued ∙ c.if-not-wake_cell.true in
    rw cell (quiet_sound c.self.invariant c.args.id (numbered c.args.id c.cell_mut.result.now) c.cell_mut.ensures.value quiet)

pub returns-then-not-wake_cell-clause-table : goal.returns-then-not-wake_cell-clause-table
returns-then-not-wake_cell-clause-table g c =
    let cell = c.wake_cell.ensures.cell in
    let quiet = sym c.wake_cell.ensures.queued ∙ c.if-not-wake_cell.true in
    rw (cell, ← c.self.view_is) (wake_table c.self.invariant c.self.inside.queues.state _ c.args.id (numbered c.args.id c.cell_mut.result.now) c.cell_mut.ensures.value (facts_at is_some refl _ _ _ c.cell_mut.ensures.value (test_at c.self.invariant c.self.inside.queues.state c.self.view_is is_some c.args.id c.has_cell.ensures ∙ c.if-not-has_cell.false)).0 (rw quiet refl))

pub returns-then-not-wake_cell-clause-notice : goal.returns-then-not-wake_cell-clause-notice
returns-then-not-wake_cell-clause-notice g c =
    let quiet = sym c.wake_cell.ensures.queued ∙ c.if-not-wake_cell.true in
    rw (← c.self.view_is) (sym (wakes_at c.self.invariant c.args.id (numbered c.args.id c.cell_mut.result.now) c.cell_mut.ensures.value (facts_at is_some refl _ _ _ c.cell_mut.ensures.value (test_at c.self.invariant c.self.inside.queues.state c.self.view_is is_some c.args.id c.has_cell.ensures ∙ c.if-not-has_cell.false)).0 quiet))

pub invariant_of-self-2 : goal.invariant_of-self-2
invariant_of-self-2 g c =
    let cell = c.wake_cell.ensures.cell in
    let loud = sym c.wake_cell.ensures.queued ∙ c.if-not-wake_cell.false in
    rw (c.push.ensures.slots, c.push.ensures.lists, cell) (loud_sound c.self.invariant c.args.id (numbered c.args.id c.cell_mut.result.now) c.cell_mut.ensures.value (facts_at is_some refl _ _ _ c.cell_mut.ensures.value (test_at c.self.invariant c.self.inside.queues.state c.self.view_is is_some c.args.id c.has_cell.ensures ∙ c.if-not-has_cell.false)).0 loud (pushed-entries c.args.id c.self.inside.queues.state.lists))

pub returns-clause-table : goal.returns-clause-table
returns-clause-table g c =
    let cell = c.wake_cell.ensures.cell in
    let loud = sym c.wake_cell.ensures.queued ∙ c.if-not-wake_cell.false in
    rw (c.push.ensures.slots, c.push.ensures.lists, cell, ← c.self.view_is) (wake_table c.self.invariant c.self.inside.queues.state _ c.args.id (numbered c.args.id c.cell_mut.result.now) c.cell_mut.ensures.value (facts_at is_some refl _ _ _ c.cell_mut.ensures.value (test_at c.self.invariant c.self.inside.queues.state c.self.view_is is_some c.args.id c.has_cell.ensures ∙ c.if-not-has_cell.false)).0 (rw loud (numbers_of-push _ _)))

pub returns-clause-notice : goal.returns-clause-notice
returns-clause-notice g c =
    let loud = sym c.wake_cell.ensures.queued ∙ c.if-not-wake_cell.false in
    rw (← c.self.view_is) (sym (wakes_at c.self.invariant c.args.id (numbered c.args.id c.cell_mut.result.now) c.cell_mut.ensures.value (facts_at is_some refl _ _ _ c.cell_mut.ensures.value (test_at c.self.invariant c.self.inside.queues.state c.self.view_is is_some c.args.id c.has_cell.ensures ∙ c.if-not-has_cell.false)).0 loud))

pub push-requires-clause-queue : goal.push-requires-clause-queue
push-requires-clause-queue g c =
    let cell = c.wake_cell.ensures.cell in
    let loud = sym c.wake_cell.ensures.queued ∙ c.if-not-wake_cell.false in
    rw cell (global_queue (pushed c.args.id c.self.inside.queues.state.lists) (loud_sound c.self.invariant c.args.id (numbered c.args.id c.cell_mut.result.now) c.cell_mut.ensures.value (facts_at is_some refl _ _ _ c.cell_mut.ensures.value (test_at c.self.invariant c.self.inside.queues.state c.self.view_is is_some c.args.id c.has_cell.ensures ∙ c.if-not-has_cell.false)).0 loud (pushed-entries c.args.id c.self.inside.queues.state.lists)))
