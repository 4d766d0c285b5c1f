use Rattle.std.proofs.Common.{length, sym, ap, ◌∙◌, arith}
use Rattle.std.proofs.lemmas.List.{length-map}
use Rattle.std.specs.Prelude.{nat_lt}
use Rattle.executor_core.specs.Cells.Calls.{with_queues, unregister_queues}
use Rattle.executor_core.specs.Cells.View.{table_of}
use Rattle.executor_core.specs.Queues.{entries_of, unregistered}
use Rattle.executor_core.proofs.OrderLemmas.{sound_permuted}
use Rattle.executor_core.proofs.QueueLemmas.{unregistered-map, unregistered-permutes, unregistered-global, entries_of-map}
use Rattle.executor_core.proofs.QueueSlotLemmas.{global_queue, global_short}
use Rattle.executor_core.proofs.task.table.Cells.unregister.Goals as goal

pub invariant_of-self : goal.invariant_of-self
invariant_of-self g c =
    rw (c.unregister.ensures.slots, c.unregister.ensures.lists) (sound_permuted c.self.invariant (unregistered-permutes c.args.key.number c.self.inside.queues.state.lists))

pub returns-clause-table : goal.returns-clause-table
returns-clause-table g c =
    let table = table_of c.self.inside.next c.self.inside.queues.slots c.self.inside.queues.state c.self.inside.closed in
    rw (c.unregister.ensures.slots, c.unregister.ensures.lists, ← c.self.view_is) (ap (λ l. with_queues l table) (sym (unregistered-map (λ id. id.number) c.args.key.number c.self.inside.queues.state.lists)))

pub returns-clause-notice : goal.returns-clause-notice
returns-clause-notice g c =
    let locals = c.self.inside.queues.state.lists.locals in
    let own = entries_of c.args.key.number locals in
    c.unregister.ensures.notice
    ∙ ap (λ n. nat_lt 0 n) (sym (ap length (entries_of-map (λ id. id.number) c.args.key.number locals) ∙ length-map own (λ id. id.number)))
    ∙ ap (λ s. unregister_queues s c.args.key.number) c.self.view_is

pub unregister-requires-clause-queue : goal.unregister-requires-clause-queue
unregister-requires-clause-queue g c =
    let lists = c.self.inside.queues.state.lists in
    rw (← unregistered-global c.args.key.number lists) (global_queue (unregistered c.args.key.number lists) (sound_permuted c.self.invariant (unregistered-permutes c.args.key.number lists)))

pub unregister-requires-clause-counted : goal.unregister-requires-clause-counted
unregister-requires-clause-counted g c =
    let lists = c.self.inside.queues.state.lists in
    let short = global_short (unregistered c.args.key.number lists) (sound_permuted c.self.invariant (unregistered-permutes c.args.key.number lists)) in
    let same = ap length (unregistered-global c.args.key.number lists) in
    omega arith
