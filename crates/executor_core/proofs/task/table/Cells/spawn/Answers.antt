use Rattle.std.proofs.Common.{◌≡◌, ◌+◌, refl, sym, ap, ◌∙◌, ◌++◌, ◌∷◌, [], arith}
use Rattle.executor_core.specs.Cells.Calls.{after_spawn}
use Rattle.executor_core.specs.Cells.View.{table_of}
use Rattle.executor_core.specs.Queues.{all_entries}
use Rattle.executor_core.specs.Queues.State.{with_lists, pushed}
use Rattle.executor_core.specs.declared.task.cell.TaskId.{TaskId}
use Rattle.executor_core.proofs.QueueLemmas.{pushed-entries}
use Rattle.executor_core.proofs.QueueSlotLemmas.{global_short}
use Rattle.executor_core.proofs.SpawnLemmas.{spawn_sound, spawn_table, spawn_free}
use Rattle.executor_core.proofs.task.table.Cells.spawn.Goals as goal

pub returns-then-self-clause-cause : goal.returns-then-self-clause-cause
returns-then-self-clause-cause g c = (refl, sym (ap (λ t. t.next) c.self.view_is) ∙ c.if-self.true)

pub insert-requires : goal.insert-requires
insert-requires g c =
    let short = global_short c.self.inside.queues.state.lists c.self.invariant in
    let numbered = c.self.invariant.numbered in
    omega arith

pub invariant_of-self-2 : goal.invariant_of-self-2
invariant_of-self-2 g c =
    let lists = c.self.inside.queues.state.lists in
    let id : TaskId = record { number = c.self.inside.next; slot = c.in-Ok.made.0.slot } in
    let same : c.in-Ok.made.0 ≡ id = λ i. record { number = c.in-Ok.ensures.number i; slot = c.in-Ok.made.0.slot } in
    spawn_sound c.self.invariant c.args.future c.insert.new.self.slots c.in-Ok.made.0.slot c.in-Ok.ensures.vacant c.in-Ok.ensures.slots
    (ap (λ s. all_entries s.lists) c.in-Ok.ensures.state ∙ pushed-entries c.in-Ok.made.0 lists ∙ ap (λ x. all_entries lists ++ x ∷ []) same)

pub returns-clause-ok : goal.returns-clause-ok
returns-clause-ok g c =
    let q = c.self.inside.queues.state in
    let id : TaskId = record { number = c.self.inside.next; slot = c.in-Ok.made.0.slot } in
    let same : c.in-Ok.made.0 ≡ id = λ i. record { number = c.in-Ok.ensures.number i; slot = c.in-Ok.made.0.slot } in
    ap (λ s. table_of (c.self.inside.next + 1) c.insert.new.self.slots s c.self.inside.closed) (c.in-Ok.ensures.state ∙ ap (λ x. with_lists (pushed x q.lists) q) same)
    ∙ spawn_table c.self.invariant q c.args.future c.insert.new.self.slots c.in-Ok.made.0.slot c.in-Ok.ensures.vacant c.in-Ok.ensures.slots
    ∙ ap (λ t. after_spawn t c.in-Ok.made.0.slot c.args.future) c.self.view_is

pub returns-clause-free : goal.returns-clause-free
returns-clause-free g c = rw (← c.self.view_is) (spawn_free c.self.invariant c.self.inside.queues.state c.self.inside.closed c.in-Ok.made.0.slot c.in-Ok.ensures.vacant)
