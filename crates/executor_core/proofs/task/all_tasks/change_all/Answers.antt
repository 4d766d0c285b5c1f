use Rattle.std.proofs.Common.{◌+◌, length, sym, ap, ◌∙◌, refl, arith}
use Rattle.std.proofs.lemmas.List.Elements.{All-weaker}
use Rattle.executor_core.specs.Slots.{HasCell}
use Rattle.std.specs.Prelude.{nat_lt}
use Rattle.executor_core.specs.Queues.State.{with_lists, pushed, pushed_all}
use Rattle.executor_core.specs.Cells.View.{change_by}
use Rattle.executor_core.proofs.WalkLemmas.{changed_below-start, changed_below-all, idle_below-start, idle_below-all, slots_walked, changed_below, ids_kept, queue_walked, count_walked, has_walked, queues_walked, idle_walked, no_push}
use Rattle.executor_core.proofs.task.all_tasks.change_all.Goals.{in-Some, in_default}
use Rattle.executor_core.proofs.task.all_tasks.change_all.Goals as goal

pub loop-slot-init : goal.loop-slot-init
loop-slot-init g c = (
  sym (changed_below-start (change_by c.args.cancels) c.args.queues.now.slots),
  sym (ap (λ ids. with_lists (pushed_all ids c.args.queues.now.state.lists) c.args.queues.now.state) (idle_below-start 0 c.args.queues.now.slots) ∙ no_push c.args.queues.now.state),
  sym (ap (λ ids. nat_lt 0 (length ids)) (idle_below-start 0 c.args.queues.now.slots)),
  c.capacity-slot-end.ensures,
)

pub push-requires-clause-queue : goal.push-requires-clause-queue
push-requires-clause-queue g c =
    let at = c.loop-slot.invariant in
    let change = change_by c.args.cancels in
    let n = c.loop-slot.slot in
    let slots = c.args.queues.now.slots in
    let queue = queue_walked change n slots at.0 c.change_slot.ensures.idle c.in-Some.is c.args.queues.now.state c.requires.queue at.1 in
    rw (slots_walked change n slots at.0 c.change_slot.ensures.slots, c.change_slot.ensures.state)
    (record { placed = All-weaker (HasCell slots) (HasCell (changed_below change (n + 1) slots)) (has_walked change (n + 1) slots refl) _ queue.placed; apart = queue.apart })

pub push-requires-clause-counted : goal.push-requires-clause-counted
push-requires-clause-counted g c =
    let at = c.loop-slot.invariant in
    let short = count_walked (change_by c.args.cancels) c.loop-slot.slot c.args.queues.now.slots at.0 c.change_slot.ensures.idle c.in-Some.is c.args.queues.now.state at.1 in
    let room = c.requires.counted in
    rw c.change_slot.ensures.state (omega arith)

pub loop-slot-preserved : goal.loop-slot-preserved
loop-slot-preserved g c =
    let at = c.loop-slot.invariant in
    let change = change_by c.args.cancels in
    let n = c.loop-slot.slot in
    let slots = c.args.queues.now.slots in
    let found = c.change_slot.ensures.idle in
    let walked = slots_walked change n slots at.0 c.change_slot.ensures.slots in
    elim c.match-change_slot.branch [
      | in-Some w ↦ (
        ap (λ q. q.slots) w.queues-is ∙ w.push.ensures.slots ∙ walked,
        ap (λ q. q.state) w.queues-is ∙ queues_walked change n slots at.0 found w.in-Some.is c.args.queues.now.state at.1 (w.push.ensures.lists ∙ ap (λ s. with_lists (pushed w.in-Some.id s.lists) s) c.change_slot.ensures.state),
        w.idle-is ∙ idle_walked change n slots at.0 found w.in-Some.is,
        at.3,
      )
      | in_default w ↦
          let kept = sym (ids_kept change n slots at.0 found w.in_default.is) in
          (ap (λ q. q.slots) w.queues-is ∙ walked, ap (λ q. q.state) w.queues-is ∙ c.change_slot.ensures.state ∙ at.1 ∙ ap (λ ids. with_lists (pushed_all ids c.args.queues.now.state.lists) c.args.queues.now.state) kept, w.idle-is ∙ at.2 ∙ ap (λ ids. nat_lt 0 (length ids)) kept, at.3)
    ]

pub returns-clause-slots : goal.returns-clause-slots
returns-clause-slots g c =
    let at = c.loop-slot.invariant in
    at.0 ∙ changed_below-all (change_by c.args.cancels) c.loop-slot.slot c.args.queues.now.slots (let long = at.3 in let end = c.loop-slot-test.false in omega arith)

pub returns-clause-state : goal.returns-clause-state
returns-clause-state g c =
    let at = c.loop-slot.invariant in
    at.1 ∙ ap (λ ids. with_lists (pushed_all ids c.args.queues.now.state.lists) c.args.queues.now.state) (idle_below-all 0 c.loop-slot.slot c.args.queues.now.slots (let long = at.3 in let end = c.loop-slot-test.false in omega arith))

pub returns-clause-idle : goal.returns-clause-idle
returns-clause-idle g c =
    let at = c.loop-slot.invariant in
    at.2 ∙ ap (λ ids. nat_lt 0 (length ids)) (idle_below-all 0 c.loop-slot.slot c.args.queues.now.slots (let long = at.3 in let end = c.loop-slot-test.false in omega arith))
